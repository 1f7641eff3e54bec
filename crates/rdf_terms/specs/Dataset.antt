-- Datasets, and what changes do to them.
use Rattle.std.specs.Prelude.{ℕ, List, [], ◌∷◌, ◌++◌, Option}
use Rattle.std.specs.Ordering.{nat_cmp}
use Rattle.std.specs.declared.cmp.Ordering.{Ordering}
use Rattle.std.specs.Cmp.Lexicographic.{slice_cmp}
use Rattle.std.specs.BTreeMap.{is_at, insert_entry}
use Rattle.std.specs.Map.{remove_entry}
use Rattle.std.specs.BTreeSet.{insert_key}
use Rattle.std.specs.Set.{remove_key}
use Rattle.rdf_terms.specs.declared.term.Term.{Term}
use Rattle.rdf_terms.specs.Quad.{Statement}
use Rattle.rdf_terms.specs.declared.change.Change.{Change}
use Rattle.rdf_terms.specs.declared.change.Change.TheVariants.{Add, Delete, PrefixAdd}
use Rattle.rdf_terms.specs.declared.change.Change.TheVariants.{PrefixDelete, Begin, Commit, Abort}
use Rattle.rdf_terms.specs.Line.{line_cmp, quoted, graph_text}

-- a prefix in a graph or in the default graph
abbrev pub PrefixKey : Type 0
PrefixKey = Option Term × List ℕ

-- The order of the bytes of a prefix in its quotes with its graph behind it. A row that sets
-- a prefix has the IRI between them, so where a prefix has several graphs the order of such
-- rows is another.
abbrev pub prefix_cmp : PrefixKey → PrefixKey → Ordering
prefix_cmp a b = slice_cmp nat_cmp (quoted a.1 ++ graph_text a.0) (quoted b.1 ++ graph_text b.0)

-- a set of quads as its list in order, without repeats, and a map from prefixes to IRIs as its
-- list in order
pub record Dataset : Type 0 where
  pub quads : List Statement
  pub prefixes : List (PrefixKey × List ℕ)

abbrev pub empty : Dataset
empty = record { quads = []; prefixes = [] }

-- one insertion, deletion, prefix setting or prefix removal; the words of blocks change nothing
abbrev pub effect : Change → Dataset → Dataset
effect (Add q) d = record { quads = insert_key line_cmp d.quads q; prefixes = d.prefixes }
effect (Delete q) d =
    record { quads = remove_key (is_at (line_cmp q)) d.quads; prefixes = d.prefixes }
effect (PrefixAdd prefix iri graph) d =
    record { quads = d.quads; prefixes = insert_entry prefix_cmp d.prefixes (graph, prefix) iri }
effect (PrefixDelete prefix graph) d = record {
  quads = d.quads;
  prefixes = remove_entry (is_at (prefix_cmp (graph, prefix))) d.prefixes;
}
effect Begin d = d
effect Commit d = d
effect Abort d = d

-- What is left when each block from a Begin to an Abort is taken out. A block begins at a Begin
-- outside a block and ends at the next Commit or Abort. In a block, its changes so far are held
-- back; one left open at the end is kept.
abbrev mutual
  pub kept : List Change → List Change
  kept [] = []
  kept (Begin ∷ changes) = kept_behind [] changes
  kept (change ∷ changes) = change ∷ kept changes

  pub kept_behind : List Change → List Change → List Change
  kept_behind held [] = held
  kept_behind held (Commit ∷ changes) = held ++ kept changes
  kept_behind held (Abort ∷ changes) = kept changes
  kept_behind held (change ∷ changes) = kept_behind (held ++ change ∷ []) changes

-- changes in their order
abbrev pub effects : List Change → Dataset → Dataset
effects [] d = d
effects (change ∷ changes) d = effects changes (effect change d)

-- what the changes of a patch make of a dataset
abbrev pub apply : List Change → Dataset → Dataset
apply changes d = effects (kept changes) d
