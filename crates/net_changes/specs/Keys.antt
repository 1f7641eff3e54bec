-- What changes are about, and what a dataset has there.
use Rattle.std.specs.Prelude.{ℕ, Bool, true, false, List, [], Option, None, Some, cond}
use Rattle.std.specs.Ordering.{eq_by_cmp}
use Rattle.std.specs.List.{list_any}
use Rattle.std.specs.BTreeMap.{is_at}
use Rattle.std.specs.Map.{lookup}
use Rattle.rdf_terms.specs.Dataset.{Dataset, PrefixKey, prefix_cmp}
use Rattle.rdf_terms.specs.Line.{line_cmp}
use Rattle.rdf_terms.specs.Quad.{Statement}
use Rattle.rdf_terms.specs.declared.change.Change.{Change}
use Rattle.rdf_terms.specs.declared.change.Change.TheVariants.{Add, Delete, PrefixAdd}
use Rattle.rdf_terms.specs.declared.change.Change.TheVariants.{PrefixDelete, Begin, Commit, Abort}

-- a quad, a prefix in a graph or in the default graph, or nothing
pub data ChangeKey : Type 0 where
  of_quad : Statement → ChangeKey
  of_prefix : PrefixKey → ChangeKey
  of_nothing : ChangeKey

-- what a change is about; the words of blocks are about nothing
abbrev pub change_key : Change → ChangeKey
change_key (Add q) = of_quad q
change_key (Delete q) = of_quad q
change_key (PrefixAdd prefix iri graph) = of_prefix (graph, prefix)
change_key (PrefixDelete prefix graph) = of_prefix (graph, prefix)
change_key Begin = of_nothing
change_key Commit = of_nothing
change_key Abort = of_nothing

-- quads are the same where their lines are, and prefixes where they and their graphs are written alike
abbrev pub same_key : ChangeKey → ChangeKey → Bool
same_key (of_quad q) (of_quad r) = eq_by_cmp line_cmp q r
same_key (of_quad q) (of_prefix p) = false
same_key (of_quad q) of_nothing = false
same_key (of_prefix p) (of_quad q) = false
same_key (of_prefix p) (of_prefix r) = eq_by_cmp prefix_cmp p r
same_key (of_prefix p) of_nothing = false
same_key of_nothing (of_quad q) = false
same_key of_nothing (of_prefix p) = false
same_key of_nothing of_nothing = true

-- whether a dataset has a quad
abbrev pub has_quad : Dataset → Statement → Bool
has_quad d q = list_any (is_at (line_cmp q)) d.quads

-- the IRI that a prefix has in a dataset
abbrev pub iri_of : Dataset → PrefixKey → Option (List ℕ)
iri_of d key = lookup (is_at (prefix_cmp key)) d.prefixes

-- what a dataset has at a key: a quad that is there has nothing to it, and a prefix has its IRI
abbrev pub value_at : Dataset → ChangeKey → Option (List ℕ)
value_at d (of_quad q) = cond (has_quad d q) (Some []) None
value_at d (of_prefix key) = iri_of d key
value_at d of_nothing = None

-- what a change leaves at its key
abbrev pub left_by : Change → Option (List ℕ)
left_by (Add q) = Some []
left_by (Delete q) = None
left_by (PrefixAdd prefix iri graph) = Some iri
left_by (PrefixDelete prefix graph) = None
left_by Begin = None
left_by Commit = None
left_by Abort = None
