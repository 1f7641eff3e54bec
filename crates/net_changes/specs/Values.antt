-- Datasets in their order, and what each of their quads and prefixes keeps.
use Rattle.std.specs.Prelude.{List, IsUtf8}
use Rattle.std.specs.List.{AllByRecursion}
use Rattle.std.specs.List.Sorted.{IsStrictlySortedBy}
use Rattle.std.specs.Map.{keys_of}
use Rattle.rdf_terms.specs.Dataset.{Dataset, PrefixKey, prefix_cmp}
use Rattle.rdf_terms.specs.Line.{line_cmp}
use Rattle.nquads_documents.specs.Laws.{IsQuadValue}
use Rattle.nquads_text.specs.Printing.{IsGraphValue}
use Rattle.rdf_terms.specs.Quad.{Statement}
use Rattle.rdf_terms.specs.declared.change.Change.{Change}
use Rattle.rdf_terms.specs.declared.change.Change.TheVariants.{Add, Delete, PrefixAdd}
use Rattle.rdf_terms.specs.declared.change.Change.TheVariants.{PrefixDelete, Begin, Commit, Abort}

-- quads rise by their lines and prefixes by their rows, each once
pub record IsInOrder (d : Dataset) : Type 0 where
  pub quads_rise : IsStrictlySortedBy line_cmp d.quads
  pub prefixes_rise : IsStrictlySortedBy prefix_cmp (keys_of d.prefixes)

-- each quad and each prefix is such
pub record HasSuch (Q : Statement → Type 0) (R : PrefixKey → Type 0) (d : Dataset) : Type 0 where
  pub quads_are : AllByRecursion Q d.quads
  pub prefixes_are : AllByRecursion R (keys_of d.prefixes)

-- the quad or the prefix of a change is such
abbrev pub NamesSuch : (Statement → Type 0) → (PrefixKey → Type 0) → Change → Type 0
NamesSuch Q R (Add q) = Q q
NamesSuch Q R (Delete q) = Q q
NamesSuch Q R (PrefixAdd prefix iri graph) = R (graph, prefix)
NamesSuch Q R (PrefixDelete prefix graph) = R (graph, prefix)
NamesSuch Q R Begin = Unit {0}
NamesSuch Q R Commit = Unit {0}
NamesSuch Q R Abort = Unit {0}

-- ---- the values that programs hold

-- a text and a graph's name, if there is one
pub record IsPrefixValue (key : PrefixKey) : Type 0 where
  pub prefix_is : IsUtf8 key.1
  pub graph_is : IsGraphValue key.0

-- a change of a quad, or of a prefix, that a row can have
abbrev pub IsNamedValue : Change → Type 0
IsNamedValue change = NamesSuch IsQuadValue IsPrefixValue change

-- a dataset as changes make it: in its order, with quads and prefixes that rows can have
pub record IsDatasetValue (d : Dataset) : Type 0 where
  pub order : IsInOrder d
  pub values : HasSuch IsQuadValue IsPrefixValue d
