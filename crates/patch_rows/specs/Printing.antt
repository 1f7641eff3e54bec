-- The canonical text of a row, and of which rows it is one.
use Rattle.std.specs.Prelude.{ℕ, List, [], ◌∷◌, ◌++◌, IsTrue, IsUtf8}
use Rattle.rdf_terms.specs.declared.change.Change.{Change}
use Rattle.rdf_terms.specs.declared.change.Change.TheVariants as change
use Rattle.rdf_terms.specs.Iri.{IsIri}
use Rattle.nquads_text.specs.Printing.{IsTermValue, IsGraphValue, HasTermValues}
use Rattle.rdf_terms.specs.Line.{quoted, iri_text, term_text, graph_text}
use Rattle.rdf_terms.specs.Quad.{Statement, is_quad, may_be_graph}
use Rattle.patch_rows.specs.declared.row.Row.{Row}
use Rattle.patch_rows.specs.declared.row.Row.TheVariants as row
use Rattle.patch_rows.specs.Grammar.{IsKey, letters, code_of}

-- the terms of a quad, each behind a space
abbrev pub quad_text : Statement → List ℕ
quad_text q = 32 ∷ (term_text q.subject
    ++ 32 ∷ (term_text q.predicate ++ 32 ∷ (term_text q.object ++ graph_text q.graph)))

-- the parts of a change, each behind a space; a prefix is written in quotes
abbrev pub change_text : Change → List ℕ
change_text (change.Add q) = quad_text q
change_text (change.Delete q) = quad_text q
change_text (change.PrefixAdd prefix iri graph) =
    32 ∷ (quoted prefix ++ 32 ∷ (iri_text iri ++ graph_text graph))
change_text (change.PrefixDelete prefix graph) = 32 ∷ (quoted prefix ++ graph_text graph)
change_text change.Begin = []
change_text change.Commit = []
change_text change.Abort = []

-- the parts of a row, each behind a space
abbrev pub parts_text : Row → List ℕ
parts_text (row.Header key value) = 32 ∷ (key ++ 32 ∷ term_text value)
parts_text (row.Change c) = change_text c

-- the code, the parts, a space, a dot
unfoldable pub row_text : Row → List ℕ
row_text r = letters (code_of r) ++ (parts_text r ++ 32 ∷ 46 ∷ [])

-- ---- the values

-- what each value of the type `Change` keeps
abbrev pub IsChangeValue : Change → Type 0
IsChangeValue (change.Add q) = HasTermValues q
IsChangeValue (change.Delete q) = HasTermValues q
IsChangeValue (change.PrefixAdd prefix iri graph) =
    IsUtf8 prefix × IsUtf8 iri × IsIri iri × IsGraphValue graph
IsChangeValue (change.PrefixDelete prefix graph) = IsUtf8 prefix × IsGraphValue graph
IsChangeValue change.Begin = Unit {0}
IsChangeValue change.Commit = Unit {0}
IsChangeValue change.Abort = Unit {0}

-- what each value of the type `Row` keeps
abbrev pub IsRowValue : Row → Type 0
IsRowValue (row.Header key value) = IsUtf8 key × IsTermValue value
IsRowValue (row.Change c) = IsChangeValue c

-- ---- the rows that have a text

-- each term may stand in its place
abbrev pub IsWellPlaced : Change → Type 0
IsWellPlaced (change.Add q) = IsTrue (is_quad q)
IsWellPlaced (change.Delete q) = IsTrue (is_quad q)
IsWellPlaced (change.PrefixAdd prefix iri graph) = IsTrue (may_be_graph graph)
IsWellPlaced (change.PrefixDelete prefix graph) = IsTrue (may_be_graph graph)
IsWellPlaced change.Begin = Unit {0}
IsWellPlaced change.Commit = Unit {0}
IsWellPlaced change.Abort = Unit {0}

-- a header's key is one, and each term may stand in its place
abbrev pub IsWritable : Row → Type 0
IsWritable (row.Header key value) = IsKey key
IsWritable (row.Change c) = IsWellPlaced c
