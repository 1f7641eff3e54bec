-- The canonical text of terms and quads (RDF 1.1 N-Quads, section 4).
use Rattle.std.specs.Prelude.{ℕ, List, [], ◌∷◌, ◌++◌, Option, None, Some, ◌==◌, if◌then◌else◌}
use Rattle.std.specs.List.{flat_map}
use Rattle.std.specs.Ordering.{nat_cmp}
use Rattle.std.specs.declared.cmp.Ordering.{Ordering}
use Rattle.std.specs.Cmp.Lexicographic.{slice_cmp}
use Rattle.rdf_terms.specs.declared.term.LiteralKind.{LiteralKind}
use Rattle.rdf_terms.specs.declared.term.LiteralKind.TheVariants.{Plain, Typed, Tagged}
use Rattle.rdf_terms.specs.declared.term.Term.{Term}
use Rattle.rdf_terms.specs.declared.term.Term.TheVariants as term
use Rattle.rdf_terms.specs.Quad.{Statement}

-- a byte of a string: `"`, `\`, line feed and carriage return behind a backslash
abbrev pub escaped : ℕ → List ℕ
escaped b = if b == 34 then 92 ∷ 34 ∷ [] else (if b == 92 then 92 ∷ 92 ∷ []
    else (if b == 10 then 92 ∷ 110 ∷ [] else (if b == 13 then 92 ∷ 114 ∷ [] else b ∷ [])))

-- a string in its quotes
abbrev pub quoted : List ℕ → List ℕ
quoted text = (34 ∷ flat_map escaped text) ++ (34 ∷ [])

-- an IRI in its brackets
abbrev pub iri_text : List ℕ → List ℕ
iri_text iri = (60 ∷ iri) ++ (62 ∷ [])

-- xsd:string isn't written
abbrev pub kind_text : LiteralKind → List ℕ
kind_text Plain = []
kind_text (Typed iri) = 94 ∷ 94 ∷ iri_text iri
kind_text (Tagged tag) = 64 ∷ tag

abbrev pub term_text : Term → List ℕ
term_text (term.Iri iri) = iri_text iri
term_text (term.Blank label) = 95 ∷ 58 ∷ label
term_text (term.Literal literal) = quoted literal.lexical ++ kind_text literal.kind

-- a graph behind one space, where there is one
abbrev pub graph_text : Option Term → List ℕ
graph_text None = []
graph_text (Some g) = 32 ∷ term_text g

-- terms separated by one space, then a space, `.` and line feed
unfoldable pub line : Statement → List ℕ
line q = term_text q.subject ++ 32 ∷ (term_text q.predicate
    ++ 32 ∷ (term_text q.object ++ (graph_text q.graph ++ (32 ∷ 46 ∷ 10 ∷ []))))

-- the order of the lines' bytes
abbrev pub line_cmp : Statement → Statement → Ordering
line_cmp p q = slice_cmp nat_cmp (line p) (line q)

-- the lines of quads, one after another
abbrev pub lines : List Statement → List ℕ
lines quads = flat_map line quads
