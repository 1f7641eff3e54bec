-- What terms, printed lines and documents promise to their reader.
use Rattle.std.specs.Prelude.{◌≡◌, ◌↔◌, ◌⊎◌, ℕ, List, [], ◌∷◌, ◌++◌, Ok, Err, IsTrue}
use Rattle.std.specs.List.{All, Contains, flat_map}
use Rattle.rdf_terms.specs.declared.term.Term.{Term}
use Rattle.rdf_terms.specs.Quad.{Statement, is_quad}
use Rattle.nquads_text.specs.Fault.{TextFault}
use Rattle.nquads_text.specs.Printing.{HasTermValues}
use Rattle.nquads_text.specs.Terms.{term_at}
use Rattle.nquads_documents.specs.Canonical.{IsCanonical}
use Rattle.nquads_documents.specs.Faults.{DocumentFault}
use Rattle.nquads_text.specs.Grammar.{TermAt}
use Rattle.nquads_documents.specs.Grammar.{IsDocument}
use Rattle.rdf_terms.specs.Line.{line}
use Rattle.nquads_documents.specs.Reading.{document_at}

-- a statement that a program can hold: each part is a term, and stands where it may
abbrev pub IsQuadValue : Statement → Type 0
IsQuadValue q = IsTrue (is_quad q) × HasTermValues q

-- printed lines, one behind another, are read as their statements
abbrev pub LinesRead : Type 0
LinesRead = (quads : List Statement) → All IsQuadValue quads
    → document_at 0 (flat_map line quads) ≡ Ok (quads, [])

-- no line is the front of another
abbrev pub LinesApart : Type 0
LinesApart = (p q : Statement) (more : List ℕ) → IsQuadValue p → IsQuadValue q
    → line p ++ more ≡ line q → p ≡ q

-- a printed document is read as its statements, each once
abbrev pub CanonicalRead : Type 0
CanonicalRead =
    (quads : List Statement) (text : List ℕ) → All IsQuadValue quads → IsCanonical quads text
    → (kept : List Statement) × (document_at 0 text ≡ Ok (kept, []))
    × ((q : Statement) → Contains kept q ↔ Contains quads q)

-- the text is a document of the same statements
abbrev pub IsDocumentOf : List Statement → List ℕ → Type 0
IsDocumentOf quads text = (kept : List Statement) × IsDocument text kept
    × ((q : Statement) → Contains kept q ↔ Contains quads q)

-- lists of the same statements have one canonical text
abbrev pub CanonicalOnce : Type 0
CanonicalOnce = (p q : List Statement) (a b : List ℕ)
    → ((s : Statement) → Contains p s ↔ Contains q s) → IsCanonical p a → IsCanonical q b → a ≡ b

-- a printed line is a document of its one statement
abbrev pub LinesAgain : Type 0
LinesAgain = (q : Statement) → IsQuadValue q → IsDocument (line q) (q ∷ [])

-- what is read as a term is one
abbrev pub TermsFound : Type 0
TermsFound = (text after : List ℕ) (t : Term) → term_at text ≡ Ok (t, after) → TermAt text t after

-- and a term is read
abbrev pub TermsAgain : Type 0
TermsAgain = (text after : List ℕ) (t : Term) → TermAt text t after → term_at text ≡ Ok (t, after)

-- what is read to its end as a document is one
abbrev pub DocumentsFound : Type 0
DocumentsFound = (text : List ℕ) (quads : List Statement) → document_at 0 text ≡ Ok (quads, [])
    → IsDocument text quads

-- and a document is read
abbrev pub DocumentsAgain : Type 0
DocumentsAgain = (text : List ℕ) (quads : List Statement) → IsDocument text quads
    → document_at 0 text ≡ Ok (quads, [])

-- the fault that is met where a term is needed is its first
abbrev pub TermFaultsFound : (List ℕ → TextFault → Type 0) → Type 0
TermFaultsFound TermFault =
    (text : List ℕ) (f : TextFault) → term_at text ≡ Err f → TermFault text f

-- and the first is met
abbrev pub TermFaultsAgain : (List ℕ → TextFault → Type 0) → Type 0
TermFaultsAgain TermFault =
    (text : List ℕ) (f : TextFault) → TermFault text f → term_at text ≡ Err f

-- the fault that is met in a document is its first
abbrev pub DocumentFaultsFound : (List ℕ → TextFault → Type 0) → Type 0
DocumentFaultsFound TermFault =
    (text : List ℕ) (f : TextFault) → document_at 0 text ≡ Err f → DocumentFault TermFault text f

-- and the first is met
abbrev pub DocumentFaultsAgain : (List ℕ → TextFault → Type 0) → Type 0
DocumentFaultsAgain TermFault =
    (text : List ℕ) (f : TextFault) → DocumentFault TermFault text f → document_at 0 text ≡ Err f

-- a text is a document, or it has a first fault
abbrev pub DocumentOrFault : (List ℕ → TextFault → Type 0) → Type 0
DocumentOrFault TermFault = (text : List ℕ) → ((quads : List Statement) × IsDocument text quads)
    ⊎ ((f : TextFault) × DocumentFault TermFault text f)

-- and never both
abbrev pub NeverBoth : (List ℕ → TextFault → Type 0) → Type 0
NeverBoth TermFault = (text : List ℕ) (quads : List Statement) (f : TextFault)
    → IsDocument text quads
    → DocumentFault TermFault text f → ⊥

-- a text is a document of one list of statements only
abbrev pub DocumentsOnce : Type 0
DocumentsOnce = (text : List ℕ) (quads others : List Statement) → IsDocument text quads
    → IsDocument text others → quads ≡ others

-- and it has one first fault only
abbrev pub FaultsOnce : (List ℕ → TextFault → Type 0) → Type 0
FaultsOnce TermFault = (text : List ℕ) (f g : TextFault) → DocumentFault TermFault text f
    → DocumentFault TermFault text g → f ≡ g
