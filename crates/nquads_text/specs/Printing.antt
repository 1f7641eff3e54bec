-- The canonical text of a term, and what may follow it.
use Rattle.std.specs.Prelude.{◌≡◌, ℕ, List, ◌++◌, IsTrue, ◌==◌, ◌||◌, IsUtf8, Option, Some, None}
use Rattle.std.specs.List.{list_all}
use Rattle.std.specs.Char.{is_ascii_alphanumeric}
use Rattle.rdf_terms.specs.Iri.{IsIri}
use Rattle.rdf_terms.specs.Datatype.{IsDatatype}
use Rattle.rdf_terms.specs.Label.{IsLabel}
use Rattle.rdf_terms.specs.Names.{is_name_char}
use Rattle.rdf_terms.specs.Tag.{IsTag}
use Rattle.rdf_terms.specs.Quad.{Statement}
use Rattle.rdf_terms.specs.declared.term.LiteralKind.{LiteralKind}
use Rattle.rdf_terms.specs.declared.term.LiteralKind.TheVariants.{Plain, Typed, Tagged}
use Rattle.rdf_terms.specs.declared.term.Term.{Term}
use Rattle.rdf_terms.specs.declared.term.Term.TheVariants as term
use Rattle.nquads_text.specs.Grammar.{CharAt, StartsWith, HatFollows}

-- ---- the values

-- what each value of the type `LiteralKind` keeps
abbrev pub IsKind : LiteralKind → Type 0
IsKind Plain = Unit {0}
IsKind (Typed iri) = IsUtf8 iri × IsDatatype iri
IsKind (Tagged tag) = IsTag tag

-- what each value of the type `Term` keeps
abbrev pub IsTermValue : Term → Type 0
IsTermValue (term.Iri iri) = IsUtf8 iri × IsIri iri
IsTermValue (term.Blank label) = IsLabel label
IsTermValue (term.Literal literal) = IsUtf8 literal.lexical × IsKind literal.kind

-- no graph, or a term
abbrev pub IsGraphValue : Option Term → Type 0
IsGraphValue None = Unit {0}
IsGraphValue (Some g) = IsTermValue g

-- what each quad keeps of its terms
abbrev pub HasTermValues : Statement → Type 0
HasTermValues q =
    IsTermValue q.subject × IsTermValue q.predicate × IsTermValue q.object × IsGraphValue q.graph

-- ---- what can't go on with a term that stands before it

-- a character of a label, behind any dots
abbrev pub LabelGoesOn : List ℕ → Type 0
LabelGoesOn rest = (dots behind after : List ℕ) × (c : ℕ) × IsTrue (list_all (λ b. b == 46) dots)
    × (rest ≡ dots ++ behind) × CharAt behind c after × IsTrue (is_name_char c)

-- behind a string, an `@` and a `^` go on; behind a tag, a letter, a digit and a dash
abbrev pub EndsKind : LiteralKind → List ℕ → Type 0
EndsKind Plain rest = (StartsWith (λ b. b == 64) rest → ⊥) × (HatFollows rest → ⊥)
EndsKind (Typed iri) rest = Unit {0}
EndsKind (Tagged tag) rest = StartsWith (λ b. is_ascii_alphanumeric b || b == 45) rest → ⊥

-- what stands behind a term and can't go on with it
abbrev pub EndsTerm : Term → List ℕ → Type 0
EndsTerm (term.Iri iri) rest = Unit {0}
EndsTerm (term.Blank label) rest = LabelGoesOn rest → ⊥
EndsTerm (term.Literal literal) rest = EndsKind literal.kind rest
