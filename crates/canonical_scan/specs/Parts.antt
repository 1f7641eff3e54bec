-- Parts of terms in a text, by their places.
use Rattle.std.specs.Prelude.{◌≡◌, ℕ, ◌+◌, ◌-◌, ◌<◌, ◌≤◌, Bool, false, ◌==◌, ◌||◌, ◌&&◌, not}
use Rattle.std.specs.Prelude.{Option, Some, None, List, ◌∷◌, ◌++◌, length, drop}
use Rattle.std.specs.Prelude.{slice_range, slice_index, IsTrue, IsUtf8, nat_le}
use Rattle.std.specs.List.{list_all, flat_map}
use Rattle.std.specs.Char.{is_ascii_alphanumeric, is_ascii_uppercase}
use Rattle.rdf_terms.specs.Iri.{AllowedAll, IsIri}
use Rattle.rdf_terms.specs.Tag.{is_tag_char}
use Rattle.rdf_terms.specs.Line.{escaped, quoted, kind_text, graph_text, term_text}
use Rattle.rdf_terms.specs.Quad.{is_literal, may_be_graph}
use Rattle.rdf_terms.specs.declared.term.Term.{Term}
use Rattle.rdf_terms.specs.declared.term.Term.TheVariants as term
use Rattle.rdf_terms.specs.declared.term.LiteralKind.{LiteralKind}
use Rattle.nquads_text.specs.Grammar.{is_blank}
use Rattle.nquads_text.specs.Printing.{IsKind, IsGraphValue, IsTermValue}

-- ---- what stands between two places of a text

-- bytes of this form stand between the places
pub record Between (Form : List ℕ → Type 0) (text : List ℕ) (at end : ℕ) : Type 0 where
  pub form : Form (slice_range text at end)
  pub low : at ≤ end
  pub high : end ≤ length text

-- these bytes stand between them
pub record Stands (bytes text : List ℕ) (at end : ℕ) : Type 0 where
  pub is : drop at text ≡ bytes ++ drop end text
  pub low : at ≤ end
  pub high : end ≤ length text

-- ---- forms

-- characters of more than one byte each
abbrev pub AreLong : List ℕ → Type 0
AreLong bytes = IsUtf8 bytes × IsTrue (list_all (λ b. nat_le 128 b) bytes)

-- characters that an IRI may hold
abbrev pub InIri : List ℕ → Type 0
InIri bytes = IsUtf8 bytes × AllowedAll bytes

-- characters of a string, in its canonical text
abbrev pub InString : List ℕ → Type 0
InString bytes = (lexical : List ℕ) × IsUtf8 lexical × (bytes ≡ flat_map escaped lexical)

-- an IRI, in UTF-8
abbrev pub IsIriText : List ℕ → Type 0
IsIriText bytes = IsUtf8 bytes × IsIri bytes

-- an ASCII character of a label, behind its first
abbrev pub is_label_byte : ℕ → Bool
is_label_byte b = is_ascii_alphanumeric b || b == 95 || b == 58 || b == 45 || b == 46

-- a character of a tag in lower case
abbrev pub is_lower_tag_byte : Bool → ℕ → Bool
is_lower_tag_byte first b = is_tag_char first b && not (is_ascii_uppercase b)

-- ---- parts

-- bytes of this form, and behind them the byte that closes them
abbrev pub Closed : (List ℕ → Type 0) → ℕ → List ℕ → ℕ → ℕ → Type 0
Closed Form close text at end = Between Form text at end × (end < length text)
    × (slice_index text end ≡ close)

-- a string in its quotes
abbrev pub HasString : List ℕ → ℕ → ℕ → Type 0
HasString text at end = (lexical : List ℕ) × IsUtf8 lexical
    × Stands (quoted lexical) text at end × (at < end)

-- what stands behind a string: nothing, a language tag or a datatype
abbrev pub IsKindText : List ℕ → ℕ → ℕ → LiteralKind → Type 0
IsKindText text at end kind = IsKind kind × Stands (kind_text kind) text at end

abbrev pub HasKind : List ℕ → ℕ → ℕ → Type 0
HasKind text at end = (kind : LiteralKind) × IsKindText text at end kind

-- a space, and behind it a byte that is no blank and no `^`: no term goes on there
abbrev pub IsSpaced : List ℕ → ℕ → Type 0
IsSpaced text at = (b : ℕ) × (rest : List ℕ) × (drop at text ≡ 32 ∷ b ∷ rest)
    × (is_blank b ≡ false) × ((b == 94) ≡ false)

-- a graph behind one space, or nothing
abbrev pub IsGraphText : List ℕ → ℕ → ℕ → Option Term → Type 0
IsGraphText text at end graph =
    IsGraphValue graph × IsTrue (may_be_graph graph) × Stands (graph_text graph) text at end

abbrev pub HasGraph : List ℕ → ℕ → ℕ → Type 0
HasGraph text at end = (graph : Option Term) × IsGraphText text at end graph

-- ---- terms, whatever follows them

-- the canonical text of a term
abbrev pub IsTermText : List ℕ → ℕ → ℕ → Term → Type 0
IsTermText text at end t = IsTermValue t × Stands (term_text t) text at end

-- that of an IRI or a blank node
abbrev pub IsNodeText : List ℕ → ℕ → ℕ → Term → Type 0
IsNodeText text at end t = IsTermText text at end t × (is_literal t ≡ false)

abbrev pub HasNodeText : List ℕ → ℕ → ℕ → Type 0
HasNodeText text at end = (t : Term) × IsNodeText text at end t

abbrev pub HasIriText : List ℕ → ℕ → ℕ → Type 0
HasIriText text at end = (iri : List ℕ) × IsTermText text at end (term.Iri iri)

abbrev pub HasLabelText : List ℕ → ℕ → ℕ → Type 0
HasLabelText text at end = (label : List ℕ) × IsTermText text at end (term.Blank label)

-- a literal, whose string ends at a place, or an IRI or a blank node
abbrev pub HasObject : List ℕ → ℕ → Option ℕ → ℕ → Type 0
HasObject text at (Some string) end = HasString text at string × HasKind text string end
HasObject text at None end = HasNodeText text at end

-- no escape stands in a string of which the end is given
abbrev pub HasNoEscape : List ℕ → ℕ → Option ℕ → Type 0
HasNoEscape text at (Some string) =
    IsTrue (list_all (λ b. not (b == 92)) (slice_range text (at + 1) (string - 1)))
HasNoEscape text at None = Unit {0}
