-- The first fault of a term: a kind, and the text from the fault's place on.
use Rattle.std.specs.Prelude.{◌≡◌, ℕ, ◌<◌, ◌||◌, ◌==◌, Bool, false, List, [], ◌∷◌}
use Rattle.std.specs.Prelude.{◌++◌, length, IsTrue, nat_eq, is_some, if◌then◌else◌}
use Rattle.std.specs.List.{list_all}
use Rattle.std.specs.Char.{IsScalar, is_ascii_alphabetic, is_ascii_alphanumeric}
use Rattle.std.specs.Str.{encode_utf8_all}
use Rattle.rdf_terms.specs.Iri.{is_forbidden, has_scheme}
use Rattle.rdf_terms.specs.Names.{begins_name}
use Rattle.rdf_terms.specs.Tag.{TagForm}
use Rattle.rdf_terms.specs.Datatype.{lang_string}
use Rattle.nquads_text.specs.declared.fault.TextKind.TheVariants.{NotUtf8, BadIri, RelativeIri}
use Rattle.nquads_text.specs.declared.fault.TextKind.TheVariants.{BadEscape, BadLabel, BadLang}
use Rattle.nquads_text.specs.declared.fault.TextKind.TheVariants.{LangStringWithoutTag}
use Rattle.nquads_text.specs.declared.fault.TextKind.TheVariants.{BadToken, Truncated}
use Rattle.nquads_text.specs.Fault.{TextFault}
use Rattle.nquads_text.specs.Grammar.{CharAt, StartsWith, is_blank, AreBlanks}
use Rattle.nquads_text.specs.Grammar.{is_hex, UcharForm, IsUchar, echar, IriPiece}
use Rattle.nquads_text.specs.Grammar.{StringPiece, Spells, IsString, DatatypeAt}

-- ---- a character is needed

-- no character's UTF-8 stands in front, and the text isn't empty
abbrev pub IsIllFormed : List ℕ → Type 0
IsIllFormed text = (text ≡ [] → ⊥) × ((c : ℕ) (after : List ℕ) → CharAt text c after → ⊥)

-- there is none: the text ends, or a sequence stands there that is no UTF-8
pub data NoCharacter (rest : List ℕ) (f : TextFault) : Type 0 where
  ends : rest ≡ [] → f ≡ (Truncated, []) → NoCharacter rest f
  ill_formed : IsIllFormed rest → f ≡ (NotUtf8, rest) → NoCharacter rest f

-- one of this kind is needed: there is none, or another one, whose fault is `other`
pub data Lacks (fits : ℕ → Bool) (rest : List ℕ) (other f : TextFault) : Type 0 where
  nothing : NoCharacter rest f → Lacks fits rest other f
  another : (c : ℕ) (after : List ℕ) → CharAt rest c after → fits c ≡ false
      → f ≡ other → Lacks fits rest other f

-- ---- escapes

-- the letters of UCHAR
abbrev pub is_uchar_letter : ℕ → Bool
is_uchar_letter c = c == 117 || c == 85

-- and how many digits follow them
abbrev pub digits_of : ℕ → ℕ
digits_of letter = if letter == 117 then 4 else (if letter == 85 then 8 else 0)

-- the letters of ECHAR and UCHAR
abbrev pub is_escape_letter : ℕ → Bool
is_escape_letter c = is_some (echar c) || is_uchar_letter c

-- the fault of an escape, whose backslash is the text's first byte and whose letter has to be
-- one that fits
pub data EscapeFault (fits : ℕ → Bool) (text : List ℕ) (f : TextFault) : Type 0 where
  -- no letter of an escape
  letter : (rest : List ℕ) → text ≡ 92 ∷ rest → Lacks fits rest (BadEscape, text) f
      → EscapeFault fits text f
  -- too few digits
  digit : (u : ℕ) (digits rest : List ℕ) → text ≡ 92 ∷ u ∷ (digits ++ rest)
      → IsTrue (list_all is_hex digits) → length digits < digits_of u
      → Lacks is_hex rest (BadEscape, text) f → EscapeFault fits text f
  -- a surrogate, or a number above 10FFFF
  number : (bytes rest : List ℕ) (n : ℕ) → text ≡ bytes ++ rest → UcharForm bytes n
      → (IsScalar n → ⊥) → f ≡ (BadEscape, text) → EscapeFault fits text f

-- ---- IRIREF and strings

-- behind an opening byte and whole pieces something stands that is none
abbrev pub StopsInside : (List ℕ → ℕ → Type 0) → (List ℕ → TextFault → Type 0)
    → ℕ → List ℕ → TextFault → Type 0
StopsInside Piece Stop open_byte text f = (body cs rest : List ℕ)
    × (text ≡ open_byte ∷ (body ++ rest)) × Spells Piece body cs × Stop rest f

-- what stops an IRIREF
pub data IriStop (rest : List ℕ) (f : TextFault) : Type 0 where
  nothing : NoCharacter rest f → IriStop rest f
  -- a forbidden character, but for the closing `>` and a backslash
  forbidden : (c : ℕ) (after : List ℕ) → CharAt rest c after → IsTrue (is_forbidden c)
      → nat_eq c 62 ≡ false → nat_eq c 92 ≡ false → f ≡ (BadIri, rest) → IriStop rest f
  escape : EscapeFault is_uchar_letter rest f → IriStop rest f
  -- a UCHAR that names a forbidden character
  named : (bytes after : List ℕ) (c : ℕ) → rest ≡ bytes ++ after → IsUchar bytes c
      → IsTrue (is_forbidden c) → f ≡ (BadIri, rest) → IriStop rest f

-- the fault of an IRIREF, whose `<` is the text's first byte
pub data IriFault (text : List ℕ) (f : TextFault) : Type 0 where
  inside : StopsInside IriPiece IriStop 60 text f → IriFault text f
  -- a whole one without a scheme
  relative : (body cs after : List ℕ) → text ≡ 60 ∷ (body ++ 62 ∷ after)
      → Spells IriPiece body cs → has_scheme (encode_utf8_all cs) ≡ false
      → f ≡ (RelativeIri, text) → IriFault text f

-- what stops a string
pub data StringStop (rest : List ℕ) (f : TextFault) : Type 0 where
  nothing : NoCharacter rest f → StringStop rest f
  -- a raw line feed or carriage return
  line_end : (c : ℕ) (after : List ℕ) → IsTrue (c == 10 || c == 13) → rest ≡ c ∷ after
      → f ≡ (BadToken, rest) → StringStop rest f
  escape : EscapeFault is_escape_letter rest f → StringStop rest f

-- the fault of a string, whose opening quote is the text's first byte
abbrev pub StringFault : List ℕ → TextFault → Type 0
StringFault text f = StopsInside StringPiece StringStop 34 text f

-- ---- blank nodes and literals

-- the fault of a blank node, whose `_` is the text's first byte
pub data LabelFault (text : List ℕ) (f : TextFault) : Type 0 where
  -- no `:` behind the `_`
  colon : (rest : List ℕ) → text ≡ 95 ∷ rest → Lacks (λ c. c == 58) rest (BadLabel, text) f
      → LabelFault text f
  -- no first character of a label behind the `_:`
  first : (rest : List ℕ) → text ≡ 95 ∷ 58 ∷ rest → Lacks begins_name rest (BadLabel, text) f
      → LabelFault text f

-- the fault of a language tag, whose `@` is the text's first byte
pub data TagFault (text : List ℕ) (f : TextFault) : Type 0 where
  -- no letter behind the `@`
  first : (rest : List ℕ) → text ≡ 64 ∷ rest
      → Lacks is_ascii_alphabetic rest (BadLang, text) f → TagFault text f
  -- no letter or digit behind a dash
  part : (tag rest : List ℕ) → text ≡ 64 ∷ (tag ++ 45 ∷ rest) → TagForm tag
      → Lacks is_ascii_alphanumeric rest (BadLang, text) f → TagFault text f

-- the fault of a datatype, whose first `^` stands behind any blanks
pub data DatatypeFault (text : List ℕ) (f : TextFault) : Type 0 where
  -- no second `^`
  hat : (blanks rest : List ℕ) → AreBlanks blanks → text ≡ blanks ++ 94 ∷ rest
      → Lacks (λ c. c == 94) rest (BadToken, rest) f → DatatypeFault text f
  -- no `<` behind `^^` and blanks
  less : (blanks between rest : List ℕ) → AreBlanks blanks → AreBlanks between
      → text ≡ blanks ++ 94 ∷ 94 ∷ (between ++ rest) → (StartsWith is_blank rest → ⊥)
      → Lacks (λ c. c == 60) rest (BadToken, rest) f → DatatypeFault text f
  -- a fault of the IRIREF
  iri : (blanks between rest : List ℕ) → AreBlanks blanks → AreBlanks between
      → text ≡ blanks ++ 94 ∷ 94 ∷ (between ++ rest) → IriFault rest f → DatatypeFault text f

-- the fault of a literal, whose opening quote is the text's first byte
pub data LiteralFault (text : List ℕ) (f : TextFault) : Type 0 where
  string : StringFault text f → LiteralFault text f
  tag : (bytes lexical behind : List ℕ) → IsString bytes lexical → text ≡ bytes ++ behind
      → TagFault behind f → LiteralFault text f
  datatype : (bytes lexical behind : List ℕ) → IsString bytes lexical → text ≡ bytes ++ behind
      → DatatypeFault behind f → LiteralFault text f
  -- rdf:langString as a datatype
  without_tag : (bytes lexical behind after : List ℕ) → IsString bytes lexical
      → text ≡ bytes ++ behind → DatatypeAt behind lang_string after
      → f ≡ (LangStringWithoutTag, text) → LiteralFault text f

-- ---- terms

-- `<`, `_` and the quote
abbrev pub begins_term : ℕ → Bool
begins_term c = c == 60 || c == 95 || c == 34

-- the first fault of a text where a term is needed
pub data AnyTermFault (text : List ℕ) (f : TextFault) : Type 0 where
  no_term : Lacks begins_term text (BadToken, text) f → AnyTermFault text f
  iri : IriFault text f → AnyTermFault text f
  blank : LabelFault text f → AnyTermFault text f
  literal : LiteralFault text f → AnyTermFault text f
