-- The grammar of terms, on whole texts, in the words of RDF 1.1 N-Quads. A relation `X text value
-- after` says that the text begins with an X of that value, the longest text of its form there, and
-- that `after` stands behind it.
use Rattle.std.specs.Prelude.{◌≡◌, ℕ, ◌+◌, ◌*◌, ◌≤◌, ◌⊎◌, Bool, false, List}
use Rattle.std.specs.Prelude.{[], ◌∷◌, ◌++◌, length, IsTrue, encode_utf8, ◌==◌}
use Rattle.std.specs.Prelude.{◌||◌, nat_eq, Option, Some, None, if◌then◌else◌}
use Rattle.std.specs.List.{list_all}
use Rattle.std.specs.Str.{encode_utf8_all, bytes_eq}
use Rattle.std.specs.Char.{IsScalar, is_digit, digit_value}
use Rattle.rdf_terms.specs.declared.term.LiteralKind.{LiteralKind}
use Rattle.rdf_terms.specs.declared.term.LiteralKind.TheVariants.{Plain, Typed, Tagged}
use Rattle.rdf_terms.specs.declared.term.Literal.{Literal}
use Rattle.rdf_terms.specs.declared.term.Term.{Term}
use Rattle.rdf_terms.specs.declared.term.Term.TheVariants as term
use Rattle.rdf_terms.specs.Datatype.{xsd_string, lang_string}
use Rattle.rdf_terms.specs.Iri.{is_forbidden, has_scheme}
use Rattle.rdf_terms.specs.Label.{IsLabel}
use Rattle.rdf_terms.specs.Tag.{TagForm, lower}

-- ---- texts

-- the text begins with this character, in UTF-8
abbrev pub CharAt : List ℕ → ℕ → List ℕ → Type 0
CharAt text c after = IsScalar c × (text ≡ encode_utf8 c ++ after)

-- the text begins with a byte of this kind
abbrev pub StartsWith : (ℕ → Bool) → List ℕ → Type 0
StartsWith test [] = ⊥
StartsWith test (b ∷ rest) = IsTrue (test b)

-- the text begins with this text of the form, and with no longer one
abbrev pub Longest : (List ℕ → Type 0) → List ℕ → List ℕ → List ℕ → Type 0
Longest Form text taken after = Form taken × (text ≡ taken ++ after)
    × ((longer rest : List ℕ) → Form longer → text ≡ longer ++ rest → length longer ≤ length taken)

-- a tab or a space
abbrev pub is_blank : ℕ → Bool
is_blank b = b == 32 || b == 9

-- a line feed or a carriage return
abbrev pub is_line_end : ℕ → Bool
is_line_end b = b == 10 || b == 13

-- any number of blanks
abbrev pub AreBlanks : List ℕ → Type 0
AreBlanks bytes = IsTrue (list_all is_blank bytes)

-- blanks stand in front, and none behind them
abbrev pub Blanks : List ℕ → List ℕ → Type 0
Blanks text after = (blanks : List ℕ) × (text ≡ blanks ++ after)
    × AreBlanks blanks × (StartsWith is_blank after → ⊥)

-- ---- IRIREF and strings

-- a character as itself, in UTF-8
abbrev pub IsCharacter : List ℕ → ℕ → Type 0
IsCharacter bytes c = IsScalar c × (bytes ≡ encode_utf8 c)

-- HEX ::= [0-9] | [A-F] | [a-f]
abbrev pub is_hex : ℕ → Bool
is_hex c = is_digit c 16

-- four digits, and their number
abbrev pub FourDigits : List ℕ → ℕ → Type 0
FourDigits bytes n =
    (a b c d : ℕ) × IsTrue (list_all is_hex (a ∷ b ∷ c ∷ d ∷ [])) × (bytes ≡ a ∷ b ∷ c ∷ d ∷ [])
    × (n ≡ 4096 * digit_value a + 256 * digit_value b + 16 * digit_value c + digit_value d)

-- eight digits, and their number
abbrev pub EightDigits : List ℕ → ℕ → Type 0
EightDigits bytes n = (high low : List ℕ) × (h l : ℕ) × FourDigits high h
    × FourDigits low l × (bytes ≡ high ++ low) × (n ≡ 65536 * h + l)

-- UCHAR ::= '\u' HEX HEX HEX HEX | '\U' HEX HEX HEX HEX HEX HEX HEX HEX, and its number
abbrev pub UcharForm : List ℕ → ℕ → Type 0
UcharForm bytes n = ((digits : List ℕ) × FourDigits digits n × (bytes ≡ 92 ∷ 117 ∷ digits))
    ⊎ ((digits : List ℕ) × EightDigits digits n × (bytes ≡ 92 ∷ 85 ∷ digits))

-- a UCHAR that names a character: no surrogate, and no number above 10FFFF
abbrev pub IsUchar : List ℕ → ℕ → Type 0
IsUchar bytes c = IsScalar c × UcharForm bytes c

-- [^#x00-#x20<>"{}|^`\] | UCHAR: a character of an IRIREF, as itself or by UCHAR, and never
-- a forbidden one
abbrev pub IriPiece : List ℕ → ℕ → Type 0
IriPiece bytes c = (is_forbidden c ≡ false) × (IsCharacter bytes c ⊎ IsUchar bytes c)

-- ECHAR ::= '\' [tbnrf"'\]: what its letter stands for
abbrev pub echar : ℕ → Option ℕ
echar c = if c == 116 then Some 9
    else (if c == 98 then Some 8 else (if c == 110 then Some 10 else (if c == 114 then Some 13
    else (if c == 102 then Some 12 else (if c == 34 || c == 39 || c == 92 then Some c else None)))))

-- [^#x22#x5C#xA#xD] | ECHAR | UCHAR: a character of a string, as itself, by ECHAR or by UCHAR
abbrev pub StringPiece : List ℕ → ℕ → Type 0
StringPiece bytes c = (IsCharacter bytes c × (nat_eq c 34 ≡ false) × (nat_eq c 92 ≡ false)
    × ((nat_eq c 10 || nat_eq c 13) ≡ false))
    ⊎ (((letter : ℕ) × (echar letter ≡ Some c) × (bytes ≡ 92 ∷ letter ∷ [])) ⊎ IsUchar bytes c)

-- the bytes spell these characters, piece by piece
abbrev pub Spells : (List ℕ → ℕ → Type 0) → List ℕ → List ℕ → Type 0
Spells Piece bytes [] = bytes ≡ []
Spells Piece bytes (c ∷ cs) =
    (front rest : List ℕ) × (bytes ≡ front ++ rest) × Piece front c × Spells Piece rest cs

-- IRIREF ::= '<' ([^#x00-#x20<>"{}|^`\] | UCHAR)* '>', and its IRI, in UTF-8, with a
-- scheme in front
abbrev pub IsIriRef : List ℕ → List ℕ → Type 0
IsIriRef bytes iri = (body cs : List ℕ) × (bytes ≡ (60 ∷ body) ++ (62 ∷ []))
    × Spells IriPiece body cs × (iri ≡ encode_utf8_all cs) × IsTrue (has_scheme iri)

-- STRING_LITERAL_QUOTE ::= '"' ([^#x22#x5C#xA#xD] | ECHAR | UCHAR)* '"', and its text, in UTF-8
abbrev pub IsString : List ℕ → List ℕ → Type 0
IsString bytes text = (body cs : List ℕ) × (bytes ≡ (34 ∷ body) ++ (34 ∷ []))
    × Spells StringPiece body cs × (text ≡ encode_utf8_all cs)

-- the text begins with an IRIREF, which its `>` ends
abbrev pub IriRef : List ℕ → List ℕ → List ℕ → Type 0
IriRef text iri after = (bytes : List ℕ) × IsIriRef bytes iri × (text ≡ bytes ++ after)

-- ---- terms

-- BLANK_NODE_LABEL ::= '_:' (PN_CHARS_U | [0-9]) ((PN_CHARS | '.')* PN_CHARS)?, the longest
abbrev pub BlankNode : List ℕ → List ℕ → List ℕ → Type 0
BlankNode text label after =
    (behind : List ℕ) × (text ≡ 95 ∷ 58 ∷ behind) × Longest IsLabel behind label after

-- LANGTAG ::= '@' [a-zA-Z]+ ('-' [a-zA-Z0-9]+)*, the longest; a dash behind it would begin
-- a further part
abbrev pub LangTag : List ℕ → List ℕ → List ℕ → Type 0
LangTag text tag after = (behind : List ℕ) × (text ≡ 64 ∷ behind)
    × Longest TagForm behind tag after × (StartsWith (λ b. b == 45) after → ⊥)

-- '^^' IRIREF, with any blanks before and between them
abbrev pub DatatypeAt : List ℕ → List ℕ → List ℕ → Type 0
DatatypeAt text iri after = (blanks between behind : List ℕ) × AreBlanks blanks × AreBlanks between
    × (text ≡ blanks ++ 94 ∷ 94 ∷ (between ++ behind)) × IriRef behind iri after

-- a `^`, behind any blanks: it begins a datatype
abbrev pub HatFollows : List ℕ → Type 0
HatFollows text = (blanks rest : List ℕ) × AreBlanks blanks × (text ≡ blanks ++ 94 ∷ rest)

-- xsd:string is written as none
abbrev pub kind_with : List ℕ → LiteralKind
kind_with datatype = if bytes_eq datatype xsd_string then Plain else Typed datatype

-- ('^^' IRIREF | LANGTAG)?: what stands behind the closing quote; a tag is kept in lower case
pub data Suffix (text : List ℕ) (kind : LiteralKind) (after : List ℕ) : Type 0 where
  plain : (StartsWith (λ b. b == 64) text → ⊥) → (HatFollows text → ⊥)
      → kind ≡ Plain → after ≡ text → Suffix text kind after
  typed : (iri : List ℕ) → DatatypeAt text iri after → bytes_eq iri lang_string ≡ false
      → kind ≡ kind_with iri → Suffix text kind after
  tagged : (tag : List ℕ) → LangTag text tag after → kind ≡ Tagged (lower tag)
      → Suffix text kind after

-- literal ::= STRING_LITERAL_QUOTE ('^^' IRIREF | LANGTAG)?
abbrev pub LiteralAt : List ℕ → Literal → List ℕ → Type 0
LiteralAt text literal after = (bytes behind : List ℕ) × IsString bytes literal.lexical
    × (text ≡ bytes ++ behind) × Suffix behind literal.kind after

-- IRIREF | BLANK_NODE_LABEL | literal
abbrev pub TermAt : List ℕ → Term → List ℕ → Type 0
TermAt text (term.Iri iri) after = IriRef text iri after
TermAt text (term.Blank label) after = BlankNode text label after
TermAt text (term.Literal literal) after = LiteralAt text literal after
