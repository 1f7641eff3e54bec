-- Where the end of a text, and not the text, is what ended a reading.
use Rattle.std.specs.Prelude.{◌≡◌, ℕ, ◌-◌, Bool, true, false, List, [], ◌∷◌}
use Rattle.std.specs.Prelude.{length, slice_index, Result, Ok, Err, ◌==◌}
use Rattle.std.specs.Prelude.{◌||◌, ◌&&◌, not, is_none, nat_lt, if◌then◌else◌}
use Rattle.std.specs.List.{list_all}
use Rattle.bstr.specs.Utf8.{decoded}
use Rattle.rdf_terms.specs.declared.term.LiteralKind.{LiteralKind}
use Rattle.rdf_terms.specs.declared.term.LiteralKind.TheVariants.{Plain, Typed, Tagged}
use Rattle.rdf_terms.specs.declared.term.Term.{Term}
use Rattle.rdf_terms.specs.declared.term.Term.TheVariants as term
use Rattle.nquads_text.specs.declared.fault.TextKind.{TextKind}
use Rattle.nquads_text.specs.declared.fault.TextKind.TheVariants.{NotUtf8, BadIri, RelativeIri}
use Rattle.nquads_text.specs.declared.fault.TextKind.TheVariants.{BadEscape, BadLabel, BadLang}
use Rattle.nquads_text.specs.declared.fault.TextKind.TheVariants.{LangStringWithoutTag, BadPosition}
use Rattle.nquads_text.specs.declared.fault.TextKind.TheVariants.{MissingDot, BadToken, Truncated}
use Rattle.nquads_text.specs.Fault.{TextRead}
use Rattle.nquads_text.specs.Grammar.{is_blank}
use Rattle.patch_rows.specs.declared.fault.RowKind.{RowKind}
use Rattle.patch_rows.specs.declared.fault.RowKind.TheVariants.{Common, UnknownCode}
use Rattle.patch_rows.specs.declared.fault.RowKind.TheVariants.{WrongCount, TooLong}
use Rattle.patch_rows.specs.Fault.{Fault}
use Rattle.patch_rows.specs.Reading.{stands}

-- a byte with which a character of several bytes begins
abbrev pub leads : ℕ → Bool
leads b = nat_lt 0xC1 b && nat_lt b 0xF5

-- the front of a character, which further bytes make whole
abbrev pub is_front : List ℕ → Bool
is_front [] = false
is_front (b ∷ rest) =
    leads b && (is_none (decoded (b ∷ rest)).char && (decoded (b ∷ rest)).size == length (b ∷ rest))

-- the text ends here, or within a character
abbrev pub is_cut : List ℕ → Bool
is_cut [] = true
is_cut (b ∷ rest) = is_front (b ∷ rest)

-- whether a fault of this kind, at this rest of the text, comes of the text's end
unfoldable pub ends_text : TextKind → List ℕ → Bool
ends_text NotUtf8 rest = is_front rest
ends_text BadIri rest = false
ends_text RelativeIri rest = false
ends_text BadEscape rest = false
ends_text BadLabel rest = false
ends_text BadLang rest = false
ends_text LangStringWithoutTag rest = false
ends_text BadPosition rest = false
ends_text MissingDot rest = false
ends_text BadToken rest = false
ends_text Truncated rest = true

-- the same of a row
unfoldable pub ends_row : RowKind → List ℕ → Bool
ends_row (Common kind) rest = ends_text kind rest
ends_row UnknownCode rest = false
ends_row WrongCount rest = false
ends_row TooLong rest = false

-- reading a term met the text's end
abbrev pub TextAtEnd : {X : Type 0} → TextRead X → Type 0
TextAtEnd (Ok x) = ⊥
TextAtEnd (Err f) = ends_text f.0 f.1 ≡ true

-- the same of a row
abbrev pub AtEnd : {X : Type 0} → Result X Fault → Type 0
AtEnd (Ok x) = ⊥
AtEnd (Err f) = ends_row f.0 f.1 ≡ true

-- ---- labels

-- no character that begins with these two bytes is one of a label: arrows and signs, the private
-- use of the last planes and before them
abbrev pub no_name_pair : ℕ → ℕ → Bool
no_name_pair b c = (b == 0xE2 && (nat_lt 0x86 c && nat_lt c 0xB0))
    || ((b == 0xEF && nat_lt c 0xA4) || (b == 0xF3 && nat_lt 0xAF c))

-- the same of one byte, or of two of `size` bytes
abbrev pub no_name_begins : ℕ → ℕ → ℕ → Bool
no_name_begins size b c = b == 0xEE || (b == 0xF4 || (nat_lt 1 size && no_name_pair b c))

-- the front of a character that may be one of a label
abbrev pub begins_name_char : List ℕ → Bool
begins_name_char rest =
    is_front rest && not (no_name_begins (length rest) (slice_index rest 0) (slice_index rest 1))

-- behind a label nothing but dots stands, up to the text's end or to the front of a character
-- of a label
unfoldable pub label_open : List ℕ → Bool
label_open [] = true
label_open (b ∷ rest) = if b == 46 then label_open rest else begins_name_char (b ∷ rest)

-- ---- terms

-- a string may still get a datatype behind blanks, and a tag may go on; `quoted` says whether the
-- literal ends in a quote
abbrev pub kind_open : LiteralKind → Bool → List ℕ → Bool
kind_open Plain quoted after = quoted && list_all is_blank after
kind_open (Typed iri) quoted after = false
kind_open (Tagged tag) quoted after = length after == 0

-- the last byte is a quote of what begins where start does and ends before after
abbrev pub ends_quoted : List ℕ → List ℕ → Bool
ends_quoted start after = nat_lt (length after) (length start)
    && slice_index start (length start - length after - 1) == 34

-- a literal that more text may change
abbrev pub literal_open : List ℕ → Term → List ℕ → Bool
literal_open start (term.Iri iri) after = false
literal_open start (term.Blank label) after = false
literal_open start (term.Literal literal) after =
    kind_open literal.kind (ends_quoted start after) after

-- a label that more text may change, which isn't one in brackets
abbrev pub blank_open : List ℕ → Term → List ℕ → Bool
blank_open start (term.Iri iri) after = false
blank_open start (term.Blank label) after = stands (λ b. b == 95) start && label_open after
blank_open start (term.Literal literal) after = false
