-- The row of a header that names an id can be printed.
use Rattle.std.proofs.Common.{◌≡◌, ℕ, zero, suc, ◌<◌, Bool, true, false, cond, not, ◌&&◌, List, [], ◌∷◌, ◌++◌, refl, ap, ap₂, ◌∙◌, arith, append_assoc}
use Rattle.std.specs.Prelude.{codes, nat_lt, IsUtf8}
use Rattle.std.specs.List.{list_all}
use Rattle.std.specs.Int.{w128, to_be_bytes}
use Rattle.std.proofs.lemmas.Bool.Decides.{nat_tests}
use Rattle.std.proofs.lemmas.List.Elements.{All-weaker}
use Rattle.std.proofs.lemmas.List.Folds.{list_all-append}
use Rattle.std.proofs.lemmas.List.Sums.{AllPass-from_list_all}
use Rattle.std.proofs.lemmas.Str.{IsUtf8-append, IsUtf8-from_ascii}
use Rattle.std.proofs.lemmas.Str.Ascii.{IsAscii-from_all}
use Rattle.uuid.proofs.TextLemmas.{nibble_small}
use Rattle.uuid.specs.Text.{by_index, hex_digit, nibble, digit_place, is_hyphen_place, hyphen, lower}
use Rattle.delta_base.specs.Ids.{text_of}
use Rattle.delta_base.proofs.IdLemmas.{text_of-utf8}
use Rattle.rdf_terms.specs.Iri.{is_forbidden, has_scheme, ends_scheme, IsIri}
use Rattle.rdf_terms.specs.declared.term.Term.TheVariants as term
use Rattle.nquads_text.specs.Printing.{IsTermValue}
use Rattle.patch_rows.specs.declared.row.Row.TheVariants as row
use Rattle.patch_rows.specs.Printing.{row_text}
use Rattle.printed_rows.specs.Laws.{IdsHaveRows}
use Rattle.printed_rows.specs.Printed.{printed_line}

abbrev pub is_allowed : ℕ → Bool
is_allowed b = not (is_forbidden b)

-- ---- the texts of ids

hex_allowed : (d : ℕ) → d < 16 → is_allowed (hex_digit lower d) ≡ true
hex_allowed d small = grind (arith, nat_tests)

place_allowed : (b : Bool) (d : ℕ) → d < 16 → is_allowed (cond b hyphen (hex_digit lower d)) ≡ true
place_allowed true d small = refl
place_allowed false d small = hex_allowed d small

all_by_index : (p : ℕ → Bool) (n : ℕ) (f : ℕ → ℕ) → ((k : ℕ) → p (f k) ≡ true) → list_all p (by_index n f) ≡ true
unfolding by_index
all_by_index p zero f all = refl
all_by_index p (suc n) f all =
    list_all-append p (by_index n f) (f n ∷ []) ∙ ap₂ ◌&&◌ (all_by_index p n f all) (ap (λ t. t && true) (all n))

id_allowed : (number : ℕ) → list_all is_allowed (text_of number) ≡ true
unfolding text_of
id_allowed number =
    let bytes = to_be_bytes w128 number in
    all_by_index is_allowed 36 (λ k. cond (is_hyphen_place k) hyphen (hex_digit lower (nibble bytes (digit_place k))))
    (λ k. place_allowed (is_hyphen_place k) (nibble bytes (digit_place k)) (nibble_small bytes (digit_place k)))

-- ---- the terms

pub iri_of : (front rest : List ℕ) → list_all is_allowed front ≡ true → has_scheme (front ++ rest) ≡ true → list_all is_allowed rest ≡ true → IsIri (front ++ rest)
iri_of front rest first scheme behind = record {
  allowed = list_all-append is_allowed front rest ∙ ap₂ ◌&&◌ first behind;
  scheme = scheme;
}

low : (b : ℕ) → nat_lt b 128 ≡ true → b < 128
low b is = grind (arith, nat_tests)

pub ascii_text : (front : List ℕ) → list_all (λ b. nat_lt b 128) front ≡ true → IsUtf8 front
ascii_text front all =
    IsUtf8-from_ascii front (IsAscii-from_all front
    (All-weaker (λ b. nat_lt b 128 ≡ true) (λ b. b < 128) low front (AllPass-from_list_all (λ b. nat_lt b 128) front all)))

pub id_value : (number : ℕ) → IsTermValue (term.Iri (codes "uuid:" ++ text_of number))
unfolding has_scheme ends_scheme
id_value number = (
  IsUtf8-append (codes "uuid:") (text_of number) (ascii_text (codes "uuid:") refl) (text_of-utf8 number),
  iri_of (codes "uuid:") (text_of number) refl refl (id_allowed number),
)

pub id_printed : IdsHaveRows
id_printed key id text is_key = record { value = (text, id_value id.0); writable = is_key }

-- what stands around an id is written as its row is
pub header_line : (key front text : List ℕ) → front ≡ codes "H " ++ (key ++ codes " <uuid:")
    → front ++ (text ++ codes "> .\n") ≡ printed_line (row.Header key (term.Iri (codes "uuid:" ++ text)))
unfolding row_text
header_line key front text is =
    ap (λ (t : List ℕ). t ++ (text ++ codes "> .\n")) is
    ∙ ap (λ (t : List ℕ). 72 ∷ 32 ∷ t) (simp append_assoc)
