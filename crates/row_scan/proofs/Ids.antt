-- The 36 bytes of an id behind `uuid:` are an IRI.
use Rattle.std.proofs.Common.{◌≡◌, ℕ, zero, suc, ◌<◌, ◌==◌, ◌&&◌, ◌||◌, not, Bool, true, false, if◌then◌else◌, List, ◌∷◌, ◌++◌, Some, None, option_map, codes, length, get_or, inl, inr, refl, sym, subst, arith, IsUtf8}
use Rattle.std.proofs.lemmas.Bool.{cases_lt}
use Rattle.std.proofs.lemmas.Bool.Decides.{nat_tests}
use Rattle.std.proofs.lemmas.List.{get_or_default, get_or_past}
use Rattle.std.proofs.lemmas.List.Sums.{AllPass-from_list_all, list_all-from_AllPass}
use Rattle.std.proofs.lemmas.Str.{IsUtf8-from_ascii}
use Rattle.std.specs.Int.{w128, from_be_bytes}
use Rattle.std.specs.List.{list_all}
use Rattle.std.specs.Str.{IsAscii}
use Rattle.uuid.proofs.TextLemmas.{by_index_length, by_index_at}
use Rattle.uuid.specs.Text.{by_index, byte_of_digits, is_hex_digit, digits_of, has_hyphens, hyphen_place, digit_place, is_hyphen_place}
use Rattle.delta_base.specs.Ids.{number_of}
use Rattle.rdf_terms.specs.Iri.{is_forbidden, ends_scheme, has_scheme, IsIri}

-- ---- what the 36 bytes are

-- a value behind two tests
tested : {X : Type 0} (a b c : Bool) (f : X → ℕ) (x : X) (n : ℕ) → option_map f (if a then (if b && c then Some x else None) else None) ≡ Some n → (a ≡ true) × (c ≡ true)
tested true true true f x n e = (refl, refl)
tested true true false f x n e = cc
tested true false c f x n e = cc
tested false b c f x n e = cc

-- the hyphens stand in their places, and the other bytes are hex digits
hyphenated : (text : List ℕ) (number : ℕ) → length text ≡ 36 → number_of text ≡ Some number → (has_hyphens text ≡ true) × (list_all is_hex_digit (digits_of text) ≡ true)
unfolding number_of
hyphenated text number count named =
    let hex : List ℕ = digits_of text in
    tested (has_hyphens text) (length hex == 32) (list_all is_hex_digit hex) (from_be_bytes w128) (by_index 16 (byte_of_digits hex)) number (rw count at named)

digit_there : (text : List ℕ) (i : ℕ) → list_all is_hex_digit (digits_of text) ≡ true → i < 32 → is_hex_digit (get_or text (hyphen_place i) 0) ≡ true
digit_there text i are low =
    let place : ℕ → ℕ = λ j. get_or text (hyphen_place j) 0 in
    subst (λ (b : ℕ). is_hex_digit b ≡ true) (by_index_at 32 place i 0 low)
    (AllPass-from_list_all is_hex_digit (digits_of text) are i 0 (omega (arith, low, by_index_length 32 place)))

abbrev is_id_byte : ℕ → Bool
is_id_byte b = is_hex_digit b || b == 45

hyphen_byte : (text : List ℕ) (k : ℕ) → has_hyphens text ≡ true → is_hyphen_place k ≡ true → is_id_byte (get_or text k 0) ≡ true
hyphen_byte text k are here = grind (arith, nat_tests)

digit_byte : (text : List ℕ) (k : ℕ) → list_all is_hex_digit (digits_of text) ≡ true → k < 36 → is_hyphen_place k ≡ false → is_id_byte (get_or text k 0) ≡ true
digit_byte text k are low here =
    let place : hyphen_place (digit_place k) ≡ k = grind (arith, nat_tests) in
    let digit : is_hex_digit (get_or text k 0) ≡ true = subst (λ (j : ℕ). is_hex_digit (get_or text j 0) ≡ true) place (digit_there text (digit_place k) are (grind (arith, nat_tests))) in
    rw digit refl

id_byte : (text : List ℕ) (number k : ℕ) → length text ≡ 36 → number_of text ≡ Some number → k < 36 → is_id_byte (get_or text k 0) ≡ true
id_byte text number k count named low = by_place (is_hyphen_place k) refl
  where
    by_place : (hyphen : Bool) → is_hyphen_place k ≡ hyphen → is_id_byte (get_or text k 0) ≡ true
    by_place true here = hyphen_byte text k (hyphenated text number count named).0 here
    by_place false here = digit_byte text k (hyphenated text number count named).1 low here

-- ---- the IRI

allowed_byte : (b : ℕ) → is_id_byte b ≡ true → not (is_forbidden b) ≡ true
allowed_byte b is = grind (arith, nat_tests)

ascii_byte : (b : ℕ) → is_id_byte b ≡ true → b < 128
ascii_byte b is = grind (arith, nat_tests)

pub uuid_iri : (digits : List ℕ) (number : ℕ) → length digits ≡ 36 → number_of digits ≡ Some number → IsIri (codes "uuid:" ++ digits)
unfolding has_scheme ends_scheme
uuid_iri digits number count named =
    record {
      allowed = list_all-from_AllPass (λ b. not (is_forbidden b)) digits (λ k d low.
          allowed_byte (get_or digits k d) (subst (λ (b : ℕ). is_id_byte b ≡ true) (sym (get_or_default digits k d 0 low)) (id_byte digits number k count named (omega (arith, low, count)))));
      scheme = refl;
    }

ascii_behind : (b : ℕ) (bytes : List ℕ) → b < 128 → IsAscii bytes → IsAscii (b ∷ bytes)
ascii_behind b bytes low are zero = low
ascii_behind b bytes low are (suc i) = are i

pub uuid_utf8 : (digits : List ℕ) (number : ℕ) → length digits ≡ 36 → number_of digits ≡ Some number → IsUtf8 (codes "uuid:" ++ digits)
uuid_utf8 digits number count named =
    let ascii : IsAscii digits = λ i.
    elim (cases_lt i 36) [
      | inl low ↦ ascii_byte (get_or digits i 0) (id_byte digits number i count named low)
      | inr high ↦ rw (get_or_past digits i 0 (omega (arith, high, count))) (omega arith)
    ] in
    let colon : IsAscii (58 ∷ digits) = ascii_behind 58 digits (omega arith) ascii in
    let letter : IsAscii (100 ∷ 58 ∷ digits) = ascii_behind 100 (58 ∷ digits) (omega arith) colon in
    let letters : IsAscii (105 ∷ 100 ∷ 58 ∷ digits) = ascii_behind 105 (100 ∷ 58 ∷ digits) (omega arith) letter in
    let more : IsAscii (117 ∷ 105 ∷ 100 ∷ 58 ∷ digits) = ascii_behind 117 (105 ∷ 100 ∷ 58 ∷ digits) (omega arith) letters in
    IsUtf8-from_ascii (codes "uuid:" ++ digits) (ascii_behind 117 (117 ∷ 105 ∷ 100 ∷ 58 ∷ digits) (omega arith) more)
