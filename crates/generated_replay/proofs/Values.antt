-- The terms of the stream are values: its IRIs are ones, and its strings escape nothing.
use Rattle.std.proofs.Common.{◌≡◌, ℕ, zero, suc, ◌%◌, ◌^◌, ◌<◌, ◌==◌, Bool, true, false, cond, not, ◌&&◌, List, [], ◌∷◌, ◌++◌, refl, ap, ap₂, ◌∙◌, arith}
use Rattle.std.specs.Prelude.{codes, nat_lt, IsUtf8}
use Rattle.std.specs.Fmt.{decimal}
use Rattle.std.specs.List.{list_all, flat_map}
use Rattle.std.specs.Char.{digit_value}
use Rattle.std.specs.Str.Parse.{AllDigits}
use Rattle.std.proofs.lemmas.Bool.Decides.{nat_tests}
use Rattle.std.proofs.lemmas.Fmt.{decimal_is_IsNumeral, IsAscii-decimal}
use Rattle.std.proofs.lemmas.List.Folds.{list_all-append}
use Rattle.std.proofs.lemmas.Str.{IsUtf8-append, IsUtf8-from_ascii}
use Rattle.rdf_terms.specs.Iri.{is_forbidden, has_scheme, ends_scheme, IsIri}
use Rattle.rdf_terms.specs.Line.{escaped}
use Rattle.rdf_terms.specs.declared.term.Term.TheVariants as term
use Rattle.nquads_text.specs.Printing.{IsTermValue, HasTermValues}
use Rattle.nquads_documents.specs.Laws.{IsQuadValue}
use Rattle.printed_rows.proofs.Ids.{ascii_text, is_allowed, iri_of}
use Rattle.generated_replay.specs.Meanings.{quad}

-- ---- digits

digit_allowed : (c : ℕ) → digit_value c < 10 → is_allowed c ≡ true
digit_allowed c small = grind (arith, nat_tests)

digit_escaped : (c : ℕ) → digit_value c < 10 → escaped c ≡ c ∷ []
digit_escaped c small =
    let a : (c == 34) ≡ false = grind (arith, nat_tests) in
    let b : (c == 92) ≡ false = grind (arith, nat_tests) in
    let d : (c == 10) ≡ false = grind (arith, nat_tests) in
    let e : (c == 13) ≡ false = grind (arith, nat_tests) in
    rw (a, b, d, e) refl

digits_allowed : (ds : List ℕ) → AllDigits 10 ds → list_all is_allowed ds ≡ true
digits_allowed [] all = refl
digits_allowed (c ∷ ds) all = ap₂ ◌&&◌ (digit_allowed c all.0) (digits_allowed ds all.1)

digits_escaped : (ds : List ℕ) → AllDigits 10 ds → flat_map escaped ds ≡ ds
digits_escaped [] all = refl
digits_escaped (c ∷ ds) all = ap₂ (λ (a b : List ℕ). a ++ b) (digit_escaped c all.0) (digits_escaped ds all.1)

decimal_allowed : (n : ℕ) → n < 2 ^ 64 → list_all is_allowed (decimal n) ≡ true
decimal_allowed n small = digits_allowed (decimal n) (decimal_is_IsNumeral n small).0.1

-- a string escapes nothing of a number
pub decimal_plain : (n : ℕ) → n < 2 ^ 64 → flat_map escaped (decimal n) ≡ decimal n
decimal_plain n small = digits_escaped (decimal n) (decimal_is_IsNumeral n small).0.1

decimal_utf8 : (n : ℕ) → n < 2 ^ 64 → IsUtf8 (decimal n)
decimal_utf8 n small = IsUtf8-from_ascii (decimal n) (IsAscii-decimal n small)

-- ---- the terms

subject_value : (n : ℕ) → n < 2 ^ 64 → IsTermValue (term.Iri (codes "http://g/s" ++ decimal n))
unfolding has_scheme ends_scheme
subject_value n small = (
  IsUtf8-append (codes "http://g/s") (decimal n) (ascii_text (codes "http://g/s") refl) (decimal_utf8 n small),
  iri_of (codes "http://g/s") (decimal n) refl refl (decimal_allowed n small),
)

predicate_value : (n : ℕ) → n < 2 ^ 64 → IsTermValue (term.Iri (codes "http://g/p" ++ decimal n))
unfolding has_scheme ends_scheme
predicate_value n small = (
  IsUtf8-append (codes "http://g/p") (decimal n) (ascii_text (codes "http://g/p") refl) (decimal_utf8 n small),
  iri_of (codes "http://g/p") (decimal n) refl refl (decimal_allowed n small),
)

pub quad_values : (k : ℕ) → k < 2 ^ 64 → HasTermValues (quad k)
quad_values k small = (
  subject_value (k % 100) (omega arith),
  predicate_value (k % 7) (omega arith),
  (decimal_utf8 k small, tt),
  tt,
)

pub quad_value : (k : ℕ) → k < 2 ^ 64 → IsQuadValue (quad k)
quad_value k small = (refl, quad_values k small)
