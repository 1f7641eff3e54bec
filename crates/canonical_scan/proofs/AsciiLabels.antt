-- Labels in ASCII.
use Rattle.std.proofs.Common.{◌≡◌, ℕ, suc, ◌+◌, ◌-◌, ◌<◌, ◌≤◌, Bool, true, false, not, ◌||◌, List, [], ◌∷◌, length, get_or, map, nat_eq, IsTrue, refl, sym, ap, ◌∙◌, arith}
use Rattle.std.specs.List.{list_all, slice_range, range_with_len}
use Rattle.std.specs.Str.{IsAscii}
use Rattle.std.proofs.Math.ListN.{replicate}
use Rattle.std.proofs.lemmas.Bool.{and_parts, false≢true}
use Rattle.std.proofs.lemmas.Bool.Decides.{nat_tests}
use Rattle.std.proofs.lemmas.List.{get_or-replicate}
use Rattle.std.proofs.lemmas.List.Edits.{length-between, get_or-between}
use Rattle.std.proofs.lemmas.List.FromFn.{get_or-map-range_with_len}
use Rattle.std.proofs.lemmas.Str.{encodes-IsAscii, IsUtf8-from_ascii, chars-IsAscii, scalars-chars}
use Rattle.std.proofs.lemmas.Str.Ascii.{IsAscii-nil, IsAscii-cons}
use lib.Utf8.{scalars}
use Rattle.rdf_terms.specs.Label.{is_inner, AreInner, LabelChars, IsLabel}
use Rattle.rdf_terms.specs.Names.{is_name_char, is_name_start, begins_name}
use Rattle.canonical_scan.specs.Parts.{Between, is_label_byte}

-- a test that each ASCII byte passes
each_byte : (test : ℕ → Bool) (b : ℕ) → map test (range_with_len 0 128) ≡ replicate 128 true → b < 128 → test b ≡ true
each_byte test b e lt =
    sym (get_or-map-range_with_len test 0 128 b b Bool.false lt (omega arith)) ∙ ap (λ (t : List Bool). get_or t b Bool.false) e ∙ get_or-replicate 128 b Bool.true Bool.false lt

or_right : (a b : Bool) → (a || b) ≡ true → a ≡ false → b ≡ true
or_right true b e off = absurd (false≢true (sym off))
or_right false b e off = e

begins_test : ℕ → Bool
begins_test b = (not (is_label_byte b) || (nat_eq b 45 || nat_eq b 46)) || begins_name b

begins_all : map begins_test (range_with_len 0 128) ≡ replicate 128 true
unfolding begins_test is_name_start
begins_all = refl

name_test : ℕ → Bool
name_test b = (not (is_label_byte b) || nat_eq b 46) || is_name_char b

name_all : map name_test (range_with_len 0 128) ≡ replicate 128 true
unfolding name_test is_name_char
name_all = refl

low : (b : ℕ) → is_label_byte b ≡ true → b < 128
low b e = grind (arith, nat_tests)

label_begins : (b : ℕ) → is_label_byte b ≡ true → nat_eq b 45 ≡ false → nat_eq b 46 ≡ false → begins_name b ≡ true
unfolding begins_test
label_begins b e dash dot =
    or_right (not (is_label_byte b) || (nat_eq b 45 || nat_eq b 46)) (begins_name b) (each_byte begins_test b begins_all (low b e)) (rw (e, dash, dot) refl)

label_name : (b : ℕ) → is_label_byte b ≡ true → nat_eq b 46 ≡ false → is_name_char b ≡ true
unfolding name_test
label_name b e dot = or_right (not (is_label_byte b) || nat_eq b 46) (is_name_char b) (each_byte name_test b name_all (low b e)) (rw (e, dot) refl)

label_inner : (b : ℕ) → is_label_byte b ≡ true → is_inner b ≡ true
label_inner b e = by (nat_eq b 46) refl
  where
    by : (dot : Bool) → nat_eq b 46 ≡ dot → (nat_eq b 46 || is_name_char b) ≡ true
    by true is = rw is refl
    by false is = rw (is, label_name b e is) refl

ascii : (bytes : List ℕ) → list_all is_label_byte bytes ≡ true → IsAscii bytes
ascii [] all = IsAscii-nil
ascii (b ∷ bytes) all = let t = and_parts (is_label_byte b) (list_all is_label_byte bytes) all in IsAscii-cons b bytes (low b t.0) (ascii bytes t.1)

-- the last of them is no dot
abbrev EndsWell : List ℕ → Type 0
EndsWell bytes = (k : ℕ) → suc k ≡ length bytes → nat_eq (get_or bytes k 0) 46 ≡ false

are_inner : (bytes : List ℕ) → list_all is_label_byte bytes ≡ true → EndsWell bytes → AreInner bytes
are_inner [] all ends = tt
are_inner (b ∷ []) all ends = label_name b (and_parts (is_label_byte b) Bool.true all).0 (ends 0 refl)
are_inner (b ∷ d ∷ bytes) all ends =
    let t = and_parts (is_label_byte b) (list_all is_label_byte (d ∷ bytes)) all in
    (label_inner b t.0, are_inner (d ∷ bytes) t.1 (λ k e. ends (suc k) (ap suc e)))

label_chars : (bytes : List ℕ) → 0 < length bytes → list_all is_label_byte bytes ≡ true → nat_eq (get_or bytes 0 0) 45 ≡ false → nat_eq (get_or bytes 0 0) 46 ≡ false → EndsWell bytes
    → LabelChars bytes
label_chars [] some all dash dot ends = absurd (omega arith)
label_chars (b ∷ bytes) some all dash dot ends = let t = and_parts (is_label_byte b) (list_all is_label_byte bytes) all in (label_begins b t.0 dash dot, inside bytes t.1 ends)
  where
    inside : (rest : List ℕ) → list_all is_label_byte rest ≡ true → EndsWell (b ∷ rest) → AreInner rest
    inside rest all ends = are_inner rest all (λ k e. ends (suc k) (ap suc e))

label_of : (bytes : List ℕ) → list_all is_label_byte bytes ≡ true → LabelChars bytes → IsLabel bytes
unfolding IsLabel
label_of bytes all chars =
    let a = ascii bytes all in
    (bytes, ap scalars (sym (chars-IsAscii bytes a)) ∙ scalars-chars bytes (IsUtf8-from_ascii bytes a), sym (encodes-IsAscii bytes a), chars)

pub label_there : (text : List ℕ) (at end : ℕ) → at < end → end ≤ length text → IsTrue (list_all is_label_byte (slice_range text at end)) → nat_eq (get_or text at 0) 45 ≡ false
    → nat_eq (get_or text at 0) 46 ≡ false → nat_eq (get_or text (end - 1) 0) 46 ≡ false → Between IsLabel text at end
label_there text at end lt high all dash dot last = record { form = label_of bytes all (label_chars bytes some all (first 45 dash) (first 46 dot) ends); low = omega arith; high = high }
  where
    bytes : List ℕ
    bytes = slice_range text at end

    size : length bytes ≡ end - at
    size = length-between text at end high

    some : 0 < length bytes
    some = omega (arith, size)

    first : (x : ℕ) → nat_eq (get_or text at 0) x ≡ false → nat_eq (get_or bytes 0 0) x ≡ false
    first x e = ap (λ (b : ℕ). nat_eq b x) (get_or-between text at end 0 0 (omega arith) ∙ ap (λ (k : ℕ). get_or text k 0) (plus_zero at)) ∙ e
      where
        plus_zero : (k : ℕ) → k + 0 ≡ k
        plus_zero k = omega arith

    ends : EndsWell bytes
    ends k e =
        let there : at + k ≡ end - 1 = omega (arith, size) in
        ap (λ (b : ℕ). nat_eq b 46) (get_or-between text at end k 0 (omega (arith, size)) ∙ ap (λ (j : ℕ). get_or text j 0) there) ∙ last
