-- Where the paths that are written lead.
use Rattle.std.proofs.Common.{◌≡◌, ◌≢◌, ◌∙◌, ℕ, ◌+◌, ◌%◌, ◌^◌, ◌<◌, ◌≤◌, List, [], ◌∷◌, ◌++◌, Bool, true, false, ◌&&◌, ◌||◌, Option, Some, None, All, IsUtf8, length, codes, decimal, refl, sym, ap, ap₂, arith, nat_le, if◌then◌else◌, option_map}
use Rattle.std.proofs.lemmas.Bool.{le-leb}
use Rattle.std.proofs.lemmas.Bool.Decides.{nat_tests}
use Rattle.std.proofs.lemmas.Fmt.{decimal_by_steps, decimal_is_IsNumeral, decimal_nonempty, length-decimal-le}
use Rattle.std.proofs.lemmas.List.{append-nil}
use Rattle.std.proofs.lemmas.List.Folds.{list_all-append}
use Rattle.std.specs.Char.{is_ascii_digit}
use Rattle.std.specs.Cmp.Lexicographic.{same_text}
use Rattle.std.specs.List.{list_all}
use Rattle.std.specs.Option.{option_and_then}
use Rattle.std.specs.Str.{bytes_eq}
use Rattle.std.specs.Str.Parse.{digits_value}
use Rattle.delta_base.specs.Ids.{number_of, text_of}
use Rattle.rpc_calls.specs.Paths.{path_for, segment_of}
use Rattle.rpc_calls.specs.Requests.{FitsPath}
use Rattle.rpc_calls.specs.Routes.{is_version, patch_route, route_behind, route_in, route_of, route_of_one, route_of_two}
use Rattle.rpc_calls.specs.declared.route.Route.{Route}
use Rattle.rpc_calls.specs.declared.route.Route.TheVariants as route
use Rattle.delta_base.proofs.IdLemmas.{length-text_of}
use Rattle.rpc_calls.proofs.PathLemmas.{cut_one, cut_two}
use Rattle.rpc_calls.proofs.SegmentLemmas.{no_slash, read_again}

other : (name word : List ℕ) → name ≢ word → bytes_eq name word ≡ false
other name word differs = by_test (bytes_eq name word) refl
  where
    by_test : (test : Bool) → bytes_eq name word ≡ test → test ≡ false
    by_test true is = absurd (differs (same_text name word (sym is)))
    by_test false is = refl

-- ---- one segment

route_of_name : (name : List ℕ) → FitsPath name → route_of_one name ≡ Some (route.Log name)
route_of_name name fits =
    ap₂ (λ (a b : Bool). if a || b then None else Some (route.Log name)) (other name [] fits.0) (other name (codes "$") fits.1)

pub one_again : (name : List ℕ) → All (λ b. b < 256) name → IsUtf8 name → FitsPath name → route_of (path_for (name ∷ [])) ≡ Some (route.Log name)
one_again name bytes utf8 fits =
    ap route_in (cut_one (path_for (name ∷ [])) [] (segment_of name) (ap (λ (t : List ℕ). 47 ∷ t) (append-nil (segment_of name))) refl (no_slash name bytes))
    ∙ ap (λ (text : Option (List ℕ)). option_and_then route_of_one text) (read_again name bytes utf8)
    ∙ route_of_name name fits

-- ---- two segments

behind_name : (name second : List ℕ) → FitsPath name → route_of_two name second ≡ route_behind name second
behind_name name second fits = rw (other name [] fits.0, other name (codes "$") fits.1) refl

pub two_again : (name second : List ℕ) → All (λ b. b < 256) name → IsUtf8 name → All (λ b. b < 256) second → IsUtf8 second → FitsPath name
    → route_of (path_for (name ∷ (second ∷ []))) ≡ route_behind name second
two_again name second bytes utf8 second_bytes second_utf8 fits =
    ap route_in (cut_two (path_for (name ∷ (second ∷ []))) [] (segment_of name ++ 47 ∷ (segment_of second ++ [])) (segment_of name) (segment_of second) refl refl
    (ap (λ (t : List ℕ). segment_of name ++ 47 ∷ t) (append-nil (segment_of second))) (no_slash name bytes) (no_slash second second_bytes))
    ∙ ap₂ (λ (a b : Option (List ℕ)). option_and_then (λ n. option_and_then (route_of_two n) b) a) (read_again name bytes utf8) (read_again second second_bytes second_utf8)
    ∙ behind_name name second fits

-- ---- versions and ids

digit_passes : (n : ℕ) → n < 10 → is_ascii_digit (48 + n) ≡ true
digit_passes n small = grind (arith, nat_tests)

are_digits : (n : ℕ) → n < 2 ^ 64 → list_all is_ascii_digit (decimal n) ≡ true
are_digits = decimal_by_steps (λ n digits. list_all is_ascii_digit digits ≡ true)
    (λ n small. ap (λ b. b && true) (digit_passes n small))
    (λ n digits more front. list_all-append is_ascii_digit digits ((48 + n % 10) ∷ [])
    ∙ ap₂ ◌&&◌ front (ap (λ b. b && true) (digit_passes (n % 10) (omega arith))))

version_is : (n : ℕ) → n ≤ 9999999999 → is_version (decimal n) ≡ true
version_is n small =
    let low : n < 2 ^ 64 = omega arith in
    let some : nat_le 1 (length (decimal n)) ≡ true = le-leb _ _ (decimal_nonempty n low) in
    let few : nat_le (length (decimal n)) 10 ≡ true = le-leb _ _ (length-decimal-le 10 n (omega arith) (omega arith) low) in
    ap₂ ◌&&◌ some (ap₂ ◌&&◌ few (are_digits n low))

-- what stands behind a name and is no version
abbrev behind_no_version : List ℕ → List ℕ → Option Route
behind_no_version name second = if bytes_eq second (codes "run") then Some (route.Run name) else option_map (patch_route name) (number_of second)

pub version_again : (name : List ℕ) (n : ℕ) → n ≤ 9999999999 → route_behind name (decimal n) ≡ Some (route.Version name n)
version_again name n small =
    ap (λ b. if b then Some (route.Version name (digits_value 10 (decimal n))) else behind_no_version name (decimal n)) (version_is n small)
    ∙ ap (λ (m : ℕ). Some (route.Version name m)) (decimal_is_IsNumeral n (omega arith)).1

no_version : (n : ℕ) → is_version (text_of n) ≡ false
no_version n = ap (λ (m : ℕ). nat_le 1 m && (nat_le m 10 && list_all is_ascii_digit (text_of n))) (length-text_of n)

no_run : (n : ℕ) → text_of n ≢ codes "run"
no_run n is = let long = length-text_of n in let short : length (text_of n) ≡ 3 = ap length is in omega (arith, long, short)

pub id_again : (name : List ℕ) (n : ℕ) → number_of (text_of n) ≡ Some n → route_behind name (text_of n) ≡ Some (patch_route name n)
id_again name n is =
    ap (λ b. if b then Some (route.Version name (digits_value 10 (text_of n))) else behind_no_version name (text_of n)) (no_version n)
    ∙ ap (λ b. if b then Some (route.Run name) else option_map (patch_route name) (number_of (text_of n))) (other (text_of n) (codes "run") (no_run n))
    ∙ ap (λ (m : Option ℕ). option_map (patch_route name) m) is

pub run_again : (name : List ℕ) → route_behind name (codes "run") ≡ Some (route.Run name)
run_again name = refl
