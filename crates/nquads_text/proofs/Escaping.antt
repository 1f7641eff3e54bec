-- Bytes that are written as themselves in a string.
use Rattle.std.proofs.Common.{◌≡◌, ℕ, true, zero, suc, ◌+◌, ◌-◌, ◌<◌, ◌≤◌, List, [], ◌∷◌, ◌++◌, length, take, drop, get_or, IsTrue, refl, sym, ap, ◌∙◌, arith, append_assoc}
use Rattle.std.specs.List.{flat_map, list_all}
use Rattle.std.proofs.lemmas.Bool.{and_parts}
use Rattle.std.proofs.lemmas.List.{drop_more}
use Rattle.std.proofs.lemmas.Bool.Decides.{nat_tests}
use Rattle.rdf_terms.specs.Line.{escaped}
use Rattle.nquads_text.specs.Reading.{is_plain_string}

abbrev IsSame : List ℕ → ℕ → ℕ → Type 0
IsSame text at end = (k : ℕ) → at ≤ k → k < end → escaped (get_or text k 0) ≡ get_or text k 0 ∷ []

pub string_itself : (b : ℕ) → is_plain_string b ≡ true → escaped b ≡ b ∷ []
string_itself b e = grind (arith, nat_tests)

pub plain_itself : (bytes : List ℕ) → IsTrue (list_all is_plain_string bytes) → flat_map escaped bytes ≡ bytes
plain_itself [] all = refl
plain_itself (b ∷ bytes) all =
    let p = and_parts (is_plain_string b) (list_all is_plain_string bytes) all in
    ap (λ (t : List ℕ). t ++ flat_map escaped bytes) (string_itself b p.0) ∙ ap (λ (t : List ℕ). b ∷ t) (plain_itself bytes p.1)

plus_zero : (at : ℕ) → at ≡ at + 0
plus_zero at = omega arith

plus_one : (at n : ℕ) → (at + 1) + n ≡ at + suc n
plus_one at n = omega arith

run_of : (text : List ℕ) (n at : ℕ) → at + n ≤ length text → IsSame text at (at + n) → flat_map escaped (drop at text) ≡ take n (drop at text) ++ flat_map escaped (drop (at + n) text)
run_of text zero at le same = ap (λ (k : ℕ). flat_map escaped (drop k text)) (plus_zero at)
run_of text (suc n) at le same =
    let b : ℕ = get_or text at 0 in
    let first : drop at text ≡ b ∷ drop (at + 1) text = drop_more text at 0 (omega arith) in
    let others = run_of text n (at + 1) (omega arith) (λ k low high. same k (omega arith) (omega arith)) in
    ap (flat_map escaped) first
    ∙ ap (λ (t : List ℕ). t ++ flat_map escaped (drop (at + 1) text)) (same at (omega arith) (omega arith))
    ∙ ap (λ (t : List ℕ). b ∷ t) others
    ∙ ap (λ (k : ℕ). b ∷ (take n (drop (at + 1) text) ++ flat_map escaped (drop k text))) (plus_one at n)
    ∙ ap (λ (t : List ℕ). take (suc n) t ++ flat_map escaped (drop (at + suc n) text)) (sym first)

-- a run up to a place
pub run_written : (text out : List ℕ) (at run : ℕ) → at ≤ run → run ≤ length text → IsSame text at run
    → (out ++ take (run - at) (drop at text)) ++ flat_map escaped (drop run text) ≡ out ++ flat_map escaped (drop at text)
run_written text out at run low high same =
    let n : ℕ = run - at in
    let there : at + n ≡ run = omega arith in
    append_assoc out (take n (drop at text)) (flat_map escaped (drop run text))
    ∙ ap (λ (k : ℕ). out ++ (take n (drop at text) ++ flat_map escaped (drop k text))) (sym there)
    ∙ ap (λ (t : List ℕ). out ++ t) (sym (run_of text n at (omega arith) (λ k a b. same k a (omega arith))))

-- and the byte behind it
pub byte_written : (text out : List ℕ) (run : ℕ) → run < length text → (out ++ escaped (get_or text run 0)) ++ flat_map escaped (drop (run + 1) text) ≡ out ++ flat_map escaped (drop run text)
byte_written text out run lt =
    append_assoc out (escaped (get_or text run 0)) (flat_map escaped (drop (run + 1) text)) ∙ ap (λ (t : List ℕ). out ++ flat_map escaped t) (sym (drop_more text run 0 lt))
