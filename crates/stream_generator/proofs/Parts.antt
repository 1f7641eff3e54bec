-- What stands behind parts that were appended, made and read.
use Rattle.std.proofs.Common.{◌≡◌, ℕ, zero, suc, ◌+◌, ◌-◌, ◌<◌, ◌≤◌, List, [], ◌++◌, length, take, drop, refl, sym, ap, ◌∙◌, arith, append_assoc, take-append-drop}
use Rattle.std.proofs.lemmas.List.{drop-drop, drop_all, take-append-le, take_all}
use Rattle.stream_generator.specs.Generator.{patch_text, patches_from}

-- a patch that was read is followed by the next one
pub rest_made : (old new : List ℕ) (at next more : ℕ) → length old ≤ at → 0 < more → new ≡ patch_text next → drop 0 new ++ patches_from (next + 1) (more - 1) ≡ drop at old ++ patches_from next more
rest_made old new at next zero low some is = absurd (omega (arith, some))
rest_made old new at next (suc more) low some is =
    let one : suc more - 1 ≡ more = omega arith in
    rw (drop_all at old low, is, one) refl

-- the first n bytes were copied in front of others, and the rest is behind them
pub rest_taken : (xs more into copied : List ℕ) (at n : ℕ) → copied ≡ take n (drop at xs) → length copied ≡ n → drop at xs ++ more ≡ take n (copied ++ into) ++ (drop (at + n) xs ++ more)
rest_taken xs more into copied at n is whole =
    let front : take n (copied ++ into) ≡ copied = take-append-le n copied into (omega (arith, whole)) ∙ take_all n copied (omega (arith, whole)) in
    let parts : drop at xs ≡ copied ++ drop (at + n) xs = sym (take-append-drop n (drop at xs)) ∙ ap (λ (l : List ℕ). l ++ drop n (drop at xs)) (sym is) ∙ ap (λ (l : List ℕ). copied ++ l) (drop-drop n at xs) in
    ap (λ (l : List ℕ). l ++ more) parts ∙ append_assoc copied (drop (at + n) xs) more ∙ ap (λ (l : List ℕ). l ++ (drop (at + n) xs ++ more)) (sym front)
