-- The texts of the first patches of a run, one behind another.
use Rattle.std.proofs.Common.{◌≡◌, ℕ, zero, suc, ◌+◌, ◌<◌, ◌≤◌, List, [], ◌∷◌, ◌++◌, length, take, get_or, refl, sym, ap, ◌∙◌, append_assoc, append-nil, length-append, arith}
use Rattle.chain_core.specs.declared.chain.Patch.{Patch}
use Rattle.chain_core.specs.Runs.{run_text}

-- the text of a run that goes on
text-cons : (patch : Patch) (run : List Patch) → run_text (patch ∷ run) ≡ patch.text ++ run_text run
text-cons patch [] = sym (append-nil patch.text)
text-cons patch (next ∷ run) = refl

-- one patch more
pub text_more : (run : List Patch) (place : ℕ) (patch : Patch) → place < length run → patch ≡ get_or run place patch → run_text (take (place + 1) run) ≡ run_text (take place run) ++ patch.text
text_more [] place patch within is = absurd (omega (arith, within))
text_more (first ∷ run) zero patch within is = ap (λ (p : Patch). p.text) (sym is)
text_more (first ∷ run) (suc place) patch within is =
    let on : suc place + 1 ≡ suc (place + 1) = omega arith in
    ap (λ (n : ℕ). run_text (take n (first ∷ run))) on
    ∙ text-cons first (take (place + 1) run) ∙ ap (λ (t : List ℕ). first.text ++ t) (text_more run place patch (omega (arith, within)) is)
    ∙ sym (append_assoc first.text (run_text (take place run)) patch.text) ∙ ap (λ (t : List ℕ). t ++ patch.text) (sym (text-cons first (take place run)))

-- no more than the whole
pub text_within : (run : List Patch) (place : ℕ) → length (run_text (take place run)) ≤ length (run_text run)
text_within [] zero = omega arith
text_within [] (suc place) = omega arith
text_within (first ∷ run) zero = omega arith
text_within (first ∷ run) (suc place) =
    omega (arith, ap length (text-cons first (take place run)), ap length (text-cons first run), length-append first.text (run_text (take place run)), length-append first.text (run_text run), text_within run place)
