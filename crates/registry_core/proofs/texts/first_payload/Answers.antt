use Rattle.std.proofs.Common.{◌≡◌, ℕ, ◌+◌, ◌/◌, ◌%◌, ◌<◌, ◌≤◌, List, [], ◌∷◌, ◌++◌, ap, sym, ◌∙◌, arith}
use Rattle.std.proofs.lemmas.Fmt.{decimal_digit, decimal_step}
use Rattle.registry_core.specs.Texts.{slots_payload}
use Rattle.registry_core.proofs.texts.first_payload.Goals as goal

one_digit : (slots : ℕ) → slots < 10 → 83 ∷ 32 ∷ (48 + slots % 10) ∷ [] ≡ slots_payload slots
one_digit slots small =
    let same : slots % 10 ≡ slots = omega (arith, small) in
    ap (λ (d : ℕ). 83 ∷ 32 ∷ (48 + d) ∷ []) same ∙ ap (λ (digits : List ℕ). 83 ∷ 32 ∷ digits) (sym (decimal_digit slots small))

two_digits : (slots : ℕ) → 10 ≤ slots → slots < 100 → 83 ∷ 32 ∷ (48 + slots / 10) ∷ (48 + slots % 10) ∷ [] ≡ slots_payload slots
two_digits slots low high =
    let tens : slots / 10 < 10 = omega (arith, high) in
    let digits = decimal_step slots low (omega (arith, high)) ∙ ap (λ (ds : List ℕ). ds ++ (48 + slots % 10) ∷ []) (decimal_digit (slots / 10) tens) in
    ap (λ (ds : List ℕ). 83 ∷ 32 ∷ ds) (sym digits)

pub returns-then-slots-lt10-clause-payload : goal.returns-then-slots-lt10-clause-payload
returns-then-slots-lt10-clause-payload c = one_digit c.args.slots c.if-slots-lt10.true

pub returns-clause-payload : goal.returns-clause-payload
returns-clause-payload c = two_digits c.args.slots c.if-slots-lt10.false (omega (arith, c.requires))
