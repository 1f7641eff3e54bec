-- What is told of bytes over several calls.
use Rattle.std.proofs.Common.{◌≡◌, ℕ, ◌+◌, ◌-◌, List, ◌++◌, length, take, drop, subst, take-append-drop, Option, Some, None, sym, ap, ◌∙◌, arith}
use Rattle.std.specs.Io.KnownBytes.{Appends, Keeps}
use Rattle.std.proofs.KnownBytes.{Appends-trans}
use Rattle.std.proofs.lemmas.List.{take-take, drop-take, take_rest}

pub kept_after : (a b c : Option (List ℕ)) (front : List ℕ) → Appends a b front → Keeps b c → Appends a c front
kept_after None b c front p q = tt
kept_after (Some x) None c front p q = absurd p
kept_after (Some x) (Some y) None front p q = absurd q
kept_after (Some x) (Some y) (Some z) front p q = q ∙ p

pub take-add : (m n : ℕ) (xs : List ℕ) → take (m + n) xs ≡ take m xs ++ take n (drop m xs)
take-add m n xs =
    sym (take-append-drop m (take (m + n) xs)) ∙ ap (λ (l : List ℕ). l ++ drop m (take (m + n) xs)) (take-take m (m + n) xs (omega arith)) ∙ ap (λ (l : List ℕ). take m xs ++ l) (drop-take m n xs)

-- a front and what was written of the rest is a longer front
pub appended : (a b c : Option (List ℕ)) (text : List ℕ) (done n : ℕ) → Appends a b (take done text) → Appends b c (take n (take (length text - done) (drop done text))) → Appends a c (take (done + n) text)
appended a b c text done n p q =
    let same : take n (take (length text - done) (drop done text)) ≡ take n (drop done text) = ap (take n) (take_rest text done) in
    subst (Appends a c) (ap (λ (l : List ℕ). take done text ++ l) same ∙ sym (take-add done n text)) (Appends-trans a b c (take done text) (take n (take (length text - done) (drop done text))) p q)
