-- A text without a front, as a match on what is left.
use Rattle.std.proofs.Common.{◌≡◌, ◌+◌, ℕ, true, false, List, ◌++◌, length, take, drop, Option, Some, None, nat_eq, MatchOption, IfSome, IfNone, Bor, sym, ap, ◌∙◌}
use Rattle.std.specs.Cmp.Lexicographic.{pointwise}
use Rattle.std.proofs.lemmas.Bool.Decides.{Decides-eqb}
use Rattle.std.proofs.lemmas.Slice.Eq.{strip_prefix_is}

abbrev pub Strips : List ℕ → List ℕ → Option (Bor (List ℕ)) → Type 0
Strips text front r = MatchOption r (pointwise nat_eq (take (length front) text) front ≡ false) (λ x. (pointwise nat_eq (take (length front) text) front ≡ true) × (x.now ≡ drop (length front) text) × (length x.now + length front ≡ length text))

pub stripped_some : (text front shown : List ℕ) (r : Option (Bor (List ℕ))) → Strips text front r → front ≡ shown → IfSome r (λ rest. text ≡ shown ++ rest.now)
stripped_some text front shown None strips same = tt
stripped_some text front shown (Some rest) strips same =
    let parts : text ≡ front ++ rest.now = strip_prefix_is Decides-eqb text front (Some rest) strips in
    parts ∙ ap (λ (t : List ℕ). t ++ rest.now) same

pub stripped_none : (text front shown : List ℕ) (r : Option (Bor (List ℕ))) → Strips text front r → front ≡ shown → IfNone r ((rest : List ℕ) → text ≡ shown ++ rest → ⊥)
stripped_none text front shown None strips same = λ rest parts.
    let none : (rest : List ℕ) → text ≡ front ++ rest → ⊥ = strip_prefix_is Decides-eqb text front None strips in
    none rest (parts ∙ ap (λ (t : List ℕ). t ++ rest) (sym same))
stripped_none text front shown (Some rest) strips same = tt
