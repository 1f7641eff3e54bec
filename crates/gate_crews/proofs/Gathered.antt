-- Gates that are laid aside and gathered again.
use Rattle.std.proofs.Common.{◌≡◌, ℕ, ◌-◌, ◌≤◌, List, ◌++◌, length, take, drop, ◌∙◌, ap, arith, length-append, length-drop}
use Rattle.std.specs.Prelude.{reverse}
use Rattle.std.proofs.lemmas.List.{drop_at, length-reverse, length-take-le, reverse-reverse, take_at}

module _ {G : Type 0} (gates worked all : List G) (workers : ℕ) (is : all ≡ worked ++ drop workers gates) (long : length worked ≡ workers) where
  pub front : take workers all ≡ worked
  front = ap (take workers) is ∙ take_at worked (drop workers gates) workers long

  pub idle : drop workers all ≡ drop workers gates
  idle = ap (drop workers) is ∙ drop_at worked (drop workers gates) workers long

  pub count : workers ≤ length gates → length all ≡ length gates
  count some = omega (arith, some, long, ap length is, length-append worked (drop workers gates), length-drop workers gates)

-- all gates, where the first ones worked and the others were laid aside
pub gathered : {G : Type 0} (gates worked aside all : List G) (workers : ℕ) → all ≡ worked ++ reverse aside
    → aside ≡ reverse (drop workers gates) → all ≡ worked ++ drop workers gates
gathered {G} gates worked aside all workers is laid =
    is ∙ ap (λ (l : List G). worked ++ reverse l) laid ∙ ap (λ (l : List G). worked ++ l) (reverse-reverse (drop workers gates))

pub laid_length : {G : Type 0} (gates laid : List G) (workers : ℕ) → laid ≡ take workers gates → workers ≤ length gates → length laid ≡ workers
laid_length gates laid workers is some = ap length is ∙ length-take-le workers gates some

pub aside_length : {G : Type 0} (gates aside : List G) (workers : ℕ) → aside ≡ reverse (drop workers gates) → length aside ≡ length gates - workers
aside_length gates aside workers is = ap length is ∙ length-reverse (drop workers gates) ∙ length-drop workers gates
