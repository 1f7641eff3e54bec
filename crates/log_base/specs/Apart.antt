-- Two texts, and two ids or none, are the same or they aren't.
use Rattle.std.specs.Prelude.{◌≡◌, ◌≢◌, ◌⊎◌, ℕ, List, [], ◌∷◌, Option, Some, None}
use Rattle.std.proofs.Common.{inl, inr, ap, refl, ⊎_elim}
use mathlib.Core.Logic.{dite}
use native.Mathlib.Decide.{ℕ_discrete}
use Rattle.delta_base.specs.declared.id.Id.{Id}

pub texts_apart : (a b : List ℕ) → (a ≡ b) ⊎ (a ≢ b)
texts_apart [] [] = inl refl
texts_apart [] (y ∷ ys) = inr (λ e. cc)
texts_apart (x ∷ xs) [] = inr (λ e. cc)
texts_apart (x ∷ xs) (y ∷ ys) = dite (ℕ_discrete x y)
    (λ e. ⊎_elim (λ (f : xs ≡ ys). inl (λ i. e i ∷ f i))
    (λ (ne : xs ≢ ys). inr (λ g. ne cc)) (texts_apart xs ys))
    (λ ne. inr (λ g. ne cc))

pub ids_apart : (a b : Option Id) → (a ≡ b) ⊎ (a ≢ b)
ids_apart None None = inl refl
ids_apart None (Some b) = inr (λ e. cc)
ids_apart (Some a) None = inr (λ e. cc)
ids_apart (Some a) (Some b) = dite (ℕ_discrete a.0 b.0)
    (λ e. inl (ap (λ (n : ℕ). Some (record { 0 = n })) e))
    (λ ne. inr (λ g. let same : a ≡ b = cc in ne (ap (λ (id : Id). id.0) same)))
