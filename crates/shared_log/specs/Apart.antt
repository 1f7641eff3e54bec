-- Two patches are the same or they aren't, and so are two runs.
use Rattle.std.specs.Prelude.{◌≡◌, ◌≢◌, ◌⊎◌, List, [], ◌∷◌}
use Rattle.std.proofs.Common.{inl, inr, refl, ap, ⊎_elim}
use mathlib.Core.Logic.{dite}
use native.Mathlib.Decide.{ℕ_discrete}
use Rattle.log_base.specs.Apart.{texts_apart, ids_apart}
use Rattle.chain_core.specs.declared.chain.Patch.{Patch}

pub patches_apart : (a b : Patch) → (a ≡ b) ⊎ (a ≢ b)
patches_apart a b = dite (ℕ_discrete a.id.0 b.id.0)
    (λ e. ⊎_elim
    (λ (f : a.prev ≡ b.prev). ⊎_elim
    (λ (g : a.text ≡ b.text). inl (λ i. record { id = record { 0 = e i }; prev = f i; text = g i }))
    (λ (ne : a.text ≢ b.text). inr (λ h. ne (ap (λ (p : Patch). p.text) h)))
    (texts_apart a.text b.text))
    (λ (ne : a.prev ≢ b.prev). inr (λ h. ne (ap (λ (p : Patch). p.prev) h)))
    (ids_apart a.prev b.prev))
    (λ ne. inr (λ h. ne (ap (λ (p : Patch). p.id.0) h)))

pub runs_apart : (a b : List Patch) → (a ≡ b) ⊎ (a ≢ b)
runs_apart [] [] = inl refl
runs_apart [] (y ∷ ys) = inr (λ e. cc)
runs_apart (x ∷ xs) [] = inr (λ e. cc)
runs_apart (x ∷ xs) (y ∷ ys) = ⊎_elim
    (λ (e : x ≡ y). ⊎_elim (λ (f : xs ≡ ys). inl (λ i. e i ∷ f i))
    (λ (ne : xs ≢ ys). inr (λ g. ne cc)) (runs_apart xs ys))
    (λ (ne : x ≢ y). inr (λ g. ne cc)) (patches_apart x y)
