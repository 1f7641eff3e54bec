-- Two events are the same or they aren't.
use Rattle.std.specs.Prelude.{◌≡◌, ◌≢◌, ◌⊎◌}
use Rattle.std.proofs.Common.{inl, inr, ap, ⊎_elim}
use mathlib.Core.Logic.{dite}
use native.Mathlib.Decide.{ℕ_discrete}
use Rattle.log_base.specs.Apart.{texts_apart}
use Rattle.log_base.specs.declared.source_info.SourceInfo.{SourceInfo}
use Rattle.registry_core.specs.declared.event.Event.{Event}
use Rattle.registry_core.specs.declared.event.Event.TheVariants.{Created, Renamed, Removed}

sources_apart : (a b : SourceInfo) → (a ≡ b) ⊎ (a ≢ b)
sources_apart a b = dite (ℕ_discrete a.slot b.slot)
    (λ e. dite (ℕ_discrete a.id.0 b.id.0)
    (λ f. ⊎_elim (λ (g : a.name ≡ b.name). ⊎_elim
    (λ (h : a.uri ≡ b.uri). inl
    (λ i. record { slot = e i; id = record { 0 = f i }; name = g i; uri = h i }))
    (λ (ne : a.uri ≢ b.uri). inr (λ s. ne (ap (λ (x : SourceInfo). x.uri) s)))
    (texts_apart a.uri b.uri))
    (λ (ne : a.name ≢ b.name). inr (λ s. ne (ap (λ (x : SourceInfo). x.name) s)))
    (texts_apart a.name b.name))
    (λ ne. inr (λ s. ne (ap (λ (x : SourceInfo). x.id.0) s))))
    (λ ne. inr (λ s. ne (ap (λ (x : SourceInfo). x.slot) s)))

pub events_apart : (a b : Event) → (a ≡ b) ⊎ (a ≢ b)
events_apart (Created a) (Created b) = ⊎_elim (λ (e : a ≡ b). inl (ap Created e))
    (λ (ne : a ≢ b). inr (λ s. ne cc)) (sources_apart a b)
events_apart (Created a) (Renamed slot name) = inr (λ s. cc)
events_apart (Created a) (Removed slot) = inr (λ s. cc)
events_apart (Renamed slot name) (Created b) = inr (λ s. cc)
events_apart (Renamed slot name) (Renamed other_slot other_name) = dite (ℕ_discrete slot other_slot)
    (λ e. ⊎_elim (λ (f : name ≡ other_name). inl (λ i. Renamed (e i) (f i)))
    (λ (ne : name ≢ other_name). inr (λ s. ne cc)) (texts_apart name other_name))
    (λ ne. inr (λ s. ne cc))
events_apart (Renamed slot name) (Removed other_slot) = inr (λ s. cc)
events_apart (Removed slot) (Created b) = inr (λ s. cc)
events_apart (Removed slot) (Renamed other_slot other_name) = inr (λ s. cc)
events_apart (Removed slot) (Removed other_slot) =
    dite (ℕ_discrete slot other_slot) (λ e. inl (ap Removed e)) (λ ne. inr (λ s. ne cc))
