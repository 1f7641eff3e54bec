-- Lists that begin others, histories and their events.
use Rattle.std.proofs.Common.{◌≡◌, ⊎_elim, ℕ, zero, suc, List, [], ◌∷◌, ◌++◌, length, Some, refl, sym, ◌∙◌, ap, subst}
use Rattle.std.specs.Prelude.{slice_get}
use Rattle.std.proofs.lemmas.List.{map-append}
use mathlib.Core.List.{IsPrefix}
use Rattle.registry_core.specs.declared.event.Event.{Event}
use Rattle.turn_cell.specs.declared.view.Known.{Known}
use Rattle.turn_cell.specs.Turns.{IsIn}
use Rattle.shared_registry.specs.History.{known_events}

-- ---- lists

-- what stands in a front stands in the whole
pub got_on : {A : Type 0} (front rest : List A) (k : ℕ) (x : A) → slice_get front k ≡ Some x → slice_get (front ++ rest) k ≡ Some x
got_on [] rest k x is = absurd (cc)
got_on (y ∷ front) rest zero x is = is
got_on (y ∷ front) rest (suc k) x is = got_on front rest k x is

pub got_in : {A : Type 0} (front whole : List A) (k : ℕ) (x : A) → IsPrefix front whole → slice_get front k ≡ Some x → slice_get whole k ≡ Some x
got_in {A} front whole k x begins is = subst (λ (xs : List A). slice_get xs k ≡ Some x) begins.1 (got_on front begins.0 k x is)

pub got_last : {A : Type 0} (front : List A) (x : A) → slice_get (front ++ x ∷ []) (length front) ≡ Some x
got_last [] x = refl
got_last (y ∷ front) x = got_last front x

pub one_more : {A : Type 0} (front : List A) (x : A) → IsPrefix front (front ++ x ∷ [])
one_more front x = (x ∷ [], refl)

-- ---- histories

pub events_append : (before after : List (Known Event)) → known_events (before ++ after) ≡ known_events before ++ known_events after
events_append before after = map-append (λ (known : Known Event). known.content) before after

-- the events of a history that goes on go on
pub events_go_on : (before after : List (Known Event)) → IsPrefix before after → IsPrefix (known_events before) (known_events after)
events_go_on before after goes_on = (known_events goes_on.0, sym (events_append before goes_on.0) ∙ ap known_events goes_on.1)

-- an entry of a history that has this event
pub in_history : (h : List (Known Event)) (event : Event) → IsIn event (known_events h) → (k : ℕ) × (known : Known Event) × (slice_get h k ≡ Some known) × (event ≡ known.content)
in_history [] event i = absurd i
in_history (first ∷ h) event i = ⊎_elim (λ (e : event ≡ first.content). (zero, first, refl, e))
    (λ (j : IsIn event (known_events h)). let there = in_history h event j in (suc there.0, there.1, there.2, there.3)) i

pub got_event : (h : List (Known Event)) (k : ℕ) (known : Known Event) → slice_get h k ≡ Some known → slice_get (known_events h) k ≡ Some known.content
got_event [] k known is = absurd (cc)
got_event (first ∷ h) zero known is = let same : first ≡ known = cc in ap (λ (x : Known Event). Some x.content) same
got_event (first ∷ h) (suc k) known is = got_event h k known is
