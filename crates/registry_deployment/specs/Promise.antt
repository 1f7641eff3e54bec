-- What a registry's life promises, by the events that are found at its end.
use Rattle.std.specs.Prelude.{◌≡◌, ◌⊎◌, ℕ, List, [], ◌∷◌, ◌++◌, Some}
use mathlib.Core.List.{IsPrefix}
use Rattle.registry_core.specs.declared.event.Event.{Event}
use Rattle.registry_core.specs.Answers.{made, failed}
use Rattle.registry_core.specs.Events.{IsRegistry}
use Rattle.registry_core.specs.Replies.{RegistryCall, RegistryReply, MayReply}
use Rattle.log_registry.specs.State.{events_in}
use Rattle.turn_cell.specs.Turns.{IsIn}
use Rattle.shared_registry.specs.History.{events_seen}
use Rattle.registry_deployment.specs.Calls.{HandsInEvent, EndsSo, SeenOnRegistry}
use Rattle.registry_deployment.specs.History.{RegistryPassRun, RegistryRun, IsRegistryIn}

-- The reply is one that the events give at a point, no earlier than all that the pass had seen,
-- and no later than what it saw then. The event that it tells as made stands next behind it.
pub record IsGivenByEvents (slots : ℕ) (events : List Event)
    (seen : SeenOnRegistry) : Type 0 where
  pub point : List Event
  pub of_events : IsPrefix point events
  pub had_seen : IsPrefix (events_seen seen.before) point
  pub seen_then : IsPrefix point (events_seen seen.after)
  pub gives : (reply : RegistryReply) → seen.reply ≡ Some reply
      → MayReply slots seen.call point reply
  pub stands : (event : Event) → EndsSo seen.call seen.reply (made event)
      → IsPrefix (point ++ event ∷ []) events

-- An event that a call of a run handed in: one that was told as made, one that was told a fault of
-- the disk, or one without an answer at the stop.
pub data EventWasBrought {D : Type 0} (run : RegistryRun D) (event : Event) : Type 0 where
  acknowledged : (pass : RegistryPassRun) → IsIn pass run.passes → (seen : SeenOnRegistry)
      → IsIn seen pass.calls → HandsInEvent seen.call event
      → EndsSo seen.call seen.reply (made event) → EventWasBrought run event
  in_doubt : (pass : RegistryPassRun) → IsIn pass run.passes → (seen : SeenOnRegistry)
      → IsIn seen pass.calls → HandsInEvent seen.call event
      → EndsSo seen.call seen.reply failed → EventWasBrought run event
  unanswered : (pass : RegistryPassRun) → IsIn pass run.passes → (call : RegistryCall)
      → pass.in_call ≡ Some call → HandsInEvent call event → EventWasBrought run event

-- One list of events, which is a registry's, and one number of slots. The events of each run of
-- the server, and whatever a stop left, begin it; each reply of each pass is given; and no event
-- is in it but those that the first run found and those that were handed in.
pub record KeepsRegistryPromise {D : Type 0} (image : List ℕ) (runs : List (RegistryRun D))
    (slots : ℕ) (events : List Event) : Type 0 where
  pub is_registry : IsRegistry slots events
  pub slots_stay : (run : RegistryRun D) → IsIn run runs → run.made.origin.slots ≡ slots
  pub runs_begin : (run : RegistryRun D) → IsIn run runs
      → IsPrefix (events_in run.registry) events
  pub images_begin : (run : RegistryRun D) → IsIn run runs → (found_slots : ℕ)
      (left : List Event) → IsRegistryIn run.image found_slots left
      → (found_slots ≡ slots) × IsPrefix left events
  pub replies : (run : RegistryRun D) → IsIn run runs → (pass : RegistryPassRun)
      → IsIn pass run.passes → (seen : SeenOnRegistry) → IsIn seen pass.calls
      → IsGivenByEvents slots events seen
  pub brought : (first_slots : ℕ) (first : List Event) → IsRegistryIn image first_slots first
      → (event : Event) → IsIn event events
      → IsIn event first
      ⊎ ((run : RegistryRun D) × IsIn run runs × EventWasBrought run event)
