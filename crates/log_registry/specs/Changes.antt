-- One call on a registry: what it makes of the events and of the disk.
use Rattle.std.specs.Prelude.{◌≡◌, ◌≢◌, ℕ, [], ◌∷◌, ◌++◌, Option, Some, None}
use Rattle.log_base.specs.declared.phase.Phase.{Phase}
use Rattle.disk_model.specs.declared.disk.Disk.{Ghosts}
use Rattle.log_journal.specs.Writing.{doubt_left}
use Rattle.log_journal.specs.Written.{DiskWent, Written}
use Rattle.registry_core.specs.declared.event.Event.{Event}
use Rattle.registry_core.specs.Answers.{Ending, made, told, failed, wanting}
use Rattle.registry_core.specs.Replies.{RegistryCall, RegistryReply, event_by, ending, MayReply}
use Rattle.registry_core.specs.Texts.{event_text, registry_payloads}
use Rattle.log_registry.specs.Stands.{StandsForRegistry, event_payload}
use Rattle.log_registry.specs.State.{StateView, events_in}

-- how a call ends whose event is written, by the phase that failed, if one did
abbrev pub ending_by : Option Phase → Event → Ending
ending_by None event = made event
ending_by (Some phase) event = failed

module _ {D : Type 0} where
  -- the event was written, and this phase failed, or none
  abbrev pub IsWritten : Option Phase → Event → StateView D → StateView D → Ending → Type 0
  IsWritten end event before after ending =
      (ending ≡ ending_by end event) × (after.doubt ≡ doubt_left end before.doubt event)

  -- neither the events nor the disk changed
  abbrev pub IsUntouched : StateView D → StateView D → Type 0
  IsUntouched before after =
      (after.entries ≡ before.entries) × (after.doubt ≡ before.doubt) × (after.disk ≡ before.disk)

  -- what becomes of the event that is due, by how the call ends
  abbrev pub Stays : Ending → Option Event → ℕ → StateView D → StateView D → Type 0
  Stays (made event) due by before after =
      (due ≡ Some event) × (after.doubt ≡ None)
      × (after.entries ≡ before.entries ++ record { event = event; by = by } ∷ [])
  Stays told due by before after = (due ≡ None) × IsUntouched before after
  Stays failed due by before after =
      (event : Event) × (due ≡ Some event) × (after.entries ≡ before.entries)
      × ((phase : Phase) × (after.doubt ≡ doubt_left (Some phase) before.doubt event))
  Stays wanting due by before after = IsUntouched before after

-- The event was written behind those of the registry.
pub record WritesEvent {D : Type 0} (disks : Ghosts D) (before after : StateView D)
    (event : Event) (ending : Ending) : Type 0 where
  pub end : Option Phase
  pub is : IsWritten end event before after ending
  pub written : Written disks before.disk after.disk 0
      (registry_payloads before.slots (events_in before)) (event_payload before.doubt)
      (event_text event) end

-- One call, in which an event is due or none, of the pass with this number, on a registry that its
-- disk stood for.
pub record Changed {D : Type 0} (disks : Ghosts D) (before after : StateView D)
    (due : Option Event) (by : ℕ) (ending : Ending) : Type 0 where
  pub stood : disks.tells → StandsForRegistry (disks.past before.disk) before.slots
      (events_in before) before.doubt
  pub stays : Stays ending due by before after
  -- the event that is due is written, unless memory ran out before
  pub writes : (event : Event) → due ≡ Some event → ending ≢ wanting
      → WritesEvent disks before after event ending
  pub went : DiskWent disks (ending ≡ failed) before.disk after.disk
  pub slots : after.slots ≡ before.slots

-- A call of the pass with this number, and its reply.
pub record Called {D : Type 0} (disks : Ghosts D) (before after : StateView D)
    (call : RegistryCall) (by : ℕ) (reply : RegistryReply) : Type 0 where
  pub replies : MayReply before.slots call (events_in before) reply
  pub changed : Changed disks before after (event_by before.slots call (events_in before)) by
      (ending call reply)
