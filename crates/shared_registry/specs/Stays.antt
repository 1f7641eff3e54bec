-- What a call does with a registry in its turn, and that what it tells is on the disk.
use Rattle.std.specs.Prelude.{◌≡◌, ◌⊎◌, ℕ, ◌-◌, List, Some, slice_get, Bool, true}
use Rattle.std.specs.Prelude.{false}
use Rattle.disk_model.specs.declared.disk.Disk.{Ghosts}
use Rattle.disk_model.specs.Past.{EveryImage}
use Rattle.log_journal.specs.File.{Holds}
use Rattle.registry_core.specs.declared.event.Event.{Event}
use Rattle.registry_core.specs.Answers.{Ending, made, told, failed, wanting}
use Rattle.registry_core.specs.Replies.{RegistryCall, create, rename, remove, resolve, resolve_id}
use Rattle.registry_core.specs.Replies.{resolve_uri, list, RegistryReply, registry_reply}
use Rattle.registry_core.specs.Texts.{event_text}
use Rattle.log_registry.specs.Changes.{Called}
use Rattle.log_registry.specs.State.{StateView, events_in}
use Rattle.turn_cell.specs.Knowing.{Wants, pass_number, seen_of}
use Rattle.turn_cell.specs.Sharing.{InTurn}
use Rattle.shared_registry.specs.History.{RegistrySight, event_history, events_seen}
use Rattle.shared_registry.specs.History.{registry_fixed_of, shared_registry}
use Rattle.shared_registry.specs.Legal.{LegalOnRegistry}

-- an image holds the event at its place, which is counted from 1: the slots stand before all events
abbrev pub HoldsEventAt : ℕ → Event → List ℕ → Type 0
HoldsEventAt place event image =
    (payloads : List (List ℕ)) × Holds image 0 payloads
    × (slice_get payloads place ≡ Some (event_text event))

-- a call that ends so has reached the disk: an event was written, or its writing failed
abbrev pub reaches_disk : Ending → Bool
reaches_disk (made event) = true
reaches_disk told = false
reaches_disk failed = true
reaches_disk wanting = false

-- the pass only counted, and nothing had come behind what it had seen
abbrev pub GoesByItsNames : RegistrySight → RegistrySight → Type 0
GoesByItsNames p q = Wants p q × (seen_of q ≡ seen_of p)

module _ {D : Type 0} (disks : Ghosts D) where
  -- the registry is left as it was found, and its events give this reply
  abbrev pub AsksRegistry : RegistryCall → RegistryReply → StateView D → StateView D → Type 0
  AsksRegistry call reply found left =
      (left ≡ found) × (reply ≡ registry_reply found.slots call (events_in found))

  -- what the pass with this number does in the turn: it changes the registry, or only asks
  abbrev pub DoesOnRegistry :
      ℕ → RegistryCall → RegistryReply → StateView D → StateView D → Type 0
  DoesOnRegistry by (create name uri id) reply found left =
      Called disks found left (create name uri id) by reply
  DoesOnRegistry by (rename name new_name) reply found left =
      Called disks found left (rename name new_name) by reply
  DoesOnRegistry by (remove name) reply found left =
      Called disks found left (remove name) by reply
  DoesOnRegistry by (resolve name) reply found left =
      AsksRegistry (resolve name) reply found left
  DoesOnRegistry by (resolve_id id) reply found left =
      AsksRegistry (resolve_id id) reply found left
  DoesOnRegistry by (resolve_uri uri) reply found left =
      AsksRegistry (resolve_uri uri) reply found left
  DoesOnRegistry by list reply found left = AsksRegistry list reply found left

  -- a stay of a pass in the turn of this registry
  abbrev pub StayOnRegistry :
      StateView D → RegistryCall → RegistryReply → RegistrySight → RegistrySight → Type 0
  StayOnRegistry origin call reply p q =
      InTurn (shared_registry disks) (DoesOnRegistry (pass_number p) call reply) origin p q

  -- a look-up has its stay, or goes by the names that the pass has kept, and takes no turn
  abbrev pub LooksUpOnRegistry :
      StateView D → RegistryCall → RegistryReply → RegistrySight → RegistrySight → Type 0
  LooksUpOnRegistry origin call reply p q =
      StayOnRegistry origin call reply p q ⊎ GoesByItsNames p q

  -- each call that may change the registry has its stay
  abbrev pub HasRegistryStay :
      StateView D → RegistryCall → RegistryReply → RegistrySight → RegistrySight → Type 0
  HasRegistryStay origin (create name uri id) reply p q =
      StayOnRegistry origin (create name uri id) reply p q
  HasRegistryStay origin (rename name new_name) reply p q =
      StayOnRegistry origin (rename name new_name) reply p q
  HasRegistryStay origin (remove name) reply p q = StayOnRegistry origin (remove name) reply p q
  HasRegistryStay origin (resolve name) reply p q =
      LooksUpOnRegistry origin (resolve name) reply p q
  HasRegistryStay origin (resolve_id id) reply p q =
      LooksUpOnRegistry origin (resolve_id id) reply p q
  HasRegistryStay origin (resolve_uri uri) reply p q =
      LooksUpOnRegistry origin (resolve_uri uri) reply p q
  HasRegistryStay origin list reply p q = LooksUpOnRegistry origin list reply p q

  -- a legal call of a pass of this registry, with its stay
  pub record CalledOnRegistry (origin : StateView D) (p : RegistrySight) (call : RegistryCall)
      (reply : RegistryReply) (q : RegistrySight) : Type 0 where
    pub legal : LegalOnRegistry origin.slots p call reply q
    pub stay : HasRegistryStay origin call reply p q

  -- The event at this place is on the disk: of a registry of that file and of just this history,
  -- each image that a crash may leave holds it there.
  pub record IsEventOnDisk (origin : StateView D) (place : ℕ) (event : Event)
      (q : RegistrySight) : Type 0 where
    pub registry : StateView D
    pub file : registry_fixed_of disks.mark registry ≡ registry_fixed_of disks.mark origin
    pub sees : seen_of q ≡ event_history registry.entries
    pub stands_in_it : slice_get (events_seen q) (place - 1) ≡ Some event
    pub images :
        disks.tells → EveryImage (disks.past registry.disk) (HoldsEventAt place event)
