-- Calls of one pass on a registry, one after another, with what it showed before and behind each.
use Rattle.std.specs.Prelude.{◌≡◌, ℕ, ◌<◌, ◌^◌, IsUtf8, List, [], ◌∷◌, ◌++◌, Option, Some, None}
use mathlib.Core.List.{IsPrefix}
use Rattle.disk_model.specs.declared.disk.Disk.{Ghosts}
use Rattle.registry_core.specs.declared.event.Event.{Event}
use Rattle.registry_core.specs.declared.event.Event.TheVariants.{Created, Renamed, Removed}
use Rattle.registry_core.specs.Answers.{Ending}
use Rattle.registry_core.specs.Replies.{RegistryCall, create, rename, remove}
use Rattle.registry_core.specs.Replies.{RegistryReply, ending}
use Rattle.log_registry.specs.State.{StateView}
use Rattle.turn_cell.specs.Calls.{IsReplied}
use Rattle.turn_cell.specs.Knowing.{Brought, seen_of, mine_of, failed_of}
use Rattle.shared_registry.specs.History.{RegistrySight}
use Rattle.shared_registry.specs.Lookups.{MayWantNames}
use Rattle.shared_registry.specs.Stays.{CalledOnRegistry}

-- the event is of what the call hands in
abbrev pub HandsInEvent : RegistryCall → Event → Type 0
HandsInEvent (create name uri id) (Created source) =
    (source.name ≡ name) × (source.uri ≡ uri) × (source.id ≡ id)
HandsInEvent (rename name new_name) (Renamed slot other_name) = other_name ≡ new_name
HandsInEvent (remove name) (Removed slot) = Unit {0}
HandsInEvent call event = ⊥

-- what the call hands in are texts, and an id has 128 bits: so say the types of its arguments
abbrev pub HandsInTexts : RegistryCall → Type 0
HandsInTexts (create name uri id) = IsUtf8 name × IsUtf8 uri × (id.0 < 2 ^ 128)
HandsInTexts (rename name new_name) = IsUtf8 new_name
HandsInTexts call = Unit {0}

-- the reply ends the call so
abbrev pub EndsSo : RegistryCall → Option RegistryReply → Ending → Type 0
EndsSo call None end = ⊥
EndsSo call (Some reply) end = ending call reply ≡ end

-- a call with its reply, or without one where memory ran out
pub record SeenOnRegistry : Type 0 where
  pub before : RegistrySight
  pub call : RegistryCall
  pub reply : Option RegistryReply
  pub after : RegistrySight

module _ {D : Type 0} (disks : Ghosts D) (origin : StateView D) where
  -- the call was legal, with its stay, and only a look-up went without a reply
  abbrev pub IsLegalOnRegistry : SeenOnRegistry → Type 0
  IsLegalOnRegistry seen =
      IsReplied (CalledOnRegistry disks origin) MayWantNames seen.before seen.call seen.reply
      seen.after

  -- legal calls, each by the pass as the one before it left it
  abbrev pub AreSeenOnRegistry : RegistrySight → List SeenOnRegistry → RegistrySight → Type 0
  AreSeenOnRegistry p [] q = q ≡ p
  AreSeenOnRegistry p (seen ∷ more) q =
      (seen.before ≡ p) × IsLegalOnRegistry seen × AreSeenOnRegistry seen.after more q

-- what a pass has done so far in a call: nothing, or it brought the event that is due, or left it
-- in doubt
pub data HasDoneOnRegistry (call : RegistryCall) (p q : RegistrySight) : Type 0 where
  nothing : mine_of q ≡ mine_of p → failed_of q ≡ failed_of p → HasDoneOnRegistry call p q
  brought : (event : Event) (place : ℕ) → HandsInEvent call event → Brought event place p q
      → HasDoneOnRegistry call p q
  doubted : (event : Event) → HandsInEvent call event → mine_of q ≡ mine_of p
      → failed_of q ≡ failed_of p ++ event ∷ [] → HasDoneOnRegistry call p q

-- the pass behind its last call that was answered, and then, amid one more or in none
abbrev pub IsAmidOnRegistry : RegistrySight → Option RegistryCall → RegistrySight → Type 0
IsAmidOnRegistry p None q = q ≡ p
IsAmidOnRegistry p (Some call) q = IsPrefix (seen_of p) (seen_of q) × HasDoneOnRegistry call p q
