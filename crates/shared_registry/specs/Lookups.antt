-- Many calls of one pass on a registry, and what they come to together.
use Rattle.std.specs.Prelude.{◌≡◌, ◌⊎◌, ℕ, List, [], ◌∷◌, Bool, true, false, Option, Some, None}
use Rattle.registry_core.specs.declared.answer.CreateAnswer.TheVariants.{DiskFault}
use Rattle.registry_core.specs.declared.answer.ChangeAnswer.TheVariants.{DiskFault as Fails}
use Rattle.registry_core.specs.declared.event.Event.{Event}
use Rattle.registry_core.specs.Answers.{Ending, made, told, failed, wanting}
use Rattle.registry_core.specs.Replies.{RegistryCall, create, rename, remove, resolve, resolve_id}
use Rattle.registry_core.specs.Replies.{resolve_uri, list, RegistryReply, answered, changed}
use Rattle.registry_core.specs.Replies.{ending, event_by}
use Rattle.turn_cell.specs.Knowing.{Brought}
use Rattle.turn_cell.specs.Calls.{CallMade, IsReplied, IsCalled, AreCalled, AddsUp}
use Rattle.shared_registry.specs.History.{RegistrySight, events_seen}
use Rattle.shared_registry.specs.Legal.{LegalOnRegistry}

-- a call with its reply or without one, the places of its events, and what it left in doubt
abbrev pub RegistryLookup : Type 0
RegistryLookup = CallMade RegistryCall RegistryReply Event

-- a look-up goes without a reply where memory runs out; the other calls have an answer for that
abbrev pub MayWantNames : RegistryCall → Type 0
MayWantNames (create name uri id) = ⊥
MayWantNames (rename name new_name) = ⊥
MayWantNames (remove name) = ⊥
MayWantNames (resolve name) = Unit {0}
MayWantNames (resolve_id id) = Unit {0}
MayWantNames (resolve_uri uri) = Unit {0}
MayWantNames list = Unit {0}

abbrev pub IsLookupReply :
    ℕ → RegistrySight → RegistryCall → Option RegistryReply → RegistrySight → Type 0
IsLookupReply slots p call reply q = IsReplied (LegalOnRegistry slots) MayWantNames p call reply q

-- one legal call
abbrev pub IsLookup : ℕ → RegistrySight → RegistryLookup → RegistrySight → Type 0
IsLookup slots p asked q = IsCalled (LegalOnRegistry slots) MayWantNames p asked q

-- legal calls one after another
abbrev pub AreLookups : ℕ → RegistrySight → List RegistryLookup → RegistrySight → Type 0
AreLookups slots p asked q = AreCalled (LegalOnRegistry slots) MayWantNames p asked q

-- the disk failed it
abbrev pub is_registry_fault : RegistryReply → Bool
is_registry_fault (answered DiskFault) = true
is_registry_fault (changed Fails) = true
is_registry_fault reply = false

-- what calls come to: see `AddsUp`
abbrev pub RegistryAddsUp : RegistrySight → List RegistryLookup → RegistrySight → Type 0
RegistryAddsUp p asked q = AddsUp is_registry_fault p asked q

abbrev pub ending_of : RegistryCall → Option RegistryReply → Ending
ending_of call (Some reply) = ending call reply
ending_of call None = wanting

-- the event that was due came to be a doubt, or nothing did
abbrev pub DoubtsDue : Option Event → List Event → Type 0
DoubtsDue due doubted =
    (doubted ≡ []) ⊎ ((event : Event) × (due ≡ Some event) × (doubted ≡ event ∷ []))

-- What a call brought and what it left in doubt, by how it ended and by the event that was due. An
-- event that was made has one place, at which the pass sees it with its own number.
abbrev pub EndsWith : Ending → Option Event → List ℕ → List Event → RegistrySight → RegistrySight
    → Type 0
EndsWith (made event) due brought doubted p q =
    (place : ℕ) × Brought event place p q × (brought ≡ place ∷ []) × (doubted ≡ [])
EndsWith told due brought doubted p q = (brought ≡ []) × (doubted ≡ [])
EndsWith failed due brought doubted p q = (brought ≡ []) × DoubtsDue due doubted
EndsWith wanting due brought doubted p q = (brought ≡ []) × (doubted ≡ [])

-- a legal call is one of these, with what it brought and left in doubt
pub record GivesLookup (slots : ℕ) (p : RegistrySight) (call : RegistryCall)
    (reply : Option RegistryReply) (q : RegistrySight) : Type 0 where
  pub asked : RegistryLookup
  pub call_is : asked.call ≡ call
  pub reply_is : asked.reply ≡ reply
  pub is : IsLookup slots p asked q
  pub ends : EndsWith (ending_of call reply) (event_by slots call (events_seen q))
      asked.brought asked.doubted p q
