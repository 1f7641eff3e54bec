-- Which calls of a pass are legal, as a relation over what the pass knew before the call, its
-- reply, and what the pass knows behind it. A pass knows a history: entries, each with its event
-- and the number of the pass that brought it.
use Rattle.std.specs.Prelude.{◌≡◌, ◌⊎◌, ℕ, [], ◌∷◌, ◌++◌, Some}
use Rattle.delta_base.specs.Outside.{Rose}
use Rattle.registry_core.specs.declared.event.Event.{Event}
use Rattle.registry_core.specs.Answers.{Ending, made, told, failed, wanting}
use Rattle.registry_core.specs.Replies.{RegistryCall, RegistryReply, registry_reply, event_by}
use Rattle.registry_core.specs.Replies.{ending}
use Rattle.registry_core.specs.Replies.{MakesEvent, ShowsName}
use Rattle.turn_cell.specs.Knowing.{SeesOn, IsQuiet, Brought, mine_of, failed_of, own_faults_of}
use Rattle.shared_registry.specs.History.{RegistrySight, known_events, events_seen}

-- the event may be left as a doubt
abbrev pub MayLeaveEvent : Event → RegistrySight → RegistrySight → Type 0
MayLeaveEvent event p q = (failed_of q ≡ failed_of p) ⊎ (failed_of q ≡ failed_of p ++ event ∷ [])

-- what a call told, by how it ended
abbrev pub IsRegistryTold : Ending → ℕ → RegistryCall → RegistryReply
    → RegistrySight → RegistrySight → Type 0
-- the pass has brought the event, where the events before it give this reply
IsRegistryTold (made event) slots call reply p q =
    (place : ℕ) × (brought : Brought event place p q)
    × (reply ≡ registry_reply slots call (known_events brought.before))
-- the history that the pass then knows gives this reply, and the pass did nothing else
IsRegistryTold told slots call reply p q =
    (reply ≡ registry_reply slots call (events_seen q)) × IsQuiet p q
-- the disk failed in this pass's own stay, where an event was due
IsRegistryTold failed slots call reply p q =
    (event : Event) × (event_by slots call (events_seen q) ≡ Some event)
    × Rose (own_faults_of p) (own_faults_of q) × (mine_of q ≡ mine_of p) × MayLeaveEvent event p q
IsRegistryTold wanting slots call reply p q =
    (MakesEvent slots call (events_seen q) ⊎ ShowsName slots call (events_seen q)) × IsQuiet p q

-- a call of a pass with its reply, on a registry of so many slots
abbrev pub LegalOnRegistry : ℕ → RegistrySight → RegistryCall → RegistryReply
    → RegistrySight → Type 0
LegalOnRegistry slots before call reply after =
    SeesOn before after × IsRegistryTold (ending call reply) slots call reply before after
