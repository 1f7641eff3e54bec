-- What a registry replies to each call, by its slots and its events.
use Rattle.std.specs.Prelude.{◌≡◌, ◌⊎◌, ℕ, ◌+◌, ◌==◌, nat_lt, List, [], ◌∷◌}
use Rattle.std.specs.Prelude.{Option, Some, None, option_map, if◌then◌else◌}
use Rattle.delta_base.specs.declared.id.Id.{Id}
use Rattle.log_base.specs.declared.limits.FullKind.TheVariants.{Slots, Bytes}
use Rattle.log_base.specs.declared.limits.TheConstants.{REGISTRY_LIMIT}
use Rattle.log_base.specs.declared.source_info.SourceInfo.{SourceInfo}
use Rattle.registry_core.specs.declared.event.Event.{Event}
use Rattle.registry_core.specs.declared.event.Event.TheVariants.{Created, Renamed, Removed}
use Rattle.registry_core.specs.declared.answer.CreateAnswer.{CreateAnswer}
use Rattle.registry_core.specs.declared.answer.CreateAnswer.TheVariants.{Made, BadName, BadUri}
use Rattle.registry_core.specs.declared.answer.CreateAnswer.TheVariants.{NameTaken, IdTaken, Full}
use Rattle.registry_core.specs.declared.answer.ChangeAnswer.{ChangeAnswer}
use Rattle.registry_core.specs.declared.answer.ChangeAnswer.TheVariants.{Done, NoSuchName}
use Rattle.registry_core.specs.declared.answer.ChangeAnswer.TheVariants.{BadName as IsBadName}
use Rattle.registry_core.specs.declared.answer.ChangeAnswer.TheVariants.{NameTaken as IsNameTaken}
use Rattle.registry_core.specs.declared.answer.ChangeAnswer.TheVariants.{Full as IsFull}
use Rattle.registry_core.specs.Names.{name_fault, uri_fault}
use Rattle.registry_core.specs.Sources.{sources, used, named, source_named}
use Rattle.registry_core.specs.Sources.{source_with_id, source_with_uri, by_name}
use Rattle.registry_core.specs.Texts.{length_with, registry_length}
use Rattle.registry_core.specs.Answers.{Ending, made, told, failed, wanting}
use Rattle.registry_core.specs.Answers.{end_of_create, end_of_change, event_in, first_or}

-- a length that is over the limit
abbrev pub too_long : ℕ → Option ℕ
too_long length = if nat_lt REGISTRY_LIMIT length then Some length else None

-- a number of sources that leaves no slot
abbrev pub no_slot : ℕ → ℕ → Option ℕ
no_slot slots used = if used == slots then Some used else None

-- the source that a call makes has the next slot never used
abbrev pub next_source : List Event → List ℕ → List ℕ → Id → SourceInfo
next_source events name uri id = record { slot = used events + 1; id = id; name = name; uri = uri }

-- a source where these live, and so many were made: its name is none, its uri is none, its name is
-- taken, its id is taken, there is no slot, there is no room
abbrev pub created : List SourceInfo → ℕ → ℕ → ℕ → SourceInfo → CreateAnswer
created living slots used bytes source =
    first_or (Made source)
    (option_map (λ at. BadName at) (name_fault source.name)
    ∷ option_map (λ at. BadUri at) (uri_fault source.uri)
    ∷ option_map (λ other. NameTaken other.id) (source_named source.name living)
    ∷ option_map (λ other. IdTaken other.name) (source_with_id source.id living)
    ∷ option_map (λ have. Full Slots have slots) (no_slot slots used)
    ∷ option_map (λ have. Full Bytes have REGISTRY_LIMIT) (too_long (length_with bytes
    (Created source)))
    ∷ [])

unfoldable pub create_reply : ℕ → List Event → List ℕ → List ℕ → Id → CreateAnswer
create_reply slots events name uri id = created (sources events) slots (used events)
    (registry_length slots events) (next_source events name uri id)

-- a source that gets a name: it is none, it is taken, there is no room
abbrev pub renamed_to : List SourceInfo → ℕ → List ℕ → SourceInfo → ChangeAnswer
renamed_to living bytes name source =
    first_or (Done (named name source))
    (option_map (λ at. IsBadName at) (name_fault name)
    ∷ option_map (λ other. IsNameTaken other.id) (source_named name living)
    ∷ option_map (λ have. IsFull Bytes have REGISTRY_LIMIT) (too_long (length_with bytes
    (Renamed source.slot name)))
    ∷ [])

-- a source that goes: there is no room
abbrev pub removal_answer : ℕ → SourceInfo → ChangeAnswer
removal_answer bytes source = first_or (Done source) (option_map
    (λ have. IsFull Bytes have REGISTRY_LIMIT) (too_long (length_with bytes
    (Removed source.slot))) ∷ [])

-- of a source that is found
abbrev pub of_found : (SourceInfo → ChangeAnswer) → Option SourceInfo → ChangeAnswer
of_found answer None = NoSuchName
of_found answer (Some source) = answer source

unfoldable pub rename_reply : ℕ → List Event → List ℕ → List ℕ → ChangeAnswer
rename_reply slots events name new_name = of_found (renamed_to (sources events)
    (registry_length slots events) new_name) (source_named name (sources events))

unfoldable pub remove_reply : ℕ → List Event → List ℕ → ChangeAnswer
remove_reply slots events name = of_found (removal_answer (registry_length slots events))
    (source_named name (sources events))

pub data RegistryCall : Type 0 where
  create : List ℕ → List ℕ → Id → RegistryCall
  rename : List ℕ → List ℕ → RegistryCall
  remove : List ℕ → RegistryCall
  resolve : List ℕ → RegistryCall
  resolve_id : Id → RegistryCall
  resolve_uri : List ℕ → RegistryCall
  list : RegistryCall

pub data RegistryReply : Type 0 where
  answered : CreateAnswer → RegistryReply
  changed : ChangeAnswer → RegistryReply
  found : Option SourceInfo → RegistryReply
  listed : List SourceInfo → RegistryReply

abbrev pub registry_reply : ℕ → RegistryCall → List Event → RegistryReply
registry_reply slots (create name uri id) events = answered (create_reply slots events name uri id)
registry_reply slots (rename name new_name) events =
    changed (rename_reply slots events name new_name)
registry_reply slots (remove name) events = changed (remove_reply slots events name)
registry_reply slots (resolve name) events = found (source_named name (sources events))
registry_reply slots (resolve_id id) events = found (source_with_id id (sources events))
registry_reply slots (resolve_uri uri) events = found (source_with_uri uri (sources events))
registry_reply slots list events = listed (by_name (sources events))

-- the event of a renaming and of a removal, by the source that the answer shows
abbrev pub renaming : SourceInfo → Event
renaming source = Renamed source.slot source.name

abbrev pub removal : SourceInfo → Event
removal source = Removed source.slot

-- how a call with a reply ends
abbrev pub ending : RegistryCall → RegistryReply → Ending
ending (create name uri id) (answered answer) = end_of_create answer
ending (rename name new_name) (changed answer) = end_of_change renaming answer
ending (remove name) (changed answer) = end_of_change removal answer
ending call reply = told

-- the event that a call makes over these events, if it makes one
abbrev pub event_by : ℕ → RegistryCall → List Event → Option Event
event_by slots call events = event_in (ending call (registry_reply slots call events))

-- the call makes an event
abbrev pub MakesEvent : ℕ → RegistryCall → List Event → Type 0
MakesEvent slots call events = (event : Event) × (event_by slots call events ≡ Some event)

-- the call shows the name of the source that has the id, which is a copy
abbrev pub ShowsName : ℕ → RegistryCall → List Event → Type 0
ShowsName slots call events =
    (name : List ℕ) × (registry_reply slots call events ≡ answered (IdTaken name))

-- A call that ends so may have this reply over these events: the one that is due; a fault of the
-- disk where an event is to be written; want of memory there, or where a name is to be copied.
abbrev pub MayEnd : Ending → ℕ → RegistryCall → List Event → RegistryReply → Type 0
MayEnd (made event) slots call events reply = reply ≡ registry_reply slots call events
MayEnd told slots call events reply = reply ≡ registry_reply slots call events
MayEnd failed slots call events reply = MakesEvent slots call events
MayEnd wanting slots call events reply = MakesEvent slots call events ⊎ ShowsName slots call events

abbrev pub MayReply : ℕ → RegistryCall → List Event → RegistryReply → Type 0
MayReply slots call events reply = MayEnd (ending call reply) slots call events reply
