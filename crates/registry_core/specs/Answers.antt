-- How a call ends.
use Rattle.std.specs.Prelude.{◌≡◌, ◌⊎◌, ◌≢◌, ℕ, List, [], ◌∷◌, Option, Some, None}
use Rattle.log_base.specs.declared.source_info.SourceInfo.{SourceInfo}
use Rattle.registry_core.specs.declared.event.Event.{Event}
use Rattle.registry_core.specs.declared.event.Event.TheVariants.{Created}
use Rattle.registry_core.specs.declared.answer.CreateAnswer.{CreateAnswer}
use Rattle.registry_core.specs.declared.answer.CreateAnswer.TheVariants.{Made, BadName, BadUri}
use Rattle.registry_core.specs.declared.answer.CreateAnswer.TheVariants.{NameTaken, IdTaken, Full}
use Rattle.registry_core.specs.declared.answer.CreateAnswer.TheVariants.{OutOfMemory, DiskFault}
use Rattle.registry_core.specs.declared.answer.ChangeAnswer.{ChangeAnswer}
use Rattle.registry_core.specs.declared.answer.ChangeAnswer.TheVariants.{Done, NoSuchName}
use Rattle.registry_core.specs.declared.answer.ChangeAnswer.TheVariants.{BadName as IsBadName}
use Rattle.registry_core.specs.declared.answer.ChangeAnswer.TheVariants.{NameTaken as IsNameTaken}
use Rattle.registry_core.specs.declared.answer.ChangeAnswer.TheVariants.{Full as IsFull}
use Rattle.registry_core.specs.declared.answer.ChangeAnswer.TheVariants.{OutOfMemory as Wants}
use Rattle.registry_core.specs.declared.answer.ChangeAnswer.TheVariants.{DiskFault as Fails}

-- A call makes an event, or its answer tells what the events say, or the disk failed it, or memory
-- ran out.
pub data Ending : Type 0 where
  made : Event → Ending
  told : Ending
  failed : Ending
  wanting : Ending

abbrev pub end_of_create : CreateAnswer → Ending
end_of_create (Made source) = made (Created source)
end_of_create (BadName at) = told
end_of_create (BadUri at) = told
end_of_create (NameTaken id) = told
end_of_create (IdTaken name) = told
end_of_create (Full what have limit) = told
end_of_create OutOfMemory = wanting
end_of_create DiskFault = failed

-- by the event that is made of the source which is shown
abbrev pub end_of_change : (SourceInfo → Event) → ChangeAnswer → Ending
end_of_change event (Done source) = made (event source)
end_of_change event NoSuchName = told
end_of_change event (IsBadName at) = told
end_of_change event (IsNameTaken id) = told
end_of_change event (IsFull what have limit) = told
end_of_change event Wants = wanting
end_of_change event Fails = failed

-- the event that is made, if one is
abbrev pub event_in : Ending → Option Event
event_in (made event) = Some event
event_in told = None
event_in failed = None
event_in wanting = None

-- the first refusal in a list, or else the other answer
abbrev pub first_or : {A : Type 0} → A → List (Option A) → A
first_or other [] = other
first_or other (Some refusal ∷ rest) = refusal
first_or other (None ∷ rest) = first_or other rest
