-- How many logs a registry has: by its file in either form, or under a marker by its spare.
use Rattle.std.specs.Prelude.{◌≡◌, ◌⊎◌, ℕ, List, [], ◌∷◌, Err}
use Rattle.log_journal.specs.File.{HoldsInEither}
use Rattle.log_journal.specs.Front.{HoldsNothing, HasFirst, IsFront}
use Rattle.log_journal.specs.declared.at_front.FrontFault.{FrontFault}
use Rattle.registry_core.specs.Events.{IsSlot}
use Rattle.registry_core.specs.Texts.{slots_payload}
use Rattle.slot_checks.specs.Faults.{check_fault_of_front}
use Rattle.slot_checks.specs.declared.fault.CheckFault.{CheckFault}
use Rattle.slot_checks.specs.declared.fault.CheckFault.TheVariants as check
use Rattle.journal_upgrade.specs.declared.fault.UpgradeFault.{UpgradeFault}
use Rattle.journal_upgrade.specs.Faults.{IsFileFault}
use Rattle.directory_upgrade.specs.Faults.{check_fault_of_upgrade}

-- the payload tells so many slots
abbrev pub TellsSlots : List ℕ → ℕ → Type 0
TellsSlots payload slots = IsSlot slots × (payload ≡ slots_payload slots)

-- no first payload tells how many slots there are
abbrev pub LacksSlots : List (List ℕ) → Type 0
LacksSlots [] = Unit {0}
LacksSlots (payload ∷ payloads) = (slots : ℕ) → TellsSlots payload slots → ⊥

-- the same of what stands at the front of a file
abbrev pub FrontLacksSlots : List ℕ → ℕ → Type 0
FrontLacksSlots file number = HoldsNothing file number
    ⊎ ((payload : List ℕ) × HasFirst file number payload × LacksSlots (payload ∷ []))

-- the first payload of a file tells so many slots
abbrev pub FrontTells : List ℕ → ℕ → ℕ → Type 0
FrontTells file number slots = IsSlot slots × HasFirst file number (slots_payload slots)

-- why none is told by what stands at its front
pub data FrontStops (file : List ℕ) (number : ℕ) : CheckFault → Type 0 where
  faulty : (why : FrontFault) → IsFront file number (Err why)
      → FrontStops file number (check_fault_of_front number why)
  untold : FrontLacksSlots file number → FrontStops file number (check.BrokenEvent 0)

-- the registry's file tells so many slots
pub record FileTells (file : List ℕ) (slots : ℕ) : Type 0 where
  pub payload : List ℕ
  pub more : List (List ℕ)
  pub holds : HoldsInEither file 0 (payload ∷ more)
  pub tells : TellsSlots payload slots

-- its spare tells so many
abbrev pub SpareTells : List ℕ → ℕ → Type 0
SpareTells spare slots = FrontTells spare 2000 slots

-- why the registry's file tells no slots
pub data FileStops (file : List ℕ) : CheckFault → Type 0 where
  faulty_file : (why : UpgradeFault) → IsFileFault 0 0 file why
      → FileStops file (check_fault_of_upgrade why)
  untold_file : (payloads : List (List ℕ)) → HoldsInEither file 0 payloads → LacksSlots payloads
      → FileStops file (check.BrokenEvent 0)

-- why its spare tells none; without bytes it is damaged at its start
abbrev pub SpareStops : List ℕ → CheckFault → Type 0
SpareStops spare fault = ((spare ≡ []) × (fault ≡ check.Damaged 2000 0))
    ⊎ (((spare ≡ []) → ⊥) × FrontStops spare 2000 fault) ⊎ (fault ≡ check.Failed)
