-- Why a registry can't be opened.
use Rattle.std.specs.Prelude.{◌≤◌, ℕ, List, Option, Some, None, IfSome}
use Rattle.log_base.specs.Journals.{payloads_length}
use Rattle.log_journal.specs.File.{Holds}
use Rattle.log_journal.specs.Reading.{HasFault}
use Rattle.log_journal.specs.declared.fault.JournalFault.{JournalFault}
use Rattle.log_journal.specs.declared.fault.JournalFault.TheVariants as journal
use Rattle.registry_core.specs.Events.{BreaksAtEvent}
use Rattle.log_base.specs.declared.limits.TheConstants.{REGISTRY_LIMIT}
use Rattle.log_registry.specs.declared.fault.RegistryFault.{RegistryFault}
use Rattle.log_registry.specs.declared.fault.RegistryFault.TheVariants as registry

-- the fault of the journal that one of the registry is, if it is one
abbrev pub journal_part : RegistryFault → Option JournalFault
journal_part registry.Failed = Some journal.Failed
journal_part (registry.Damaged at) = Some (journal.Damaged at)
journal_part registry.OldFormat = Some journal.OldFormat
journal_part (registry.WrongNumber found) = Some (journal.WrongNumber found)
journal_part (registry.OverLimit length limit) = Some (journal.OverLimit length limit)
journal_part registry.OutOfMemory = Some journal.OutOfMemory
journal_part (registry.BrokenEvent place) = None

-- The file of number 0 has this fault, and none that comes before it: one of its journal, or the
-- first payload that may not stand where it does.
abbrev pub HasRegistryFault : List ℕ → RegistryFault → Type 0
HasRegistryFault file (registry.BrokenEvent place) = (payloads : List (List ℕ))
    × Holds file 0 payloads × (payloads_length payloads ≤ REGISTRY_LIMIT)
    × BreaksAtEvent payloads place
HasRegistryFault file fault = IfSome (journal_part fault) (HasFault file 0 REGISTRY_LIMIT)
