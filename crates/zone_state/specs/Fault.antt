-- Why a zone can't be opened.
use Rattle.std.specs.Prelude.{◌≤◌, ℕ, List, [], Option, Some, None, IfSome}
use Rattle.log_base.specs.declared.limits.LogLimits.{LogLimits}
use Rattle.log_base.specs.Journals.{payloads_length}
use Rattle.term_table.specs.Table.{most}
use Rattle.dataset_tx.specs.Held.{AreMore}
use Rattle.log_journal.specs.File.{Holds}
use Rattle.log_journal.specs.Reading.{HasFault}
use Rattle.log_journal.specs.declared.fault.JournalFault.{JournalFault}
use Rattle.log_journal.specs.declared.fault.JournalFault.TheVariants as journal
use Rattle.chain_core.specs.Breaks.{BreaksAt}
use Rattle.patch_meaning.specs.Checked.{CheckedPatch, checked_texts}
use Rattle.zone_state.specs.declared.fault.ZoneFault.{ZoneFault}
use Rattle.zone_state.specs.declared.fault.ZoneFault.TheVariants as zone
use Rattle.zone_state.specs.Brief.{changes_taken}
use Rattle.zone_state.specs.Log.{AreChained}
use Rattle.zone_state.specs.Zone.{zone_number, AreTakenPatches}

-- the fault of the journal that one of a zone is, if it is one
abbrev pub journal_part : ZoneFault → Option JournalFault
journal_part zone.Failed = Some journal.Failed
journal_part (zone.Damaged at) = Some (journal.Damaged at)
journal_part zone.OldFormat = Some journal.OldFormat
journal_part (zone.WrongNumber found) = Some (journal.WrongNumber found)
journal_part (zone.OverLimit length limit) = Some (journal.OverLimit length limit)
journal_part zone.OutOfMemory = Some journal.OutOfMemory
journal_part (zone.BrokenChain version) = None
journal_part zone.TermsFull = None

-- The file has this fault, and none that comes before it: one of its journal, that so many of its
-- payloads are no chain, or that its patches have more terms than there are numbers.
abbrev pub HasZoneFault : List ℕ → LogLimits → ZoneFault → Type 0
HasZoneFault file limits (zone.BrokenChain version) =
    (payloads : List (List ℕ)) × Holds file zone_number payloads
    × (payloads_length payloads ≤ limits.bytes)
    × BreaksAt (AreChained limits.patches) payloads version
HasZoneFault file limits zone.TermsFull =
    (taken : List CheckedPatch) × Holds file zone_number (checked_texts taken)
    × AreTakenPatches limits taken × AreMore most (changes_taken taken) []
HasZoneFault file limits fault =
    IfSome (journal_part fault) (HasFault file zone_number limits.bytes)
