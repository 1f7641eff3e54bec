-- Why a log can't be opened.
use Rattle.std.specs.Prelude.{◌≡◌, ◌⊎◌, ◌<◌, ◌≤◌, ℕ, List, Option, Some, None, IfSome}
use Rattle.log_base.specs.Journals.{payloads_length}
use Rattle.log_journal.specs.File.{Holds}
use Rattle.log_journal.specs.Reading.{HasFault}
use Rattle.log_journal.specs.declared.fault.JournalFault.{JournalFault}
use Rattle.log_journal.specs.declared.fault.JournalFault.TheVariants as journal
use Rattle.log_base.specs.declared.limits.LogLimits.{LogLimits}
use Rattle.patch_log.specs.declared.fault.LogFault.{LogFault}
use Rattle.patch_log.specs.declared.fault.LogFault.TheVariants as log
use Rattle.chain_core.specs.Patches.{journal_length}
use Rattle.chain_core.specs.Runs.{patches_in}
use Rattle.patch_log.specs.Log.{AreChained, BreaksBehind}

-- the fault of the journal that one of the log is, if it is one
abbrev pub journal_part : LogFault → Option JournalFault
journal_part log.Failed = Some journal.Failed
journal_part (log.Damaged at) = Some (journal.Damaged at)
journal_part log.OldFormat = Some journal.OldFormat
journal_part (log.WrongNumber found) = Some (journal.WrongNumber found)
journal_part (log.OverLimit length limit) = Some (journal.OverLimit length limit)
journal_part log.OutOfMemory = Some journal.OutOfMemory
journal_part (log.BrokenChain version) = None

-- the file is that of a log whose journal would pass the limit if each patch had a payload of its
-- own
pub record IsTooLong (file : List ℕ) (number : ℕ) (limits : LogLimits) (have limit : ℕ)
    : Type 0 where
  pub payloads : List (List ℕ)
  pub holds : Holds file number payloads
  pub fits : payloads_length payloads ≤ limits.bytes
  pub chained : AreChained limits.patches payloads
  pub have_is : have ≡ journal_length (patches_in chained.runs)
  pub limit_is : limit ≡ limits.bytes
  pub passes : limits.bytes < have

-- The file of this number has this fault, and none that comes before it: one of its journal, that
-- its payloads are no runs of a chain, or that its patches would pass the limit.
abbrev pub HasLogFault : List ℕ → ℕ → LogLimits → LogFault → Type 0
HasLogFault file number limits (log.BrokenChain version) =
    (payloads : List (List ℕ)) × Holds file number payloads
    × (payloads_length payloads ≤ limits.bytes)
    × BreaksBehind limits.patches payloads version
HasLogFault file number limits (log.OverLimit length limit) =
    HasFault file number limits.bytes (journal.OverLimit length limit)
    ⊎ IsTooLong file number limits length limit
HasLogFault file number limits fault =
    IfSome (journal_part fault) (HasFault file number limits.bytes)
