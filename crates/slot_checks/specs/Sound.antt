-- Files that are in their form.
use Rattle.std.specs.Prelude.{◌≡◌, ℕ, ◌+◌, List, [], ◌∷◌, length}
use Rattle.chain_core.specs.declared.chain.Patch.{Patch}
use Rattle.log_base.specs.declared.limits.TheConstants.{LOG_LIMITS}
use Rattle.chain_core.specs.Patches.{last_id}
use Rattle.chain_core.specs.Runs.{patches_in}
use Rattle.log_journal.specs.File.{Holds}
use Rattle.patch_log.specs.Log.{IsSoundLog, payloads_of}
use Rattle.registry_core.specs.declared.event.Event.{Event}
use Rattle.registry_core.specs.Events.{IsRegistry}
use Rattle.registry_core.specs.Texts.{registry_payloads}
use Rattle.slot_files.specs.Files.{Files, bytes_at}
use Rattle.slot_checks.specs.declared.lines.FileLine.{FileLine}
use Rattle.slot_checks.specs.declared.lines.FileLine.TheVariants as line

-- The registry's file holds so many records: the number of its slots, and behind it the events of a
-- registry of so many slots.
pub record HoldsRegistry (file : List ℕ) (slots records : ℕ) : Type 0 where
  pub events : List Event
  pub registry : IsRegistry slots events
  pub holds : Holds file 0 (registry_payloads slots events)
  pub records_are : records ≡ length events + 1

-- the line of a log's file that is in its form, which counts the patches of all its runs
pub record IsLogLine (file : List ℕ) (number : ℕ) (line_ : FileLine) : Type 0 where
  pub runs : List (List Patch)
  pub holds : Holds file number (payloads_of runs)
  pub log : IsSoundLog LOG_LIMITS runs
  pub line_is : line_ ≡ line.Log number (length (patches_in runs)) (last_id (patches_in runs))

-- the lines of the logs' files from a number on
abbrev pub AreLogLines : Files → List ℕ → ℕ → List FileLine → Type 0
AreLogLines files dir from [] = Unit {0}
AreLogLines files dir from (line_ ∷ lines) =
    IsLogLine (bytes_at files dir from) from line_ × AreLogLines files dir (from + 1) lines
