-- Why two files are no zone.
use Rattle.std.specs.Prelude.{◌≡◌, ℕ, ◌≤◌, Bool, List, if◌then◌else◌}
use Rattle.log_base.specs.Journals.{payloads_length}
use Rattle.log_base.specs.declared.limits.LogLimits.{LogLimits}
use Rattle.log_base.specs.declared.limits.TheConstants.{ZONE_FILE_LIMIT}
use Rattle.log_journal.specs.File.{Holds}
use Rattle.log_journal.specs.Reading.{HasFault}
use Rattle.log_journal.specs.declared.at_front.FrontFault.{FrontFault}
use Rattle.log_journal.specs.declared.at_front.FrontFault.TheVariants as front
use Rattle.log_journal.specs.declared.fault.JournalFault.{JournalFault}
use Rattle.log_journal.specs.declared.fault.JournalFault.TheVariants as journal
use Rattle.zone_files.specs.Generation.{number_of}
use Rattle.zone_beside.specs.Finding.{HasFindFault, IsCurrent}
use Rattle.zone_beside.specs.declared.fault.FindFault.{FindFault}
use Rattle.zone_beside.specs.declared.fault.FindFault.TheVariants as find
use Rattle.paired_reading.specs.Fault.{HasPayloadsFault}
use Rattle.paired_reading.specs.declared.fault.PayloadsFault.{PayloadsFault}
use Rattle.paired_reading.specs.declared.fault.PayloadsFault.TheVariants as payloads
use Rattle.paired_zone.specs.declared.fault.PairFault.{PairFault}
use Rattle.paired_zone.specs.declared.fault.PairFault.TheVariants as pair

-- ---- each part's fault, as one of the zone

abbrev pub at_front : ℕ → FrontFault → PairFault
at_front file front.Failed = pair.Failed file
at_front file (front.Damaged at) = pair.Damaged file at
at_front file front.OldFormat = pair.OldFormat file
at_front file (front.WrongNumber found) = pair.WrongNumber file found
at_front file front.OutOfMemory = pair.OutOfMemory

abbrev pub of_finding : FindFault → PairFault
of_finding (find.AtFront second fault) = at_front (number_of second) fault
of_finding (find.BrokenCheckpoint second) = pair.BrokenCheckpoint (number_of second)

abbrev pub of_journal : ℕ → JournalFault → PairFault
of_journal file journal.Failed = pair.Failed file
of_journal file (journal.Damaged at) = pair.Damaged file at
of_journal file journal.OldFormat = pair.OldFormat file
of_journal file (journal.WrongNumber found) = pair.WrongNumber file found
of_journal file (journal.OverLimit length limit) = pair.OverLimit file length limit
of_journal file journal.OutOfMemory = pair.OutOfMemory

abbrev pub of_payloads : ℕ → PayloadsFault → PairFault
of_payloads file payloads.BrokenCheckpoint = pair.BrokenCheckpoint file
of_payloads file (payloads.BrokenChain version) = pair.BrokenChain file version
of_payloads file (payloads.OverLimit length limit) = pair.OverLimit file length limit
of_payloads file payloads.TermsFull = pair.TermsFull

-- ---- the faults of two files

-- the current file is no journal within its limit
pub record HasJournalFault (current : List ℕ) (number : ℕ) (fault : PairFault) : Type 0 where
  pub found : JournalFault
  pub fault_is : fault ≡ of_journal number found
  pub has : HasFault current number ZONE_FILE_LIMIT found

-- it is one, and its payloads are none of a zone within these limits
pub record HoldsFault (current : List ℕ) (number : ℕ) (limits : LogLimits)
    (fault : PairFault) : Type 0 where
  pub payloads : List (List ℕ)
  pub holds : Holds current number payloads
  pub short : payloads_length payloads ≤ ZONE_FILE_LIMIT
  pub found : PayloadsFault
  pub fault_is : fault ≡ of_payloads number found
  pub has : HasPayloadsFault payloads limits.patches limits.bytes found

-- The two files have this fault, and none that comes before it: that none of them is current, one
-- of the current file's journal, or one of its payloads. What files can't tell is free.
pub data HasPairFault (first second : List ℕ) (limits : LogLimits) (fault : PairFault)
    : Type 0 where
  none_current : (found : FindFault) → fault ≡ of_finding found
      → HasFindFault first second found → HasPairFault first second limits fault
  no_journal : (on_second : Bool) (generation : ℕ) → IsCurrent first second on_second generation
      → HasJournalFault (if on_second then second else first) (number_of on_second) fault
      → HasPairFault first second limits fault
  no_payloads : (on_second : Bool) (generation : ℕ) → IsCurrent first second on_second generation
      → HoldsFault (if on_second then second else first) (number_of on_second) limits fault
      → HasPairFault first second limits fault
