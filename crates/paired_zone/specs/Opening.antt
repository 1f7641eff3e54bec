-- What opening two files comes to.
use Rattle.std.specs.Prelude.{◌≡◌, ◌≢◌, ◌⊎◌, ℕ, ◌+◌, ◌≤◌, Bool, false, not, Option, None, Some}
use Rattle.delta_base.specs.Outside.{Rose}
use Rattle.log_base.specs.Journals.{payloads_length}
use Rattle.disk_model.specs.declared.disk.Disk.{Ghosts}
use Rattle.disk_model.specs.Past.{reads, Keeps}
use Rattle.log_journal.specs.File.{Holds}
use Rattle.log_journal.specs.Written.{Reopened}
use Rattle.zone_files.specs.Generation.{number_of}
use Rattle.log_base.specs.declared.limits.LogLimits.{LogLimits}
use Rattle.zone_pairs.specs.Pair.{PairPoint, payloads_at, StandFor}
use Rattle.paired_reading.specs.Payloads.{AreMetFrom}
use Rattle.paired_zone.specs.declared.fault.PairFault.{PairFault}
use Rattle.paired_zone.specs.declared.fault.PairFault.TheVariants.{Failed}
use Rattle.paired_zone.specs.Fault.{HasJournalFault, HoldsFault}
use Rattle.paired_zone.specs.Zone.{PairedView, StandsAt}

-- a file with a checkpoint is in its generation; without one it is the first, in generation 0
abbrev pub IsInFile : Option ℕ → Bool → ℕ → Type 0
IsInFile None on_second generation = (on_second ≡ false) × (generation ≡ 0)
IsInFile (Some shown) on_second generation = shown ≡ generation

-- The zone stands for the payloads of the current file, and no patch is in doubt. Of each file no
-- more is read than its front, and of the current one its journal beside.
pub record IsOpened {D : Type 0} (disks : Ghosts D) (current other : D)
    (zone : PairedView D) : Type 0 where
  pub point : PairPoint
  pub stands : StandsAt disks zone point
  pub settled : zone.doubt ≡ None
  pub holds : disks.tells
      → Holds (reads (disks.past current)) (number_of zone.second) (payloads_at point)
  pub met : AreMetFrom point.start point.patches zone.terms
  pub reopened : Reopened disks current zone.current (payloads_length (payloads_at point) + 81)
  pub other_reopened : Reopened disks other zone.other 81

-- A disk behind an opening that is refused: a crash leaves what it might have left before, and a
-- read gives what it gave. Its count of faults rose where it failed, and else is as it was.
pub record RefusedDisk {D : Type 0} (disks : Ghosts D) (failed : Type 0)
    (before after : D) : Type 0 where
  pub kept : disks.tells → Keeps (disks.past before) (disks.past after)
  pub cause : failed → Rose (disks.faults before) (disks.faults after)
  pub never_falls : disks.faults before ≤ disks.faults after
  pub well : (failed → ⊥) → disks.faults after ≡ disks.faults before
  pub mark : disks.mark after ≡ disks.mark before

-- a call failed at one of the two files, and at no other
abbrev pub FailsAtOne : PairFault → Type 0
FailsAtOne fault =
    (file : ℕ) → fault ≡ Failed file → (second : Bool) × (file ≡ number_of second)

-- the current file, beside which the other one stands, is that of this zone
pub record OpensCurrent {D : Type 0} (disks : Ghosts D) (current : D) (on_second : Bool)
    (generation : ℕ) (other : D) (limits : LogLimits) (zone : PairedView D) : Type 0 where
  pub second_is : zone.second ≡ on_second
  pub generation_is : zone.generation ≡ generation
  pub other_is : zone.other ≡ other
  pub limits_are : zone.limits ≡ limits
  pub settled : zone.doubt ≡ None
  pub point : PairPoint
  pub stands : StandsAt disks zone point
  pub holds : disks.tells
      → Holds (reads (disks.past current)) (number_of on_second) (payloads_at point)
  pub stand_for : StandFor generation (payloads_at point) zone.brief
  pub met : AreMetFrom point.start point.patches zone.terms
  pub reopened : Reopened disks current zone.current (payloads_length (payloads_at point))

-- it isn't, and this is why
pub record RefusesCurrent {D : Type 0} (disks : Ghosts D) (current : D) (on_second : Bool)
    (limits : LogLimits) (fault : PairFault) (refused : D) : Type 0 where
  pub went : RefusedDisk disks (fault ≡ Failed (number_of on_second)) current refused
  pub other_went : fault ≢ Failed (number_of (not on_second))
  pub in_current : (file : ℕ) → fault ≡ Failed file → file ≡ number_of on_second
  pub has : disks.tells
      → HasJournalFault (reads (disks.past current)) (number_of on_second) fault
      ⊎ HoldsFault (reads (disks.past current)) (number_of on_second) limits fault
