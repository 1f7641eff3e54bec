-- What the commands on a zone do, or why they don't.
use Rattle.std.specs.Prelude.{◌≡◌, ℕ, ◌<◌, List, [], length, Some}
use Rattle.std.specs.List.{flat_map}
use Rattle.delta_base.specs.Outside.{Rose}
use Rattle.log_base.specs.declared.limits.TheConstants.{LOG_LIMITS}
use Rattle.disk_model.specs.Shelf.{SameOthers}
use Rattle.log_journal.specs.File.{file_of}
use Rattle.slot_files.specs.Files.{Files, bytes_at}
use Rattle.slot_checks.specs.declared.fault.CheckFault.{CheckFault}
use Rattle.slot_checks.specs.declared.fault.CheckFault.TheVariants as checks
use Rattle.zone_files.specs.declared.file.TheConstants.{ZONE_NUMBER}
use Rattle.paired_zone.specs.Fault.{HasPairFault}
use Rattle.paired_zone.specs.declared.fault.PairFault.TheVariants as pairs
use Rattle.zone_commands.specs.Disks.{KeepsZoneFiles, first_bytes, second_bytes}
use Rattle.zone_commands.specs.Files.{HasZoneLines}
use Rattle.zone_commands.specs.declared.reading.Reading.{Reading}
use Rattle.command_tables.specs.Channels.{Channel, ChannelFailed, IsSilent, WritesFront}
use Rattle.command_tables.specs.Views.{ShelfView}
use Rattle.command_tables.specs.declared.refusal.Refusal.{Refusal}
use Rattle.command_tables.specs.declared.refusal.Refusal.TheVariants as refusals

-- ---- its file is made

-- the zone's file of a directory had no bytes, and is now an empty journal
pub record IsNewZone (dir : List ℕ) (old new : Files) : Type 0 where
  pub was_empty : bytes_at old dir ZONE_NUMBER ≡ []
  pub is_journal : new dir ZONE_NUMBER ≡ Some (file_of ZONE_NUMBER [])

-- where the shelf tells its files, the zone's file is as it was if it had bytes, and so is
-- every other file
abbrev pub SparesZone : List ℕ → Type 0 → Files → Files → Type 0
SparesZone dir tells old new = tells
    → (0 < length (bytes_at old dir ZONE_NUMBER) → new dir ZONE_NUMBER ≡ old dir ZONE_NUMBER)
    × SameOthers (Some (dir, ZONE_NUMBER)) old new

-- the file has bytes, so many
pub record IsTaken (dir : List ℕ) (files : Files) (file size : ℕ) : Type 0 where
  pub file_is : file ≡ ZONE_NUMBER
  pub has_bytes : 0 < size
  pub size_is : size ≡ length (bytes_at files dir ZONE_NUMBER)

-- why it was not made
abbrev pub StopsMaking : List ℕ → Type 0 → ShelfView → ShelfView → Refusal → Type 0
StopsMaking dir tells old new (refusals.NotEmpty file size) =
    tells → IsTaken dir old.files file size
StopsMaking dir tells old new refusals.DiskFailed = Rose old.faults new.faults
StopsMaking dir tells old new refusals.OutOfMemory = Unit {0}
StopsMaking dir tells old new other = ⊥

-- ---- its two files are opened

-- where the shelf tells its files, both of the zone of a directory were kept, and every other file
-- is as it was
abbrev pub KeepsZone : List ℕ → Type 0 → Files → Files → Type 0
KeepsZone dir tells old new = tells → KeepsZoneFiles dir old new

-- the two files of a zone have this fault, and none that comes before it
abbrev pub HasZoneFileFault : List ℕ → List ℕ → CheckFault → Type 0
HasZoneFileFault first second (checks.Damaged file at) =
    HasPairFault first second LOG_LIMITS (pairs.Damaged file at)
HasZoneFileFault first second (checks.OldFormat file) =
    HasPairFault first second LOG_LIMITS (pairs.OldFormat file)
HasZoneFileFault first second (checks.WrongNumber file found) =
    HasPairFault first second LOG_LIMITS (pairs.WrongNumber file found)
HasZoneFileFault first second (checks.OverLimit file size limit) =
    HasPairFault first second LOG_LIMITS (pairs.OverLimit file size limit)
HasZoneFileFault first second (checks.BrokenChain file version) =
    HasPairFault first second LOG_LIMITS (pairs.BrokenChain file version)
HasZoneFileFault first second other = ⊥

-- why the zone of a directory can't be opened
abbrev pub StopsOpening : List ℕ → Type 0 → ShelfView → ShelfView → Refusal → Type 0
StopsOpening dir tells old new (refusals.File fault) =
    tells → HasZoneFileFault (first_bytes old.files dir) (second_bytes old.files dir) fault
StopsOpening dir tells old new (refusals.BrokenCheckpoint file) =
    tells → HasPairFault (first_bytes old.files dir) (second_bytes old.files dir)
    LOG_LIMITS (pairs.BrokenCheckpoint file)
StopsOpening dir tells old new refusals.ZoneTermsFull =
    tells → HasPairFault (first_bytes old.files dir) (second_bytes old.files dir)
    LOG_LIMITS pairs.TermsFull
StopsOpening dir tells old new refusals.DiskFailed = Rose old.faults new.faults
StopsOpening dir tells old new refusals.OutOfMemory = Unit {0}
StopsOpening dir tells old new other = ⊥

-- ---- it is read

-- where the shelf tells its files, these lines are read of the zone of a directory
abbrev pub ReadsZone : List ℕ → Reading → Type 0 → Files → List (List ℕ) → Type 0
ReadsZone dir reading tells files lines =
    tells → HasZoneLines (first_bytes files dir) (second_bytes files dir) reading lines

-- the bytes of lines, one after another
abbrev pub bytes_of : List (List ℕ) → List ℕ
bytes_of lines = flat_map (λ line. line) lines

-- why nothing was read of it, or not all was written
abbrev pub StopsZone : List ℕ → Reading → Type 0 → ShelfView → ShelfView
    → Channel → Channel → Refusal → Type 0
StopsZone dir reading tells old new out out' refusals.OutputFailed =
    ChannelFailed out out' × ((lines : List (List ℕ)) × ReadsZone dir reading tells old.files lines
    × WritesFront out out' (bytes_of lines))
StopsZone dir reading tells old new out out' other =
    StopsOpening dir tells old new other × IsSilent out out'
