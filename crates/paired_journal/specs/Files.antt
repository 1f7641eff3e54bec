-- The two files together, and what writing to them comes to.
use Rattle.std.specs.Prelude.{◌≡◌, ◌≢◌, ℕ, ◌+◌, Bool, false, not, List, [], ◌∷◌, Option, Some, None}
use Rattle.std.specs.Prelude.{Result, length, is_ok, is_some, OnOk, OnErr, IsErrOf, if◌then◌else◌}
use Rattle.log_base.specs.declared.limits.TheConstants.{EMPTY_JOURNAL, PAYLOAD_FRAME}
use Rattle.log_base.specs.declared.limits.TheConstants.{ZONE_FILE_LIMIT}
use Rattle.log_base.specs.declared.phase.Phase.{Phase}
use Rattle.disk_model.specs.declared.disk.Disk.{Ghosts}
use Rattle.disk_model.specs.Past.{EveryImage, LeavesOnly}
use Rattle.log_journal.specs.StandsFor.{StandsFor, length_of, limit_of, disk_of}
use Rattle.log_journal.specs.Writing.{StandsWith, HoldsDuring, payloads_left, doubt_left, longer_by}
use Rattle.log_journal.specs.declared.journal.Journal.{Journal}
use Rattle.zone_files.specs.Generation.{number_of, PayloadsShow}
use Rattle.zone_beside.specs.Beside.{MayHoldBeside, MayHoldWriting, IsLeftBehind}
use Rattle.zone_beside.specs.declared.beside.Beside.{Beside}
use Rattle.zone_beside.specs.declared.fault.WriteFault.{WriteFault}
use Rattle.zone_beside.specs.declared.fault.WriteFault.TheVariants.{Failed}
use Rattle.paired_journal.specs.Pair.{HoldsWith, IsLeft, DisksWent}
use Rattle.paired_journal.specs.declared.files.Files.{Files}

-- ---- what is known of them

-- the second file is current
abbrev pub on_second : {D : Type 0} {disks : Ghosts D} → Option (Beside D disks) → Bool
on_second None = false
on_second (Some beside) = beside.on_second

-- in this generation
abbrev pub generation_of : {D : Type 0} {disks : Ghosts D} → Option (Beside D disks) → ℕ
generation_of None = 0
generation_of (Some beside) = beside.generation

-- the disk of the file beside it; without one it is this
abbrev pub disk_or : {D : Type 0} {disks : Ghosts D} → D → Option (Beside D disks) → D
disk_or disk None = disk
disk_or disk (Some beside) = beside.disk

abbrev is_doubtful : {D : Type 0} {disks : Ghosts D} → Option (Beside D disks) → Bool
is_doubtful None = false
is_doubtful (Some beside) = beside.doubtful

-- the file beside the current one, while it is there
abbrev pub beside_of : {D : Type 0} {disks : Ghosts D} → Files D disks → Option (Beside D disks)
beside_of files = files.beside

-- its disk
abbrev pub disk_beside : {D : Type 0} {disks : Ghosts D} → Files D disks → D
disk_beside files = disk_or (disk_of files.current) files.beside

abbrev pub first_disk : {D : Type 0} {disks : Ghosts D} → Files D disks → D
first_disk files = if on_second files.beside then disk_beside files else disk_of files.current

abbrev pub second_disk : {D : Type 0} {disks : Ghosts D} → Files D disks → D
second_disk files = if on_second files.beside then disk_of files.current else disk_beside files

-- what stands in the file beside leaves the current one as it is, but for a payload in doubt
abbrev pub OtherStands : {D : Type 0} {disks : Ghosts D} → D → Option (Beside D disks)
    → Option (List ℕ) → Type 0
OtherStands {D} {disks} disk beside doubt =
    (is_doubtful beside ≡ is_some doubt)
    × (disks.tells → EveryImage (disks.past (disk_or disk beside))
    (MayHoldBeside (on_second beside) (generation_of beside) doubt))

-- ---- writing

-- a payload was written to the current file, or a phase failed
pub record HasAppended {D : Type 0} {disks : Ghosts D} (old new : Journal D disks)
    (before after : Option (Beside D disks)) (payload : List ℕ) (end : Option Phase) : Type 0 where
  pub second : on_second after ≡ on_second before
  pub generation : generation_of after ≡ generation_of before
  pub stands : (number : ℕ) (payloads : List (List ℕ)) (doubt : Option (List ℕ))
      → StandsWith old number payloads doubt
      → StandsWith new number (payloads_left end payloads payload)
      (doubt_left end doubt payload)
  pub on_current : disks.tells
      → (number : ℕ) (payloads : List (List ℕ)) (doubt : Option (List ℕ))
      → StandsWith old number payloads doubt
      → LeavesOnly (HoldsDuring number payloads doubt payload)
      (disks.past (disk_of old)) (disks.past (disk_of new))
  pub on_other : disks.tells → (doubt : Option (List ℕ))
      → OtherStands (disk_of old) before doubt
      → LeavesOnly (MayHoldBeside (on_second before) (generation_of before) doubt)
      (disks.past (disk_or (disk_of old) before)) (disks.past (disk_or (disk_of new) after))
  pub ok : end ≡ None → OtherStands (disk_of new) after None
  pub err : end ≢ None → (doubt : Option (List ℕ))
      → OtherStands (disk_of old) before doubt
      → (left : Option (List ℕ)) × IsLeft doubt left
      × OtherStands (disk_of new) after left
  pub went : DisksWent disks (end ≢ None) (disk_of old) (disk_of new)
      (disk_or (disk_of old) before) (disk_or (disk_of new) after)
  pub length_is : length_of new ≡ length_of old + longer_by end (length payload)
  pub limit_is : limit_of new ≡ limit_of old

-- the other file is current now, in the next generation. It holds the payload alone
pub record IsBegunAnew {D : Type 0} {disks : Ghosts D} (new : Journal D disks)
    (before after : Option (Beside D disks)) (payload : List ℕ) : Type 0 where
  pub second : on_second after ≡ not (on_second before)
  pub generation : generation_of after ≡ generation_of before + 1
  pub stands : StandsFor new (number_of (not (on_second before))) (payload ∷ [])
  pub behind : OtherStands (disk_of new) after None

-- a payload was written alone into the other file, or that failed
pub record HasRenewed {D T : Type 0} {disks : Ghosts D} (old new : Journal D disks)
    (before after : Option (Beside D disks)) (payload : List ℕ) (result : Result T WriteFault) : Type 0 where
  pub done : (payloads : List (List ℕ)) (doubt : Option (List ℕ))
      → StandsWith old (number_of (on_second before)) payloads doubt
      → PayloadsShow (on_second before) payloads (Some (generation_of before))
      → OnOk result (IsBegunAnew new before after payload)
  pub length_is : OnOk result
      (length_of new ≡ EMPTY_JOURNAL + PAYLOAD_FRAME + length payload)
  pub limit_is : OnOk result (limit_of new ≡ ZONE_FILE_LIMIT)
  pub stands : (number : ℕ) (payloads : List (List ℕ)) (doubt : Option (List ℕ))
      → StandsWith old number payloads doubt → OnErr result
      ((left : Option (List ℕ)) × IsLeft doubt left × StandsWith new number payloads left)
  pub behind : (doubt : Option (List ℕ)) → OtherStands (disk_of old) before doubt → OnErr result
      ((left : Option (List ℕ)) × IsLeftBehind doubt payload left
      × OtherStands (disk_of new) after left)
  pub second : OnErr result (on_second after ≡ on_second before)
  pub generation : OnErr result (generation_of after ≡ generation_of before)
  pub same_length : OnErr result (length_of new ≡ length_of old)
  pub same_limit : OnErr result (limit_of new ≡ limit_of old)
  pub on_current : disks.tells
      → (number : ℕ) (payloads : List (List ℕ)) (doubt : Option (List ℕ))
      → StandsWith old number payloads doubt
      → LeavesOnly (HoldsWith number payloads doubt) (disks.past (disk_of old))
      (disks.past (if is_ok result then disk_or (disk_of new) after else disk_of new))
  pub on_other : disks.tells → (doubt : Option (List ℕ))
      → OtherStands (disk_of old) before doubt
      → LeavesOnly (MayHoldWriting (on_second before) (generation_of before) doubt payload)
      (disks.past (disk_or (disk_of old) before))
      (disks.past (if is_ok result then disk_of new else disk_or (disk_of new) after))
  pub went : DisksWent disks (IsErrOf result Failed) (disk_of old)
      (if is_ok result then disk_or (disk_of new) after else disk_of new)
      (disk_or (disk_of old) before) (if is_ok result then disk_of new else disk_or (disk_of new) after)
