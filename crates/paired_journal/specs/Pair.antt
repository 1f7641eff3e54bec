-- A journal on two files.
use Rattle.std.specs.Prelude.{◌≡◌, ◌⊎◌, ℕ, ◌+◌, ◌≤◌, not, List, [], ◌∷◌, Option, None, Some}
use Rattle.delta_base.specs.Outside.{Rose}
use Rattle.disk_model.specs.declared.disk.Disk.{Ghosts}
use Rattle.log_journal.specs.File.{Holds}
use Rattle.log_journal.specs.Journal.{HoldsWithOrWithout}
use Rattle.log_journal.specs.StandsFor.{StandsFor}
use Rattle.log_journal.specs.declared.journal.Journal.{Journal}
use Rattle.zone_files.specs.Generation.{number_of}
use Rattle.zone_beside.specs.declared.beside.Beside.{Beside}
use Rattle.zone_beside.specs.StandsBehind.{StandsBehind}

-- an image holds the payloads, or these and the one in doubt
abbrev pub HoldsWith : ℕ → List (List ℕ) → Option (List ℕ) → List ℕ → Type 0
HoldsWith number payloads None image = Holds image number payloads
HoldsWith number payloads (Some doubt) image = HoldsWithOrWithout number payloads doubt image

-- what was in doubt is so still, or nothing is
abbrev pub IsLeft : Option (List ℕ) → Option (List ℕ) → Type 0
IsLeft doubt left = (left ≡ doubt) ⊎ (left ≡ None)

-- The other file is current now, in the next generation. It holds the payload alone, and the one
-- that was current stands beside it.
pub record IsRenewed {D : Type 0} {disks : Ghosts D} (before after : Beside D disks)
    (current : Journal D disks) (payload : List ℕ) : Type 0 where
  pub second : after.on_second ≡ not before.on_second
  pub generation : after.generation ≡ before.generation + 1
  pub stands : StandsFor current (number_of (not before.on_second)) (payload ∷ [])
  pub behind : StandsBehind after None

-- Two disks after a call that may have failed: the count of faults of one of them rose where it did,
-- and else both are as they were. They are the same files.
pub record DisksWent {D : Type 0} (disks : Ghosts D) (failed : Type 0) (old new : D)
    (other_old other_new : D) : Type 0 where
  pub cause : failed → Rose (disks.faults old) (disks.faults new)
      ⊎ Rose (disks.faults other_old) (disks.faults other_new)
  pub never_falls : (disks.faults old ≤ disks.faults new)
      × (disks.faults other_old ≤ disks.faults other_new)
  pub well : (failed → ⊥) → (disks.faults new ≡ disks.faults old)
      × (disks.faults other_new ≡ disks.faults other_old)
  pub mark : (disks.mark new ≡ disks.mark old) × (disks.mark other_new ≡ disks.mark other_old)
