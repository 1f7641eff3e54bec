-- On which files a zone stands: what it stands for there, and what becomes of their disks.
use Rattle.std.specs.Prelude.{◌≡◌, ◌⊎◌, ℕ, Bool, List, [], ◌∷◌, ◌++◌, Option, Some}
use mathlib.Core.List.{IsPrefix}
use Rattle.disk_model.specs.declared.disk.Disk.{Ghosts}
use Rattle.disk_model.specs.Past.{LeavesOnly, MayHaveLeft}
use Rattle.log_journal.specs.File.{Holds}
use Rattle.log_journal.specs.Written.{DiskWent}
use Rattle.patch_meaning.specs.Checked.{CheckedPatch, checked_texts}
use Rattle.zone_files.specs.Generation.{number_of}
use Rattle.zone_pairs.specs.Pair.{PairPoint, payloads_at, MayBeBeside, ZoneHoldsByRole}
use Rattle.zone_state.specs.Brief.{Brief, brief_of, with_patch}
use Rattle.zone_state.specs.Zone.{ZoneView, StandsForZone, zone_number}
use Rattle.paired_journal.specs.Pair.{DisksWent}
use Rattle.paired_zone.specs.Zone.{PairedView, StandsAt}

-- ---- the files

-- the disks of a zone on two files: whether the second file is current, in which generation, and
-- the disk of the current file and of the other
pub record PairDisks (D : Type 0) : Type 0 where
  pub second : Bool
  pub generation : ℕ
  pub current : D
  pub other : D

-- a zone on two files is one on such disks
abbrev pub on_pair : {D : Type 0} → PairedView D → ZoneView (PairDisks D)
on_pair zone = record {
  brief = zone.brief;
  terms = zone.terms;
  doubt = zone.doubt;
  limits = zone.limits;
  disk = record {
    second = zone.second;
    generation = zone.generation;
    current = zone.current;
    other = zone.other;
  };
}

-- and such a zone is one on two files
abbrev pub of_pair : {D : Type 0} → ZoneView (PairDisks D) → PairedView D
of_pair zone = record {
  brief = zone.brief;
  terms = zone.terms;
  doubt = zone.doubt;
  limits = zone.limits;
  second = zone.disk.second;
  generation = zone.disk.generation;
  current = zone.disk.current;
  other = zone.disk.other;
}

-- a zone stands on one file, or on two of which one is current
pub data Footing : Type 1 where
  one_file : {D : Type 0} → Ghosts D → Footing
  two_files : {D : Type 0} → Ghosts D → Footing

-- its disks
abbrev pub DisksOf : Footing → Type 0
DisksOf (one_file {D} disks) = D
DisksOf (two_files {D} disks) = PairDisks D

-- whether they tell their bytes
abbrev pub Tells : Footing → Type 0
Tells (one_file disks) = disks.tells
Tells (two_files disks) = disks.tells

-- ---- what a zone stands for

-- the patches that it took; on two files a checkpoint and the patches behind it
abbrev pub Point : Footing → Type 0
Point (one_file disks) = List CheckedPatch
Point (two_files disks) = PairPoint

-- the zone stands for it, and for the patch that it has in doubt
abbrev pub ZoneStands : (on : Footing) → ZoneView (DisksOf on) → Point on → Type 0
ZoneStands (one_file disks) zone taken =
    StandsForZone disks.tells (disks.past zone.disk) zone taken zone.doubt
ZoneStands (two_files disks) zone point = StandsAt disks (of_pair zone) point

-- the same with these patches behind it, and this one in doubt
abbrev pub further : (on : Footing) → Point on → List CheckedPatch → Option CheckedPatch → Point on
further (one_file disks) taken more doubt = taken ++ more
further (two_files disks) point more doubt = record {
  second = point.second;
  generation = point.generation;
  start = point.start;
  patches = point.patches ++ more;
  doubt = doubt;
}

-- The zone took these patches. On two files the first of them may stand in the checkpoint alone.
abbrev pub HasTaken : (on : Footing) → ZoneView (DisksOf on) → List CheckedPatch → Type 0
HasTaken (one_file disks) zone taken = ZoneStands (one_file disks) zone taken
HasTaken (two_files disks) zone taken =
    ((point : PairPoint) × ZoneStands (two_files disks) zone point) × (zone.brief ≡ brief_of taken)

-- what is kept with these patches more
abbrev pub with_patches : Brief → List CheckedPatch → Brief
with_patches brief [] = brief
with_patches brief (patch ∷ more) = with_patches (with_patch brief patch) more

-- ---- what a crash leaves

-- while patches are taken behind payloads, an image holds these and a front of the patches, or
-- these and the patch that was in doubt
abbrev pub HoldsAmid : ℕ → List (List ℕ) → Option CheckedPatch → List CheckedPatch → List ℕ → Type 0
HoldsAmid number payloads doubt more image =
    ((front : List CheckedPatch) × (behind : List CheckedPatch) × (more ≡ front ++ behind)
    × Holds image number (payloads ++ checked_texts front))
    ⊎ ((one : CheckedPatch) × (doubt ≡ Some one)
    × Holds image number (payloads ++ one.text ∷ []))

-- and an image of the other file leaves the current one as it is, or holds alone the checkpoint
-- that is next behind a front of the patches
abbrev pub IsBesideAmid : Bool → ℕ → Brief → List CheckedPatch → List ℕ → Type 0
IsBesideAmid second generation brief more image =
    (front : List CheckedPatch) × (behind : List CheckedPatch) × (more ≡ front ++ behind)
    × MayBeBeside second generation (with_patches brief front) image

-- where a zone stood for the point, a crash at any moment leaves that with a front of these patches
-- behind it, or with the one that was in doubt
abbrev pub LeavesBehind : (on : Footing) → Point on → List CheckedPatch → ZoneView (DisksOf on)
    → ZoneView (DisksOf on) → Type 0
LeavesBehind (one_file disks) taken more old new = disks.tells
    → LeavesOnly (HoldsAmid zone_number (checked_texts taken) old.doubt more)
    (disks.past old.disk) (disks.past new.disk)
LeavesBehind (two_files disks) point more old new = disks.tells
    → LeavesOnly (HoldsAmid (number_of point.second) (payloads_at point) old.doubt more)
    (disks.past old.disk.current) (disks.past new.disk.current)
    × LeavesOnly (IsBesideAmid point.second point.generation old.brief more)
    (disks.past old.disk.other) (disks.past new.disk.other)

-- the image is that of a zone that took patches with which the chain begins
abbrev pub HoldsFront : List CheckedPatch → List ℕ → Type 0
HoldsFront chain image =
    (front : List CheckedPatch) × IsPrefix front chain
    × Holds image zone_number (checked_texts front)

-- the images of the current file and the other are those of a zone with the replay of such patches
abbrev pub PairHoldsFront : Bool → List CheckedPatch → List ℕ → List ℕ → Type 0
PairHoldsFront second chain current other =
    (front : List CheckedPatch) × IsPrefix front chain
    × ZoneHoldsByRole second current other (brief_of front)

-- A crash at any moment leaves such a zone. On two files the moments may be any two, without a
-- common clock.
abbrev pub LeavesFronts : (on : Footing) → List CheckedPatch → DisksOf on → DisksOf on → Type 0
LeavesFronts (one_file disks) chain old new =
    LeavesOnly (HoldsFront chain) (disks.past old) (disks.past new)
LeavesFronts (two_files disks) chain old new = (current other : List ℕ)
    → MayHaveLeft (disks.past old.current) (disks.past new.current) current
    → MayHaveLeft (disks.past old.other) (disks.past new.other) other
    → PairHoldsFront old.second chain current other

-- ---- calls

-- The disks behind a call that may have failed: where it did, a count of faults rose. They are the
-- same files, and of two the same one is current, in the same generation.
abbrev pub ZoneWent : (on : Footing) → Type 0 → DisksOf on → DisksOf on → Type 0
ZoneWent (one_file disks) failed old new = DiskWent disks failed old new
ZoneWent (two_files disks) failed old new =
    (new.second ≡ old.second) × (new.generation ≡ old.generation)
    × DisksWent disks failed old.current new.current old.other new.other
