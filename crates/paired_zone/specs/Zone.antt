-- What a zone on two files is.
use Rattle.std.specs.Prelude.{◌≡◌, ℕ, Bool, List, Option, if◌then◌else◌}
use Rattle.rdf_terms.specs.declared.term.Term.{Term}
use Rattle.log_base.specs.declared.limits.LogLimits.{LogLimits}
use Rattle.disk_model.specs.declared.disk.Disk.{Ghosts}
use Rattle.patch_meaning.specs.Checked.{CheckedPatch}
use Rattle.checkpoint_text.specs.Brief.{Brief}
use Rattle.zone_pairs.specs.Pair.{PairPoint, StandsForPair}

-- What is kept of the patches taken; terms that its dataset has met; the patch whose gate may stand
-- open, if there is one; the limits; whether the second file is current, and in which generation;
-- and the disks of the current file and the other.
pub record PairedView (D : Type 0) : Type 0 where
  pub brief : Brief
  pub terms : List Term
  pub doubt : Option CheckedPatch
  pub limits : LogLimits
  pub second : Bool
  pub generation : ℕ
  pub current : D
  pub other : D

-- the disk of the first file, and that of the second
abbrev pub first_in : {D : Type 0} → PairedView D → D
first_in zone = if zone.second then zone.other else zone.current

abbrev pub second_in : {D : Type 0} → PairedView D → D
second_in zone = if zone.second then zone.current else zone.other

-- the zone's disks stand for this point
pub record StandsAt {D : Type 0} (disks : Ghosts D) (zone : PairedView D)
    (point : PairPoint) : Type 0 where
  pub second_is : point.second ≡ zone.second
  pub generation_is : point.generation ≡ zone.generation
  pub doubt_is : point.doubt ≡ zone.doubt
  pub stands : StandsForPair disks.tells (disks.past zone.current) (disks.past zone.other)
      zone.limits zone.brief point
