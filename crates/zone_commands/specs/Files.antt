-- What the two files of a zone hold, and what is read of them.
use Rattle.std.specs.Prelude.{◌≡◌, ℕ, List}
use Rattle.log_base.specs.declared.limits.TheConstants.{LOG_LIMITS}
use Rattle.checkpoint_text.specs.Brief.{Brief}
use Rattle.zone_pairs.specs.Pair.{IsWithin, ZoneHolds}
use Rattle.paired_zone.specs.Fault.{HasPairFault}
use Rattle.paired_zone.specs.declared.fault.PairFault.{PairFault}
use Rattle.paired_zone.specs.declared.fault.PairFault.TheVariants.{Failed}
use Rattle.zone_commands.specs.Readings.{lines_read}
use Rattle.zone_commands.specs.declared.reading.Reading.{Reading}

-- the two files are those of a zone that keeps this of the patches that it took, within the limits
pub record AreZoneFiles (first second : List ℕ) (brief : Brief) : Type 0 where
  pub hold : ZoneHolds first second brief
  pub within : IsWithin LOG_LIMITS brief

-- they are a zone's, and these lines are read of its dataset
pub record HasZoneLines (first second : List ℕ) (reading : Reading) (lines : List (List ℕ))
    : Type 0 where
  pub brief : Brief
  pub files : AreZoneFiles first second brief
  pub lines_are : lines ≡ lines_read reading brief.contents

-- they have this fault, and none that comes before it; that a call fails is free
abbrev pub HasFilesFault : List ℕ → List ℕ → PairFault → Type 0
HasFilesFault first second (Failed file) = Unit {0}
HasFilesFault first second other = HasPairFault first second LOG_LIMITS other
