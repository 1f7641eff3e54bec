-- What becomes of the two files of a zone of which a checkpoint is made.
use Rattle.std.specs.Prelude.{◌≡◌, ℕ, ◌+◌, Bool, not, List, [], ◌∷◌, length, if◌then◌else◌}
use Rattle.log_journal.specs.File.{Holds}
use Rattle.checkpoint_text.specs.Brief.{Brief}
use Rattle.checkpoint_text.specs.Text.{checkpoint}
use Rattle.zone_files.specs.Generation.{number_of}
use Rattle.zone_files.specs.Pair.{IsBehind}
use Rattle.zone_beside.specs.Finding.{IsCurrent}
use Rattle.paired_zone.specs.Large.{IsTooLarge}
use Rattle.paired_zone.specs.declared.answer.CheckEnd.{CheckEnd}
use Rattle.paired_zone.specs.declared.answer.CheckEnd.TheVariants.{Done, TooLarge}
use Rattle.zone_commands.specs.Files.{AreZoneFiles}

-- The file that wasn't current holds the checkpoint of the next generation alone, and is current: the
-- other one is behind it, and holds what it held.
pub record HoldCheckpoint (first second first' second' : List ℕ) (brief : Brief) : Type 0 where
  pub on_second : Bool
  pub generation : ℕ
  pub was_current : IsCurrent first second on_second generation
  pub alone : Holds (if on_second then first' else second') (number_of (not on_second))
      (checkpoint (generation + 1) brief ∷ [])
  pub behind : IsBehind (not on_second) (generation + 1) (if on_second then second' else first')
  pub payloads : List (List ℕ)
  pub held : Holds (if on_second then second else first) (number_of on_second) payloads
  pub holds : Holds (if on_second then second' else first') (number_of on_second) payloads

-- the next checkpoint is too large, and these two numbers are shown
pub record HasNoRoom (first second : List ℕ) (brief : Brief) (shown limit : ℕ) : Type 0 where
  pub on_second : Bool
  pub generation : ℕ
  pub is_current : IsCurrent first second on_second generation
  pub too_large : IsTooLarge generation brief shown limit

-- Where the files are told, they were those of a zone, and are those of one that keeps the same,
-- whatever the end. A checkpoint that is made is of all patches taken; where it is too large the
-- files are as they were.
pub record Checkpointed (tells : Type 0) (first second first' second' : List ℕ) (end : CheckEnd)
    : Type 0 where
  pub brief : Brief
  pub was : tells → AreZoneFiles first second brief
  pub is : tells → AreZoneFiles first' second' brief
  pub version : (version : ℕ) → end ≡ Done version → version ≡ length brief.ids
  pub made : (version : ℕ) → end ≡ Done version → tells
      → HoldCheckpoint first second first' second' brief
  pub too_large : (shown limit : ℕ) → end ≡ TooLarge shown limit → tells
      → HasNoRoom first second brief shown limit
  pub untouched : (shown limit : ℕ) → end ≡ TooLarge shown limit → tells
      → (first' ≡ first) × (second' ≡ second)
