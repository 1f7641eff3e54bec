-- How long a checkpoint is, and when it is too large.
use Rattle.std.specs.Prelude.{◌≡◌, ℕ, ◌+◌, ◌-◌, ◌^◌, ◌<◌, min}
use Rattle.std.specs.List.{All}
use Rattle.net_changes.specs.Values.{IsDatasetValue}
use Rattle.checkpoint_line.specs.First.{AreCounts}
use Rattle.checkpoint_text.specs.Brief.{Brief}
use Rattle.checkpoint_text.specs.Text.{checkpoint, first_line_of, IsIdValue}
use Rattle.paired_reading.specs.Payloads.{alone_length}
use Rattle.paired_reading.specs.declared.limit.TheConstants.{CHECKPOINT_FILE_LIMIT}

-- the numbers of the first line have 64 bits, the ids 128, and the dataset is one that a program
-- holds
pub record ArePrintable (generation : ℕ) (brief : Brief) : Type 0 where
  pub counts : AreCounts (first_line_of generation brief)
  pub ids_are : All IsIdValue brief.ids
  pub contents_are : IsDatasetValue brief.contents

-- how long a file is that holds this checkpoint alone
abbrev pub length_alone : ℕ → Brief → ℕ
length_alone generation brief = alone_length (checkpoint generation brief)

-- The next checkpoint is too large, and these two numbers are shown: there is no later generation,
-- or a file that holds it alone is longer than it may be.
pub data IsTooLarge (generation : ℕ) (brief : Brief) (shown limit : ℕ) : Type 0 where
  no_later : generation ≡ 2 ^ 64 - 1 → shown ≡ generation → limit ≡ generation
      → IsTooLarge generation brief shown limit
  too_long : generation < 2 ^ 64 - 1
      → CHECKPOINT_FILE_LIMIT < length_alone (generation + 1) brief
      → shown ≡ min (length_alone (generation + 1) brief) (2 ^ 64 - 1)
      → limit ≡ CHECKPOINT_FILE_LIMIT → IsTooLarge generation brief shown limit
