-- Why payloads are none of a zone.
use Rattle.std.specs.Prelude.{◌≡◌, ℕ, ◌-◌, ◌^◌, ◌<◌, ◌≤◌, min, List, Option}
use Rattle.patch_meaning.specs.Checked.{CheckedPatch}
use Rattle.checkpoint_text.specs.Brief.{Brief, file_length}
use Rattle.paired_reading.specs.Payloads.{BeginWith, HasNoCheckpoint, AreAllChained}
use Rattle.paired_reading.specs.Payloads.{BreakAtVersion, AreMoreFrom}
use Rattle.paired_reading.specs.declared.fault.PayloadsFault.{PayloadsFault}
use Rattle.paired_reading.specs.declared.fault.PayloadsFault.TheVariants.{BrokenCheckpoint}
use Rattle.paired_reading.specs.declared.fault.PayloadsFault.TheVariants.{BrokenChain, OverLimit}
use Rattle.paired_reading.specs.declared.fault.PayloadsFault.TheVariants.{TermsFull}

-- a number, or the last one of 64 bits where it is greater
abbrev pub shown : ℕ → ℕ
shown length = min length (2 ^ 64 - 1)

-- the payloads have this fault, and none that comes before it
abbrev pub HasPayloadsFault : List (List ℕ) → ℕ → ℕ → PayloadsFault → Type 0
HasPayloadsFault payloads most limit BrokenCheckpoint = HasNoCheckpoint payloads
HasPayloadsFault payloads most limit (BrokenChain version) =
    (generation : ℕ) × (start : Option Brief) × (texts : List (List ℕ))
    × BeginWith generation start texts payloads × BreakAtVersion most start texts version
HasPayloadsFault payloads most limit (OverLimit length found) =
    (generation : ℕ) × (start : Option Brief) × (texts : List (List ℕ))
    × (patches : List CheckedPatch) × (brief : Brief)
    × BeginWith generation start texts payloads × AreAllChained most start texts patches brief
    × (limit < file_length brief.ids brief.bytes) × (found ≡ limit)
    × (length ≡ shown (file_length brief.ids brief.bytes))
HasPayloadsFault payloads most limit TermsFull =
    (generation : ℕ) × (start : Option Brief) × (texts : List (List ℕ))
    × (patches : List CheckedPatch) × (brief : Brief)
    × BeginWith generation start texts payloads × AreAllChained most start texts patches brief
    × (file_length brief.ids brief.bytes ≤ limit) × AreMoreFrom start patches
