-- What the replay of an input says of its text.
use Rattle.std.specs.Prelude.{◌≡◌, ℕ, ◌+◌, ◌<◌, ◌≤◌, List, [], length, Option, Some, None}
use Rattle.std.specs.Io.KnownBytes.{Consumes}
use Rattle.delta_base.specs.Outside.{Rose}
use Rattle.chain_core.specs.declared.testing.ChainFault.{ChainFault}
use Rattle.chain_core.specs.Breaks.{Breaks}
use Rattle.patch_meaning.specs.Patch.{Meaning}
use Rattle.patch_meaning.specs.Replay.{links_said}
use Rattle.patch_meaning.specs.Stream.{IsStream}
use Rattle.sink_writing.specs.declared.room.TheConstants.{PIECE}
use Rattle.stream_replay.specs.declared.replay.Replayed.{Replayed}
use Rattle.stream_replay.specs.declared.fault.ReplayFault.{ReplayFault}
use Rattle.stream_replay.specs.declared.fault.ReplayFault.TheVariants as ends
use Rattle.stream_replay.specs.Places.{IsFaultyStream, IsLong}
use Rattle.stream_replay.specs.Replaying.{AreReplayed}

-- the bytes that a stream may have
abbrev pub stream_limit : ℕ
stream_limit = 268435456

-- where an input tells its bytes, it was read to its end, and its text isn't too long and is such
abbrev pub ReadsBytes : Option (List ℕ) → Option (List ℕ) → (List ℕ → Type 0) → Type 0
ReadsBytes None left IsSuch = Unit {0}
ReadsBytes (Some text) left IsSuch = (left ≡ Some []) × (length text ≤ stream_limit) × IsSuch text

-- more bytes were read than the limit, and then no more: at most a piece too many
abbrev pub ReadsPast : ℕ → Option (List ℕ) → Option (List ℕ) → Type 0
ReadsPast limit before after = (front : List ℕ) × Consumes before after front
    × (limit < length front) × (length front ≤ limit + PIECE)

-- an input was found to have more bytes than a stream may have
abbrev pub IsTooLong : Option (List ℕ) → Option (List ℕ) → Type 0
IsTooLong before after = ReadsPast stream_limit before after

-- the text is a stream, and this is the replay of its patches
pub record IsReplayed (r : Replayed) (text : List ℕ) : Type 0 where
  pub meanings : List Meaning
  pub stream : IsStream text meanings
  pub replayed : AreReplayed meanings r

-- the text is a stream, and this is the first fault of its patches as a chain
pub record IsUnchained (fault : ChainFault) (text : List ℕ) : Type 0 where
  pub meanings : List Meaning
  pub stream : IsStream text meanings
  pub breaks : Breaks (links_said meanings) fault

-- why a text has no replay; want of memory is free
abbrev pub EndsText : ReplayFault → List ℕ → Type 0
EndsText (ends.Stream line at kind) text = IsFaultyStream line at kind text
EndsText (ends.LongPatch size limit) text = IsLong size limit text
EndsText (ends.Chain fault) text = IsUnchained fault text
EndsText ends.TooLong text = ⊥
EndsText ends.Failed text = ⊥
EndsText ends.OutOfMemory text = Unit {0}

-- Why an input has no replay, with what was told of it before and after: its bytes, and how often a
-- call has failed. Want of memory is free.
abbrev pub EndsReplay : Option (List ℕ) → Option (List ℕ) → ℕ → ℕ → ReplayFault → Type 0
EndsReplay before after faults faults' (ends.Stream line at kind) =
    ReadsBytes before after (IsFaultyStream line at kind)
EndsReplay before after faults faults' (ends.LongPatch size limit) =
    ReadsBytes before after (IsLong size limit)
EndsReplay before after faults faults' (ends.Chain fault) =
    ReadsBytes before after (IsUnchained fault)
EndsReplay before after faults faults' ends.TooLong = IsTooLong before after
EndsReplay before after faults faults' ends.Failed = Rose faults faults'
EndsReplay before after faults faults' ends.OutOfMemory = Unit {0}
