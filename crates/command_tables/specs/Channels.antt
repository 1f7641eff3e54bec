-- What is told of the objects of the outside that a command works with.
use Rattle.std.specs.Prelude.{◌⊎◌, ℕ, List, Option, map, String, string_bytes}
use Rattle.std.specs.declared.alloc.Global.{Global}
use Rattle.std.specs.Io.KnownBytes.{Appends, Keeps}
use Rattle.delta_base.specs.Outside.{Rose}
use Rattle.sink_writing.specs.Writing.{AppendsFront}

-- its bytes where it tells them, and how often a call has failed
pub record Channel : Type 0 where
  pub bytes : Option (List ℕ)
  pub faults : ℕ

abbrev pub channel : Option (List ℕ) → ℕ → Channel
channel bytes faults = record { bytes = bytes; faults = faults }

abbrev pub ChannelFailed : Channel → Channel → Type 0
ChannelFailed before after = Rose before.faults after.faults

-- nothing was written
abbrev pub IsSilent : Channel → Channel → Type 0
IsSilent before after = Keeps before.bytes after.bytes

-- the text was written
abbrev pub WritesText : Channel → Channel → List ℕ → Type 0
WritesText before after text = Appends before.bytes after.bytes text

-- a front of the text was written
abbrev pub WritesFront : Channel → Channel → List ℕ → Type 0
WritesFront before after text = AppendsFront before.bytes after.bytes text

-- the line was written, unless the object failed
abbrev pub TellsLine : Channel → Channel → List ℕ → Type 0
TellsLine before after line = ChannelFailed before after ⊎ WritesText before after line

abbrev pub words_of : List (String Global) → List (List ℕ)
words_of words = map string_bytes words
