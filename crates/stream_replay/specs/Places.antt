-- The first fault of a text with its line.
use Rattle.std.specs.Prelude.{◌≡◌, ℕ, List}
use Rattle.patch_meaning.specs.declared.fault.PatchFault.TheVariants as faults
use Rattle.patch_meaning.specs.declared.fault.PatchKind.{PatchKind}
use Rattle.patch_meaning.specs.Stream.{IsStreamFault}
use Rattle.patch_reader.specs.Places.{line_number}

-- what is wrong at the place of the first fault of a text that is no stream, and the place's line
pub record IsFaultyStream (line at : ℕ) (kind : PatchKind) (text : List ℕ) : Type 0 where
  pub fault_is : IsStreamFault text (faults.At at kind)
  pub line_is : line ≡ line_number text at

-- the first fault of a text that is no stream is that a patch is too long
abbrev pub IsLong : ℕ → ℕ → List ℕ → Type 0
IsLong length limit text = IsStreamFault text (faults.TooLong length limit)
