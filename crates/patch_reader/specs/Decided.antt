-- What is decided of the row at a text's front, before the end of the text is known.
use Rattle.std.specs.Prelude.{◌≡◌, ℕ, ◌<◌, ◌≤◌, List, ◌++◌, length}
use Rattle.std.specs.Prelude.{drop, Option, Some, None, Result, Ok, Err}
use Rattle.patch_rows.specs.declared.row.Row.{Row}
use Rattle.patch_rows.specs.declared.fault.RowFault.{RowFault}
use Rattle.patch_rows.specs.declared.fault.RowFault.TheVariants as faults
use Rattle.patch_rows.specs.Fault.{Fault}
use Rattle.patch_rows.specs.Faults.{FaultDecided, FirstFault}
use Rattle.patch_rows.specs.Grammar.{RowDecided, ShortRowAt, IsRowAt}
use Rattle.patch_rows.specs.declared.cut.TextEnd.{TextEnd}
use Rattle.patch_rows.specs.declared.cut.TextEnd.TheVariants as ends

-- more text decides the row of any length
abbrev pub Undecided : List ℕ → Type 0
Undecided text = ((r : Row) (after : List ℕ) → RowDecided text r after → ⊥)
    × ((f : Fault) → FaultDecided text f → ⊥)

-- ---- within the limit

-- the row stands there whatever follows
abbrev pub ShortRowDecided : List ℕ → Row → List ℕ → Type 0
ShortRowDecided text r after = (more : List ℕ) → ShortRowAt (text ++ more) r (after ++ more)

-- the fault is the row's first one whatever follows
abbrev pub FirstFaultDecided : List ℕ → Fault → Type 0
FirstFaultDecided text f = (more : List ℕ) → FirstFault (text ++ more) (f.0, f.1 ++ more)

-- more text decides
abbrev pub MoreDecides : List ℕ → Type 0
MoreDecides text = ((r : Row) (after : List ℕ) → ShortRowDecided text r after → ⊥)
    × ((f : Fault) → FirstFaultDecided text f → ⊥)

-- What is answered of the row at a place: the row and the place behind it where they are
-- decided, none where more text decides, and else the decided fault at its place. Want of
-- memory says nothing.
abbrev pub DecidesRow : List ℕ → ℕ → Result (Option (Row × ℕ)) RowFault → Type 0
DecidesRow text at (Ok (Some x)) =
    ShortRowDecided (drop at text) x.0 (drop x.1 text) × (at < x.1) × (x.1 ≤ length text)
DecidesRow text at (Ok None) = MoreDecides (drop at text)
DecidesRow text at (Err (faults.At place kind)) =
    FirstFaultDecided (drop at text) (kind, drop place text)
    × (at < length text) × (place ≤ length text)
DecidesRow text at (Err faults.OutOfMemory) = Unit {0}

-- The same where the text is known to be whole: the row that stands there, none at the text's end,
-- and else the row's first fault.
abbrev pub ReadsRow : List ℕ → ℕ → Result (Option (Row × ℕ)) RowFault → Type 0
ReadsRow text at (Ok (Some x)) = IsRowAt text at x.0 x.1
ReadsRow text at (Ok None) = at ≡ length text
ReadsRow text at (Err (faults.At place kind)) =
    FirstFault (drop at text) (kind, drop place text) × (at < length text) × (place ≤ length text)
ReadsRow text at (Err faults.OutOfMemory) = Unit {0}

-- the one or the other
abbrev pub GivesRow : TextEnd → List ℕ → ℕ → Result (Option (Row × ℕ)) RowFault → Type 0
GivesRow ends.Open text at answer = DecidesRow text at answer
GivesRow ends.Known text at answer = ReadsRow text at answer
