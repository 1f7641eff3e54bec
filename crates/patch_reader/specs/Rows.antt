-- The rows of a text, one behind another, and those that it decides before its end is known.
use Rattle.std.specs.Prelude.{◌≡◌, ℕ, ◌^◌, ◌<◌, ◌≤◌, List, [], ◌∷◌, ◌++◌}
use Rattle.std.specs.Prelude.{length, drop, Option, Some, None, Result, Ok, Err}
use Rattle.patch_rows.specs.declared.fault.RowFault.{RowFault}
use Rattle.patch_rows.specs.declared.fault.RowFault.TheVariants as faults
use Rattle.patch_rows.specs.declared.fault.RowKind.{RowKind}
use Rattle.patch_rows.specs.Faults.{FirstFault}
use Rattle.patch_rows.specs.Grammar.{Space, IsRowAt}
use Rattle.patch_reader.specs.declared.placed.PlacedRow.{PlacedRow}
use Rattle.patch_rows.specs.declared.cut.TextEnd.{TextEnd}
use Rattle.patch_rows.specs.declared.cut.TextEnd.TheVariants as ends

-- ---- of a whole text

-- between these places stand white space and comments, and no more of them follow
abbrev pub Gap : List ℕ → ℕ → ℕ → Type 0
Gap text from to = Space (drop from text) (drop to text) × (from ≤ to) × (to ≤ length text)

-- From the one place on the text has these rows. Behind the last of them the other place comes.
abbrev pub RowsUpTo : List ℕ → ℕ → List PlacedRow → ℕ → Type 0
RowsUpTo text from [] to = from ≡ to
RowsUpTo text from (r ∷ rs) to =
    Gap text from r.at × IsRowAt text r.at r.row r.end × RowsUpTo text r.end rs to

-- a row would begin at the one place, and its first fault is this one, at the other
abbrev pub NoRowAt : List ℕ → ℕ → RowKind → ℕ → Type 0
NoRowAt text from kind at =
    (from < length text) × FirstFault (drop from text) (kind, drop at text) × (at ≤ length text)

-- behind white space and comments from this place on no row stands, but this fault
abbrev pub FaultBehind : List ℕ → ℕ → RowKind → ℕ → Type 0
FaultBehind text from kind at = (to : ℕ) × Gap text from to × NoRowAt text to kind at

-- ---- of a text that may go on

-- the rows stand there whatever follows
abbrev pub RowsDecided : List ℕ → ℕ → List PlacedRow → ℕ → Type 0
RowsDecided text from rows_ to = (more : List ℕ) → RowsUpTo (text ++ more) from rows_ to

-- behind white space and comments the fault stands there whatever follows
abbrev pub NextRowFault : List ℕ → ℕ → RowKind → ℕ → Type 0
NextRowFault text from kind at =
    (to : ℕ) × ((more : List ℕ) → Gap (text ++ more) from to × NoRowAt (text ++ more) to kind at)

-- from this place on no row is decided, and no fault
abbrev pub NothingDecided : List ℕ → ℕ → Type 0
NothingDecided text from = ((r : PlacedRow) → RowsDecided text from (r ∷ []) r.end → ⊥)
    × ((kind : RowKind) (at : ℕ) → NextRowFault text from kind at → ⊥)

-- ---- of either

-- the rows stand there: whatever follows, or where the text is known to be whole
abbrev pub RowsStand : TextEnd → List ℕ → ℕ → List PlacedRow → ℕ → Type 0
RowsStand ends.Open text from rows_ to = RowsDecided text from rows_ to
RowsStand ends.Known text from rows_ to = RowsUpTo text from rows_ to

-- nothing more stands behind these rows: nothing is decided, there are only white space and
-- comments, or there is this fault. Want of memory says nothing.
abbrev pub StopsRows : TextEnd → List ℕ → ℕ → Option RowFault → Type 0
StopsRows ends.Open text from None = NothingDecided text from
StopsRows ends.Known text from None = Gap text from (length text)
StopsRows ends.Open text from (Some (faults.At at kind)) = NextRowFault text from kind at
StopsRows ends.Known text from (Some (faults.At at kind)) = FaultBehind text from kind at
StopsRows end text from (Some faults.OutOfMemory) = Unit {0}

-- what is answered of the next row behind a place: the row, none, or the fault
abbrev pub GivesNext : TextEnd → List ℕ → ℕ → Result (Option PlacedRow) RowFault → Type 0
GivesNext end text from (Ok (Some r)) = RowsStand end text from (r ∷ []) r.end
GivesNext end text from (Ok None) = StopsRows end text from None
GivesNext end text from (Err fault) = StopsRows end text from (Some fault)

-- rows that stand from one place on up to another were put behind others
abbrev pub AddsRows : TextEnd → List ℕ → ℕ → List PlacedRow → List PlacedRow → ℕ → Type 0
AddsRows end text from old new to =
    (rows_ : List PlacedRow) × (new ≡ old ++ rows_) × RowsStand end text from rows_ to

-- the rows that were ready still are, in front of those that came
abbrev pub StayReady : List PlacedRow → List PlacedRow → Type 0
StayReady old new = (more : List PlacedRow) × (new ≡ old ++ more)

-- the text is kept from this place on, and its places fit a u64
abbrev pub KeepsText : List ℕ → ℕ → List ℕ → Type 0
KeepsText text from kept = (drop from text ≡ kept) × (from ≤ length text) × (length text < 2 ^ 64)
