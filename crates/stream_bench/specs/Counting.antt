-- How many rows a text has.
use Rattle.std.specs.Prelude.{◌≡◌, ℕ, ◌+◌, ◌^◌, ◌<◌, Bool, true, false, List, [], length}
use Rattle.patch_reader.specs.declared.placed.PlacedRow.{PlacedRow}
use Rattle.patch_reader.specs.Pieces.{Reader}
use Rattle.patch_reader.specs.Rows.{Gap, RowsUpTo}

-- the text is these many rows, with white space and comments around them
abbrev pub HasRows : List ℕ → ℕ → Type 0
HasRows text count = (rows_ : List PlacedRow) × (to : ℕ) × RowsUpTo text 0 rows_ to
    × Gap text to (length text) × (length rows_ ≡ count)

-- all but the rows stays
abbrev pub SameText : Reader → Reader → Type 0
SameText old new = (new.fed ≡ old.fed) × (new.end ≡ old.end) × (new.fault ≡ old.fault)

-- a row was taken, or none was ready
abbrev pub TakesOne : Reader → Bool → Reader → Type 0
TakesOne old true new =
    (length new.taken ≡ length old.taken + 1) × (length new.ready < length old.ready)
TakesOne old false new = (new.taken ≡ old.taken) × (new.ready ≡ [])

-- so many rows were taken, of a text whose places fit a u64
abbrev pub CountsRows : Reader → ℕ → Type 0
CountsRows r count = length r.fed < 2 ^ 64 → length r.taken ≡ count
