-- The rows of a text with what stands behind them.
use Rattle.std.specs.Prelude.{ℕ, ◌≤◌, List, [], ◌∷◌}
use Rattle.patch_reader.specs.declared.placed.PlacedRow.{PlacedRow}
use Rattle.patch_reader.specs.Rows.{Gap, RowsUpTo}

-- From the one place on the text has these rows, and behind the last of them white space and
-- comments up to the other place.
abbrev pub RowsTo : List ℕ → ℕ → List PlacedRow → ℕ → Type 0
RowsTo text from rs to = (behind : ℕ) × RowsUpTo text from rs behind × Gap text behind to

-- each row begins at this place or before it
abbrev pub AreUpTo : List PlacedRow → ℕ → Type 0
AreUpTo [] stop = Unit {0}
AreUpTo (r ∷ rs) stop = (r.at ≤ stop) × AreUpTo rs stop
