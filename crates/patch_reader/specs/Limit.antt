-- Reading a row within its limit, in a whole text and in one that may go on.
use Rattle.std.specs.Prelude.{ℕ, ◌+◌, List, ◌++◌, length, drop, Ok}
use Rattle.std.specs.Prelude.{Err, ◌==◌, nat_lt, if◌then◌else◌}
use Rattle.patch_rows.specs.declared.fault.RowKind.TheVariants.{TooLong}
use Rattle.patch_rows.specs.declared.row.Row.{Row}
use Rattle.patch_rows.specs.Fault.{Read}
use Rattle.patch_rows.specs.Grammar.{row_limit, row_front}
use Rattle.patch_rows.specs.Rows.{live_row, row_at}
use Rattle.patch_rows.specs.Cut.{ends_row}

-- what is read of the front, as of the text that goes on with `tail`: an end of the front, or a row
-- up to its last byte, is too long
abbrev pub of_front : List ℕ → List ℕ → Read Row → Read Row
of_front text tail (Ok x) = if length x.1 == 0 then Err (TooLong, text) else Ok (x.0, x.1 ++ tail)
of_front text tail (Err f) =
    if ends_row f.0 f.1 then Err (TooLong, text) else Err (f.0, f.1 ++ tail)

-- a row of a text that has more bytes than a row may have
abbrev pub front_row_at : List ℕ → Read Row
front_row_at text = of_front text (drop (row_limit + 1) text) (live_row (row_front text))

-- a row of a whole text
unfoldable pub limited_row_at : List ℕ → Read Row
limited_row_at text = if nat_lt row_limit (length text) then front_row_at text else row_at text
