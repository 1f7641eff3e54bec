-- What printed rows promise their reader.
use Rattle.std.specs.Prelude.{ℕ, List, IsUtf8, length}
use Rattle.delta_base.specs.declared.id.Id.{Id}
use Rattle.patch_meaning.specs.Rows.{RowsTo}
use Rattle.patch_rows.specs.Grammar.{IsKey, RowAt, row_limit}
use Rattle.patch_rows.specs.Printing.{IsRowValue}
use Rattle.patch_rows.specs.declared.row.Row.{Row}
use Rattle.printed_rows.specs.Printed.{ArePrintedRows, AreWithin, IsPrintedRow}
use Rattle.printed_rows.specs.Printed.{id_header, placed_from, printed_lines}

-- the parts of a row that stands in a text are values
abbrev pub RowsHaveValues : Type 0
RowsHaveValues = (text : List ℕ) (r : Row) (after : List ℕ) → RowAt text r after → IsRowValue r

-- a header that names an id can be printed
abbrev pub IdsHaveRows : Type 0
IdsHaveRows = (key : List ℕ) (id : Id) → IsUtf8 key → IsKey key → IsPrintedRow (id_header key id)

-- rows that are printed, each within the limit, are the rows of the text of their lines
abbrev pub PrintedRowsAreRead : Type 0
PrintedRowsAreRead = (rs : List Row) → ArePrintedRows rs → AreWithin row_limit rs
    → RowsTo (printed_lines rs) 0 (placed_from 0 rs) (length (printed_lines rs))
