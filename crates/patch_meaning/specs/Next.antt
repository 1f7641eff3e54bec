-- The next row of a text, as a reader gives it.
use Rattle.std.specs.Prelude.{◌≡◌, ℕ, List, length, Option, Some, None, Result, Ok, Err}
use Rattle.patch_rows.specs.declared.row.Row.{Row}
use Rattle.patch_rows.specs.declared.fault.RowFault.{RowFault}
use Rattle.patch_rows.specs.declared.fault.RowFault.TheVariants as faults
use Rattle.patch_rows.specs.Grammar.{IsRowAt}
use Rattle.patch_meaning.specs.declared.rows.Next.{Next}
use Rattle.patch_meaning.specs.Roles.{role}
use Rattle.patch_reader.specs.Rows.{Gap, NoRowAt}

-- what a row says that stands there, behind white space and comments
abbrev pub IsNextRow : List ℕ → ℕ → Next → Type 0
IsNextRow text from next =
    (r : Row) × Gap text from next.at × IsRowAt text next.at r next.end × (next.role ≡ role r)

-- the next row, or none up to the text's end, or the first fault of the next row
abbrev pub IsNextRead : List ℕ → ℕ → Result (Option Next) RowFault → Type 0
IsNextRead text from (Ok None) = Gap text from (length text)
IsNextRead text from (Ok (Some next)) = IsNextRow text from next
IsNextRead text from (Err (faults.At at kind)) =
    (to : ℕ) × Gap text from to × NoRowAt text to kind at
IsNextRead text from (Err faults.OutOfMemory) = Unit {0}
