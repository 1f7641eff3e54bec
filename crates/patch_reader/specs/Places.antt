-- Places in what is kept, as places of the whole text, and their lines.
use Rattle.std.specs.Prelude.{ℕ, ◌+◌, ◌-◌, ◌≤◌, ◌^◌, ◌==◌, List, min, take}
use Rattle.std.specs.Prelude.{count_by, Option, Some, None, Result, Ok, Err}
use Rattle.patch_rows.specs.declared.row.Row.{Row}
use Rattle.patch_rows.specs.declared.fault.RowFault.{RowFault}
use Rattle.patch_rows.specs.declared.fault.RowFault.TheVariants as faults
use Rattle.patch_reader.specs.declared.placed.PlacedRow.{PlacedRow}

-- the place so far behind the other one, as a u64
abbrev pub further_place : ℕ → ℕ → ℕ
further_place base at = min (base + at) (2 ^ 64 - 1)

abbrev pub moved_fault : ℕ → RowFault → RowFault
moved_fault base (faults.At at kind) = faults.At (further_place base at) kind
moved_fault base faults.OutOfMemory = faults.OutOfMemory

abbrev pub placed_row : ℕ → Row → ℕ → ℕ → PlacedRow
placed_row base r at end =
    record { row = r; at = further_place base at; end = further_place base end }

-- the place of the row or of the fault isn't before this one
abbrev pub IsNotBefore : ℕ → Result (Option PlacedRow) RowFault → Type 0
IsNotBefore base (Ok (Some r)) = base ≤ r.at
IsNotBefore base (Ok None) = Unit {0}
IsNotBefore base (Err (faults.At at kind)) = base ≤ at
IsNotBefore base (Err faults.OutOfMemory) = Unit {0}

-- how many line feeds stand before a place
abbrev pub feeds_before : List ℕ → ℕ → ℕ
feeds_before text at = count_by (λ b. b == 10) (take at text)

-- the line of a place, counted from 1
abbrev pub line_number : List ℕ → ℕ → ℕ
line_number text at = feeds_before text at + 1
