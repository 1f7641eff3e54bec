-- A reader of pieces, as its callers see it.
use Rattle.std.specs.Prelude.{◌≡◌, ℕ, ◌^◌, ◌<◌, List, [], ◌∷◌, ◌++◌}
use Rattle.std.specs.Prelude.{length, Option, Some, None, Result, Ok, Err}
use Rattle.patch_rows.specs.declared.row.Row.{Row}
use Rattle.patch_rows.specs.declared.fault.RowFault.{RowFault}
use Rattle.patch_rows.specs.declared.cut.TextEnd.{TextEnd}
use Rattle.patch_reader.specs.declared.placed.PlacedRow.{PlacedRow}
use Rattle.patch_reader.specs.Rows.{RowsStand, StopsRows}
use Rattle.patch_reader.specs.Window.{Window}

-- the text that was fed, and whether its end is known; of its rows those taken and those ready; the
-- fault that was met
pub record Reader : Type 0 where
  pub fed : List ℕ
  pub end : TextEnd
  pub taken : List PlacedRow
  pub ready : List PlacedRow
  pub fault : Option RowFault

-- the text's rows, one behind another, and what comes behind them: no more, or the fault; want of
-- memory hides the rest
abbrev pub AreAllRows : TextEnd → List ℕ → List PlacedRow → Option RowFault → Type 0
AreAllRows end text rows_ fault =
    (behind : ℕ) × RowsStand end text 0 rows_ behind × StopsRows end text behind fault

-- the rows taken and those ready are all rows of what was fed, whose places fit a u64
abbrev pub HasAllRows : Reader → Type 0
HasAllRows r = length r.fed < 2 ^ 64 → AreAllRows r.end r.fed (r.taken ++ r.ready) r.fault

-- it is answered which fault was met, if any
abbrev pub TellsMetFault : Option RowFault → Result Unit RowFault → Type 0
TellsMetFault fault (Ok x) = fault ≡ None
TellsMetFault fault (Err e) = fault ≡ Some e

-- behind a fault no row comes, and the fault stays
abbrev pub FaultStays : Reader → Reader → Type 0
FaultStays old new =
    (e : RowFault) → old.fault ≡ Some e → (new.fault ≡ Some e) × (new.ready ≡ old.ready)

-- the first row that was ready is taken; or none was ready, and nothing changed
abbrev pub Takes : Reader → Option PlacedRow → Reader → Type 0
Takes old (Some r) new = (old.ready ≡ r ∷ new.ready)
    × (new ≡ record old { taken = old.taken ++ r ∷ []; ready = new.ready })
Takes old None new = (old.ready ≡ []) × (new ≡ old)

-- the same, where the row's places aren't answered
abbrev pub TakesRow : Reader → Option Row → Reader → Type 0
TakesRow old (Some row) new = (r : PlacedRow) × (r.row ≡ row) × Takes old (Some r) new
TakesRow old None new = Takes old None new

-- these rows stand up to where the window's rows were read, and behind that no more, or the fault;
-- without one the window has the text
pub record HasRead (end : TextEnd) (fed : List ℕ) (rows_ : List PlacedRow)
    (fault : Option RowFault) (w : Window) : Type 0 where
  pub all : RowsStand end fed 0 rows_ w.passed
  pub stops : StopsRows end fed w.passed fault
  pub same : fault ≡ None → w.fed ≡ fed
