-- A text that comes in pieces, and how far its rows were read: what users of a window see of it.
use Rattle.std.specs.Prelude.{◌≡◌, ℕ, ◌<◌, ◌≤◌, List, [], ◌++◌, length}
use Rattle.std.specs.Prelude.{drop, Option, Some, None, Result, Ok, Err}
use Rattle.patch_rows.specs.declared.fault.RowFault.{RowFault}
use Rattle.patch_reader.specs.declared.placed.PlacedRow.{PlacedRow}
use Rattle.patch_reader.specs.Rows.{Gap}

-- the text that was fed; the place behind the last row that was read; the place where the next row
-- begins, as far as that is known, and none once it was read and found unfinished; the place from
-- which on the text is kept
pub record Window : Type 0 where
  pub fed : List ℕ
  pub passed : ℕ
  pub front : Option ℕ
  pub kept : ℕ

-- behind white space and comments a row begins there, whatever follows
abbrev pub RowBegins : Window → ℕ → Type 0
RowBegins w start = ((more : List ℕ) → Gap (w.fed ++ more) w.passed start)
    × (w.kept ≤ start) × (start < length w.fed)

-- what stands where the next row begins; nothing where that isn't known
abbrev pub front_text : Window → List ℕ
front_text w = front_of w.front
  where
    front_of : Option ℕ → List ℕ
    front_of None = []
    front_of (Some start) = drop start w.fed

-- reading goes on behind a row; else all is as before, but for what is known of an unfinished row
abbrev pub ReadsOn : Window → Result (Option PlacedRow) RowFault → Window → Type 0
ReadsOn old (Ok (Some r)) new = new ≡ record old { passed = r.end; front = new.front }
ReadsOn old (Ok None) new = new ≡ record old { front = new.front }
ReadsOn old (Err fault) new = new ≡ record old { front = new.front }

-- all that was read was let go, and white space and comments behind it up to where the
-- next row begins
abbrev pub LetsGo : Window → Window → Type 0
LetsGo old new = (new ≡ record old { kept = new.kept }) × (old.kept ≤ new.kept)
    × (new.passed ≤ new.kept) × ((start : ℕ) → new.front ≡ Some start → new.kept ≡ start)
