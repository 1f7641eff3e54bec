-- What is written while a row is read.
use Rattle.std.specs.Prelude.{◌≡◌, ℕ, ◌≤◌, false, List, ◌++◌, length, drop, Result, Ok, Err}
use Rattle.std.specs.List.{list_all}
use Rattle.nquads_text.specs.Grammar.{is_blank}
use Rattle.patch_rows.specs.Cut.{label_open}
use Rattle.patch_rows.specs.Fault.{Read}
use Rattle.row_lines.specs.declared.fault.Unwritten.{Unwritten}

-- the text of what is read is appended, and the result is the place behind it; where nothing was
-- found, nothing is said
abbrev pub WritesRead : {X : Type 0} → (X → List ℕ) → List ℕ → List ℕ → List ℕ
    → Result ℕ Unwritten → Read X → Type 0
WritesRead {X} text_of text old new (Ok end) read = (x : X) × (read ≡ Ok (x, drop end text))
    × (end ≤ length text) × (new ≡ old ++ text_of x)
WritesRead text_of text old new (Err e) read = Unit {0}

-- no label before this text goes on with it, and no string gets a datatype, whatever follows
abbrev pub SettlesTerm : List ℕ → Type 0
SettlesTerm rest = (label_open rest ≡ false) × (list_all is_blank rest ≡ false)
