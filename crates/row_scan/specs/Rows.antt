-- Canonical rows of the kinds that a scan finds, in a text.
use Rattle.std.specs.Prelude.{◌≡◌, ℕ, ◌+◌, ◌<◌, ◌≤◌, List, ◌∷◌, ◌++◌, length, drop, codes, Some}
use Rattle.delta_base.specs.declared.id.Id.{Id}
use Rattle.delta_base.specs.Ids.{number_of}
use Rattle.rdf_terms.specs.declared.change.Change.TheVariants as change
use Rattle.rdf_terms.specs.declared.term.Term.TheVariants as term
use Rattle.nquads_text.specs.Grammar.{StartsWith}
use Rattle.patch_rows.specs.declared.row.Row.{Row}
use Rattle.patch_rows.specs.declared.row.Row.TheVariants as row
use Rattle.patch_rows.specs.Grammar.{begins_space, IsDecidedRow}
use Rattle.row_scan.specs.declared.row.Says.{Says}
use Rattle.row_scan.specs.declared.row.Says.TheVariants as says
use Rattle.row_scan.specs.declared.row.ScannedRow.{ScannedRow}
use Rattle.row_scan.specs.Found.{HasQuadRow}

-- a row stands between two places, whatever follows the text, and a line feed behind it
pub record IsRowThere (text : List ℕ) (at end : ℕ) (r : Row) : Type 0 where
  pub row : IsDecidedRow text at r end
  pub fresh : StartsWith begins_space (drop at text) → ⊥
  pub feed : drop end text ≡ 10 ∷ drop (end + 1) text
  pub further : at < end
  pub within : end + 1 ≤ length text

-- the header with this key, whose value is the IRI `uuid:` and these digits
abbrev pub id_row : List ℕ → List ℕ → Row
id_row key digits = row.Header key (term.Iri (codes "uuid:" ++ digits))

-- such a row stands there, and its digits name the id
abbrev pub HasIdRow : List ℕ → ℕ → ℕ → List ℕ → Id → Type 0
HasIdRow text at end key id =
    (digits : List ℕ) × (number_of digits ≡ Some id.0) × IsRowThere text at end (id_row key digits)

-- the row between two places says this
abbrev pub IsSaid : List ℕ → ℕ → ℕ → Says → Type 0
IsSaid text at end (says.Quad adds line) =
    HasQuadRow text at (record { adds = adds; line = line; end = end })
IsSaid text at end says.Begin = IsRowThere text at end (row.Change change.Begin)
IsSaid text at end says.Commit = IsRowThere text at end (row.Change change.Commit)
IsSaid text at end says.Abort = IsRowThere text at end (row.Change change.Abort)
IsSaid text at end (says.Id id) = HasIdRow text at end (codes "id") id
IsSaid text at end (says.Prev id) = HasIdRow text at end (codes "prev") id

abbrev pub HasRow : List ℕ → ℕ → ScannedRow → Type 0
HasRow text at r = IsSaid text at r.end r.says

-- the 36 bytes of an id stand in front, and behind them the end of its row
pub record HasIdDigits (text : List ℕ) (id : Id) : Type 0 where
  pub digits : List ℕ
  pub named : number_of digits ≡ Some id.0
  pub count : length digits ≡ 36
  pub stands : text ≡ digits ++ 62 ∷ 32 ∷ 46 ∷ 10 ∷ drop 40 text
