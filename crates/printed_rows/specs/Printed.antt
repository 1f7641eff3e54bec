-- Canonical rows, each on its line.
use Rattle.std.specs.Prelude.{ℕ, ◌+◌, ◌≤◌, List, [], ◌∷◌, ◌++◌, length, codes}
use Rattle.std.specs.List.{flat_map}
use Rattle.delta_base.specs.declared.id.Id.{Id}
use Rattle.delta_base.specs.Ids.{text_of}
use Rattle.rdf_terms.specs.declared.term.Term.TheVariants as term
use Rattle.patch_rows.specs.declared.row.Row.{Row}
use Rattle.patch_rows.specs.declared.row.Row.TheVariants as row
use Rattle.patch_rows.specs.Printing.{row_text, IsRowValue, IsWritable}
use Rattle.patch_reader.specs.declared.placed.PlacedRow.{PlacedRow}

-- a row on its line
abbrev pub printed_line : Row → List ℕ
printed_line r = row_text r ++ 10 ∷ []

abbrev pub printed_lines : List Row → List ℕ
printed_lines rs = flat_map printed_line rs

-- its parts are values, and each may stand where it does: what its line takes to be read again
pub record IsPrintedRow (r : Row) : Type 0 where
  pub value : IsRowValue r
  pub writable : IsWritable r

abbrev pub ArePrintedRows : List Row → Type 0
ArePrintedRows [] = Unit {0}
ArePrintedRows (r ∷ rs) = IsPrintedRow r × ArePrintedRows rs

-- each line has no more bytes than these
abbrev pub AreWithin : ℕ → List Row → Type 0
AreWithin most [] = Unit {0}
AreWithin most (r ∷ rs) = (length (printed_line r) ≤ most) × AreWithin most rs

-- where rows stand: the first one at this place, and each behind the line of the one before
abbrev pub placed_from : ℕ → List Row → List PlacedRow
placed_from at [] = []
placed_from at (r ∷ rs) =
    record { row = r; at = at; end = at + length (row_text r) }
    ∷ placed_from (at + length (printed_line r)) rs

-- the row of a header that names an id
abbrev pub id_header : List ℕ → Id → Row
id_header key id = row.Header key (term.Iri (codes "uuid:" ++ text_of id.0))
