-- The canonical row of a quad, in a text.
use Rattle.std.specs.Prelude.{◌≡◌, ℕ, ◌+◌, ◌<◌, ◌≤◌, Bool, List, length}
use Rattle.std.specs.Prelude.{drop, IsTrue, slice_range, if◌then◌else◌}
use Rattle.rdf_terms.specs.declared.change.Change.{Change}
use Rattle.rdf_terms.specs.declared.change.Change.TheVariants as change
use Rattle.rdf_terms.specs.Line.{line}
use Rattle.rdf_terms.specs.Quad.{Statement, is_quad}
use Rattle.nquads_text.specs.Grammar.{StartsWith}
use Rattle.nquads_text.specs.Printing.{HasTermValues}
use Rattle.patch_rows.specs.declared.codes.Code.{Code}
use Rattle.patch_rows.specs.declared.codes.Code.TheVariants as code
use Rattle.patch_rows.specs.declared.row.Row.TheVariants as row
use Rattle.patch_rows.specs.Grammar.{begins_space, IsDecidedRow}
use Rattle.canonical_scan.specs.declared.line.LinePlaces.{LinePlaces}
use Rattle.canonical_scan.specs.Found.{IsLineThere}
use Rattle.canonical_scan.specs.Places.{ArePlaces}
use Rattle.row_scan.specs.declared.QuadRow.{QuadRow}

-- the change that adds a quad, or the one that deletes it
abbrev pub change_by : Bool → Statement → Change
change_by adds quad = if adds then change.Add quad else change.Delete quad

-- the code of its row
abbrev pub code_by : Bool → Code
code_by adds = if adds then code.Add else code.Delete

-- the row of a quad stands at a place, whatever follows the text, and behind its code the quad's
-- canonical line
pub record IsQuadRow (text : List ℕ) (at : ℕ) (r : QuadRow) (quad : Statement) : Type 0 where
  pub quads : IsTrue (is_quad quad)
  pub values : HasTermValues quad
  pub begins : r.line ≡ at + 2
  pub bytes : slice_range text r.line (r.end + 1) ≡ line quad
  pub row : IsDecidedRow text at (row.Change (change_by r.adds quad)) r.end
  pub fresh : StartsWith begins_space (drop at text) → ⊥
  pub further : at < r.end
  pub within : r.end + 1 ≤ length text

abbrev pub HasQuadRow : List ℕ → ℕ → QuadRow → Type 0
HasQuadRow text at r = (quad : Statement) × IsQuadRow text at r quad

-- its line has these places, and any quad of that line makes the row one of that quad
pub record IsRowOfLine (text : List ℕ) (at : ℕ) (r : QuadRow) (places : LinePlaces) : Type 0 where
  pub line : ArePlaces text r.line places
  pub row : (quad : Statement) → IsLineThere text r.line places.end quad → IsQuadRow text at r quad
