-- The row of a quad whose line was written.
use Rattle.std.specs.Prelude.{◌≡◌, ℕ, ◌<◌, ◌≤◌, Bool, List, length, drop, Some, Ok}
use Rattle.rdf_terms.specs.Line.{line}
use Rattle.rdf_terms.specs.Quad.{Statement}
use Rattle.patch_rows.specs.declared.row.Row.TheVariants as row
use Rattle.patch_rows.specs.Grammar.{IsDecidedRow}
use Rattle.patch_rows.specs.Reading.{code_named, word_at}
use Rattle.row_scan.specs.Found.{change_by, code_by}
use Rattle.row_lines.specs.declared.row.WrittenRow.{WrittenRow}

-- a word that is the code of a quad's row stands between two places
abbrev pub HasQuadCode : List ℕ → ℕ → Bool → ℕ → Type 0
HasQuadCode text at adds behind = (word : List ℕ)
    × (word_at (drop at text) ≡ Ok (word, drop behind text))
    × (code_named word ≡ Some (code_by adds)) × (behind ≤ length text)

-- the row of a quad stands at a place, whatever follows the text, and these bytes are the quad's
-- canonical line
pub record IsWrittenRow (text : List ℕ) (at : ℕ) (bytes : List ℕ) (r : WrittenRow)
    (quad : Statement) : Type 0 where
  pub lined : bytes ≡ line quad
  pub row : IsDecidedRow text at (row.Change (change_by r.adds quad)) r.end
  pub further : at < r.end
  pub within : r.end ≤ length text

abbrev pub HasWrittenRow : List ℕ → ℕ → List ℕ → WrittenRow → Type 0
HasWrittenRow text at bytes r = (quad : Statement) × IsWrittenRow text at bytes r quad
