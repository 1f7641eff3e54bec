-- Patches as they are written: canonical rows in one block.
use Rattle.std.specs.Prelude.{◌≡◌, ℕ, List, [], ◌∷◌, ◌++◌, Option, Some, None, map, codes}
use Rattle.std.specs.List.{AllByRecursion}
use Rattle.delta_base.specs.declared.id.Id.{Id}
use Rattle.delta_base.specs.Ids.{IsId, number_of, text_of}
use Rattle.net_changes.specs.Net.{in_block}
use Rattle.patch_meaning.specs.Checked.{CheckedPatch, checked}
use Rattle.patch_rows.specs.declared.row.Row.{Row}
use Rattle.patch_rows.specs.declared.row.Row.TheVariants as row
use Rattle.printed_rows.specs.Printed.{IsPrintedRow, id_header, printed_lines}
use Rattle.rdf_terms.specs.declared.change.Change.{Change}
use Rattle.rdf_terms.specs.declared.change.Change.TheVariants.{Begin}

-- the row that names the patch before, if one is named
abbrev pub prev_rows : Option Id → List Row
prev_rows None = []
prev_rows (Some id) = id_header (codes "prev") id ∷ []

-- the id, the patch before, and the block's begin
abbrev pub rows_in_front : Id → Option Id → List Row
rows_in_front id prev = id_header (codes "id") id ∷ (prev_rows prev ++ row.Change Begin ∷ [])

-- the id, the patch before, and the changes in one block
abbrev pub rows_in_block : Id → Option Id → List Change → List Row
rows_in_block id prev changes =
    id_header (codes "id") id ∷ (prev_rows prev ++ map row.Change (in_block changes))

abbrev pub text_in_block : Id → Option Id → List Change → List ℕ
text_in_block id prev changes = printed_lines (rows_in_block id prev changes)

-- the patch of that text
abbrev pub patch_in_block : Id → Option Id → List Change → CheckedPatch
patch_in_block id prev changes =
    checked (text_in_block id prev changes) id prev (in_block changes)

-- each of these changes has a canonical row
abbrev pub HaveRows : List Change → Type 0
HaveRows changes = AllByRecursion (λ c. IsPrintedRow (row.Change c)) changes

-- none, or one of 128 bits
abbrev pub AreIds : Option Id → Type 0
AreIds None = Unit {0}
AreIds (Some id) = IsId id.0

-- an id's text names it
abbrev pub HasIdText : Id → Type 0
HasIdText id = number_of (text_of id.0) ≡ Some id.0

abbrev pub HaveIdTexts : Option Id → Type 0
HaveIdTexts None = Unit {0}
HaveIdTexts (Some id) = HasIdText id
