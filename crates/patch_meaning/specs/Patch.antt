-- Patches, and the first fault of a text that is none.
use Rattle.std.specs.Prelude.{◌≡◌, ℕ, ◌<◌, ◌≤◌, Bool, true, false, List, [], ◌∷◌}
use Rattle.std.specs.Prelude.{◌++◌, Option, Some, None, length, map, if◌then◌else◌}
use Rattle.delta_base.specs.declared.id.Id.{Id}
use Rattle.log_base.specs.declared.limits.TheConstants.{PATCH_LIMIT}
use Rattle.rdf_terms.specs.declared.change.Change.{Change}
use Rattle.rdf_terms.specs.declared.change.Change.TheVariants as change
use Rattle.patch_rows.specs.declared.row.Row.{Row}
use Rattle.patch_rows.specs.declared.fault.RowKind.{RowKind}
use Rattle.patch_rows.specs.declared.fault.RowFault.{RowFault}
use Rattle.patch_rows.specs.declared.fault.RowFault.TheVariants as row
use Rattle.patch_rows.specs.Grammar.{IsRowAt}
use Rattle.patch_meaning.specs.declared.fault.PatchFault.{PatchFault}
use Rattle.patch_meaning.specs.declared.fault.PatchFault.TheVariants as faults
use Rattle.patch_meaning.specs.declared.fault.PatchKind.{PatchKind}
use Rattle.patch_meaning.specs.declared.fault.PatchKind.TheVariants as kinds
use Rattle.patch_meaning.specs.declared.role.Role.{Role}
use Rattle.patch_meaning.specs.declared.role.Role.TheVariants as roles
use Rattle.patch_meaning.specs.Roles.{role, said, ids_of, prevs_of, changes_of, is_open}
use Rattle.patch_reader.specs.declared.placed.PlacedRow.{PlacedRow}
use Rattle.patch_reader.specs.Rows.{NoRowAt}
use Rattle.patch_meaning.specs.Rows.{RowsTo}

-- ---- patches

-- what a patch says
pub record Meaning : Type 0 where
  pub id : Id
  pub prev : Option Id
  pub changes : List Change

-- TX opens a block where none is open, and TC or TA ends it; none is left open
abbrev mutual
  pub AreOutside : List Change → Type 0
  AreOutside [] = Unit {0}
  AreOutside (change.Begin ∷ changes) = AreInside changes
  AreOutside (change.Commit ∷ changes) = ⊥
  AreOutside (change.Abort ∷ changes) = ⊥
  AreOutside (other ∷ changes) = AreOutside changes

  pub AreInside : List Change → Type 0
  AreInside [] = ⊥
  AreInside (change.Begin ∷ changes) = ⊥
  AreInside (change.Commit ∷ changes) = AreOutside changes
  AreInside (change.Abort ∷ changes) = AreOutside changes
  AreInside (other ∷ changes) = AreInside changes

-- none, or the one id
abbrev pub prev_list : Option Id → List (Option Id)
prev_list None = []
prev_list (Some id) = Some id ∷ []

-- headers, and behind them changes alone
pub record AreParted (rs : List Role) : Type 0 where
  pub headers : List Role
  pub changes : List Change
  pub parts : rs ≡ headers ++ map roles.Change changes
  pub no_change : changes_of headers ≡ []

-- the rows are those of a patch that says this
pub record IsWell (rs : List Role) (m : Meaning) : Type 0 where
  pub parted : AreParted rs
  pub one_id : ids_of rs ≡ Some m.id ∷ []
  pub prev_is : prevs_of rs ≡ prev_list m.prev
  pub changes_are : changes_of rs ≡ m.changes
  pub blocks : AreOutside m.changes

-- the text is a patch that says this
pub record IsPatch (text : List ℕ) (m : Meaning) : Type 0 where
  pub short : length text ≤ PATCH_LIMIT
  pub rows_ : List PlacedRow
  pub reads : RowsTo text 0 rows_ (length text)
  pub well : IsWell (said rows_) m

-- ---- faults

-- the list is not empty
abbrev pub has_some : {X : Type 0} → List X → Bool
has_some [] = false
has_some (x ∷ xs) = true

-- a header behind a change
abbrev pub late : List Role → Option PatchKind
late before = if has_some (changes_of before) then Some kinds.LateHeader else None

-- why a change may not stand where a block is open, or none is
abbrev pub block_refusal : Bool → Change → Option PatchKind
block_refusal inside change.Begin = if inside then Some kinds.Nested else None
block_refusal inside change.Commit = if inside then None else Some kinds.NotInBlock
block_refusal inside change.Abort = if inside then None else Some kinds.NotInBlock
block_refusal inside (change.Add quad) = None
block_refusal inside (change.Delete quad) = None
block_refusal inside (change.PrefixAdd prefix iri graph) = None
block_refusal inside (change.PrefixDelete prefix graph) = None

-- why a row may not stand behind these rows: the first reason, if there is one
unfoldable pub refusal : List Role → Role → Option PatchKind
refusal before (roles.Id None) = Some kinds.BadId
refusal before (roles.Id (Some id)) =
    if has_some (ids_of before) then Some kinds.TwoIds else late before
refusal before (roles.Prev None) = Some kinds.BadId
refusal before (roles.Prev (Some id)) =
    if has_some (prevs_of before) then Some kinds.TwoPrevs else late before
refusal before roles.Other = late before
refusal before (roles.Change change) = block_refusal (is_open before) change

-- each row may stand behind those before it
abbrev pub AreTakenFrom : List Role → List Role → Type 0
AreTakenFrom before [] = Unit {0}
AreTakenFrom before (r ∷ rs) = (refusal before r ≡ None) × AreTakenFrom (before ++ r ∷ []) rs

abbrev pub AreTaken : List Role → Type 0
AreTaken rs = AreTakenFrom [] rs

-- the place of a fault; that a text is too long and want of memory have none
abbrev pub place_of : PatchFault → Option ℕ
place_of (faults.At at kind) = Some at
place_of (faults.TooLong length limit) = None
place_of faults.OutOfMemory = None

-- a fault of a row, as one of a patch
abbrev pub row_refused : RowFault → PatchFault
row_refused (row.At at kind) = faults.At at (kinds.Row kind)
row_refused row.OutOfMemory = faults.OutOfMemory

-- The first fault of the rows of a text. Rows that are well come up to this place.
pub data IsRowsFault (text : List ℕ) (rows_ : List PlacedRow) (to : ℕ)
    (fault : PatchFault) : Type 0 where
  no_row : (at : ℕ) (kind : RowKind) → NoRowAt text to kind at
      → fault ≡ faults.At at (kinds.Row kind) → IsRowsFault text rows_ to fault
  refused : (r : Row) (end : ℕ) (why : PatchKind) → IsRowAt text to r end
      → refusal (said rows_) (role r) ≡ Some why → fault ≡ faults.At to why
      → IsRowsFault text rows_ to fault
  open_block : to ≡ length text → is_open (said rows_) ≡ true
      → fault ≡ faults.At to kinds.OpenBlock → IsRowsFault text rows_ to fault
  no_id : to ≡ length text → is_open (said rows_) ≡ false → ids_of (said rows_) ≡ []
      → fault ≡ faults.At to kinds.NoId → IsRowsFault text rows_ to fault

-- The first fault of a text that is no patch. That it is too long comes before all others.
pub data IsPatchFault (text : List ℕ) (fault : PatchFault) : Type 0 where
  too_long : PATCH_LIMIT < length text → fault ≡ faults.TooLong (length text) PATCH_LIMIT
      → IsPatchFault text fault
  rows_ : (rs : List PlacedRow) (to : ℕ) → length text ≤ PATCH_LIMIT → RowsTo text 0 rs to
      → AreTaken (said rs) → IsRowsFault text rs to fault → IsPatchFault text fault
