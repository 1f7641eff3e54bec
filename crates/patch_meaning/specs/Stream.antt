-- Streams: how rows are cut into patches, and the first fault of a text that is no stream.
use Rattle.std.specs.Prelude.{◌≡◌, ℕ, ◌+◌, ◌-◌, ◌<◌, ◌≤◌, nat_lt, Bool, true, false, ◌||◌}
use Rattle.std.specs.Prelude.{List, [], ◌∷◌, ◌++◌, Some, fold, length, if◌then◌else◌}
use Rattle.std.specs.List.{slice_range}
use Rattle.patch_rows.specs.declared.row.Row.{Row}
use Rattle.patch_rows.specs.declared.fault.RowKind.{RowKind}
use Rattle.patch_rows.specs.Grammar.{IsRowAt}
use Rattle.patch_meaning.specs.declared.fault.PatchFault.{PatchFault}
use Rattle.patch_meaning.specs.declared.fault.PatchFault.TheVariants as faults
use Rattle.patch_meaning.specs.declared.fault.PatchKind.{PatchKind}
use Rattle.patch_meaning.specs.declared.fault.PatchKind.TheVariants as kinds
use Rattle.patch_meaning.specs.declared.role.Role.{Role}
use Rattle.patch_meaning.specs.declared.role.Role.TheVariants as roles
use Rattle.patch_meaning.specs.declared.stream.Linked.{Linked}
use Rattle.patch_meaning.specs.Checked.{CheckedPatch, meanings, checked_texts}
use Rattle.log_base.specs.declared.limits.TheConstants.{PATCH_LIMIT}
use Rattle.patch_meaning.specs.Patch.{Meaning, IsWell, AreTaken, refusal, has_some}
use Rattle.patch_meaning.specs.Roles.{role, said, ids_of, changes_of, is_open}
use Rattle.patch_reader.specs.declared.placed.PlacedRow.{PlacedRow}
use Rattle.patch_reader.specs.Rows.{NoRowAt}
use Rattle.patch_meaning.specs.Rows.{RowsTo}

-- ---- cutting

-- a patch of a stream: where its text begins, and its rows
pub record StreamPart : Type 0 where
  pub from : ℕ
  pub rows_ : List PlacedRow

-- with a header behind a change, and with an id row where there is one already, the
-- next patch begins
abbrev pub begins : List Role → Role → Bool
begins rs (roles.Id id) = has_some (ids_of rs) || has_some (changes_of rs)
begins rs (roles.Prev id) = has_some (changes_of rs)
begins rs roles.Other = has_some (changes_of rs)
begins rs (roles.Change change) = false

-- patches that are complete, and the one to which the next row may belong
pub record Cut : Type 0 where
  pub done : List StreamPart
  pub last : StreamPart

abbrev pub cut_with : Cut → PlacedRow → Cut
cut_with c r =
    if begins (said c.last.rows_) (role r.row)
    then record { done = c.done ++ c.last ∷ []; last = record { from = r.at; rows_ = r ∷ [] } }
    else record {
      done = c.done;
      last = record { from = c.last.from; rows_ = c.last.rows_ ++ r ∷ [] };
    }

-- rows are cut from the front on; the first patch begins where the text does
abbrev pub cut : List PlacedRow → Cut
cut rs = fold cut_with (record { done = []; last = record { from = 0; rows_ = [] } }) rs

-- ---- streams

-- the text of a patch reaches to the next one, or to this place
abbrev pub stop_of : List StreamPart → ℕ → ℕ
stop_of [] stop = stop
stop_of (part ∷ parts) stop = part.from

-- each part is a patch within the limit that says this
abbrev pub ArePatches : List StreamPart → ℕ → List Meaning → Type 0
ArePatches [] stop [] = Unit {0}
ArePatches [] stop (m ∷ ms) = ⊥
ArePatches (part ∷ parts) stop [] = ⊥
ArePatches (part ∷ parts) stop (m ∷ ms) =
    IsWell (said part.rows_) m × (stop_of parts stop ≤ part.from + PATCH_LIMIT)
    × ArePatches parts stop ms

-- the rows up to this place are patches that say this; without rows there is none
abbrev pub AreStream : List PlacedRow → ℕ → List Meaning → Type 0
AreStream [] stop ms = ms ≡ []
AreStream (r ∷ rs) stop ms = ArePatches ((cut (r ∷ rs)).done ++ (cut (r ∷ rs)).last ∷ []) stop ms

-- the texts of patches, each from its place to where the next one begins, or to this place
abbrev pub part_texts : List ℕ → List StreamPart → ℕ → List (List ℕ)
part_texts text [] stop = []
part_texts text (part ∷ parts) stop =
    slice_range text part.from (stop_of parts stop) ∷ part_texts text parts stop

-- the texts of the patches of which these are the rows; without rows there is none
abbrev pub cut_texts : List ℕ → List PlacedRow → List (List ℕ)
cut_texts text [] = []
cut_texts text (r ∷ rs) =
    part_texts text ((cut (r ∷ rs)).done ++ (cut (r ∷ rs)).last ∷ []) (length text)

-- the text is a stream of patches that say this
pub record IsStream (text : List ℕ) (ms : List Meaning) : Type 0 where
  pub rows_ : List PlacedRow
  pub reads : RowsTo text 0 rows_ (length text)
  pub stream : AreStream rows_ (length text) ms

-- the text is a stream of these patches, and each has its own text
pub record IsSplit (text : List ℕ) (ps : List CheckedPatch) : Type 0 where
  pub rows_ : List PlacedRow
  pub reads : RowsTo text 0 rows_ (length text)
  pub stream : AreStream rows_ (length text) (meanings ps)
  pub texts_are : checked_texts ps ≡ cut_texts text rows_

-- a patch without its changes: its ids and its text
abbrev pub linked : CheckedPatch → Linked
linked p = record {
  link = record { id = p.meaning.id; prev = p.meaning.prev };
  text = p.text;
}

-- ---- faults

-- what is wrong at a place of a patch; where the patch is too long up to there, that
abbrev pub within : ℕ → ℕ → PatchKind → PatchFault
within from at kind =
    if nat_lt (from + PATCH_LIMIT) at then faults.TooLong (at - from) PATCH_LIMIT
    else faults.At at kind

-- behind its rows a patch ends at this place: the next one begins there, or the text ends
pub data EndsAt (text : List ℕ) (part : StreamPart) (to : ℕ) : Type 0 where
  next : (r : Row) (end : ℕ) → IsRowAt text to r end
      → begins (said part.rows_) (role r) ≡ true → EndsAt text part to
  over : to ≡ length text → (part.rows_ ≡ [] → ⊥) → EndsAt text part to

-- the fault of a patch that ends at this place, and whose rows have none
pub data IsEndFault (part : StreamPart) (to : ℕ) (fault : PatchFault) : Type 0 where
  too_long : part.from + PATCH_LIMIT < to → fault ≡ faults.TooLong (to - part.from) PATCH_LIMIT
      → IsEndFault part to fault
  open_block : to ≤ part.from + PATCH_LIMIT → is_open (said part.rows_) ≡ true
      → fault ≡ faults.At to kinds.OpenBlock → IsEndFault part to fault
  no_id : to ≤ part.from + PATCH_LIMIT → is_open (said part.rows_) ≡ false
      → ids_of (said part.rows_) ≡ [] → fault ≡ faults.At to kinds.NoId → IsEndFault part to fault

-- The first fault of a patch of a stream: its last row may not stand behind the others, no row
-- stands where the next one would begin, or the patch ends there. Up to that place it is too long
-- or not, so no fault waits for what follows.
pub data IsPartFault (text : List ℕ) (part : StreamPart) (to : ℕ)
    (fault : PatchFault) : Type 0 where
  refused : (front : List PlacedRow) (r : PlacedRow) (kind : PatchKind)
      → part.rows_ ≡ front ++ r ∷ [] → AreTaken (said front)
      → refusal (said front) (role r.row) ≡ Some kind
      → fault ≡ within part.from r.at kind → IsPartFault text part to fault
  no_row : (at : ℕ) (kind : RowKind) → AreTaken (said part.rows_) → NoRowAt text to kind at
      → fault ≡ within part.from at (kinds.Row kind) → IsPartFault text part to fault
  ended : AreTaken (said part.rows_) → EndsAt text part to → IsEndFault part to fault
      → IsPartFault text part to fault

-- The first fault of the first patch that has one. The rows up to a place are those that were read.
pub record IsStreamFault (text : List ℕ) (fault : PatchFault) : Type 0 where
  pub rows_ : List PlacedRow
  pub to : ℕ
  pub reads : RowsTo text 0 rows_ to
  pub before : List Meaning
  pub well : ArePatches (cut rows_).done (cut rows_).last.from before
  pub fault_is : IsPartFault text (cut rows_).last to fault
