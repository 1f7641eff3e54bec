-- A stream of which some rows were taken.
use Rattle.std.specs.Prelude.{◌≡◌, ◌⊎◌, ℕ, ◌+◌, ◌<◌, ◌≤◌, true, false, List}
use Rattle.std.specs.Prelude.{[], ◌∷◌, ◌++◌, Option, Some, None, Result, Ok, Err, length, map}
use Rattle.log_base.specs.declared.limits.TheConstants.{PATCH_LIMIT}
use Rattle.log_base.specs.declared.chain_link.ChainLink.{ChainLink}
use Rattle.rdf_terms.specs.declared.change.Change.{Change}
use Rattle.patch_rows.specs.declared.fault.RowKind.{RowKind}
use Rattle.patch_meaning.specs.declared.fault.PatchFault.{PatchFault}
use Rattle.patch_meaning.specs.declared.fault.PatchFault.TheVariants as faults
use Rattle.patch_meaning.specs.declared.fault.PatchKind.{PatchKind}
use Rattle.patch_meaning.specs.declared.fault.PatchKind.TheVariants as kinds
use Rattle.patch_meaning.specs.declared.part.Part.{Part as PartRead}
use Rattle.patch_meaning.specs.declared.role.Role.{Role}
use Rattle.patch_meaning.specs.declared.rows.Next.{Next}
use Rattle.patch_meaning.specs.declared.stream.Cutting.{Cutting}
use Rattle.patch_meaning.specs.declared.stream.Linked.{Linked}
use Rattle.patch_meaning.specs.Next.{IsNextRow}
use Rattle.patch_meaning.specs.Checked.{CheckedPatch, meanings, checked_texts}
use Rattle.patch_meaning.specs.PartRead.{HasPart, IsComplete, meaning_of}
use Rattle.patch_meaning.specs.Patch.{Meaning, AreTaken, refusal, has_some}
use Rattle.patch_meaning.specs.Roles.{role, said, change_of, changes_of}
use Rattle.patch_meaning.specs.Rows.{AreUpTo}
use Rattle.patch_reader.specs.declared.placed.PlacedRow.{PlacedRow}
use Rattle.patch_reader.specs.Rows.{Gap, RowsUpTo, NoRowAt}
use Rattle.patch_meaning.specs.Stream.{ArePatches, AreStream, IsEndFault}
use Rattle.patch_meaning.specs.Stream.{IsStreamFault, begins, cut, linked, part_texts, within}
use Rattle.row_scan.specs.Rows.{HasRow}
use Rattle.row_scan.specs.declared.row.ScannedRow.{ScannedRow}

-- ---- rows that come one at a time

-- These rows were cut into patches that are complete, which say this, and one that may go on, each
-- of whose rows was taken. As long as no row begins behind its limit, these are its changes.
pub record IsCutInto (rs : List PlacedRow) (ms : List Meaning) (changes : List Change)
    (p : PartRead) : Type 0 where
  pub some : (cut rs).last.rows_ ≡ [] → rs ≡ []
  pub from_is : (cut rs).last.from ≡ p.from
  pub part : HasPart (cut rs).last.rows_ p
  pub before : ArePatches (cut rs).done (cut rs).last.from ms
  pub changes_are : AreUpTo rs (p.from + PATCH_LIMIT)
      → changes_of (said (cut rs).last.rows_) ≡ changes

-- with a row that says this the next patch begins
abbrev pub BeginsPatch : Role → PartRead → Type 0
BeginsPatch says p = (rs : List PlacedRow) → HasPart rs p → begins (said rs) says ≡ true

-- with a row that says this the patch goes on
abbrev pub GoesOnInPatch : Role → PartRead → Type 0
GoesOnInPatch says p = (rs : List PlacedRow) → HasPart rs p → begins (said rs) says ≡ false

-- the patch goes on with a row that says this, or it is complete where the next one begins with it
abbrev pub IsCutAt : PartRead → Role → ℕ → Option ChainLink → Type 0
IsCutAt p says at None = GoesOnInPatch says p
IsCutAt p says at (Some link) = BeginsPatch says p × IsComplete p at link

-- a patch that goes on stays, and behind one that is complete the next one begins
abbrev pub IsLeftPart : PartRead → ℕ → Option ChainLink → PartRead → Type 0
IsLeftPart old at None new = new ≡ old
IsLeftPart old at (Some link) new = HasPart [] new × (new.from ≡ at)

-- what a patch with these changes says that was completed, if one was
abbrev pub meanings_of : Option ChainLink → List Change → List Meaning
meanings_of None changes = []
meanings_of (Some link) changes = meaning_of link changes ∷ []

-- where a patch was completed, its changes are not those of the next one
abbrev pub changes_left : Option ChainLink → List Change → List Change
changes_left None changes = changes
changes_left (Some link) changes = []

-- the changes of the patch that may go on behind a row
abbrev pub changes_behind : Option ChainLink → List Change → Role → List Change
changes_behind done changes says = changes_left done changes ++ change_of says

-- the row was taken, and a patch was completed where the next one begins with it
abbrev pub HasTakenNext : PartRead → Role → ℕ → Option ChainLink → PartRead → Type 0
HasTakenNext old says at done new =
    (rs : List PlacedRow) (ms : List Meaning) (changes : List Change) (r : PlacedRow)
    → IsCutInto rs ms changes old → AreUpTo rs at → role r.row ≡ says → r.at ≡ at
    → IsCutInto (rs ++ r ∷ []) (ms ++ meanings_of done changes)
    (changes_behind done changes says) new

-- the rows are patches that are complete, and one whose last row is refused, which is the fault
pub record AreRefused (rs : List PlacedRow) (fault : PatchFault) : Type 0 where
  pub before : List Meaning
  pub well : ArePatches (cut rs).done (cut rs).last.from before
  pub front : List PlacedRow
  pub row_ : PlacedRow
  pub kind : PatchKind
  pub rows_ : (cut rs).last.rows_ ≡ front ++ row_ ∷ []
  pub taken : AreTaken (said front)
  pub refused : refusal (said front) (role row_.row) ≡ Some kind
  pub fault_is : fault ≡ within (cut rs).last.from row_.at kind

-- the patch to which the rows lead ends at a place, and that is its fault
abbrev pub EndsWith : List PlacedRow → ℕ → PatchFault → Type 0
EndsWith rs stop fault = AreTaken (said (cut rs).last.rows_) × IsEndFault (cut rs).last stop fault

-- with a row that says this the next patch begins, and the one before it has the fault; or the
-- row has it
abbrev pub IsBrokenBy : PartRead → Role → ℕ → PatchFault → Type 0
IsBrokenBy p says at fault =
    (rs : List PlacedRow) (ms : List Meaning) (changes : List Change) (r : PlacedRow)
    → IsCutInto rs ms changes p → role r.row ≡ says → r.at ≡ at
    → ((begins (said (cut rs).last.rows_) says ≡ true) × EndsWith rs at fault)
    ⊎ AreRefused (rs ++ r ∷ []) fault

-- no row stands where the next one would begin, which is the fault
abbrev pub IsBrokenAt : PartRead → ℕ → RowKind → PatchFault → Type 0
IsBrokenAt p at kind fault =
    (rs : List PlacedRow) (ms : List Meaning) (changes : List Change) → IsCutInto rs ms changes p
    → AreTaken (said (cut rs).last.rows_) × (fault ≡ within (cut rs).last.from at (kinds.Row kind))

-- the last patch of a stream that stops there: it has no rows, or it is complete
abbrev pub IsLastPatch : PartRead → ℕ → Option ChainLink → Type 0
IsLastPatch p stop None = (rs : List PlacedRow) → HasPart rs p → has_some rs ≡ false
IsLastPatch p stop (Some link) =
    ((rs : List PlacedRow) → HasPart rs p → has_some rs ≡ true) × IsComplete p stop link

-- the stream of these rows ends there, with the patch that was completed last
abbrev pub EndsStream : PartRead → ℕ → Option ChainLink → Type 0
EndsStream p stop done =
    (rs : List PlacedRow) (ms : List Meaning) (changes : List Change) → IsCutInto rs ms changes p
    → AreUpTo rs stop → AreStream rs stop (ms ++ meanings_of done changes)

-- the last patch of a stream has rows, and this fault
abbrev pub IsBrokenAtEnd : PartRead → ℕ → PatchFault → Type 0
IsBrokenAtEnd p stop fault =
    (rs : List PlacedRow) (ms : List Meaning) (changes : List Change) → IsCutInto rs ms changes p
    → ((cut rs).last.rows_ ≡ [] → ⊥) × EndsWith rs stop fault

-- ---- a whole text

-- the rows up to this place were cut into patches that are complete, with their ids and texts, and
-- one that may go on
pub record HasCut (text : List ℕ) (at : ℕ) (k : Cutting) : Type 0 where
  pub rs : List PlacedRow
  pub patches : List CheckedPatch
  pub changes : List Change
  pub reads : RowsUpTo text 0 rs at
  pub within : at ≤ length text
  pub parts : IsCutInto rs (meanings patches) changes k.part
  pub texts_are : checked_texts patches ≡ part_texts text (cut rs).done (cut rs).last.from
  pub links_are : k.patches.items ≡ map linked patches

-- the rows up to some place were cut, and this is the next one
abbrev pub IsNextToCut : List ℕ → Next → Cutting → Type 0
IsNextToCut text next k = (at : ℕ) × HasCut text at k × IsNextRow text at next

-- the same of a row that the scan found at a place
abbrev pub IsFoundToCut : List ℕ → ℕ → ScannedRow → Cutting → Type 0
IsFoundToCut text at found k =
    (from : ℕ) × HasCut text from k × Gap text from at × HasRow text at found

-- all rows were cut
abbrev pub HasCutAll : List ℕ → Cutting → Type 0
HasCutAll text k = (at : ℕ) × HasCut text at k × Gap text at (length text)

-- the patch with its text, if there is one
abbrev pub checked_of : List ℕ → Option ChainLink → List Change → List CheckedPatch
checked_of text None changes = []
checked_of text (Some link) changes = record { text = text; meaning = meaning_of link changes } ∷ []

-- the same without its changes
abbrev pub linked_of : List ℕ → Option ChainLink → List Linked
linked_of text None = []
linked_of text (Some link) = record { link = link; text = text } ∷ []

-- the next row, or none up to the text's end
abbrev pub IsNextOrEnd : List ℕ → ℕ → Option Next → Type 0
IsNextOrEnd text at None = Gap text at (length text)
IsNextOrEnd text at (Some next) = IsNextRow text at next

-- no row stands there, which is a fault of the patch; want of memory is free
abbrev pub StopsCutting : List ℕ → ℕ → PartRead → PatchFault → Type 0
StopsCutting text at part fault =
    (fault ≡ faults.OutOfMemory)
    ⊎ ((to place : ℕ) × (kind : RowKind) × Gap text at to × NoRowAt text to kind place
    × IsBrokenAt part place kind fault)

-- the first fault of a text that is no stream; want of memory is free
abbrev pub RefusesStream : List ℕ → PatchFault → Type 0
RefusesStream text fault = (fault ≡ faults.OutOfMemory) ⊎ IsStreamFault text fault

-- The next row behind a place was cut, and this is the place behind it; or all were cut; or it is
-- the first fault of the text.
abbrev pub CutsNext : List ℕ → ℕ → Cutting → Result (Option ℕ) PatchFault → Type 0
CutsNext text from k (Ok (Some end)) = (from < end) × HasCut text end k
CutsNext text from k (Ok None) = HasCutAll text k
CutsNext text from k (Err fault) = RefusesStream text fault
