-- A checked patch, as contracts see it.
use Rattle.std.specs.Prelude.{◌≡◌, ◌⊎◌, ℕ, ◌<◌, ◌≤◌, List, [], ◌∷◌, Option}
use Rattle.std.specs.Prelude.{None, Some, Result, Ok, Err, length, map}
use Rattle.delta_base.specs.declared.id.Id.{Id}
use Rattle.rdf_terms.specs.declared.change.Change.{Change}
use Rattle.patch_meaning.specs.declared.checked.ReadRows.{ReadRows}
use Rattle.patch_meaning.specs.declared.draft.Draft.{Draft}
use Rattle.patch_meaning.specs.declared.fault.PatchFault.{PatchFault}
use Rattle.patch_meaning.specs.declared.fault.PatchFault.TheVariants as faults
use Rattle.patch_meaning.specs.declared.fault.PatchKind.{PatchKind}
use Rattle.patch_meaning.specs.declared.role.Role.{Role}
use Rattle.patch_meaning.specs.declared.rows.Next.{Next}
use Rattle.patch_meaning.specs.Draft.{DraftStands}
use Rattle.patch_meaning.specs.Patch.{Meaning, IsPatch, IsPatchFault, refusal}
use Rattle.patch_meaning.specs.Roles.{said, changes_of}
use Rattle.patch_reader.specs.declared.placed.PlacedRow.{PlacedRow}
use Rattle.patch_reader.specs.Rows.{RowsUpTo}
use Rattle.patch_meaning.specs.Rows.{RowsTo}

-- a text, and what it says as a patch
pub record CheckedPatch : Type 0 where
  pub text : List ℕ
  pub meaning : Meaning

abbrev pub checked : List ℕ → Id → Option Id → List Change → CheckedPatch
checked text id prev changes =
    record { text = text; meaning = record { id = id; prev = prev; changes = changes } }

-- what patches say, one after another
abbrev pub meanings : List CheckedPatch → List Meaning
meanings ps = map (λ p. p.meaning) ps

-- their texts
abbrev pub checked_texts : List CheckedPatch → List (List ℕ)
checked_texts ps = map (λ p. p.text) ps

-- each text is a patch that says this
abbrev pub AreChecked : List CheckedPatch → Type 0
AreChecked [] = Unit {0}
AreChecked (p ∷ ps) = IsPatch p.text p.meaning × AreChecked ps

-- the first fault of a text that is no patch; want of memory is free
abbrev pub Refuses : List ℕ → PatchFault → Type 0
Refuses text fault = (fault ≡ faults.OutOfMemory) ⊎ IsPatchFault text fault

-- the row may not stand behind these, and that is the fault; want of memory is free
abbrev pub IsStopped : List Role → Next → PatchFault → Type 0
IsStopped rs next fault =
    (fault ≡ faults.OutOfMemory)
    ⊎ ((why : PatchKind) × (refusal rs next.role ≡ Some why) × (fault ≡ faults.At next.at why))

-- these rows were taken, and their changes are kept
abbrev pub AreRead : ReadRows → List Role → Type 0
AreRead read rs = DraftStands rs read.draft × (changes_of rs ≡ read.changes.items)

-- these rows were taken, and no change is kept
abbrev pub AreDrafted : Draft → List Role → Type 0
AreDrafted d rs = DraftStands rs d

-- the rows up to a place were taken, and of them this is known
pub record HasTakenRows (text : List ℕ) (at : ℕ) (Known : List Role → Type 0) : Type 0 where
  pub rs : List PlacedRow
  pub reads : RowsUpTo text 0 rs at
  pub within : at ≤ length text
  pub known : Known (said rs)

-- all rows of the text were taken
abbrev pub HasReadPatch : List ℕ → ReadRows → Type 0
HasReadPatch text read =
    (rs : List PlacedRow) × RowsTo text 0 rs (length text) × AreRead read (said rs)

-- the same where no change is kept
abbrev pub HasDrafted : List ℕ → Draft → Type 0
HasDrafted text d = (rs : List PlacedRow) × RowsTo text 0 rs (length text) × AreDrafted d (said rs)

-- The next row behind a place was taken, and this is the place behind it; or all were taken; or it
-- is the text's first fault. Of the rows that were taken this is known.
abbrev pub TakesNext : List ℕ → ℕ → (List Role → Type 0) → Result (Option ℕ) PatchFault → Type 0
TakesNext text at Known (Ok (Some end)) = (at < end) × HasTakenRows text end Known
TakesNext text at Known (Ok None) =
    (rs : List PlacedRow) × RowsTo text 0 rs (length text) × Known (said rs)
TakesNext text at Known (Err fault) = Refuses text fault
