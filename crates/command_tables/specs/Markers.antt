-- The marker of an upgrade, at which a command looks before it asks for other files.
use Rattle.std.specs.Prelude.{◌≡◌, ℕ, List, Some}
use Rattle.delta_base.specs.Outside.{Rose}
use Rattle.disk_model.specs.Shelf.{SameOthers}
use Rattle.log_journal.specs.Front.{HoldsNothing}
use Rattle.slot_files.specs.Files.{IsKept, bytes_at}
use Rattle.slot_checks.specs.Faults.{HasMarkerFault}
use Rattle.slot_checks.specs.declared.fault.CheckFault.{CheckFault}
use Rattle.slot_checks.specs.declared.fault.CheckFault.TheVariants as checks
use Rattle.command_tables.specs.Refusals.{check_refusal}
use Rattle.command_tables.specs.Views.{ShelfView}
use Rattle.command_tables.specs.declared.refusal.Refusal.{Refusal}

-- Nothing stands in the marker of a directory. It is as it was, and an empty one where there was
-- none; every other file is as it was.
pub record SeesNoMark (dir : List ℕ) (marker : ℕ) (tells : Type 0) (old seen : ShelfView)
    : Type 0 where
  pub nothing : tells → HoldsNothing (bytes_at old.files dir marker) marker
  pub kept : tells → IsKept (old.files dir marker) (seen.files dir marker)
  pub others : tells → SameOthers (Some (dir, marker)) old.files seen.files
  pub faults : seen.faults ≡ old.faults

-- this holds of what the shelf has behind that look
abbrev pub Unmarked : List ℕ → ℕ → Type 0 → (ShelfView → Type 0) → ShelfView → Type 0
Unmarked dir marker tells Row old =
    (seen : ShelfView) × SeesNoMark dir marker tells old seen × Row seen

-- A command ends at the marker: a payload stands in it, or its front has a fault. It is kept, and
-- no other file was asked for.
pub record StopsAtMark (dir : List ℕ) (marker : ℕ) (tells : Type 0) (old new : ShelfView)
    (refusal : Refusal) : Type 0 where
  pub fault : CheckFault
  pub refusal_is : refusal ≡ check_refusal fault
  pub has : tells → HasMarkerFault (bytes_at old.files dir marker) marker fault
  pub cause : fault ≡ checks.Failed → Rose old.faults new.faults
  pub kept : tells → IsKept (old.files dir marker) (new.files dir marker)
  pub others : tells → SameOthers (Some (dir, marker)) old.files new.files
