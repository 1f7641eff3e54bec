-- What a stay does with a zone in its turn.
use Rattle.std.specs.Prelude.{◌≡◌, ℕ, ◌<◌, ◌≤◌, length, Bool, true, false}
use Rattle.disk_model.specs.declared.disk.Disk.{Ghosts}
use Rattle.patch_meaning.specs.Checked.{CheckedPatch}
use Rattle.zone_state.specs.declared.answer.TakeAnswer.{TakeAnswer}
use Rattle.zone_state.specs.declared.answer.TakeAnswer.TheVariants as answers
use Rattle.paired_zone.specs.Takes.{TakesPatch}
use Rattle.turn_cell.specs.Knowing.{pass_number}
use Rattle.turn_cell.specs.Sharing.{InTurn}
use Rattle.shared_zone.specs.declared.answers.Stayed.{Stayed}
use Rattle.shared_zone.specs.declared.answers.Stayed.TheVariants.{Ahead, Asked}
use Rattle.shared_zone.specs.History.{SharedZone, ZoneSight, shared_zone, history_then}

-- a stay that comes to this has reached a disk: a patch was written, or its writing failed
abbrev pub reaches_disks : Stayed → Bool
reaches_disks (Asked had (answers.Applied version)) = true
reaches_disks (Asked had answers.DiskFault) = true
reaches_disks other = false

module _ {D : Type 0} (disks : Ghosts D) where
  -- A zone that had so many patches was handed one, and answered. What becomes of it and of its two
  -- files is told by `TakesPatch`, at each moment of the call.
  pub record HandsPatch (by : ℕ) (patch : CheckedPatch) (had : ℕ) (answer : TakeAnswer)
      (found left : SharedZone D) : Type 0 where
    pub had_is : had ≡ length found.zone.brief.ids
    pub takes : TakesPatch disks found.zone left.zone patch answer
    pub history : left.history ≡ history_then answer found.history patch by
    pub base : left.base ≡ found.base

  -- What the pass of this number does in the turn with the patch of a version: where the zone has
  -- that version already, it is left as it was found.
  abbrev pub DoesOnZone : ℕ → CheckedPatch → ℕ → Stayed → SharedZone D → SharedZone D → Type 0
  DoesOnZone by patch version (Ahead had) found left =
      (version ≤ had) × (had ≡ length found.zone.brief.ids) × (left ≡ found)
  DoesOnZone by patch version (Asked had answer) found left =
      (had < version) × HandsPatch by patch had answer found left

  -- a stay of a pass in the turn of this zone
  abbrev pub TakesInTurn : SharedZone D → CheckedPatch → ℕ → Stayed → ZoneSight → ZoneSight → Type 0
  TakesInTurn origin patch version stayed p q =
      InTurn (shared_zone disks) (DoesOnZone (pass_number p) patch version stayed) origin p q
