-- Before the disk is asked: what is told of a run that isn't added.
use Rattle.std.proofs.Common.{◌≡◌, ℕ, List, refl, sym, ap, ◌∙◌, subst, false}
use Rattle.disk_model.specs.declared.disk.Disk.{Ghosts}
use Rattle.chain_core.specs.declared.chain.Patch.{Patch}
use Rattle.chain_core.specs.declared.chain.Entry.{Entry}
use Rattle.chain_core.specs.declared.answer.Decision.{Decision}
use Rattle.chain_core.specs.declared.answer.Decision.TheVariants.{Accept, Known, Conflict, Full}
use Rattle.chain_core.specs.declared.answer.LogAnswer.TheVariants.{OutOfMemory}
use Rattle.chain_core.specs.Decision.{run_decision}
use Rattle.chain_core.specs.Patches.{patches_of}
use Rattle.chain_core.specs.Stay.{answer_of}
use Rattle.patch_log.specs.declared.tail.LogTail.{LogTail}
use Rattle.patch_log.specs.Run.{AppendedRun}
use Rattle.patch_log.specs.State.{LogView}
use Rattle.patch_log.specs.Tail.{StandsForChain, log_of}
use Rattle.patch_log.proofs.States.{by_runs, stands_for_log}
use Rattle.patch_log.proofs.Told.{appended_told, appended_want}
use Rattle.shared_log.specs.Legal.{asks_disk}

-- what tells a decision asks no disk, unless it is to accept
pub unasked : (made : Decision) → ((version : ℕ) → made ≡ Accept version → ⊥) → asks_disk (answer_of made) ≡ false
unasked (Accept version) other = absurd (other version refl)
unasked (Known version same) other = refl
unasked (Conflict version head named) other = refl
unasked (Full what have limit) other = refl

module _ {D : Type 0} (disks : Ghosts D) (tail : LogTail D disks) (items : List Entry) (spare : ℕ) (stands : StandsForChain tail items) (run : List Patch) (by : ℕ) where
  abbrev log : LogView D
  log = log_of tail items spare

  -- a decision about the run that was made ready, or handed back
  pub told_here : (given : List Patch) (made : Decision) → made ≡ run_decision (patches_of items) given tail.limits → given ≡ run → ((version : ℕ) → made ≡ Accept version → ⊥) → AppendedRun disks log log run by (answer_of made)
  told_here given made is same other =
      appended_told disks log run by (λ told. stands_for_log tail.journal tail.journal items tail.doubt tail.number tail.limits stands told) stands.whole made (by_runs items run given tail.limits made is same) other

  pub wanted_here : (given : List Patch) (version : ℕ) → Accept version ≡ run_decision (patches_of items) given tail.limits → given ≡ run → AppendedRun disks log log run by OutOfMemory
  wanted_here given version is same =
      appended_want disks log run by (λ told. stands_for_log tail.journal tail.journal items tail.doubt tail.number tail.limits stands told) stands.whole version (by_runs items run given tail.limits (Accept version) is same)
