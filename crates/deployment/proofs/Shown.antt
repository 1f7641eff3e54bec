-- Who shows that a run of the server is one of a deployment's.
use Rattle.std.proofs.Common.{◌≡◌, ℕ, List, [], ◌∷◌, Option, None, refl, sym, subst}
use Rattle.log_base.specs.declared.limits.LogLimits.{LogLimits}
use Rattle.disk_model.specs.declared.disk.Disk.{Ghosts}
use Rattle.chain_core.specs.Replies.{LogCall}
use Rattle.log_journal.specs.File.{Holds}
use Rattle.patch_log.specs.Log.{payloads_of}
use Rattle.patch_log.specs.State.{LogView, runs_in}
use Rattle.turn_cell.specs.Turns.{AllOf}
use Rattle.turn_cell.specs.Sights.{Made, AreAll}
use Rattle.turn_cell.specs.Sharing.{AreAllPassesOf, IsClosedOf}
use Rattle.shared_log.specs.History.{shared_log}
use Rattle.shared_log.specs.Moments.{LogCell, IsLogMoment}
use Rattle.shared_log.proofs.Moments.{closed}
use Rattle.deployment.specs.Calls.{IsAmid}
use Rattle.deployment.specs.History.{PassRun, ServerRun, HasCalled, Leaves, IsServerRun, sights_of}
use Rattle.deployment.specs.Shown.{IsBegun, HasReturned}

module _ {D : Type 0} (disks : Ghosts D) where
  in_none : (pass : PassRun) → pass.in_call ≡ None → IsAmid pass.at_stop pass.in_call pass.at_stop
  in_none pass none = subst (λ (call : Option LogCall). IsAmid pass.at_stop call pass.at_stop) (sym none) refl

  returned : (made : Made (LogView D)) (passes : List PassRun) → AllOf (HasReturned disks made) passes → AllOf (HasCalled disks made) passes
  returned made [] all = tt
  returned made (pass ∷ passes) all = (
    record { number = all.0.number; given = all.0.given; is_given = all.0.is_given; behind = pass.at_stop; calls = all.0.calls; amid = in_none pass all.0.in_none },
    returned made passes all.1,
  )

  module _ (number : ℕ) (limits : LogLimits) (image : List ℕ) (run : ServerRun D) (tells : disks.tells) (begun : IsBegun disks number limits image run) where
    pub a_run : AllOf (HasCalled disks run.made) run.passes → AreAll run.made.seats (sights_of run) → IsClosedOf (shared_log disks) run.made (sights_of run) run.log → Leaves disks run.passes run.log run.under_way run.image → IsServerRun disks number limits image run
    a_run called there was leaves = record {
      number_is = begun.settled.1;
      limits_is = begun.settled.2;
      opened = record { holds = subst (λ (bytes : List ℕ). Holds bytes number (payloads_of (runs_in run.made.origin))) begun.begins.reads_same (begun.payloads tells); log = begun.log };
      whole = begun.whole;
      settled = begun.settled.0;
      called = called;
      all_there = there;
      at_stop = was;
      leaves = leaves;
    }

    pub closed_is : AllOf (HasReturned disks run.made) run.passes → AreAllPassesOf (shared_log disks) run.made (sights_of run) → IsClosedOf (shared_log disks) run.made (sights_of run) run.log → Leaves disks run.passes run.log run.under_way run.image
        → IsServerRun disks number limits image run
    closed_is all passes was leaves = a_run (returned run.made run.passes all) passes.1 was leaves

    pub killed_is : (s : LogCell disks) → AllOf (HasCalled disks run.made) run.passes → AreAll run.made.seats (sights_of run) → IsLogMoment disks run.made run.log (sights_of run) s → Leaves disks run.passes run.log run.under_way run.image → IsServerRun disks number limits image run
    killed_is s called there moment leaves = a_run called there (closed disks run.made run.log (sights_of run) s moment) leaves
