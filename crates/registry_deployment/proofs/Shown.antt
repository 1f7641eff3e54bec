-- Who shows that a run of the server is one of a registry's life.
use Rattle.std.proofs.Common.{◌≡◌, ℕ, List, [], ◌∷◌, Option, None, refl, sym, subst}
use Rattle.disk_model.specs.declared.disk.Disk.{Ghosts}
use Rattle.log_journal.specs.File.{Holds}
use Rattle.registry_core.specs.Replies.{RegistryCall}
use Rattle.registry_core.specs.Texts.{registry_payloads}
use Rattle.log_registry.specs.State.{StateView, events_in}
use Rattle.turn_cell.specs.Turns.{AllOf}
use Rattle.turn_cell.specs.Sights.{Made, AreAll}
use Rattle.turn_cell.specs.Sharing.{AreAllPassesOf, IsClosedOf}
use Rattle.shared_registry.specs.History.{shared_registry}
use Rattle.shared_registry.specs.Moments.{RegistryCell, IsRegistryMoment}
use Rattle.shared_registry.proofs.Moments.{closed}
use Rattle.registry_deployment.specs.Calls.{IsAmidOnRegistry}
use Rattle.registry_deployment.specs.History.{RegistryPassRun, RegistryRun, HasCalledOnRegistry, LeavesRegistry, IsRegistryRun, registry_sights}
use Rattle.registry_deployment.specs.Shown.{IsRegistryBegun, HasReturnedFromRegistry}

module _ {D : Type 0} (disks : Ghosts D) where
  in_none : (pass : RegistryPassRun) → pass.in_call ≡ None → IsAmidOnRegistry pass.at_stop pass.in_call pass.at_stop
  in_none pass none = subst (λ (call : Option RegistryCall). IsAmidOnRegistry pass.at_stop call pass.at_stop) (sym none) refl

  returned : (made : Made (StateView D)) (passes : List RegistryPassRun) → AllOf (HasReturnedFromRegistry disks made) passes → AllOf (HasCalledOnRegistry disks made) passes
  returned made [] all = tt
  returned made (pass ∷ passes) all = (
    record { number = all.0.number; given = all.0.given; is_given = all.0.is_given; behind = pass.at_stop; calls = all.0.calls; amid = in_none pass all.0.in_none },
    returned made passes all.1,
  )

  module _ (image : List ℕ) (run : RegistryRun D) (tells : disks.tells) (begun : IsRegistryBegun disks image run) where
    pub a_run : AllOf (HasCalledOnRegistry disks run.made) run.passes → AreAll run.made.seats (registry_sights run) → IsClosedOf (shared_registry disks) run.made (registry_sights run) run.registry → LeavesRegistry disks run.passes run.registry run.under_way run.image → IsRegistryRun disks image run
    a_run called there was leaves = record {
      opened = record { holds = subst (λ (bytes : List ℕ). Holds bytes 0 (registry_payloads run.made.origin.slots (events_in run.made.origin))) begun.begins.reads_same (begun.payloads tells); registry = begun.registry };
      settled = begun.settled;
      called = called;
      all_there = there;
      at_stop = was;
      leaves = leaves;
    }

    pub closed_is : AllOf (HasReturnedFromRegistry disks run.made) run.passes → AreAllPassesOf (shared_registry disks) run.made (registry_sights run) → IsClosedOf (shared_registry disks) run.made (registry_sights run) run.registry
        → LeavesRegistry disks run.passes run.registry run.under_way run.image → IsRegistryRun disks image run
    closed_is all passes was leaves = a_run (returned run.made run.passes all) passes.1 was leaves

    pub killed_is : (s : RegistryCell disks) → AllOf (HasCalledOnRegistry disks run.made) run.passes → AreAll run.made.seats (registry_sights run) → IsRegistryMoment disks run.made run.registry (registry_sights run) s
        → LeavesRegistry disks run.passes run.registry run.under_way run.image → IsRegistryRun disks image run
    killed_is s called there moment leaves = a_run called there (closed disks run.made run.registry (registry_sights run) s moment) leaves
