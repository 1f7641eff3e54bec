-- Who shows that a run of the server is one of a registry's life.
use Rattle.std.specs.Prelude.{◌≡◌, ℕ, List, None}
use Rattle.disk_model.specs.declared.disk.Disk.{Ghosts}
use Rattle.disk_model.specs.Past.{began, reads, Keeps}
use Rattle.log_journal.specs.File.{Holds}
use Rattle.registry_core.specs.Events.{IsRegistry}
use Rattle.registry_core.specs.Texts.{registry_payloads}
use Rattle.log_registry.specs.State.{StateView, events_in}
use Rattle.turn_cell.specs.Turns.{AllOf}
use Rattle.turn_cell.specs.Sights.{Made, AreAll}
use Rattle.turn_cell.specs.Sharing.{IsNewPassOf, AreAllPassesOf, IsClosedOf}
use Rattle.shared_registry.specs.History.{RegistrySight, shared_registry}
use Rattle.shared_registry.specs.Moments.{RegistryCell, IsRegistryMoment}
use Rattle.registry_deployment.specs.Calls.{AreSeenOnRegistry}
use Rattle.registry_deployment.specs.History.{RegistryPassRun, RegistryRun, LeavesRegistry}
use Rattle.registry_deployment.specs.History.{HasCalledOnRegistry, IsRegistryRun, registry_sights}

module _ {D : Type 0} (disks : Ghosts D) where
  -- the registry as it was opened, on a disk that began with the image and still reads it, as any
  -- crash leaves it
  pub record IsRegistryBegun (image : List ℕ) (run : RegistryRun D) : Type 0 where
    pub disk : D
    pub begins : Keeps (began image) (disks.past disk)
    pub payloads : disks.tells → Holds (reads (disks.past disk)) 0
        (registry_payloads run.made.origin.slots (events_in run.made.origin))
    pub registry : IsRegistry run.made.origin.slots (events_in run.made.origin)
    pub settled : run.made.origin.doubt ≡ None

  -- the pass was given by the sharing, and is as its last call left it
  pub record HasReturnedFromRegistry (made : Made (StateView D))
      (pass : RegistryPassRun) : Type 0 where
    pub number : ℕ
    pub given : RegistrySight
    pub is_given : IsNewPassOf (shared_registry disks) made number given
    pub calls : AreSeenOnRegistry disks made.origin given pass.calls pass.at_stop
    pub in_none : pass.in_call ≡ None

  -- a run that was closed: by what the opening, the sharing, the calls and the close ensure
  abbrev pub ClosedRegistryRunsAreRuns : Type 0
  ClosedRegistryRunsAreRuns =
      (image : List ℕ) (run : RegistryRun D) → disks.tells → IsRegistryBegun image run
      → AllOf (HasReturnedFromRegistry run.made) run.passes
      → AreAllPassesOf (shared_registry disks) run.made (registry_sights run)
      → IsClosedOf (shared_registry disks) run.made (registry_sights run) run.registry
      → LeavesRegistry disks run.passes run.registry run.under_way run.image
      → IsRegistryRun disks image run

  -- a run that was killed: by what the opening, the sharing and the calls ensure, and the rule of
  -- the registry's cell
  abbrev pub KilledRegistryRunsAreRuns : Type 0
  KilledRegistryRunsAreRuns =
      (image : List ℕ) (run : RegistryRun D) (s : RegistryCell disks)
      → disks.tells → IsRegistryBegun image run
      → AllOf (HasCalledOnRegistry disks run.made) run.passes
      → AreAll run.made.seats (registry_sights run)
      → IsRegistryMoment disks run.made run.registry (registry_sights run) s
      → LeavesRegistry disks run.passes run.registry run.under_way run.image
      → IsRegistryRun disks image run
