-- What the rule of a registry's cell says at any moment.
use Rattle.std.proofs.Common.{List}
use Rattle.disk_model.specs.declared.disk.Disk.{Ghosts}
use Rattle.log_registry.specs.State.{StateView}
use Rattle.turn_cell.specs.Sights.{Made}
use Rattle.turn_cell.specs.Sharing.{IsClosedOf}
use Rattle.turn_cell.proofs.Moments.{at_moment, closed_at}
use Rattle.shared_registry.specs.History.{RegistrySight, shared_registry}
use Rattle.shared_registry.specs.Moments.{RegistryCell, IsRegistryMoment}

pub closed : {D : Type 0} (disks : Ghosts D) (made : Made (StateView D)) (registry : StateView D) (passes : List RegistrySight) (s : RegistryCell disks) → IsRegistryMoment disks made registry passes s → IsClosedOf (shared_registry disks) made passes registry
closed disks made registry passes s moment =
    let r = shared_registry disks in
    let at = at_moment r.entries r.fault_count r.doubt r.fixed r.fits made.origin made.seats s moment.rule registry moment.lies in
    closed_at passes r made registry s.views moment.stands at.history at.same_fixed at.untouched moment.passes_are
