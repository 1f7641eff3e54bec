use Rattle.std.proofs.Common.{sym, subst}
use Rattle.log_registry.specs.State.{StateView}
use Rattle.turn_cell.specs.Sights.{Made}
use Rattle.turn_cell.specs.Sharing.{IsClosedOf}
use Rattle.shared_registry.specs.History.{shared_registry}
use Rattle.shared_registry.proofs.shared.SharedRegistry.close.Goals as goal

pub returns : goal.returns
returns g c = let closed = subst (λ (made : Made (StateView g.row.D.Denot)). IsClosedOf (shared_registry g.D.Disk) made c.args.passes.items c.close.result) c.self.view_is c.close.ensures.closed in
    record { closed = subst (λ (r : StateView g.row.D.Denot). IsClosedOf (shared_registry g.D.Disk) c.args.self c.args.passes.items r) (sym c.into_registry.ensures.same) closed }
