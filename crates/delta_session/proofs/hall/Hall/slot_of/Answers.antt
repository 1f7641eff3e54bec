use Rattle.std.proofs.Common.{ℕ, ◌<◌, ◌≤◌, ◌∙◌, ap, subst, sym, length, IfOk}
use Rattle.delta_session.specs.Steps.{HallView, HallSight}
use Rattle.delta_session.proofs.Asked.{looks, moved_looks, ready_found}
use Rattle.delta_session.proofs.hall.Hall.slot_of.Goals as goal

pub returns-clause-looks : goal.returns-clause-looks
returns-clause-looks g c =
    let hall : HallView g.row.D.Denot = record { registry = c.self.inside.registry; logs = c.self.inside.logs } in
    let before : HallSight = record { lists = record { registry = c.pass.inside.registry; logs = c.pass.inside.logs }; dice = c.pass.inside.dice } in
    let after : HallSight = record { lists = record { registry = c.resolve-found.new.pass; logs = c.pass.inside.logs }; dice = c.pass.inside.dice } in
    moved_looks g.D.Disk c.args.self.now hall c.self.view_is c.args.pass.now before c.pass.view_is c.args.name c.slot_in.result after
    (looks g.D.Disk hall before c.resolve-found.new.pass c.args.name c.resolve-found.result c.slot_in.result c.resolve-found.ensures.called c.resolve-found.ensures.want c.slot_in.ensures.found)

pub returns-clause-ready : goal.returns-clause-ready
returns-clause-ready g c =
    let after : HallSight = record { lists = record { registry = c.resolve-found.new.pass; logs = c.pass.inside.logs }; dice = c.pass.inside.dice } in
    ready_found g.D.Disk c.args.self.now c.args.pass.now c.requires.ready c.args.name c.slot_in.result after (returns-clause-looks g c)

pub returns-clause-slot : goal.returns-clause-slot
returns-clause-slot g c =
    subst (λ (n : ℕ). IfOk c.slot_in.result (λ slot. (0 < slot) × (slot ≤ n))) (sym c.self.invariant.0 ∙ ap (λ (h : HallView g.row.D.Denot). length h.logs.logs) c.self.view_is)
    (c.slot_in.ensures.slot c.self.inside.registry.origin.slots c.resolve-found.ensures.slot)
