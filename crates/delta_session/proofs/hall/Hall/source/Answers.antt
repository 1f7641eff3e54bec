use Rattle.std.proofs.Common.{Option}
use Rattle.log_base.specs.declared.source_info.SourceInfo.{SourceInfo}
use Rattle.delta_session.specs.Answered.{ByRegistry}
use Rattle.delta_session.specs.Steps.{HallView, HallSight}
use Rattle.registry_core.specs.Replies as registry
use Rattle.delta_session.proofs.Asked.{takes_found, moved, ready_behind}
use Rattle.delta_session.proofs.hall.Hall.source.Goals as goal

pub returns-clause-takes : goal.returns-clause-takes
returns-clause-takes g c =
    let hall : HallView g.row.D.Denot = record { registry = c.self.inside.registry; logs = c.self.inside.logs } in
    let before : HallSight = record { lists = record { registry = c.pass.inside.registry; logs = c.pass.inside.logs }; dice = c.pass.inside.dice } in
    let after : HallSight = record { lists = record { registry = c.resolve-found.new.pass; logs = c.pass.inside.logs }; dice = c.pass.inside.dice } in
    moved g.D.Disk c.args.self.now hall c.self.view_is c.args.pass.now before c.pass.view_is (ByRegistry (registry.resolve c.args.name)) c.say_found.result after
    (takes_found g.D.Disk hall before c.resolve-found.new.pass (λ (source : Option SourceInfo). registry.found source) (registry.resolve c.args.name) c.resolve-found.result c.say_found.result tt c.resolve-found.ensures.called c.resolve-found.ensures.want c.say_found.ensures.says c.say_found.ensures.want)

pub returns-clause-ready : goal.returns-clause-ready
returns-clause-ready g c =
    let after : HallSight = record { lists = record { registry = c.resolve-found.new.pass; logs = c.pass.inside.logs }; dice = c.pass.inside.dice } in
    ready_behind g.D.Disk c.args.self.now c.args.pass.now c.requires.ready (ByRegistry (registry.resolve c.args.name)) c.say_found.result after (returns-clause-takes g c)
