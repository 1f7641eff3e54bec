use Rattle.std.proofs.Common.{subst, Some, None}
use Rattle.rpc_answers.specs.declared.answer.Answer.{Answer}
use Rattle.call_replies.specs.Says.{Says}
use Rattle.delta_session.specs.Answered.{ByRegistry}
use Rattle.delta_session.specs.Steps.{HallView, HallSight}
use Rattle.registry_core.specs.Replies as registry
use Rattle.delta_session.proofs.Asked.{takes_lookup, moved, ready_behind}
use Rattle.delta_session.proofs.hall.Hall.remove.Goals as goal

pub returns-clause-takes : goal.returns-clause-takes
returns-clause-takes g c =
    let hall : HallView g.row.D.Denot = record { registry = c.self.inside.registry; logs = c.self.inside.logs } in
    let before : HallSight = record { lists = record { registry = c.pass.inside.registry; logs = c.pass.inside.logs }; dice = c.pass.inside.dice } in
    let after : HallSight = record { lists = record { registry = c.remove-answer.new.pass; logs = c.pass.inside.logs }; dice = c.pass.inside.dice } in
    moved g.D.Disk c.args.self.now hall c.self.view_is c.args.pass.now before c.pass.view_is (ByRegistry (registry.remove c.args.name)) c.say.result after
    (takes_lookup g.D.Disk hall before c.remove-answer.new.pass (registry.remove c.args.name) (Some (registry.changed c.remove-answer.result)) c.say.result c.remove-answer.ensures.called
    (subst (λ (a : Answer). Says a None c.say.result) c.change_answer.ensures c.say.ensures.says))

pub returns-clause-ready : goal.returns-clause-ready
returns-clause-ready g c =
    let after : HallSight = record { lists = record { registry = c.remove-answer.new.pass; logs = c.pass.inside.logs }; dice = c.pass.inside.dice } in
    ready_behind g.D.Disk c.args.self.now c.args.pass.now c.requires.ready (ByRegistry (registry.remove c.args.name)) c.say.result after (returns-clause-takes g c)
