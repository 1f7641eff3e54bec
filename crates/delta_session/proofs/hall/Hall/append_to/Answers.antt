use Rattle.std.proofs.Common.{[], refl, subst, None}
use Rattle.patch_log.specs.Log.{bare}
use Rattle.patch_meaning.specs.Patch.{IsPatchFault}
use Rattle.patch_meaning.specs.declared.fault.PatchFault.TheVariants as fault
use Rattle.rpc_answers.specs.declared.answer.Answer.{Answer}
use Rattle.call_replies.specs.Says.{Says}
use Rattle.call_replies.specs.Telling.{patch_answer}
use Rattle.delta_session.specs.Answered.{ByPatch, IsPatchOf, append_of}
use Rattle.delta_session.specs.Steps.{HallView, HallSight}
use Rattle.delta_session.proofs.Asked.{takes_text, moved, ready_behind}
use Rattle.delta_session.proofs.Refused.{fault_said}
use Rattle.delta_session.proofs.hall.Hall.append_to.Goals as goal

pub returns-in-Ok-clause-takes : goal.returns-in-Ok-clause-takes
returns-in-Ok-clause-takes g c =
    let hall : HallView g.row.D.Denot = record { registry = c.self.inside.registry; logs = c.self.inside.logs } in
    let before : HallSight = record { lists = record { registry = c.pass.inside.registry; logs = c.pass.inside.logs }; dice = c.pass.inside.dice } in
    let after : HallSight = record { lists = record { registry = c.pass.inside.registry; logs = c.append-answer.new.pass }; dice = c.pass.inside.dice } in
    let read = c.in-Ok.ensures.ok in
    moved g.D.Disk c.args.self.now hall c.self.view_is c.args.pass.now before c.pass.view_is (ByPatch c.args.text c.args.slot) c.say.result after
    (takes_text g.D.Disk hall before c.append-answer.new.pass c.args.slot (IsPatchOf c.args.text) append_of (IsPatchFault c.args.text) patch_answer c.in-Ok.ensures.ok.patch c.append-answer.result c.say.result (read.text_is, read.is_patch) (c.append-answer.ensures.alone (bare c.in-Ok.ensures.ok.patch) c.in-Ok.ensures.ok.run_is) c.append-answer.ensures.whole
    (subst (λ (a : Answer). Says a None c.say.result) c.append_answer.ensures c.say.ensures.says))

pub returns-in-Ok-clause-ready : goal.returns-in-Ok-clause-ready
returns-in-Ok-clause-ready g c =
    let after : HallSight = record { lists = record { registry = c.pass.inside.registry; logs = c.append-answer.new.pass }; dice = c.pass.inside.dice } in
    ready_behind g.D.Disk c.args.self.now c.args.pass.now c.requires.ready (ByPatch c.args.text c.args.slot) c.say.result after (returns-in-Ok-clause-takes g c)

pub returns-in-Err-clause-takes : goal.returns-in-Err-clause-takes
returns-in-Err-clause-takes g c =
    let said = c.say_fault.ensures in
    ([], refl, fault_said (IsPatchOf c.args.text) append_of (IsPatchFault c.args.text) patch_answer c.args.slot fault.OutOfMemory c.in-Err.fault c.say_fault.result said.want said.says c.in-Err.ensures.fault, refl)
