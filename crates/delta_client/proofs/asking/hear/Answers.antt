use Rattle.std.proofs.Common.{◌++◌, inr, refl, sym, subst}
use Rattle.delta_client.specs.declared.fault.AskFault.{AskFault}
use Rattle.delta_client.specs.Asking.{NoAnswer}
use Rattle.delta_client.proofs.Nexts.{no_answer, refused}
use Rattle.delta_client.proofs.asking.hear.Goals as goal

pub returns-then-takes-clause-answer : goal.returns-then-takes-clause-answer
returns-then-takes-clause-answer g c given taken gave =
    let next = c.in-Ok.ensures.next given taken gave in
    let is = next.2 in
    (next.0, next.1, (c.in-Ok.reply, is.0, is.1, c.in-Ok-read_answer.ensures.found, refl, c.takes.ensures.yes c.if-takes.true))

pub returns-in-Ok-read_answer-clause-answer : goal.returns-in-Ok-read_answer-clause-answer
returns-in-Ok-read_answer-clause-answer g c given taken gave =
    let next = c.in-Ok.ensures.next given taken gave in
    let no = c.takes.ensures in
    let other = c.if-takes.false in
    (next.0, next.1, inr (inr ((c.in-Ok.reply, c.in-Ok-read_answer.answer, next.2.0, c.in-Ok-read_answer.ensures.found, no.no other, no.other other), refl)))

pub returns-clause-answer : goal.returns-clause-answer
returns-clause-answer g c given taken gave =
    let next = c.in-Err.ensures.next given taken gave in
    (next.0, next.1, no_answer c.args.call.now (given ++ next.0) taken (g.L.Link.left c.next_reply.new.link) c.next_reply.new.reader c.in-Err.fault next.2)

pub returns-in-Ok-clause-answer : goal.returns-in-Ok-clause-answer
returns-in-Ok-clause-answer g c given taken gave =
    let next = c.in-Ok.ensures.next given taken gave in
    let is = next.2 in
    let made = refused c.args.call.now (given ++ next.0) taken (g.L.Link.left c.next_reply.new.link) c.in-Ok.reply c.in-Err-read_answer.fault is.0 c.in-Err-read_answer.ensures.refused in
    (next.0, next.1, subst (λ (fault : AskFault). NoAnswer c.args.call.now (given ++ next.0) taken (g.L.Link.left c.next_reply.new.link) fault) (sym c.from.ensures) made)
