use Rattle.std.proofs.Common.{rules, sym, ◌∙◌, take, drop, take-append-drop, arith}
use Rattle.sink_writing.proofs.Appended.{appended, kept_after}
use Rattle.sink_writing.proofs.sending.send_all.Goals as goal

pub loop-done-preserved : goal.loop-done-preserved
loop-done-preserved g c =
    let wrote = c.in_ok-done.ensures in
    record {
      within = let b = wrote.bound in search rules;
      written = appended (g.L.Link.sent c.args.link.now) (g.L.Link.sent c.loop-done.link) (g.L.Link.sent c.write.new.self) c.args.text.now c.loop-done.done c.in_ok-done.field-0 c.loop-done.invariant.written wrote.bytes;
      keeps = wrote.keeps ∙ c.loop-done.invariant.keeps;
      faults = omega (arith, wrote.cause.never_falls, c.loop-done.invariant.faults);
    }

pub returns-in_err-done-clause-front : goal.returns-in_err-done-clause-front
returns-in_err-done-clause-front g c = (
  take c.loop-done.done c.args.text.now,
  drop c.loop-done.done c.args.text.now,
  sym (take-append-drop c.loop-done.done c.args.text.now),
  kept_after (g.L.Link.sent c.args.link.now) (g.L.Link.sent c.loop-done.link) (g.L.Link.sent c.write.new.self) (take c.loop-done.done c.args.text.now) c.loop-done.invariant.written c.in_err-done.ensures.bytes,
)
