use Rattle.std.proofs.Common.{List, ℕ, ◌+◌, drop, ap, subst, arith}
use Rattle.std.specs.Borrow.{Bor}
use Rattle.std.proofs.lemmas.List.{drop_all, drop_more}
use Rattle.sink_writing.specs.Writing.{joined}
use Rattle.sink_writing.proofs.Pieces.{Written, written_more}
use Rattle.command_tables.proofs.Printed.{all_written, front_next, front_written}
use Rattle.command_tables.proofs.help.print_all.Goals as goal

pub returns-in_err-write_all-clause-front : goal.returns-in_err-write_all-clause-front
returns-in_err-write_all-clause-front g c =
    let texts = c.args.texts.now in
    let next = ap joined (drop_more texts c.loop-text.text-index _ c.loop-text-test.true) in
    front_next (g.K.Sink.written c.args.out.now) (g.K.Sink.written c.loop-text.out) (g.K.Sink.written c.write_all.new.out) (joined texts) (joined (drop c.loop-text.text-index texts)) _
    (joined (drop (c.loop-text.text-index + 1) texts)) c.loop-text.invariant.written next c.in_err-write_all.ensures.front

pub loop-text-preserved : goal.loop-text-preserved
loop-text-preserved g c =
    let texts = c.args.texts.now in
    let next = ap joined (drop_more texts c.loop-text.text-index _ c.loop-text-test.true) in
    record {
      written =
          written_more (g.K.Sink.written c.args.out.now) (g.K.Sink.written c.loop-text.out) (g.K.Sink.written c.write_all.new.out) (joined texts) (joined (drop c.loop-text.text-index texts))
          _ (joined (drop (c.loop-text.text-index + 1) texts)) c.loop-text.invariant.written next c.in_ok-write_all.ensures.whole;
      faults = omega (arith, c.write_all.ensures.never_falls, c.loop-text.invariant.faults);
    }

pub returns-clause-whole : goal.returns-clause-whole
returns-clause-whole g c =
    let none = drop_all c.loop-text.text-index c.args.texts.now c.loop-text-test.false in
    all_written (g.K.Sink.written c.args.out.now) (g.K.Sink.written c.loop-text.out) (joined c.args.texts.now)
    (subst (λ (l : List (Bor (List ℕ))). Written (g.K.Sink.written c.args.out.now) (g.K.Sink.written c.loop-text.out) (joined c.args.texts.now) (joined l)) none c.loop-text.invariant.written)

pub returns-clause-front : goal.returns-clause-front
returns-clause-front g c =
    front_written (g.K.Sink.written c.args.out.now) (g.K.Sink.written c.loop-text.out) (joined c.args.texts.now) (joined (drop c.loop-text.text-index c.args.texts.now)) c.loop-text.invariant.written
