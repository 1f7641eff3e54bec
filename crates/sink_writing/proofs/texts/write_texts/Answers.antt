use Rattle.std.proofs.Common.{List, ℕ, [], ◌++◌, subst, arith}
use Rattle.std.specs.Borrow.{Bor}
use Rattle.std.proofs.lemmas.List.{drop_all}
use Rattle.sink_writing.specs.Writing.{joined}
use Rattle.sink_writing.proofs.Pieces.{Written, line_front, written_front, written_line}
use Rattle.sink_writing.proofs.texts.write_texts.Goals as goal

pub returns-in_err-put-clause-front : goal.returns-in_err-put-clause-front
returns-in_err-put-clause-front g c =
    line_front (g.K.Sink.written c.args.out.now) (g.K.Sink.written c.loop-text.out) (g.K.Sink.written c.put.new.out) (joined c.args.texts.now) c.loop-text.room c.args.texts.now c.loop-text.text-index _
    c.loop-text-test.true c.loop-text.invariant.written c.in_err-put.ensures.front

pub loop-text-preserved : goal.loop-text-preserved
loop-text-preserved g c = record {
  written =
      written_line (g.K.Sink.written c.args.out.now) (g.K.Sink.written c.loop-text.out) (g.K.Sink.written c.put.new.out) (joined c.args.texts.now) c.loop-text.room c.put.new.self c.args.texts.now
      c.loop-text.text-index _ c.loop-text-test.true c.loop-text.invariant.written c.in_ok-put.ensures.put;
  faults = omega (arith, c.put.ensures.never_falls, c.loop-text.invariant.faults);
}

-- nothing is left but the room
pub returns-clause-front : goal.returns-clause-front
returns-clause-front g c =
    let none = drop_all c.loop-text.text-index c.args.texts.now c.loop-text-test.false in
    let room = c.loop-text.room in
    let left = subst (λ (l : List (Bor (List ℕ))). Written (g.K.Sink.written c.args.out.now) (g.K.Sink.written c.loop-text.out) (joined c.args.texts.now) (room ++ joined l)) none c.loop-text.invariant.written in
    written_front (g.K.Sink.written c.args.out.now) (g.K.Sink.written c.loop-text.out) (g.K.Sink.written c.write_out.new.out) (joined c.args.texts.now) room [] left c.write_out.ensures.front
