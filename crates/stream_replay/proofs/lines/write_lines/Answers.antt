use Rattle.std.proofs.Common.{ℕ, List, [], arith}
use Rattle.std.specs.List.{flat_map}
use Rattle.sink_writing.proofs.Pieces.{written_front}
use Rattle.stream_replay.proofs.WrittenLines.{line_front, room_left, written_line}
use Rattle.stream_replay.proofs.lines.write_lines.Goals as goal

pub returns-in_err-put-clause-front : goal.returns-in_err-put-clause-front
returns-in_err-put-clause-front g c =
    line_front (g.K.Sink.written c.args.out.now) (g.K.Sink.written c.loop-at.out) (g.K.Sink.written c.put.new.out) (flat_map (λ (l : List ℕ). l) c.args.lines.now) c.loop-at.room c.line.result.now c.args.lines.now
    c.loop-at.at (omega (arith, c.loop-at-test.true, c.len-at-end.ensures)) c.line.ensures c.loop-at.invariant.written c.in_err-put.ensures.front

pub loop-at-preserved : goal.loop-at-preserved
loop-at-preserved g c = record {
  written =
      written_line (g.K.Sink.written c.args.out.now) (g.K.Sink.written c.loop-at.out) (g.K.Sink.written c.put.new.out) (flat_map (λ (l : List ℕ). l) c.args.lines.now) c.loop-at.room c.line.result.now c.args.lines.now
      c.loop-at.at (omega (arith, c.loop-at-test.true, c.len-at-end.ensures)) c.line.ensures c.loop-at.invariant.written c.put.new.self c.in_ok-put.ensures.put;
  faults = omega (arith, c.put.ensures.never_falls, c.loop-at.invariant.faults);
}

-- nothing is left but the room
pub returns-clause-front : goal.returns-clause-front
returns-clause-front g c =
    let left = room_left (g.K.Sink.written c.args.out.now) (g.K.Sink.written c.loop-at.out) (flat_map (λ (l : List ℕ). l) c.args.lines.now) c.loop-at.room c.args.lines.now c.loop-at.at
    (omega (arith, c.loop-at-test.false, c.len-at-end.ensures)) c.loop-at.invariant.written in
    written_front (g.K.Sink.written c.args.out.now) (g.K.Sink.written c.loop-at.out) (g.K.Sink.written c.write_out.new.out) (flat_map (λ (l : List ℕ). l) c.args.lines.now) c.loop-at.room [] left c.write_out.ensures.front
