use Rattle.std.proofs.Common.{◌≤◌, ◌++◌, List, ℕ}
use Rattle.std.specs.List.{flat_map}
use Rattle.sink_writing.proofs.Pieces.{Written}
use Rattle.stream_replay.proofs.WrittenLines.{bytes_from}
use Rattle.stream_replay.proofs.lines.write_lines.Given as goal

-- what isn't written stands in the room and in the lines that are left
abbrev pub invariant-loop-at : goal.invariant-loop-at
invariant-loop-at g l = record {
  written : Written (g.K.Sink.written l.fn.out) (g.K.Sink.written l.out) (flat_map (λ (t : List ℕ). t) l.fn.lines) (l.room ++ bytes_from l.at l.fn.lines);
  faults : g.K.Sink.faults l.fn.out ≤ g.K.Sink.faults l.out;
}
