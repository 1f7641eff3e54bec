use Rattle.std.proofs.Common.{◌≡◌, ◌-◌, ◌≤◌, length}
use Rattle.stream_replay.specs.Streaming.{IsFew}
use Rattle.stream_replay.proofs.Inputs.{HasRead}
use Rattle.stream_replay.proofs.source.replay_source.Given as goal

-- the bytes so far were read and fed
abbrev pub invariant-reading : goal.invariant-reading
invariant-reading g l = record {
  read : HasRead (g.S.Source.left l.fn.input) (g.S.Source.left l.input) l.stream l.length;
  few : IsFew l.stream;
  within : length l.stream.window.fed ≤ l.length;
  short : l.length ≤ 268500992;
  faults : g.S.Source.faults l.fn.input ≤ g.S.Source.faults l.input;
  piece : length l.piece ≡ 65536;
}

abbrev pub decreases-reading : goal.decreases-reading
decreases-reading g l = 268435457 - l.length
