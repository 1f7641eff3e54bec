use Rattle.std.proofs.Common.{◌≡◌, ◌-◌, ◌≤◌, length}
use Rattle.stream_replay.specs.Streaming.{IsStreamRead}
use Rattle.stream_replay.proofs.stream.Streaming.advance.Given as goal

-- the rows so far were taken
abbrev pub invariant-rows : goal.invariant-rows
invariant-rows l = record {
  read : IsStreamRead l.end l.fn.self → IsStreamRead l.end l.self;
  few : l.self.progress.replay.chain.version ≤ l.self.window.passed;
  fed : l.self.window.fed ≡ l.fn.self.window.fed;
  same : l.self.fault ≡ l.fn.self.fault;
}

abbrev pub decreases-rows : goal.decreases-rows
decreases-rows l = length l.self.window.fed - l.self.window.passed
