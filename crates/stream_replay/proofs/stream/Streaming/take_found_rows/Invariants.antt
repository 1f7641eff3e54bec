use Rattle.std.proofs.Common.{◌≡◌, ◌-◌, ◌≤◌, length}
use Rattle.patch_rows.specs.declared.cut.TextEnd.{TextEnd}
use Rattle.stream_replay.specs.Streaming.{IsStreamRead}
use Rattle.stream_replay.proofs.stream.Streaming.take_found_rows.Given as goal

-- the rows so far were taken
abbrev pub invariant-rows : goal.invariant-rows
invariant-rows l = record {
  read : (end : TextEnd) → IsStreamRead end l.fn.self → IsStreamRead end l.self;
  few : l.self.progress.replay.chain.version ≤ l.self.window.passed;
  further : l.fn.self.window.passed ≤ l.self.window.passed;
  fed : l.self.window.fed ≡ l.fn.self.window.fed;
  same : l.self.fault ≡ l.fn.self.fault;
}

abbrev pub decreases-rows : goal.decreases-rows
decreases-rows l = length l.self.window.fed - l.self.window.passed
