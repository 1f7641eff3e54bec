use Rattle.std.proofs.Common.{◌≡◌, ◌-◌, ◌≤◌, length, take}
use Rattle.std.specs.Io.KnownBytes.{Appends}
use Rattle.sink_writing.proofs.sending.send_all.Given as goal

-- what was written so far is the front of the text
abbrev pub invariant-loop-done : goal.invariant-loop-done
invariant-loop-done g l = record {
  within : l.done ≤ length l.text;
  written : Appends (g.L.Link.sent l.fn.link) (g.L.Link.sent l.link) (take l.done l.text);
  keeps : g.L.Link.left l.link ≡ g.L.Link.left l.fn.link;
  faults : g.L.Link.faults l.fn.link ≤ g.L.Link.faults l.link;
}

abbrev pub decreases-loop-done : goal.decreases-loop-done
decreases-loop-done g l = length l.text - l.done
