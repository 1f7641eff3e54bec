use Rattle.std.proofs.Common.{length, ◌-◌, map}
use Rattle.nquads_documents.specs.Shown.{shown}
use Rattle.nquads_documents.proofs.Showing.{AreShown}
use Rattle.nquads_documents.proofs.canonical.shown_lines.Given as goal

abbrev pub invariant-loop-at : goal.invariant-loop-at
invariant-loop-at l = AreShown l.text l.printed.items (map shown l.lines.items) l.ends.items l.at

abbrev pub decreases-loop-at : goal.decreases-loop-at
decreases-loop-at l = length l.text - l.at
