use Rattle.std.proofs.Common.{◌≡◌}
use Rattle.line_order.specs.Moves.{lines_of}
use Rattle.line_order.proofs.presort.write_keys.Given as goal

abbrev pub invariant-loop-keyed : goal.invariant-loop-keyed
invariant-loop-keyed g l = lines_of l.lines ≡ lines_of l.fn.lines
