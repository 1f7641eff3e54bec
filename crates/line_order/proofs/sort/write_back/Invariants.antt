use Rattle.std.proofs.Common.{◌≡◌, take}
use Rattle.line_order.specs.Moves.{lines_of}
use Rattle.line_order.proofs.sort.write_back.Given as goal

abbrev pub invariant-loop-at : goal.invariant-loop-at
invariant-loop-at g l = take l.at l.lines ≡ lines_of (take l.at l.keyed)
