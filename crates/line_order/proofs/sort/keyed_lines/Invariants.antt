use Rattle.std.proofs.Common.{◌≡◌, take}
use Rattle.line_order.specs.Moves.{lines_of}
use Rattle.line_order.proofs.sort.keyed_lines.Given as goal

abbrev pub invariant-loop-line : goal.invariant-loop-line
invariant-loop-line g l = lines_of l.keyed.items ≡ take l.line-index l.lines
