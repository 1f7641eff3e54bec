use Rattle.std.proofs.Common.{◌≡◌, ◌++◌, length}
use Rattle.patch_rows.specs.declared.cut.TextEnd.TheVariants as ends
use Rattle.stream_bench.specs.Counting.{CountsRows}
use Rattle.stream_bench.proofs.counting.count_rows.Given as goal

-- the front of the text was fed, and its rows were counted
abbrev pub invariant-pieces : goal.invariant-pieces
invariant-pieces l = (l.text ≡ l.reader.fed ++ l.rest) × (l.reader.end ≡ ends.Open) × CountsRows l.reader l.count

abbrev pub decreases-pieces : goal.decreases-pieces
decreases-pieces l = length l.rest
