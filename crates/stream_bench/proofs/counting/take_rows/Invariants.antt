use Rattle.std.proofs.Common.{length}
use Rattle.stream_bench.specs.Counting.{SameText, CountsRows}
use Rattle.stream_bench.proofs.counting.take_rows.Given as goal

-- so many rows were taken
abbrev pub invariant-rows : goal.invariant-rows
invariant-rows l = (CountsRows l.initial.reader l.before → CountsRows l.reader l.count) × SameText l.initial.reader l.reader

abbrev pub decreases-rows : goal.decreases-rows
decreases-rows l = length l.reader.ready
