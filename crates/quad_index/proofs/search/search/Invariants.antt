use Rattle.std.proofs.Common.{◌≡◌, ◌+◌, length}
use Rattle.quad_index.proofs.Scans.{Scanning}
use Rattle.quad_index.proofs.search.search.Given as goal

abbrev pub invariant-walk : goal.invariant-walk
invariant-walk g l = record {
  counted : l.steps ≡ l.fn.steps + length l.found.items;
  scanning : Scanning l.kept.order l.pattern l.kept.keys l.walk l.found.items;
}

abbrev pub decreases-walk : goal.decreases-walk
decreases-walk g l = length l.walk
