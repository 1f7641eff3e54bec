use Rattle.std.proofs.Common.{◌≡◌, map}
use Rattle.std.specs.List.{All}
use Rattle.std.specs.Map.Iter.{deref}
use Rattle.dataset_tx.specs.Prefixes.{prefix_change}
use Rattle.dataset_tx.specs.Rows.{HasItsRow}
use Rattle.dataset_tx.proofs.Settling.{settings_of}
use Rattle.dataset_tx.proofs.prefixes.PrefixMap.rows.Given as goal

abbrev pub invariant-loop-entry : goal.invariant-loop-entry
invariant-loop-entry l = record {
  changes : map (λ row. row.1) l.rows.items ≡ map prefix_change (settings_of (map deref l.yielded));
  rows : All HasItsRow l.rows.items;
}
