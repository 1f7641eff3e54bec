use Rattle.std.proofs.Common.{◌≡◌, map}
use Rattle.std.specs.Map.Iter.{deref}
use Rattle.dataset_tx.specs.Prefixes.{prefix_change}
use Rattle.dataset_tx.specs.Rows.{rows_added}
use Rattle.dataset_tx.proofs.Settling.{settings_of}
use Rattle.dataset_tx.proofs.prefixes.PrefixMap.change_rows.Given as goal

abbrev pub invariant-loop-entry : goal.invariant-loop-entry
invariant-loop-entry l = l.log ≡ rows_added (map prefix_change (settings_of (map deref l.yielded)))
