use Rattle.std.proofs.Common.{◌≡◌, length}
use Rattle.dataset_tx.specs.Prefixes.{AreStagedRows, next_settings}
use Rattle.dataset_tx.proofs.prefixes.settle_all.Given as goal

abbrev pub invariant-loop-row : goal.invariant-loop-row
invariant-loop-row l = record {
  rows : AreStagedRows l.rows.entries l.staged.entries;
  same : next_settings l.staged.entries l.rows.entries ≡ next_settings l.fn.staged.entries l.fn.rows.entries;
}

abbrev pub decreases-loop-row : goal.decreases-loop-row
decreases-loop-row l = length l.staged.entries
