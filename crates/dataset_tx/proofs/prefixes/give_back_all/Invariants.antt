use Rattle.std.proofs.Common.{◌≡◌, length}
use Rattle.std.specs.Map.{keys_of}
use Rattle.std.specs.List.Sorted.{IsStrictlySortedBy}
use Rattle.dataset_tx.specs.Prefixes.{row_cmp, AreRows, settings}
use Rattle.dataset_tx.proofs.prefixes.give_back_all.Given as goal

abbrev pub invariant-loop-row : goal.invariant-loop-row
invariant-loop-row l = record {
  same : settings l.rows.entries ≡ settings l.fn.rows.entries;
  stand : AreRows l.rows.entries;
  sorted : IsStrictlySortedBy row_cmp (keys_of l.rows.entries);
}

abbrev pub decreases-loop-row : goal.decreases-loop-row
decreases-loop-row l = length l.staged.entries
