use Rattle.std.proofs.Common.{◌≡◌, ◌+◌, ◌++◌, length}
use Rattle.std.specs.Vec.Iter.{into_iter_items}
use Rattle.chain_core.specs.Runs.{entries_of}
use Rattle.patch_log.proofs.indexed.IndexedChain.push_run.Given as goal

abbrev pub invariant-loop-patch : goal.invariant-loop-patch
invariant-loop-patch l = record {
  items : l.self.items ++ entries_of (into_iter_items l.patch-iterator) l.by ≡ l.fn.self.items ++ entries_of l.fn.run l.by;
  spare : l.self.spare + length l.fn.run ≡ l.fn.self.spare + length (into_iter_items l.patch-iterator);
  rest : l.rest ≡ length (into_iter_items l.patch-iterator);
}
