use Rattle.std.proofs.Common.{◌≡◌, ◌++◌}
use Rattle.std.specs.Vec.Iter.{into_iter_items}
use Rattle.patch_log.specs.Opening.{AreFoundEntries}
use Rattle.patch_log.proofs.opening.read_log.Given as goal

abbrev pub invariant-loop-text : goal.invariant-loop-text
invariant-loop-text l = record {
  found : AreFoundEntries l.yielded l.most l.chain.items;
  rest : l.yielded ++ into_iter_items l.text-iterator ≡ l.fn.payloads.items;
}
