use Rattle.std.proofs.Common.{map}
use Rattle.std.specs.BTreeMap.{values}
use Rattle.quad_keys.specs.Keys.{quad_of_key}
use Rattle.quad_keys.proofs.Laying.{CopiedSoFar}
use Rattle.quad_keys.proofs.sorting.quad_copies.Given as goal

abbrev pub invariant-loop-key : goal.invariant-loop-key
invariant-loop-key l = CopiedSoFar l.terms (map (quad_of_key l.terms) (values l.keys)) l.key-iterator l.quads.items
