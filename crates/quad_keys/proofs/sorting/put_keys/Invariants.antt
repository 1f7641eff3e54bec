use Rattle.std.proofs.Common.{length}
use Rattle.quad_keys.specs.Keys.{quads_of}
use Rattle.quad_keys.specs.Laid.{AreLaid}
use Rattle.quad_keys.proofs.Taken.{TakenSoFar}
use Rattle.quad_keys.proofs.sorting.put_keys.Given as goal

abbrev pub invariant-keys : goal.invariant-keys
invariant-keys l = TakenSoFar l.terms (λ taken. AreLaid l.terms (quads_of l.terms taken) l.lines.entries) l.fn.keys.items l.keys.items

abbrev pub decreases-keys : goal.decreases-keys
decreases-keys l = length l.keys.items
