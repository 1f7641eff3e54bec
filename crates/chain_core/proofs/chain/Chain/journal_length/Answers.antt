use Rattle.std.proofs.Common.{arith}
use Rattle.chain_core.proofs.Patches.{length_bound}
use Rattle.chain_core.proofs.chain.Chain.journal_length.Goals as goal

pub returns-clause-fits : goal.returns-clause-fits
returns-clause-fits c = rw (← c.self.view_is) (omega (arith, c.self.invariant.bytes_is, length_bound c.self.inside.entries.items c.self.invariant.kept.short))
