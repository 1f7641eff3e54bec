use Rattle.std.proofs.Common.{arith}
use Rattle.paired_zone.proofs.Sizes.{first-length}
use Rattle.paired_zone.proofs.making.first_size.Goals as goal

pub returns-clause-count : goal.returns-clause-count
returns-clause-count c = omega (arith, first-length c.args.first.now)
