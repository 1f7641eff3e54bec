use Rattle.std.proofs.Common.{arith}
use Rattle.log_journal.proofs.Frames.{count_within}
use Rattle.log_journal.proofs.open.read_journal.Goals as goal

pub returns-clause-within : goal.returns-clause-within
returns-clause-within g c =
    let found = c.in_ok-extent.ensures.received in
    (omega (arith, found.2, found.3, count_within found.0), omega arith, c.in_ok-extent.ensures.numbered)
