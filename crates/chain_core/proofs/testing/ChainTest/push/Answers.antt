use Rattle.std.proofs.Common.{◌+◌, Some, refl}
use Rattle.chain_core.proofs.Tested.{tested_more}
use Rattle.chain_core.proofs.testing.ChainTest.push.Goals as goal

pub returns-clause-ok : goal.returns-clause-ok
returns-clause-ok c = λ links is chain.
    tested_more links c.args.link c.args.self.now (record { version = c.args.self.now.version + 1; head = Some c.args.link.id; index = c.insert.new.self }) is chain refl refl
    c.in_ok-insert.ensures.more
