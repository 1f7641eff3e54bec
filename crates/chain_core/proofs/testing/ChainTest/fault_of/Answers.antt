use Rattle.std.proofs.Common.{sym, ◌∙◌}
use Rattle.chain_core.proofs.Tested.{diverges, repeats, follows}
use Rattle.chain_core.proofs.Decided.{ids_differ, ids_same}
use Rattle.chain_core.proofs.testing.ChainTest.fault_of.Goals as goal

pub returns-then-ne-clause-breaks : goal.returns-then-ne-clause-breaks
returns-then-ne-clause-breaks c = λ links more is.
    diverges links more c.args.link c.args.self.now is (ids_differ c.args.link.prev c.args.self.now.head (sym c.ne.ensures ∙ c.if-ne.true))

pub returns-in-Some-clause-breaks : goal.returns-in-Some-clause-breaks
returns-in-Some-clause-breaks c = λ links more is.
    repeats links more c.args.link c.args.self.now c.in-Some.version is (ids_same c.args.link.prev c.args.self.now.head (sym c.ne.ensures ∙ c.if-ne.false))
    (sym (c.version_of.ensures _ is.index_is) ∙ c.in-Some.is)

pub returns-in-None-clause-follows : goal.returns-in-None-clause-follows
returns-in-None-clause-follows c = λ links is.
    follows links c.args.link c.args.self.now is (ids_same c.args.link.prev c.args.self.now.head (sym c.ne.ensures ∙ c.if-ne.false))
    (sym (c.version_of.ensures _ is.index_is) ∙ c.in-None.is)
