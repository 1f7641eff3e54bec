use Rattle.std.proofs.Common.{◌∙◌}
use Rattle.dataset_tx.proofs.Containing.{quad_there, quad_absent}
use Rattle.dataset_tx.proofs.store.Store.contains.Goals as goal

pub returns-in-Some : goal.returns-in-Some
returns-in-Some c =
    quad_there c.args.self.now.terms c.in-Some.key c.args.quad.now c.args.self.now.quads.contents _ _ c.requires.store.each_once (c.in-Some.ensures.known c.quad_is_value.ensures) c.in-Some.ensures.quad c.requires.store.known
    (c.index.ensures ∙ c.requires.settled.searched) c.contains.ensures.found

pub returns-in-None : goal.returns-in-None
returns-in-None c = quad_absent c.args.self.now.terms c.args.quad.now c.args.self.now.quads.contents c.quad_is_value.ensures c.requires.store.known c.in-None.ensures.none
