use Rattle.patch_meaning.proofs.Taking.{quad_stands}
use Rattle.patch_meaning.proofs.draft.Draft.take_quad.Goals as goal

pub returns : goal.returns
returns c = λ rs adds quad s. quad_stands rs adds quad c.args.self.now s
