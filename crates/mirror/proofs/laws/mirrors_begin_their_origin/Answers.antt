use Rattle.mirror.proofs.Beginning.{begins_origin}
use Rattle.mirror.proofs.laws.mirrors_begin_their_origin.Goals as goal

pub returns : goal.returns
returns g c = λ chain made passes log tells it. begins_origin g.D.Disk chain it.sound made passes log it tells
