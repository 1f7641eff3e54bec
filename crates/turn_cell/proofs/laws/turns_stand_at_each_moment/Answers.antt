use Rattle.turn_cell.proofs.Moments.{at_moment}
use Rattle.turn_cell.proofs.laws.turns_stand_at_each_moment.Goals as goal

pub returns : goal.returns
returns g c = λ origin value seats s holds lies. at_moment _ _ _ _ _ origin seats s holds value lies
