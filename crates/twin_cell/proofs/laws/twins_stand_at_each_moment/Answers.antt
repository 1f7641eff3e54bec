use Rattle.twin_cell.proofs.Moments.{at_moment}
use Rattle.twin_cell.proofs.laws.twins_stand_at_each_moment.Goals as goal

pub returns : goal.returns
returns g c = λ first_work work first_list list seats s holds work_lies list_lies. at_moment _ _ _ _ _ _ _ first_work first_list seats s holds work list work_lies list_lies
