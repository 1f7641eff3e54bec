use Rattle.delta_session.proofs.Finding.{finds_hall}
use Rattle.delta_session.proofs.laws.halls_are_found_again.Goals as goal

pub returns : goal.returns
returns g c = λ told. finds_hall g.D.Disk told
