use Rattle.std.proofs.Common.{refl}
use Rattle.nquads_text.specs.Reading.{is_at_home}
use Rattle.nquads_text.proofs.plain_runs.is_at_home.Goals as goal

pub returns : goal.returns
unfolding is_at_home
returns c = rw c.from.ensures refl
