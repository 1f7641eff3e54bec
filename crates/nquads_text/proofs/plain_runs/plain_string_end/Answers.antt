use Rattle.std.proofs.Common.{refl}
use Rattle.nquads_text.specs.Reading.{is_plain_string}
use Rattle.nquads_text.proofs.PlainRuns.{home_passes}
use Rattle.nquads_text.proofs.plain_runs.plain_string_end.Goals as goal

pub returns-clause-plain : goal.returns-clause-plain
returns-clause-plain c = home_passes _ is_plain_string refl refl _ c.run_end.ensures.home
