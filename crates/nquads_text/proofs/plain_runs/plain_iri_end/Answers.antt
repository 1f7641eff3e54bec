use Rattle.std.proofs.Common.{refl}
use Rattle.nquads_text.specs.Reading.{is_plain_iri}
use Rattle.nquads_text.proofs.PlainRuns.{home_passes}
use Rattle.nquads_text.proofs.plain_runs.plain_iri_end.Goals as goal

pub returns-clause-plain : goal.returns-clause-plain
returns-clause-plain c = home_passes _ is_plain_iri refl refl _ c.run_end.ensures.home
