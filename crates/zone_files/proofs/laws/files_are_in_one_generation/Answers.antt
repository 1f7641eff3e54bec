use Rattle.zone_files.proofs.Generations.{one_generation, shown_by, no_generation}
use Rattle.zone_files.proofs.laws.files_are_in_one_generation.Goals as goal

pub returns-clause-one : goal.returns-clause-one
returns-clause-one c = one_generation

pub returns-clause-shown : goal.returns-clause-shown
returns-clause-shown c = shown_by

pub returns-clause-broken : goal.returns-clause-broken
returns-clause-broken c = no_generation
