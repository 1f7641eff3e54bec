use Rattle.turn_cell.proofs.Calling.{compose}
use Rattle.shared_registry.specs.Legal.{LegalOnRegistry}
use Rattle.shared_registry.specs.Lookups.{MayWantNames}
use Rattle.shared_registry.proofs.laws.lookups_compose.Goals as goal

pub returns : goal.returns
returns c slots = compose (LegalOnRegistry slots) MayWantNames
