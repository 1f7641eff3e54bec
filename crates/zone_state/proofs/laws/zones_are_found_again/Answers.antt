use Rattle.zone_state.proofs.Reopened.{found_again, no_fault_again}
use Rattle.zone_state.proofs.laws.zones_are_found_again.Goals as goal

pub returns-clause-found : goal.returns-clause-found
returns-clause-found c = found_again

pub returns-clause-no_fault : goal.returns-clause-no_fault
returns-clause-no_fault c = no_fault_again
