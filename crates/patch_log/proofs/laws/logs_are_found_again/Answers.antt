use Rattle.patch_log.proofs.Reopened.{found_again, no_fault_again}
use Rattle.patch_log.proofs.laws.logs_are_found_again.Goals as goal

pub returns : goal.returns
returns c = record { found = found_again; no_fault = no_fault_again }
