use Rattle.patch_log.proofs.Reopened.{no_fault}
use Rattle.patch_log.proofs.laws.logs_have_no_fault.Goals as goal

pub returns : goal.returns
returns c = no_fault
