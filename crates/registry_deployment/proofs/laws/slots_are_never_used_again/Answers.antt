use Rattle.std.proofs.Common.{[]}
use Rattle.registry_deployment.proofs.Slots.{one_source}
use Rattle.registry_deployment.proofs.laws.slots_are_never_used_again.Goals as goal

pub returns : goal.returns
returns c = λ slots events is one other i j same. one_source slots [] events is.are_next one other i j same
