use Rattle.stream_generator.proofs.Appending.{three}
use Rattle.stream_generator.proofs.patch.push_predicate.Goals as goal

pub returns : goal.returns
returns c = three _ _ _ _ _ _ _ _ _ _ c.in_ok-push.ensures c.in_ok-push_number.ensures c.push_object.ensures
