use Rattle.checkpoint_reading.proofs.Fronts.{front_taken}
use Rattle.checkpoint_reading.proofs.front.front_of.Goals as goal

pub returns : goal.returns
returns c = λ front parts. front_taken c.args.text.now front c.args.rest.now parts
