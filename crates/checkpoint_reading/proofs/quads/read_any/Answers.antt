use Rattle.checkpoint_reading.proofs.ReadHere.{only_quad, no_quad}
use Rattle.checkpoint_reading.proofs.quads.read_any.Goals as goal

pub returns-in-Ok-clause-ok : goal.returns-in-Ok-clause-ok
returns-in-Ok-clause-ok c = only_quad c.args.text.now _ _ c.in-Ok.ensures.0

pub returns-in-Err-At-clause-broken : goal.returns-in-Err-At-clause-broken
returns-in-Err-At-clause-broken c = λ broken. let h = rw c.in-Err-At.field-0-is at c.in-Err-At.ensures in no_quad c.args.text.now _ h.0
