use Rattle.checkpoint_reading.proofs.ReadHere.{only_row, no_row, row_writable}
use Rattle.checkpoint_reading.proofs.prefixes.read_row.Goals as goal

pub returns-in-Ok-clause-ok : goal.returns-in-Ok-clause-ok
returns-in-Ok-clause-ok c = only_row c.args.text.now _ _ c.in-Ok.ensures.0

pub returns-in-Ok-clause-writable : goal.returns-in-Ok-clause-writable
returns-in-Ok-clause-writable c = row_writable c.args.text.now _ _ c.in-Ok.ensures.0

pub returns-in-Err-At-clause-broken : goal.returns-in-Err-At-clause-broken
returns-in-Err-At-clause-broken c = λ broken. let h = rw c.in-Err-At.field-0-is at c.in-Err-At.ensures in no_row c.args.text.now _ h.0
