use Rattle.std.proofs.Common.{◌≡◌, length, arith}
use Rattle.std.proofs.lemmas.Bool.Decides.{nat_tests}
use Rattle.http_heads.proofs.WholeHeads.{whole_request}
use Rattle.http_heads.proofs.heads.is_request_head.Goals as goal

pub returns-in-Ok-Complete : goal.returns-in-Ok-Complete
returns-in-Ok-Complete c = λ same.
    let len : c.in-Ok-Complete.head.len ≡ length c.args.text.now = grind (arith, nat_tests, same) in
    whole_request _ _ c.in-Ok-Complete.head (rw c.in-Ok-Complete.field-0-is at c.in-Ok-Complete.ensures.complete) len
