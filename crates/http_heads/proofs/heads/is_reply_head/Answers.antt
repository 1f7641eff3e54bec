use Rattle.std.proofs.Common.{◌≡◌, length, arith}
use Rattle.std.proofs.lemmas.Bool.Decides.{nat_tests}
use Rattle.http_heads.proofs.WholeHeads.{whole_reply}
use Rattle.http_heads.proofs.heads.is_reply_head.Goals as goal

pub returns-in-Ok-Complete : goal.returns-in-Ok-Complete
returns-in-Ok-Complete c = λ same.
    let len : c.in-Ok-Complete.head.len ≡ length c.args.text.now = grind (arith, nat_tests, same) in
    whole_reply _ _ c.in-Ok-Complete.head (rw c.in-Ok-Complete.field-0-is at c.in-Ok-Complete.ensures.complete) len
