use Rattle.std.proofs.Common.{ap, length, arith}
use Rattle.http_heads.proofs.OpenHeads.{follows_open}
use Rattle.http_messages.proofs.StepLemmas.{full_head, followed}
use Rattle.http_messages.proofs.stage.keep_followed.Goals as goal

pub returns-then-len-room : goal.returns-then-len-room
returns-then-len-room c = λ kind known follows.
    full_head kind c.args.room _ (follows_open kind _ c.args.progress known follows) (omega (arith, ap length c.in_ok-extend_from_slice.ensures.items))

pub returns : goal.returns
returns c = λ kind known follows.
    followed kind c.args.room c.args.pending.now.items _ c.args.bytes.now _ c.args.progress c.in_ok-extend_from_slice.ensures.items (omega arith) c.requires.some
    (omega (arith, c.in_ok-extend_from_slice.ensures.len, c.requires.fits)) known follows
