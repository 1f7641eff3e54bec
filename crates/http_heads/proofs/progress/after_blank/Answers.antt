use Rattle.http_heads.proofs.FollowLemmas.{blank_lf}
use Rattle.http_heads.proofs.progress.after_blank.Goals as goal

pub returns-then-byte-eq10 : goal.returns-then-byte-eq10
returns-then-byte-eq10 c = λ text. blank_lf c.args.kind text c.args.byte c.if-byte-eq10.true
