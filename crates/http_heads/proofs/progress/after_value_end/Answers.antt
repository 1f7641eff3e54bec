use Rattle.http_heads.proofs.FollowLemmas.{value_crlf}
use Rattle.http_heads.proofs.progress.after_value_end.Goals as goal

pub returns-then-byte-eq10 : goal.returns-then-byte-eq10
returns-then-byte-eq10 c = λ text. value_crlf c.args.kind text c.args.byte c.if-byte-eq10.true
