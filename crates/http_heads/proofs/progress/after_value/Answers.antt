use Rattle.std.proofs.Common.{◌∙◌, sym}
use Rattle.http_heads.proofs.FollowLemmas.{value_lf, value_more}
use Rattle.http_heads.proofs.progress.after_value.Goals as goal

pub returns-then-byte-eq10 : goal.returns-then-byte-eq10
returns-then-byte-eq10 c = λ text. value_lf c.args.kind text c.args.byte c.if-byte-eq10.true

pub returns-then-is_value_byte : goal.returns-then-is_value_byte
returns-then-is_value_byte c = λ text. value_more c.args.kind text c.args.byte (sym c.is_value_byte.ensures ∙ c.if-is_value_byte.true)
