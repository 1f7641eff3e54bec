use Rattle.std.proofs.Common.{◌∙◌, sym}
use Rattle.http_heads.proofs.FollowLemmas.{reason_more}
use Rattle.http_heads.proofs.progress.after_reason.Goals as goal

pub returns-then-is_value_byte : goal.returns-then-is_value_byte
returns-then-is_value_byte c = λ text. reason_more c.args.kind text c.args.byte (sym c.is_value_byte.ensures ∙ c.if-is_value_byte.true)
