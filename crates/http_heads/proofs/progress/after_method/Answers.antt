use Rattle.std.proofs.Common.{◌∙◌, sym}
use Rattle.http_heads.proofs.FollowLemmas.{method_more}
use Rattle.http_heads.proofs.progress.after_method.Goals as goal

pub returns-then-is_token_byte : goal.returns-then-is_token_byte
returns-then-is_token_byte c = λ text. method_more c.args.kind text c.args.byte (sym c.is_token_byte.ensures ∙ c.if-is_token_byte.true)
