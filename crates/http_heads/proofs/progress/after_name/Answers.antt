use Rattle.std.proofs.Common.{◌∙◌, sym}
use Rattle.http_heads.proofs.FollowLemmas.{name_more}
use Rattle.http_heads.proofs.progress.after_name.Goals as goal

pub returns-then-is_token_byte : goal.returns-then-is_token_byte
returns-then-is_token_byte c = λ text. name_more c.args.kind text c.args.byte (sym c.is_token_byte.ensures ∙ c.if-is_token_byte.true)
