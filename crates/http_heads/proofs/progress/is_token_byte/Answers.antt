use Rattle.std.proofs.Common.{◌∙◌}
use Rattle.http_heads.proofs.FollowLemmas.{token_byte}
use Rattle.http_heads.proofs.progress.is_token_byte.Goals as goal

pub returns : goal.returns
returns c = c.is_token.ensures ∙ token_byte c.args.byte
