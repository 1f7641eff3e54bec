use Rattle.std.proofs.Common.{◌≡◌, ◌∙◌, List, ℕ, false, IfOk, ap, subst}
use Rattle.serde_json.specs.Written.{compact_text}
use Rattle.http_session.specs.Texts.{json_reply}
use Rattle.call_replies.proofs.Ended.{end_text}
use Rattle.call_replies.proofs.ends.ended.Goals as goal

pub returns-clause-reply : goal.returns-clause-reply
returns-clause-reply c =
    subst (λ (text : List ℕ). IfOk c.json_reply.result (λ reply. reply ≡ json_reply 409 false text)) (ap compact_text c.in_ok-value.ensures ∙ end_text c.args.name.now c.requires) c.json_reply.ensures.reply
