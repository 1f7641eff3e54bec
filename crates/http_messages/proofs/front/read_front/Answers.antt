use Rattle.std.proofs.Common.{sym, subst}
use Rattle.http_messages.specs.Front.{FrontIs}
use Rattle.http_heads.specs.declared.message.Kind.{Kind}
use Rattle.http_messages.proofs.front.read_front.Goals as goal

pub returns-in-Requests : goal.returns-in-Requests
returns-in-Requests c = λ room fits. subst (λ (k : Kind). FrontIs k room c.args.text.now c.request_front.result) (sym c.in-Requests.is) (c.request_front.ensures room fits)

pub returns-in-Replies : goal.returns-in-Replies
returns-in-Replies c = λ room fits. subst (λ (k : Kind). FrontIs k room c.args.text.now c.reply_front.result) (sym c.in-Replies.is) (c.reply_front.ensures room fits)
