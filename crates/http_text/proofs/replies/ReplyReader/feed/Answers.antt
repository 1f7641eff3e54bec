use Rattle.std.proofs.Common.{subst, ◌++◌}
use Rattle.http_text.specs.Readers.{ReaderStandsFor, Decides, waiting}
use Rattle.http_text.specs.Taken.{reply_messages}
use Rattle.http_heads.specs.declared.message.Kind.{Kind}
use Rattle.http_heads.specs.declared.message.Kind.TheVariants.{Replies}
use Rattle.http_text.proofs.TakenLemmas.{at_kind}
use Rattle.http_text.proofs.replies.ReplyReader.feed.Goals as goal

pub returns-clause-stands : goal.returns-clause-stands
returns-clause-stands c = λ bytes taken stands.
    subst (λ (k : Kind). ReaderStandsFor k (bytes ++ c.args.piece.now) (reply_messages taken) c.feed.new.self) c.self.invariant.0
    (c.feed.ensures.stands bytes (reply_messages taken) (at_kind c.self.inside.reader.kind Replies c.self.inside.reader c.args.self.now bytes (reply_messages taken) c.self.invariant.0 c.self.view_is stands))

pub returns-clause-decides : goal.returns-clause-decides
returns-clause-decides c = λ bytes taken stands.
    subst (λ (k : Kind). Decides k (bytes ++ c.args.piece.now) (reply_messages taken ++ waiting c.feed.new.self) c.feed.result) c.self.invariant.0
    (c.feed.ensures.decides bytes (reply_messages taken) (at_kind c.self.inside.reader.kind Replies c.self.inside.reader c.args.self.now bytes (reply_messages taken) c.self.invariant.0 c.self.view_is stands))
