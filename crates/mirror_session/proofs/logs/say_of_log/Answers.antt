use Rattle.std.proofs.Common.{ℕ, IfOk, sym, subst}
use Rattle.chain_core.specs.Replies as log
use Rattle.shared_log.specs.Replies.{reply_fetched}
use Rattle.shared_log.specs.Stays.{CalledOnLog}
use Rattle.shared_log.specs.declared.replies.Fetched.{Fetched}
use Rattle.mirror_session.specs.declared.logs.LogAsk.{LogAsk}
use Rattle.mirror_session.specs.declared.logs.LogAsk.TheVariants as ask
use Rattle.mirror_session.specs.Answered.{AsksLog}
use Rattle.mirror_session.proofs.Reading.{asked_fetched, asked_so}
use Rattle.mirror_session.proofs.logs.say_of_log.Goals as goal

pub returns-in-Describe-clause-asks : goal.returns-in-Describe-clause-asks
returns-in-Describe-clause-asks g c =
    let p = c.args.pass.now in
    let q = c.describe-version.new.pass in
    let origin = c.args.log.now.origin in
    subst (λ (asked : LogAsk). AsksLog g.D.Disk origin asked p c.say.result q) (sym c.in-Describe.is)
    (asked_so g.D.Disk origin p q ask.Describe (log.described c.describe-version.result.version c.describe-version.result.head) c.say.result c.describe-version.ensures.called c.say.ensures.says)

pub returns-in-Version-clause-asks : goal.returns-in-Version-clause-asks
returns-in-Version-clause-asks g c =
    let p = c.args.pass.now in
    let q = c.version-version.new.pass in
    let origin = c.args.log.now.origin in
    subst (λ (asked : LogAsk). AsksLog g.D.Disk origin asked p c.say-in-Version.result q) (sym c.in-Version.is)
    (asked_so g.D.Disk origin p q ask.Version (log.counted c.version-version.result) c.say-in-Version.result c.version-version.ensures.called c.say-in-Version.ensures.says)

pub returns-in-FetchVersion-clause-asks : goal.returns-in-FetchVersion-clause-asks
returns-in-FetchVersion-clause-asks g c =
    let p = c.args.pass.now in
    let q = c.fetch_version.new.pass in
    let origin = c.args.log.now.origin in
    let called = subst (λ (n : ℕ). IfOk c.fetch_version.result (λ (a : Fetched). CalledOnLog g.D.Disk origin p (log.fetch_version n) (reply_fetched a) q)) c.version_within.ensures c.fetch_version.ensures.called in
    subst (λ (asked : LogAsk). AsksLog g.D.Disk origin asked p c.say_fetched.result q) (sym c.in-FetchVersion.is)
    (asked_fetched g.D.Disk origin p q (λ (a : Fetched). reply_fetched a) (ask.FetchVersion c.in-FetchVersion.version) c.fetch_version.result c.say_fetched.result tt called c.fetch_version.ensures.want c.say_fetched.ensures.says c.say_fetched.ensures.want)

pub returns-in-FetchId-clause-asks : goal.returns-in-FetchId-clause-asks
returns-in-FetchId-clause-asks g c =
    let p = c.args.pass.now in
    let q = c.fetch_id.new.pass in
    let origin = c.args.log.now.origin in
    subst (λ (asked : LogAsk). AsksLog g.D.Disk origin asked p c.say_fetched-in-FetchId.result q) (sym c.in-FetchId.is)
    (asked_fetched g.D.Disk origin p q (λ (a : Fetched). reply_fetched a) (ask.FetchId c.in-FetchId.id) c.fetch_id.result c.say_fetched-in-FetchId.result tt c.fetch_id.ensures.called c.fetch_id.ensures.want c.say_fetched-in-FetchId.ensures.says c.say_fetched-in-FetchId.ensures.want)
