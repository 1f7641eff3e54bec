use Rattle.std.proofs.Common.{◌≡◌, ap, refl, ◌∙◌, inr}
use Rattle.log_base.specs.declared.limits.LogLimits.{LogLimits}
use Rattle.chain_core.specs.Replies as asked
use Rattle.chain_core.specs.Patches.{patches_of}
use Rattle.shared_log.specs.declared.replies.Fetched.{Fetched}
use Rattle.shared_log.specs.History.{history_of}
use Rattle.shared_log.specs.Replies.{reply_fetched}
use Rattle.shared_log.specs.Stays.{CalledOnLog}
use Rattle.shared_log.proofs.Asking.{only_asks}
use Rattle.shared_log.proofs.Turns.{sees_published}
use Rattle.shared_log.proofs.Telling.{if_ok, on_err}
use Rattle.shared_log.proofs.shared.SharedLog.fetch_version.Goals as goal

pub leave_list-requires-clause-spare : goal.leave_list-requires-clause-spare
leave_list-requires-clause-spare g c = let e = c.enter_list-held.ensures in inr (e.same.1 ∙ c.requires.of.1.0, refl, ap (λ l. l.chain.spare) e.value)

pub returns : goal.returns
returns g c =
    let e = c.enter_list-held.ensures in
    let l = c.leave_list.ensures in
    let p = c.args.pass.now in
    let m = c.enter_list-held.new.pass in
    let q = c.leave_list.new.pass in
    let b = e.backed in
    let items = c.value.result.now.chain.items in
    let call = asked.fetch_version c.args.version in
    let sees = sees_published g.D.Disk p m b.0.tail items e.same.0 e.quiet e.later e.own e.looks b.2 b.1 e.test (ap (λ v. history_of v.chain.items) c.value.ensures ∙ e.entries) in
    let asks = only_asks g.D.Disk p m q b.0.tail items sees (l.same.0, (l.same.1 ∙ (e.same.1 ∙ c.requires.of.1.0), l.same.2)) l.looks l.seen l.quiet c.args.self.now c.requires.of in
    record {
      of = asks.of;
      whole = asks.whole;
      called =
          if_ok (λ (fetched : Fetched). (limits : LogLimits) → reply_fetched fetched ≡ asked.log_reply limits call (patches_of items)) (λ (fetched : Fetched). CalledOnLog g.D.Disk c.args.self.now.origin p call (reply_fetched fetched) q)
          (λ fetched gives. let t = asks.told call (reply_fetched fetched) gives in record { legal = t.0; stay = t.1 }) c.fetch_version-fetched.result c.fetch_version-fetched.ensures;
      want = on_err c.fetch_version-fetched.result asks.wants;
    }
