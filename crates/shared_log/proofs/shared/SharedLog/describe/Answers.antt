use Rattle.std.proofs.Common.{ap, refl, ◌∙◌, inr}
use Rattle.chain_core.specs.Replies as asked
use Rattle.shared_log.specs.History.{history_of}
use Rattle.shared_log.specs.Replies.{reply_described}
use Rattle.shared_log.proofs.Asking.{only_asks}
use Rattle.shared_log.proofs.Turns.{sees_published}
use Rattle.shared_log.proofs.shared.SharedLog.describe.Goals as goal

pub leave_list-requires-clause-spare : goal.leave_list-requires-clause-spare
leave_list-requires-clause-spare g c = let e = c.enter_list-held.ensures in inr (e.same.1 ∙ c.requires.of.1.0, refl, ap (λ l. l.chain.spare) e.value)

pub returns : goal.returns
returns g c =
    let e = c.enter_list-held.ensures in
    let l = c.leave_list.ensures in
    let p = c.args.pass.now in
    let m = c.enter_list-held.new.pass in
    let q = c.leave_list.new.pass in
    let b = e.backed in
    let items = c.value.result.now.chain.items in
    let sees = sees_published g.D.Disk p m b.0.tail items e.same.0 e.quiet e.later e.own e.looks b.2 b.1 e.test (ap (λ v. history_of v.chain.items) c.value.ensures ∙ e.entries) in
    let asks = only_asks g.D.Disk p m q b.0.tail items sees (l.same.0, (l.same.1 ∙ (e.same.1 ∙ c.requires.of.1.0), l.same.2)) l.looks l.seen l.quiet c.args.self.now c.requires.of in
    let t = asks.told asked.describe (reply_described c.describe-info.result) c.describe-info.ensures in
    record { of = asks.of; whole = asks.whole; called = record { legal = t.0; stay = t.1 } }
