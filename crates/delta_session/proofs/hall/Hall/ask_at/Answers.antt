use Rattle.std.proofs.Common.{ℕ, sym, subst}
use Rattle.chain_core.specs.Replies as log
use Rattle.shared_log.specs.Replies.{reply_fetched}
use Rattle.shared_log.specs.declared.replies.Fetched.{Fetched}
use Rattle.delta_session.specs.declared.logs.SlotCall.{SlotCall}
use Rattle.delta_session.specs.Answered.{ByLog, BySlot, TakesNoNumber}
use Rattle.delta_session.specs.Steps.{HallView, HallSight}
use Rattle.delta_session.proofs.Asked.{takes_visit, takes_fetched, moved, ready_behind}
use Rattle.delta_session.proofs.hall.Hall.ask_at.Goals as goal

pub returns-in-Describe-clause-takes : goal.returns-in-Describe-clause-takes
returns-in-Describe-clause-takes g c =
    let hall : HallView g.row.D.Denot = record { registry = c.self.inside.registry; logs = c.self.inside.logs } in
    let before : HallSight = record { lists = record { registry = c.pass.inside.registry; logs = c.pass.inside.logs }; dice = c.pass.inside.dice } in
    let after : HallSight = record { lists = record { registry = c.pass.inside.registry; logs = c.describe-version.new.pass }; dice = c.pass.inside.dice } in
    subst (λ (call : SlotCall). TakesNoNumber g.D.Disk c.args.self.now (BySlot call c.args.slot) c.args.pass.now c.say.result after) (sym c.in-Describe.is)
    (moved g.D.Disk c.args.self.now hall c.self.view_is c.args.pass.now before c.pass.view_is (ByLog c.args.slot (log.describe)) c.say.result after
    (takes_visit g.D.Disk hall before c.describe-version.new.pass c.args.slot log.describe (log.described c.describe-version.result.version c.describe-version.result.head) c.say.result c.describe-version.ensures.called c.describe-version.ensures.whole c.say.ensures.says))

pub returns-in-Describe-clause-ready : goal.returns-in-Describe-clause-ready
returns-in-Describe-clause-ready g c =
    let after : HallSight = record { lists = record { registry = c.pass.inside.registry; logs = c.describe-version.new.pass }; dice = c.pass.inside.dice } in
    ready_behind g.D.Disk c.args.self.now c.args.pass.now c.requires.ready (BySlot c.args.call c.args.slot) c.say.result after (returns-in-Describe-clause-takes g c)

pub returns-in-Version-clause-takes : goal.returns-in-Version-clause-takes
returns-in-Version-clause-takes g c =
    let hall : HallView g.row.D.Denot = record { registry = c.self.inside.registry; logs = c.self.inside.logs } in
    let before : HallSight = record { lists = record { registry = c.pass-in-Version.inside.registry; logs = c.pass-in-Version.inside.logs }; dice = c.pass-in-Version.inside.dice } in
    let after : HallSight = record { lists = record { registry = c.pass-in-Version.inside.registry; logs = c.version-version.new.pass }; dice = c.pass-in-Version.inside.dice } in
    subst (λ (call : SlotCall). TakesNoNumber g.D.Disk c.args.self.now (BySlot call c.args.slot) c.args.pass.now c.say-in-Version.result after) (sym c.in-Version.is)
    (moved g.D.Disk c.args.self.now hall c.self.view_is c.args.pass.now before c.pass-in-Version.view_is (ByLog c.args.slot (log.version)) c.say-in-Version.result after
    (takes_visit g.D.Disk hall before c.version-version.new.pass c.args.slot log.version (log.counted c.version-version.result) c.say-in-Version.result c.version-version.ensures.called c.version-version.ensures.whole c.say-in-Version.ensures.says))

pub returns-in-Version-clause-ready : goal.returns-in-Version-clause-ready
returns-in-Version-clause-ready g c =
    let after : HallSight = record { lists = record { registry = c.pass-in-Version.inside.registry; logs = c.version-version.new.pass }; dice = c.pass-in-Version.inside.dice } in
    ready_behind g.D.Disk c.args.self.now c.args.pass.now c.requires.ready (BySlot c.args.call c.args.slot) c.say-in-Version.result after (returns-in-Version-clause-takes g c)

pub returns-in-FetchVersion-clause-takes : goal.returns-in-FetchVersion-clause-takes
returns-in-FetchVersion-clause-takes g c =
    let hall : HallView g.row.D.Denot = record { registry = c.self.inside.registry; logs = c.self.inside.logs } in
    let before : HallSight = record { lists = record { registry = c.pass-in-FetchVersion.inside.registry; logs = c.pass-in-FetchVersion.inside.logs }; dice = c.pass-in-FetchVersion.inside.dice } in
    let after : HallSight = record { lists = record { registry = c.pass-in-FetchVersion.inside.registry; logs = c.fetch_version.new.pass }; dice = c.pass-in-FetchVersion.inside.dice } in
    subst (λ (call : SlotCall). TakesNoNumber g.D.Disk c.args.self.now (BySlot call c.args.slot) c.args.pass.now c.say_fetched.result after) (sym c.in-FetchVersion.is)
    (subst (λ (n : ℕ). TakesNoNumber g.D.Disk c.args.self.now (ByLog c.args.slot (log.fetch_version n)) c.args.pass.now c.say_fetched.result after) c.version_within.ensures
    (moved g.D.Disk c.args.self.now hall c.self.view_is c.args.pass.now before c.pass-in-FetchVersion.view_is (ByLog c.args.slot (log.fetch_version c.version_within.result)) c.say_fetched.result after
    (takes_fetched g.D.Disk hall before c.fetch_version.new.pass c.args.slot (λ (reply : Fetched). reply_fetched reply) (log.fetch_version c.version_within.result) c.fetch_version.result c.say_fetched.result tt c.fetch_version.ensures.called c.fetch_version.ensures.want c.fetch_version.ensures.whole c.say_fetched.ensures.says c.say_fetched.ensures.want)))

pub returns-in-FetchVersion-clause-ready : goal.returns-in-FetchVersion-clause-ready
returns-in-FetchVersion-clause-ready g c =
    let after : HallSight = record { lists = record { registry = c.pass-in-FetchVersion.inside.registry; logs = c.fetch_version.new.pass }; dice = c.pass-in-FetchVersion.inside.dice } in
    ready_behind g.D.Disk c.args.self.now c.args.pass.now c.requires.ready (BySlot c.args.call c.args.slot) c.say_fetched.result after (returns-in-FetchVersion-clause-takes g c)

pub returns-in-FetchId-clause-takes : goal.returns-in-FetchId-clause-takes
returns-in-FetchId-clause-takes g c =
    let hall : HallView g.row.D.Denot = record { registry = c.self.inside.registry; logs = c.self.inside.logs } in
    let before : HallSight = record { lists = record { registry = c.pass-in-FetchId.inside.registry; logs = c.pass-in-FetchId.inside.logs }; dice = c.pass-in-FetchId.inside.dice } in
    let after : HallSight = record { lists = record { registry = c.pass-in-FetchId.inside.registry; logs = c.fetch_id.new.pass }; dice = c.pass-in-FetchId.inside.dice } in
    subst (λ (call : SlotCall). TakesNoNumber g.D.Disk c.args.self.now (BySlot call c.args.slot) c.args.pass.now c.say_fetched-in-FetchId.result after) (sym c.in-FetchId.is)
    (moved g.D.Disk c.args.self.now hall c.self.view_is c.args.pass.now before c.pass-in-FetchId.view_is (ByLog c.args.slot (log.fetch_id c.in-FetchId.id)) c.say_fetched-in-FetchId.result after
    (takes_fetched g.D.Disk hall before c.fetch_id.new.pass c.args.slot (λ (reply : Fetched). reply_fetched reply) (log.fetch_id c.in-FetchId.id) c.fetch_id.result c.say_fetched-in-FetchId.result tt c.fetch_id.ensures.called c.fetch_id.ensures.want c.fetch_id.ensures.whole c.say_fetched-in-FetchId.ensures.says c.say_fetched-in-FetchId.ensures.want))

pub returns-in-FetchId-clause-ready : goal.returns-in-FetchId-clause-ready
returns-in-FetchId-clause-ready g c =
    let after : HallSight = record { lists = record { registry = c.pass-in-FetchId.inside.registry; logs = c.fetch_id.new.pass }; dice = c.pass-in-FetchId.inside.dice } in
    ready_behind g.D.Disk c.args.self.now c.args.pass.now c.requires.ready (BySlot c.args.call c.args.slot) c.say_fetched-in-FetchId.result after (returns-in-FetchId-clause-takes g c)

pub returns-in-Append-clause-takes : goal.returns-in-Append-clause-takes
returns-in-Append-clause-takes g c =
    subst (λ (call : SlotCall). TakesNoNumber g.D.Disk c.args.self.now (BySlot call c.args.slot) c.args.pass.now c.append_to.result c.append_to.new.pass) (sym c.in-Append.is) c.append_to.ensures.takes

pub returns-in-AppendRun-clause-takes : goal.returns-in-AppendRun-clause-takes
returns-in-AppendRun-clause-takes g c =
    subst (λ (call : SlotCall). TakesNoNumber g.D.Disk c.args.self.now (BySlot call c.args.slot) c.args.pass.now c.append_run_to.result c.append_run_to.new.pass) (sym c.in-AppendRun.is) c.append_run_to.ensures.takes
