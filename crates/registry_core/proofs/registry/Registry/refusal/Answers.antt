use Rattle.std.proofs.Common.{◌≡◌, ◌+◌, ℕ, List, IfNone, IfSome, subst}
use Rattle.log_base.specs.declared.source_info.SourceInfo.{SourceInfo}
use Rattle.registry_core.specs.declared.answer.CreateAnswer.{CreateAnswer}
use Rattle.registry_core.specs.declared.answer.CreateAnswer.TheVariants.{Made}
use Rattle.registry_core.specs.Replies.{create_reply, created}
use Rattle.registry_core.specs.Events.{events_of}
use Rattle.registry_core.specs.Checks.{IsRefusedCreate}
use Rattle.registry_core.proofs.Replied.{source_is, reply_is}
use Rattle.registry_core.proofs.registry.Registry.refusal.Goals as goal

pub returns-clause-free : goal.returns-clause-free
returns-clause-free c =
    let r = c.self.inside in
    let events = events_of r.entries.items in
    let source : SourceInfo = record { slot = r.made + 1; id = c.args.id; name = c.args.name.now; uri = c.args.uri.now } in
    let found = c.check_create.result in
    let here = subst (λ (l : List SourceInfo). IfNone found (created l r.slots r.made r.bytes source ≡ Made source)) c.deref.ensures.value c.check_create.ensures.free in
    let replied = subst (λ (reply : CreateAnswer). IfNone found (reply ≡ Made source)) (reply_is r.slots events r.living.items r.made r.bytes c.self.invariant c.args.name.now c.args.uri.now c.args.id) here in
    rw (← c.self.view_is) (subst (λ (s : SourceInfo). IfNone found (create_reply r.slots events c.args.name.now c.args.uri.now c.args.id ≡ Made s)) (source_is r.slots events r.living.items r.made r.bytes c.self.invariant c.args.name.now c.args.uri.now c.args.id) replied)

pub returns-clause-refused : goal.returns-clause-refused
returns-clause-refused c =
    let r = c.self.inside in
    let events = events_of r.entries.items in
    let source : SourceInfo = record { slot = r.made + 1; id = c.args.id; name = c.args.name.now; uri = c.args.uri.now } in
    let found = c.check_create.result in
    let here = subst (λ (l : List SourceInfo). IfSome found (IsRefusedCreate (created l r.slots r.made r.bytes source))) c.deref.ensures.value c.check_create.ensures.refused in
    rw (← c.self.view_is) (subst (λ (reply : CreateAnswer). IfSome found (IsRefusedCreate reply)) (reply_is r.slots events r.living.items r.made r.bytes c.self.invariant c.args.name.now c.args.uri.now c.args.id) here)
