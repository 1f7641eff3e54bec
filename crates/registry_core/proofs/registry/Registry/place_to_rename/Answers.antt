use Rattle.std.proofs.Common.{◌≡◌, ℕ, List, Some, IfOk, IfErr, subst}
use Rattle.std.specs.Prelude.{slice_get}
use Rattle.log_base.specs.declared.source_info.SourceInfo.{SourceInfo}
use Rattle.registry_core.specs.declared.answer.ChangeAnswer.{ChangeAnswer}
use Rattle.registry_core.specs.declared.answer.ChangeAnswer.TheVariants.{Done}
use Rattle.registry_core.specs.Checks.{IsRefusedChange}
use Rattle.registry_core.specs.Events.{events_of}
use Rattle.registry_core.specs.Replies.{renamed_to, of_found, rename_reply}
use Rattle.registry_core.specs.Sources.{named, source_named}
use Rattle.registry_core.proofs.Replied.{slots_fit, rename_is}
use Rattle.registry_core.proofs.registry.Registry.place_to_rename.Goals as goal

pub check_rename-requires-clause-slots : goal.check_rename-requires-clause-slots
check_rename-requires-clause-slots c =
    let r = c.self.inside in
    rw c.deref.ensures.value (slots_fit r.slots (events_of r.entries.items) r.living.items r.made r.bytes c.self.invariant)

pub returns-clause-ok : goal.returns-clause-ok
returns-clause-ok c =
    let r = c.self.inside in
    let events = events_of r.entries.items in
    let found = c.check_rename.result in
    let new_name = c.args.new_name.now in
    let one = subst (λ (l : List SourceInfo). IfOk found (λ place. (source : SourceInfo) × (slice_get l place ≡ Some source) × (of_found (renamed_to l r.bytes new_name) (source_named c.args.name.now l) ≡ Done (named new_name source)))) c.deref.ensures.value c.check_rename.ensures.ok in
    let two = subst (λ (reply : ChangeAnswer). IfOk found (λ place. (source : SourceInfo) × (slice_get r.living.items place ≡ Some source) × (reply ≡ Done (named new_name source)))) (rename_is r.slots events r.living.items r.made r.bytes c.self.invariant c.args.name.now new_name) one in
    rw (← c.self.view_is) (subst (λ (l : List SourceInfo). IfOk found (λ place. (source : SourceInfo) × (slice_get l place ≡ Some source) × (rename_reply r.slots events c.args.name.now new_name ≡ Done (named new_name source)))) c.self.invariant.living_is two)

pub returns-clause-refused : goal.returns-clause-refused
returns-clause-refused c =
    let r = c.self.inside in
    let events = events_of r.entries.items in
    let found = c.check_rename.result in
    let one = subst (λ (l : List SourceInfo). IfErr found (IsRefusedChange (of_found (renamed_to l r.bytes c.args.new_name.now) (source_named c.args.name.now l)))) c.deref.ensures.value c.check_rename.ensures.refused in
    rw (← c.self.view_is) (subst (λ (reply : ChangeAnswer). IfErr found (IsRefusedChange reply)) (rename_is r.slots events r.living.items r.made r.bytes c.self.invariant c.args.name.now c.args.new_name.now) one)
