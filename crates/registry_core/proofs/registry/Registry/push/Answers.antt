use Rattle.std.proofs.Common.{◌≡◌, ◌+◌, ◌++◌, ◌∷◌, [], ℕ, List, ap, sym, ◌∙◌, subst}
use Rattle.log_base.specs.declared.source_info.SourceInfo.{SourceInfo}
use Rattle.registry_core.specs.declared.event.Event.{Event}
use Rattle.registry_core.specs.Sources.{sources, after_event, makes}
use Rattle.registry_core.specs.Texts.{registry_length, length_with}
use Rattle.registry_core.specs.Events.{events_of, IsNextEvent}
use Rattle.registry_core.specs.Tables.{RegistryView, ReadyEvent, IsTable}
use Rattle.registry_core.proofs.Tables.{table-push, events_of-push}
use Rattle.registry_core.proofs.registry.Registry.push.Goals as goal

pub invariant_of-self : goal.invariant_of-self
invariant_of-self c =
    let r = c.self.inside in
    let event = c.ready.inside.event in
    let events = events_of r.entries.items in
    let table = c.self.invariant in
    let asked = subst (λ (v : RegistryView). IsNextEvent v.slots (events_of v.entries) c.args.ready.event) (sym c.self.view_is) c.requires.next in
    let next = subst (λ (v : ReadyEvent). IsNextEvent r.slots events v.event) (sym c.ready.view_is) asked in
    let lives = subst (λ (v : RegistryView). c.args.ready.living ≡ after_event (sources (events_of v.entries)) c.args.ready.event) (sym c.self.view_is) c.requires.ready.living_is in
    let living : c.ready.inside.living.items ≡ after_event r.living.items event =
    subst (λ (v : ReadyEvent). v.living ≡ after_event (sources events) v.event) (sym c.ready.view_is) lives ∙ ap (λ (l : List SourceInfo). after_event l event) (sym table.living_is) in
    let long = subst (λ (v : RegistryView). c.args.ready.longer ≡ length_with (registry_length v.slots (events_of v.entries)) c.args.ready.event) (sym c.self.view_is) c.requires.ready.longer_is in
    let longer : c.ready.inside.longer ≡ length_with r.bytes event =
    subst (λ (v : ReadyEvent). v.longer ≡ length_with (registry_length r.slots events) v.event) (sym c.ready.view_is) long ∙ ap (λ (n : ℕ). length_with n event) (sym table.bytes_is) in
    let behind : events_of c.push.new.self.items ≡ events ++ event ∷ [] = ap events_of c.in-Ok.ensures.ok ∙ events_of-push r.entries.items (record { event = event; by = c.args.by }) in
    rw (behind, living, longer, c.made.ensures) (table-push r.slots events r.living.items r.made r.bytes event table next)
