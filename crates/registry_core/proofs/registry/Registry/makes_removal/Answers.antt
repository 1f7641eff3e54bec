use Rattle.std.proofs.Common.{◌≡◌, ◌<◌, ℕ, List, length, None, Some, arith, sym, ◌∙◌, ap, subst}
use Rattle.std.specs.Prelude.{slice_get}
use Rattle.log_base.specs.declared.source_info.SourceInfo.{SourceInfo}
use Rattle.registry_core.specs.declared.answer.ChangeAnswer.TheVariants.{Done}
use Rattle.registry_core.specs.Answers.{told, end_of_change}
use Rattle.registry_core.specs.Events.{events_of}
use Rattle.registry_core.specs.Replies.{remove_reply, removal}
use Rattle.registry_core.specs.Sources.{sources, source_in}
use Rattle.registry_core.specs.Tables.{RegistryView}
use Rattle.registry_core.proofs.Replied.{no_truth, get_there, within_get, some_is, no_removal, refuses_removal, decides_removal}
use Rattle.registry_core.proofs.registry.Registry.makes_removal.Goals as goal

pub returns-in_default : goal.returns-in_default
returns-in_default c =
    let r = c.self.inside in
    let none = subst (λ (l : List SourceInfo). source_in c.args.slot l ≡ None) c.deref.ensures.value c.in_default.ensures.none in
    rw (← c.self.view_is) (λ no. absurd (no_truth no), λ made. absurd (no_removal r.slots (events_of r.entries.items) r.living.items r.made r.bytes c.self.invariant c.args.slot none made))

pub returns-in_default-place_to_remove : goal.returns-in_default-place_to_remove
returns-in_default-place_to_remove c =
    let r = c.self.inside in
    let events = events_of r.entries.items in
    let at = c.index.result.now in
    let some = subst (λ (l : List SourceInfo). (c.in-Some.place < length l) × (source_in c.args.slot l ≡ slice_get l c.in-Some.place)) c.deref.ensures.value c.in-Some.ensures.some in
    let is = some.1 ∙ get_there r.living.items c.in-Some.place at some.0 c.index.ensures in
    let here = subst (λ (v : RegistryView). end_of_change removal (remove_reply v.slots (events_of v.entries) c.as_bytes-name.result.now) ≡ told) (sym c.self.view_is) c.in_default-place_to_remove.ensures.refused.1 in
    let ends = sym (ap (λ (name : List ℕ). end_of_change removal (remove_reply r.slots events name)) c.as_bytes-name.ensures.value) ∙ here in
    rw (← c.self.view_is) (λ no. absurd (no_truth no), λ made. absurd (refuses_removal r.slots events r.living.items r.made r.bytes c.self.invariant c.args.slot at is ends made))

pub index-requires-2 : goal.index-requires-2
index-requires-2 c =
    let r = c.self.inside in
    let found = subst (λ (v : RegistryView). slice_get (sources (events_of v.entries)) c.in-Ok.found ≡ Some c.in-Ok.ensures.ok.0) (sym c.self.view_is) c.in-Ok.ensures.ok.1 in
    let here = subst (λ (l : List SourceInfo). slice_get l c.in-Ok.found ≡ Some c.in-Ok.ensures.ok.0) (sym c.self.invariant.living_is) found in
    let within = within_get r.living.items c.in-Ok.found c.in-Ok.ensures.ok.0 here in
    omega (arith, within, c.deref.ensures.len, ap length c.deref.ensures.value)

pub returns : goal.returns
returns c =
    let r = c.self.inside in
    let events = events_of r.entries.items in
    let at = c.index.result.now in
    let shown = c.in-Ok.ensures.ok.0 in
    let some = subst (λ (l : List SourceInfo). (c.in-Some.place < length l) × (source_in c.args.slot l ≡ slice_get l c.in-Some.place)) c.deref.ensures.value c.in-Some.ensures.some in
    let is = some.1 ∙ get_there r.living.items c.in-Some.place at some.0 c.index.ensures in
    let found = subst (λ (v : RegistryView). slice_get (sources (events_of v.entries)) c.in-Ok.found ≡ Some shown) (sym c.self.view_is) c.in-Ok.ensures.ok.1 in
    let here = subst (λ (l : List SourceInfo). slice_get l c.in-Ok.found ≡ Some shown) (sym c.self.invariant.living_is) found in
    let same : shown ≡ c.index-2.result.now = some_is shown c.index-2.result.now (sym here ∙ get_there r.living.items c.in-Ok.found c.index-2.result.now (within_get r.living.items c.in-Ok.found shown here) c.index-2.ensures) in
    let replied = subst (λ (v : RegistryView). remove_reply v.slots (events_of v.entries) c.as_bytes-name.result.now ≡ Done shown) (sym c.self.view_is) c.in-Ok.ensures.ok.2 in
    let done : remove_reply r.slots events at.name ≡ Done shown = sym (ap (λ (name : List ℕ). remove_reply r.slots events name) c.as_bytes-name.ensures.value) ∙ replied in
    rw (← c.self.view_is, ← same) (decides_removal r.slots events r.living.items r.made r.bytes c.self.invariant c.args.slot at shown is done)
