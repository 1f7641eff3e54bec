use Rattle.std.proofs.Common.{◌≡◌, List, ℕ, Some, sym, ◌∙◌, ap, subst}
use Rattle.std.specs.Prelude.{slice_get}
use Rattle.log_base.specs.declared.source_info.SourceInfo.{SourceInfo}
use Rattle.registry_core.specs.declared.answer.ChangeAnswer.TheVariants.{Done}
use Rattle.registry_core.specs.Events.{events_of}
use Rattle.registry_core.specs.Replies.{rename_reply}
use Rattle.registry_core.specs.Sources.{sources, named}
use Rattle.registry_core.specs.Tables.{RegistryView}
use Rattle.registry_core.proofs.Replied.{get_there, within_get, some_is, renaming_next}
use Rattle.registry_core.proofs.registry.Registry.renamed_source.Goals as goal

pub returns-in-Ok-clause-next : goal.returns-in-Ok-clause-next
returns-in-Ok-clause-next c =
    let r = c.self.inside in
    let events = events_of r.entries.items in
    let place = c.in_ok-place.place in
    let shown = c.in_ok-place.ensures.ok.0 in
    let found = subst (λ (v : RegistryView). slice_get (sources (events_of v.entries)) place ≡ Some shown) (sym c.self.view_is) c.in_ok-place.ensures.ok.1 in
    let here = subst (λ (l : List SourceInfo). slice_get l place ≡ Some shown) (sym c.self.invariant.living_is) found in
    let same : shown ≡ c.index.result.now = some_is shown c.index.result.now (sym here ∙ get_there r.living.items place c.index.result.now (within_get r.living.items place shown here) c.index.ensures) in
    let replied = subst (λ (v : RegistryView). rename_reply v.slots (events_of v.entries) c.as_bytes.result.now c.as_bytes-2.result.now ≡ Done (named c.as_bytes-2.result.now shown)) (sym c.self.view_is) c.in_ok-place.ensures.ok.2 in
    let done : rename_reply r.slots events c.args.name.now c.args.new_name.now ≡ Done (named c.args.new_name.now shown) =
    sym (λ i. rename_reply r.slots events (c.as_bytes.ensures.value i) (c.as_bytes-2.ensures.value i)) ∙ replied ∙ (λ i. Done (named (c.as_bytes-2.ensures.value i) shown)) in
    rw (← c.self.view_is, c.in-Ok.ensures, ← same) (renaming_next r.slots events r.living.items r.made r.bytes c.self.invariant c.args.name.now c.args.new_name.now shown c.as_bytes-2.ensures.utf8 done)
