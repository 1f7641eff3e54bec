use Rattle.std.proofs.Common.{ℕ, List, length, refl, ◌∙◌, ap}
use Rattle.log_base.specs.declared.source_info.SourceInfo.{SourceInfo}
use Rattle.registry_core.specs.Events.{events_of}
use Rattle.registry_core.specs.Sources.{after_event}
use Rattle.registry_core.specs.Texts.{length_with}
use Rattle.registry_core.proofs.Tables.{longer_is}
use Rattle.registry_core.proofs.registry.Registry.prepare.Goals as goal

pub returns-clause-ready : goal.returns-clause-ready
returns-clause-ready c =
    let r = c.self.inside in
    let event = c.args.event in
    let longer = longer_is r.bytes (length c.args.payload.now) event (ap length c.requires.payload) in
    rw (← c.self.view_is) (record {
      event_is = refl;
      living_is = c.in_ok-living.ensures ∙ ap (λ (l : List SourceInfo). after_event l event) (c.deref.ensures.value ∙ c.self.invariant.living_is);
      longer_is = longer ∙ ap (λ (n : ℕ). length_with n event) c.self.invariant.bytes_is;
    })
