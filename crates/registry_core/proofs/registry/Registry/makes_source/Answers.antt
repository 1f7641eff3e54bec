use Rattle.std.proofs.Common.{◌+◌, ℕ, sym, ◌∙◌, ap}
use Rattle.log_base.specs.declared.source_info.SourceInfo.{SourceInfo}
use Rattle.registry_core.specs.Events.{events_of}
use Rattle.registry_core.proofs.Replied.{no_truth}
use Rattle.registry_core.proofs.Tables.{can_be_made}
use Rattle.registry_core.proofs.registry.Registry.makes_source.Goals as goal

pub returns-then-source-self : goal.returns-then-source-self
returns-then-source-self c =
    let r = c.self.inside in
    let source = c.args.source.now in
    rw (← c.self.view_is) (
      λ no. absurd (no_truth no),
      λ made. absurd (c.if-source-self.true (sym (ap (λ (s : SourceInfo). s.slot) (can_be_made r.slots (events_of r.entries.items) source.name source.uri source.id source made).is) ∙ ap (λ (n : ℕ). n + 1) (sym c.self.invariant.made_is))),
    )
