use Rattle.std.proofs.Common.{sym, Some, ap, ◌∙◌}
use Rattle.log_registry.specs.State.{StateView}
use Rattle.shared_registry.specs.History.{event_history, registry_fixed_of}
use Rattle.shared_registry.proofs.Histories.{by_nobody}
use Rattle.shared_registry.proofs.shared.SharedRegistry.new.Goals as goal

pub new-requires-clause-entries : goal.new-requires-clause-entries
new-requires-clause-entries g c = rw c.of.ensures (by_nobody c.args.state.entries c.requires.by_nobody)

pub returns-in-Ok-clause-new : goal.returns-in-Ok-clause-new
returns-in-Ok-clause-new g c = λ k p is.
    let n = c.in-Ok.ensures.new k p is in
    let same = sym c.in-Ok.ensures.turn.0 in
    let seen = n.2 ∙ ap (λ (r : StateView g.row.D.Denot). event_history r.entries) same in
    let fixed = n.7 ∙ ap (λ (r : StateView g.row.D.Denot). Some (registry_fixed_of g.D.Disk.mark r)) same in
    ((n.0, n.8, fixed), n.1, seen, n.3, n.4, n.5, n.6, n.9)
