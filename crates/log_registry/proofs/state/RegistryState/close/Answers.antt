use Rattle.registry_core.specs.Events.{events_of}
use Rattle.log_registry.proofs.States.{stands_for_registry}
use Rattle.log_registry.proofs.state.RegistryState.close.Goals as goal

pub returns-clause-stands : goal.returns-clause-stands
returns-clause-stands g c told =
    let s = c.self.inside in
    rw (← c.self.view_is, c.close.ensures) (stands_for_registry s.journal s.registry.slots (events_of s.registry.entries) s.doubt c.self.invariant told)
