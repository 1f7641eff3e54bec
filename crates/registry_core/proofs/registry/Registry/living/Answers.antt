use Rattle.registry_core.proofs.Tables.{have_slots}
use Rattle.registry_core.proofs.registry.Registry.living.Goals as goal

pub returns-clause-slots : goal.returns-clause-slots
returns-clause-slots c =
    let r = c.self.inside in
    let table = c.self.invariant in
    rw (← c.self.view_is, c.deref.ensures.value) (have_slots r.slots 0 r.made r.living.items table.rise table.few)
