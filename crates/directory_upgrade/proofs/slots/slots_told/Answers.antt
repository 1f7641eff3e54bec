use Rattle.std.proofs.Common.{inr, refl, Err, ap}
use Rattle.registry_core.specs.declared.opening.PayloadFault.{PayloadFault}
use Rattle.directory_upgrade.proofs.Told.{broken_lacks}
use Rattle.directory_upgrade.proofs.slots.slots_told.Goals as goal

pub returns-in-Err-Broken-clause-fault : goal.returns-in-Err-Broken-clause-fault
returns-in-Err-Broken-clause-fault c =
    let place = c.in-Err-Broken.field-0-0 in
    inr (refl, broken_lacks c.args.payload place (c.in-Err-Broken.ensures.broken place (ap (λ (fault : PayloadFault). Err fault) c.in-Err-Broken.field-0-is)))
