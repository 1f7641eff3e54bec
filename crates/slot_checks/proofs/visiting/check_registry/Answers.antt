use Rattle.slot_files.specs.Files.{bytes_at}
use Rattle.slot_checks.specs.Faults.{of_shelf, HasRegistryFileFault}
use Rattle.slot_checks.proofs.Steps.{registry_failed, told_err}
use Rattle.slot_checks.proofs.visiting.check_registry.Goals as goal

pub returns-in_err-disk-clause-fault : goal.returns-in_err-disk-clause-fault
returns-in_err-disk-clause-fault g c told =
    let file = bytes_at (g.H.Shelf.files c.args.shelf.now) c.args.dir.now 0 in
    let fault = c.in_err-disk.field-0.0 in
    told_err (HasRegistryFileFault file) c.from_residual.result (of_shelf fault) c.from_residual.ensures.1 (registry_failed file fault)
