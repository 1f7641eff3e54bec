use Rattle.slot_files.specs.Files.{bytes_at}
use Rattle.slot_checks.specs.Faults.{of_shelf, HasFileFault}
use Rattle.slot_checks.proofs.Steps.{log_failed, told_err}
use Rattle.slot_checks.proofs.visiting.check_log.Goals as goal

pub returns-in_err-disk-clause-fault : goal.returns-in_err-disk-clause-fault
returns-in_err-disk-clause-fault g c told =
    let file = bytes_at (g.H.Shelf.files c.args.shelf.now) c.args.dir.now c.args.number in
    let fault = c.in_err-disk.field-0.0 in
    told_err (HasFileFault file c.args.number) c.from_residual.result (of_shelf fault) c.from_residual.ensures.1 (log_failed file c.args.number fault)
