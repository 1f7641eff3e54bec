use Rattle.std.proofs.Common.{refl}
use Rattle.slot_files.specs.Files.{bytes_at}
use Rattle.patch_log.specs.declared.fault.LogFault.TheVariants as log
use Rattle.slot_checks.specs.declared.fault.CheckFault.TheVariants.{OutOfMemory}
use Rattle.slot_checks.specs.Faults.{HasFileFault}
use Rattle.slot_checks.proofs.Steps.{told_err}
use Rattle.slot_checks.proofs.checking.add_log.Goals as goal

pub returns-in_err-push-clause-fault : goal.returns-in_err-push-clause-fault
returns-in_err-push-clause-fault g c told =
    let file = bytes_at (g.H.Shelf.files c.args.shelf.now) c.args.dir.now c.args.number in
    told_err (HasFileFault file c.args.number) c.from_residual-in_err-push.result OutOfMemory c.from_residual-in_err-push.ensures.1 (log.OutOfMemory, refl, tt)
