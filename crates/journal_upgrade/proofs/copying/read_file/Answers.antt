use Rattle.std.proofs.Common.{subst}
use Rattle.disk_model.specs.Past.{reads}
use Rattle.disk_model.proofs.Moments.{keeps_or_syncs}
use Rattle.log_journal.specs.declared.either.FormLimits.{FormLimits}
use Rattle.log_journal.specs.declared.form.Form.{Form}
use Rattle.log_journal.specs.Reading.{HasFaultIn, limit_for}
use Rattle.journal_upgrade.proofs.copying.read_file.Goals as goal

pub returns-in-Ok-clause-kept : goal.returns-in-Ok-clause-kept
returns-in-Ok-clause-kept g c told = keeps_or_syncs (g.D.Disk.past c.args.disk.now) (g.D.Disk.past c.read_either.new.disk) (g.met.D.Disk.reads_may_be_left c.args.disk.now told) (c.read_either.ensures.past told)

pub returns-in-Err-clause-kept : goal.returns-in-Err-clause-kept
returns-in-Err-clause-kept g c told = keeps_or_syncs (g.D.Disk.past c.args.disk.now) (g.D.Disk.past c.read_either.new.disk) (g.met.D.Disk.reads_may_be_left c.args.disk.now told) (c.read_either.ensures.past told)

pub returns-in-Err-clause-fault : goal.returns-in-Err-clause-fault
returns-in-Err-clause-fault g c told =
    let file = reads (g.D.Disk.past c.args.disk.now) in
    c.fault_of.ensures.faulty c.args.number file (subst (λ (l : FormLimits). (form : Form) × HasFaultIn form file c.args.header (limit_for form l) c.in-Err.fault) c.limits_of_file.ensures (c.in-Err.ensures.fault told))
