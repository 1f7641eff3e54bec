use Rattle.std.proofs.Common.{Err, ◌∙◌, ap}
use Rattle.std.proofs.lemmas.Result.{err_from_is_err_and}
use Rattle.journal_upgrade.specs.declared.fault.UpgradeFault.{UpgradeFault}
use Rattle.journal_upgrade.proofs.Readings.{kept_twice, fault_before, brought_before}
use Rattle.journal_upgrade.proofs.filling.copy_unless_new.Goals as goal

pub returns-in_err-copy_all-clause-kept : goal.returns-in_err-copy_all-clause-kept
returns-in_err-copy_all-clause-kept g c told = kept_twice g.D.Disk.past c.args.files.now c.count_old_files.new.files (c.count_old_files.ensures.kept told) c.copy_all.new.from (c.copy_all.ensures.kept told)

pub returns-in_err-copy_all-clause-fault : goal.returns-in_err-copy_all-clause-fault
returns-in_err-copy_all-clause-fault g c told =
    let p = err_from_is_err_and c.from_residual-in_err-copy_all.result c.from_residual-in_err-copy_all.ensures.1 in
    rw (p.1 ∙ ap (λ (e : UpgradeFault). Err e) p.2) (fault_before g.D.Disk.past c.args.files.now c.count_old_files.new.files (c.count_old_files.ensures.kept told) 0 c.args.numbers.now c.requires.as_many.0 c.in_err-copy_all.field-0.0 (c.in_err-copy_all.ensures.fault told))

pub returns-clause-kept : goal.returns-clause-kept
returns-clause-kept g c told = kept_twice g.D.Disk.past c.args.files.now c.count_old_files.new.files (c.count_old_files.ensures.kept told) c.copy_all.new.from (c.copy_all.ensures.kept told)

pub returns-clause-counted : goal.returns-clause-counted
returns-clause-counted g c told =
    let counted = c.in_ok-count.ensures.ok told in
    let brought = c.in_ok-copy_all.ensures.brought told in (
      counted.0,
      counted.1,
      counted.2,
      λ some. brought_before g.D.Disk.past c.args.files.now c.count_old_files.new.files (c.count_old_files.ensures.kept told) 0 c.args.numbers.now c.requires.as_many.0 2000 counted.0 brought.0 c.copy_all.new.to counted.1 brought.1,
    )
