use Rattle.std.proofs.Common.{◌+◌, ◌<◌, Err, [], ◌∷◌, ◌++◌, ℕ, length, refl, ◌∙◌, ap, subst, arith, get_or}
use Rattle.std.proofs.lemmas.Result.{err_from_is_err_and}
use Rattle.std.proofs.lemmas.List.{length_push}
use Rattle.disk_model.specs.Past.{reads}
use Rattle.log_journal.specs.File.{HoldsIn}
use Rattle.journal_upgrade.specs.declared.fault.UpgradeFault.{UpgradeFault}
use Rattle.journal_upgrade.proofs.Sets.{all_still}
use Rattle.journal_upgrade.proofs.Loops.{kept_more, behind_more, well_more, synced_more, count_more, same_all, first_fault, rose}
use Rattle.journal_upgrade.proofs.copying.count_old_files.Goals as goal

pub loop-i-init : goal.loop-i-init
loop-i-init g c = record {
  kept = λ told. all_still g.D.Disk.past c.args.files.now;
  behind = refl;
  forms = [];
  counted = refl;
  as_many = refl;
  well = λ told j none. absurd (omega (arith, none));
  synced = λ told j none. absurd (omega (arith, none));
  faults = refl;
  marks = refl;
}

pub returns-in_err-form-clause-kept : goal.returns-in_err-form-clause-kept
returns-in_err-form-clause-kept g c told =
    let within : c.loop-i.i < length c.loop-i.files = omega (arith, c.loop-i-test.true, c.requires.as_many, c.loop-i.auto.files) in
    kept_more g.D.Disk.past c.args.files.now c.loop-i.files c.loop-i.i c.index-files-i.result c.read_file.new.disk within c.loop-i.auto.files c.loop-i.invariant.behind (c.loop-i.invariant.kept told) (c.read_file.ensures.kept told)

pub returns-in_err-form-clause-fault : goal.returns-in_err-form-clause-fault
returns-in_err-form-clause-fault g c told =
    let within : c.loop-i.i < length c.loop-i.files = omega (arith, c.loop-i-test.true, c.requires.as_many, c.loop-i.auto.files) in
    let number = get_or c.args.numbers.now c.loop-i.i 0 in
    let p = err_from_is_err_and c.from_residual.result c.from_residual.ensures.1 in
    rw (p.1 ∙ ap (λ (e : UpgradeFault). Err e) p.2) (first_fault g.D.Disk.past c.args.files.now c.loop-i.files c.loop-i.i c.index-files-i.result c.read_file.new.disk within c.loop-i.auto.files c.loop-i.invariant.behind 0 number number c.args.numbers.now c.loop-i.invariant.forms c.loop-i-test.true refl (omega arith) (c.loop-i.invariant.well told) c.in_err-form.field-0.0 (c.in_err-form.ensures.fault told))

pub returns-in_err-form-clause-cause : goal.returns-in_err-form-clause-cause
returns-in_err-form-clause-cause g c failed =
    let within : c.loop-i.i < length c.loop-i.files = omega (arith, c.loop-i-test.true, c.requires.as_many, c.loop-i.auto.files) in
    let p = err_from_is_err_and c.from_residual.result c.from_residual.ensures.1 in
    rose g.D.Disk.past c.args.files.now c.loop-i.files c.loop-i.i c.index-files-i.result c.read_file.new.disk within c.loop-i.auto.files c.loop-i.invariant.behind g.D.Disk.faults (c.in_err-form.ensures.went.cause (cc (p.1, p.2, failed)))

pub returns-in_err-form-clause-marks : goal.returns-in_err-form-clause-marks
returns-in_err-form-clause-marks g c =
    let within : c.loop-i.i < length c.loop-i.files = omega (arith, c.loop-i-test.true, c.requires.as_many, c.loop-i.auto.files) in
    same_all g.D.Disk.mark c.args.files.now c.loop-i.files c.loop-i.i c.index-files-i.result c.read_file.new.disk within c.loop-i.invariant.marks c.read_file.ensures.went.mark

pub loop-i-preserved : goal.loop-i-preserved
loop-i-preserved g c =
    let past = g.D.Disk.past in
    let files = c.args.files.now in
    let mid = c.loop-i.files in
    let i = c.loop-i.i in
    let d = c.index-files-i.result in
    let disk = c.read_file.new.disk in
    let form = c.in_ok-form.form in
    let forms = c.loop-i.invariant.forms in
    let many = c.loop-i.auto.files in
    let within : i < length mid = omega (arith, c.loop-i-test.true, c.requires.as_many, many) in
    let behind = c.loop-i.invariant.behind in
    let got = c.in_ok-form.ensures.received in
    record {
      kept = λ told. kept_more past files mid i d disk within many behind (c.loop-i.invariant.kept told) (c.read_file.ensures.kept told);
      behind = behind_more files mid i disk behind;
      forms = forms ++ form ∷ [];
      counted = count_more forms form c.loop-i.count c.counted-count.result c.loop-i.invariant.counted c.counted-count.ensures;
      as_many = length_push forms form ∙ ap (λ (n : ℕ). n + 1) c.loop-i.invariant.as_many;
      well = λ told. well_more past files mid i d disk within many behind 0 c.args.numbers.now forms form c.loop-i.invariant.as_many (c.loop-i.invariant.well told) (record { payloads = got.0; holds = subst (λ (h : ℕ). HoldsIn form (reads (past (get_or mid i d))) h got.0) (omega arith) (got.3 told); within = got.2 });
      synced = λ told. synced_more past files mid i d disk within many behind (c.loop-i.invariant.synced told) (c.in_ok-form.ensures.synced told);
      faults = same_all g.D.Disk.faults files mid i d disk within c.loop-i.invariant.faults (c.in_ok-form.ensures.went.well (λ no. cc));
      marks = same_all g.D.Disk.mark files mid i d disk within c.loop-i.invariant.marks c.read_file.ensures.went.mark;
    }
