use Rattle.std.proofs.Common.{◌+◌, ◌<◌, ⊎_elim, inl, inr, Err, [], ◌∷◌, ◌++◌, ℕ, length, refl, ◌∙◌, ap, arith, get_or}
use Rattle.std.proofs.lemmas.Result.{err_from_is_err_and}
use Rattle.std.proofs.lemmas.List.{length_push, length-set}
use Rattle.journal_upgrade.specs.declared.fault.UpgradeFault.{UpgradeFault}
use Rattle.journal_upgrade.proofs.Sets.{all_still}
use Rattle.journal_upgrade.proofs.Loops.{kept_more, behind_more, were_well, brought_more, copies_more, same_all, first_fault, rose}
use Rattle.journal_upgrade.proofs.copying.copy_all.Goals as goal

pub loop-i-init : goal.loop-i-init
loop-i-init g c = record {
  as_many = refl;
  kept = λ told. all_still g.D.Disk.past c.args.from.now;
  from_behind = refl;
  to_behind = refl;
  brought = λ told. ([], refl, λ j none. absurd (omega (arith, none)));
  copied = λ told j none. absurd (omega (arith, none));
  from_faults = refl;
  to_faults = refl;
  from_marks = refl;
  to_marks = refl;
}

pub returns-in_err-copy_to-clause-kept : goal.returns-in_err-copy_to-clause-kept
returns-in_err-copy_to-clause-kept g c told =
    let within : c.loop-i.i < length c.loop-i.from = omega (arith, c.loop-i-test.true, c.requires.as_many.0, c.loop-i.auto.from) in
    kept_more g.D.Disk.past c.args.from.now c.loop-i.from c.loop-i.i c.index-from-i.result c.copy_to.new.from within c.loop-i.auto.from c.loop-i.invariant.from_behind (c.loop-i.invariant.kept told) (c.copy_to.ensures.kept told)

pub returns-in_err-copy_to-clause-fault : goal.returns-in_err-copy_to-clause-fault
returns-in_err-copy_to-clause-fault g c told =
    let within : c.loop-i.i < length c.loop-i.from = omega (arith, c.loop-i-test.true, c.requires.as_many.0, c.loop-i.auto.from) in
    let number = get_or c.args.numbers.now c.loop-i.i 0 in
    let p = err_from_is_err_and c.from_residual.result c.from_residual.ensures.1 in
    let so_far = c.loop-i.invariant.brought told in
    rw (p.1 ∙ ap (λ (e : UpgradeFault). Err e) p.2) (first_fault g.D.Disk.past c.args.from.now c.loop-i.from c.loop-i.i c.index-from-i.result c.copy_to.new.from within c.loop-i.auto.from c.loop-i.invariant.from_behind c.args.from_more number (number + c.args.from_more) c.args.numbers.now so_far.0 c.loop-i-test.true refl refl (were_well g.D.Disk.past c.args.from_more c.args.to_more c.args.numbers.now c.args.from.now so_far.0 c.loop-i.to c.loop-i.i so_far.2) c.in_err-copy_to.field-0.0 (c.in_err-copy_to.ensures.fault told))

pub returns-in_err-copy_to-clause-cause : goal.returns-in_err-copy_to-clause-cause
returns-in_err-copy_to-clause-cause g c failed =
    let from_within : c.loop-i.i < length c.loop-i.from = omega (arith, c.loop-i-test.true, c.requires.as_many.0, c.loop-i.auto.from) in
    let to_within : c.loop-i.i < length c.loop-i.to = omega (arith, c.loop-i-test.true, c.requires.as_many.1, c.loop-i.auto.to) in
    let p = err_from_is_err_and c.from_residual.result c.from_residual.ensures.1 in
    ⊎_elim
    (λ risen. inl (rose g.D.Disk.past c.args.from.now c.loop-i.from c.loop-i.i c.index-from-i.result c.copy_to.new.from from_within c.loop-i.auto.from c.loop-i.invariant.from_behind g.D.Disk.faults risen))
    (λ risen. inr (rose g.D.Disk.past c.args.to.now c.loop-i.to c.loop-i.i c.index-to-i.result c.copy_to.new.to to_within c.loop-i.auto.to c.loop-i.invariant.to_behind g.D.Disk.faults risen))
    (c.in_err-copy_to.ensures.cause (cc (p.1, p.2, failed)))

pub returns-in_err-copy_to-clause-marks : goal.returns-in_err-copy_to-clause-marks
returns-in_err-copy_to-clause-marks g c =
    let from_within : c.loop-i.i < length c.loop-i.from = omega (arith, c.loop-i-test.true, c.requires.as_many.0, c.loop-i.auto.from) in
    let to_within : c.loop-i.i < length c.loop-i.to = omega (arith, c.loop-i-test.true, c.requires.as_many.1, c.loop-i.auto.to) in (
      same_all g.D.Disk.mark c.args.from.now c.loop-i.from c.loop-i.i c.index-from-i.result c.copy_to.new.from from_within c.loop-i.invariant.from_marks c.copy_to.ensures.marks.0,
      same_all g.D.Disk.mark c.args.to.now c.loop-i.to c.loop-i.i c.index-to-i.result c.copy_to.new.to to_within c.loop-i.invariant.to_marks c.copy_to.ensures.marks.1,
    )

pub loop-i-preserved : goal.loop-i-preserved
loop-i-preserved g c =
    let past = g.D.Disk.past in
    let numbers = c.args.numbers.now in
    let froms = c.args.from.now in
    let tos = c.args.to.now in
    let from_mid = c.loop-i.from in
    let to_mid = c.loop-i.to in
    let i = c.loop-i.i in
    let from_d = c.index-from-i.result in
    let to_d = c.index-to-i.result in
    let from = c.copy_to.new.from in
    let to = c.copy_to.new.to in
    let from_within : i < length from_mid = omega (arith, c.loop-i-test.true, c.requires.as_many.0, c.loop-i.auto.from) in
    let to_within : i < length to_mid = omega (arith, c.loop-i-test.true, c.requires.as_many.1, c.loop-i.auto.to) in
    record {
      as_many = length-set to_mid i to ∙ c.loop-i.invariant.as_many;
      kept = λ told. kept_more past froms from_mid i from_d from from_within c.loop-i.auto.from c.loop-i.invariant.from_behind (c.loop-i.invariant.kept told) (c.copy_to.ensures.kept told);
      from_behind = behind_more froms from_mid i from c.loop-i.invariant.from_behind;
      to_behind = behind_more tos to_mid i to c.loop-i.invariant.to_behind;
      brought = λ told.
          let so_far = c.loop-i.invariant.brought told in
          let here = c.in_ok-copy_to.ensures.brought told in (
            so_far.0 ++ here.0 ∷ [],
            length_push so_far.0 here.0 ∙ ap (λ (n : ℕ). n + 1) so_far.1,
            brought_more past froms from_mid i from_d from from_within c.loop-i.auto.from c.loop-i.invariant.from_behind c.args.from_more c.args.to_more numbers so_far.0 here.0 to_mid to so_far.1 to_within so_far.2 here.1,
          );
      copied = λ told. copies_more past c.args.from_more c.args.to_more numbers from_mid to_mid i from to from_within to_within (c.loop-i.invariant.copied told) (c.in_ok-copy_to.ensures.ok told);
      from_faults = same_all g.D.Disk.faults froms from_mid i from_d from from_within c.loop-i.invariant.from_faults c.in_ok-copy_to.ensures.faults.0;
      to_faults = same_all g.D.Disk.faults tos to_mid i to_d to to_within c.loop-i.invariant.to_faults c.in_ok-copy_to.ensures.faults.1;
      from_marks = same_all g.D.Disk.mark froms from_mid i from_d from from_within c.loop-i.invariant.from_marks c.copy_to.ensures.marks.0;
      to_marks = same_all g.D.Disk.mark tos to_mid i to_d to to_within c.loop-i.invariant.to_marks c.copy_to.ensures.marks.1;
    }
