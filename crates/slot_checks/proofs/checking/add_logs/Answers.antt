use Rattle.std.proofs.Common.{◌≡◌, ℕ, ◌+◌, ◌≤◌, List, subst, arith}
use Rattle.slot_checks.specs.Checks.{HasFileLines, StopsInLogs}
use Rattle.slot_checks.specs.Faults.{HasFileFault}
use Rattle.slot_checks.specs.Sound.{IsLogLine}
use Rattle.slot_checks.proofs.Steps.{one_more, same_bytes, stops_at, visit_kept, told_err}
use Rattle.slot_checks.proofs.checking.add_logs.Goals as goal

pub loop-number-preserved : goal.loop-number-preserved
loop-number-preserved g c =
    let old = g.H.Shelf.files c.args.shelf.now in
    let mid = g.H.Shelf.files c.loop-number.shelf in
    let new = g.H.Shelf.files c.add_log.new.shelf in
    let dir = c.args.dir.now in
    let number = c.loop-number.number in
    record {
      lines = λ told.
          let added = c.in_ok-add_log.ensures.ok told in
          one_more old dir c.args.registry.records number c.loop-number.report.items c.add_log.new.report.items added.0 (c.loop-number.invariant.lines told)
          (subst (λ (bytes : List ℕ). IsLogLine bytes number added.0) (same_bytes dir number old mid number (c.loop-number.invariant.kept told)) added.1) added.2;
      kept = λ told. visit_kept dir number old mid new (c.loop-number.invariant.kept told) (c.add_log.ensures.kept told) (c.add_log.ensures.others told);
      faults = omega (arith, c.loop-number.invariant.faults, c.add_log.ensures.faults);
      low = omega (arith, c.loop-number.invariant.low);
      high = omega (arith, c.loop-number-test.true);
    }

pub returns-in_err-add_log-clause-fault : goal.returns-in_err-add_log-clause-fault
returns-in_err-add_log-clause-fault g c told =
    let old = g.H.Shelf.files c.args.shelf.now in
    let mid = g.H.Shelf.files c.loop-number.shelf in
    let new = g.H.Shelf.files c.add_log.new.shelf in
    let dir = c.args.dir.now in
    let number = c.loop-number.number in
    let kept = c.loop-number.invariant.kept told in
    let within : number ≤ c.args.registry.slots = omega (arith, c.loop-number-test.true) in
    told_err (StopsInLogs dir c.args.registry.slots old new) c.from_residual.result c.in_err-add_log.field-0.0 c.from_residual.ensures.1 (record {
      file = number;
      stops = stops_at old dir c.args.registry.records c.args.registry.slots number c.loop-number.report.items c.in_err-add_log.field-0.0 (c.loop-number.invariant.lines told) within
          (subst (λ (bytes : List ℕ). HasFileFault bytes number c.in_err-add_log.field-0.0) (same_bytes dir number old mid number kept) (c.in_err-add_log.ensures.fault told));
      kept = visit_kept dir number old mid new kept (c.add_log.ensures.kept told) (c.add_log.ensures.others told);
    })

pub returns-in_ok-add_log-clause-ok : goal.returns-in_ok-add_log-clause-ok
returns-in_ok-add_log-clause-ok g c told =
    let old = g.H.Shelf.files c.args.shelf.now in
    let mid = g.H.Shelf.files c.loop-number.shelf in
    let dir = c.args.dir.now in
    let number = c.loop-number.number in
    let added = c.in_ok-add_log.ensures.ok told in
    let last : number + 1 ≡ c.args.registry.slots + 1 = omega (arith, c.loop-number-test.true) in
    subst (λ (n : ℕ). HasFileLines old dir c.args.registry.records n c.add_log.new.report.items) last
    (one_more old dir c.args.registry.records number c.loop-number.report.items c.add_log.new.report.items added.0 (c.loop-number.invariant.lines told)
    (subst (λ (bytes : List ℕ). IsLogLine bytes number added.0) (same_bytes dir number old mid number (c.loop-number.invariant.kept told)) added.1) added.2)
