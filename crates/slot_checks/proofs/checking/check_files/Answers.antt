use Rattle.std.proofs.Common.{◌+◌, refl}
use Rattle.log_registry.specs.declared.fault.RegistryFault.TheVariants as registry
use Rattle.slot_checks.specs.declared.fault.CheckFault.TheVariants.{OutOfMemory}
use Rattle.slot_checks.specs.Checks.{CheckStops, at_registry}
use Rattle.slot_checks.proofs.Steps.{has_same, visit_kept, all_kept, stops_behind, kept_behind, told_err}
use Rattle.slot_checks.proofs.checking.check_files.Goals as goal

pub returns-clause-ok : goal.returns-clause-ok
returns-clause-ok g c told =
    let old = g.H.Shelf.files c.args.shelf.now in
    let mid = g.H.Shelf.files c.check_registry.new.shelf in
    let dir = c.args.dir.now in
    let first = visit_kept dir 0 old old mid (all_kept dir 0 old) (c.check_registry.ensures.kept told) (c.check_registry.ensures.others told) in
    record {
      slots = c.in_ok-registry.registry.slots;
      records = c.in_ok-registry.registry.records;
      registry = c.in_ok-registry.ensures.ok told;
      lines = has_same old mid dir c.in_ok-registry.registry.records (c.in_ok-registry.registry.slots + 1) c.add_logs.new.report.items first (c.in_ok-add_logs.ensures.ok told);
    }

pub returns-clause-kept : goal.returns-clause-kept
returns-clause-kept g c told =
    let old = g.H.Shelf.files c.args.shelf.now in
    let mid = g.H.Shelf.files c.check_registry.new.shelf in
    let new = g.H.Shelf.files c.add_logs.new.shelf in
    let dir = c.args.dir.now in
    let first = visit_kept dir 0 old old mid (all_kept dir 0 old) (c.check_registry.ensures.kept told) (c.check_registry.ensures.others told) in
    kept_behind dir old mid new first c.in_ok-registry.registry.slots c.in_ok-registry.registry.records c.add_logs.new.report.items (c.in_ok-add_logs.ensures.ok told) (c.in_ok-add_logs.ensures.kept told)

pub returns-in_err-registry-clause-fault : goal.returns-in_err-registry-clause-fault
returns-in_err-registry-clause-fault g c told =
    let old = g.H.Shelf.files c.args.shelf.now in
    let mid = g.H.Shelf.files c.check_registry.new.shelf in
    let dir = c.args.dir.now in
    told_err (CheckStops dir old mid) c.from_residual.result c.in_err-registry.field-0.0 c.from_residual.ensures.1 (record { file = 0; stops = at_registry refl (c.in_err-registry.ensures.fault told); kept = visit_kept dir 0 old old mid (all_kept dir 0 old) (c.check_registry.ensures.kept told) (c.check_registry.ensures.others told) })

pub returns-in_err-push-clause-fault : goal.returns-in_err-push-clause-fault
returns-in_err-push-clause-fault g c told =
    let old = g.H.Shelf.files c.args.shelf.now in
    let mid = g.H.Shelf.files c.check_registry.new.shelf in
    let dir = c.args.dir.now in
    told_err (CheckStops dir old mid) c.from_residual-in_err-push.result OutOfMemory c.from_residual-in_err-push.ensures.1 (record { file = 0; stops = at_registry refl (registry.OutOfMemory, refl, tt); kept = visit_kept dir 0 old old mid (all_kept dir 0 old) (c.check_registry.ensures.kept told) (c.check_registry.ensures.others told) })

pub returns-in_err-add_logs-clause-fault : goal.returns-in_err-add_logs-clause-fault
returns-in_err-add_logs-clause-fault g c told =
    let old = g.H.Shelf.files c.args.shelf.now in
    let mid = g.H.Shelf.files c.check_registry.new.shelf in
    let new = g.H.Shelf.files c.add_logs.new.shelf in
    let dir = c.args.dir.now in
    let first = visit_kept dir 0 old old mid (all_kept dir 0 old) (c.check_registry.ensures.kept told) (c.check_registry.ensures.others told) in
    told_err (CheckStops dir old new) c.from_residual-in_err-add_logs.result c.in_err-add_logs.field-0.0 c.from_residual-in_err-add_logs.ensures.1
    (stops_behind dir old mid new first c.in_ok-registry.registry.slots c.in_ok-registry.registry.records c.in_err-add_logs.field-0.0 (c.in_ok-registry.ensures.ok told) (c.in_err-add_logs.ensures.fault told))
