use Rattle.std.proofs.Common.{◌≡◌, inl, refl, ℕ, Ok, Err, map, ap, sym, subst, ◌∙◌}
use Rattle.std.specs.Prelude.{IfOk, IfErr, Some}
use Rattle.std.proofs.lemmas.Result.{IfErr-at_err}
use Rattle.disk_model.specs.Past.{began}
use Rattle.slot_checks.proofs.Steps.{told_err}
use Rattle.slot_checks.specs.Faults.{of_shelf}
use Rattle.slot_checks.specs.declared.marker.TheConstants.{FILES_MARKER}
use Rattle.journal_upgrade.specs.declared.fault.UpgradeFault.{UpgradeFault}
use Rattle.directory_upgrade.specs.Ends.{IsSetEnd}
use Rattle.directory_upgrade.specs.Faults.{check_fault_of_upgrade}
use Rattle.directory_upgrade.specs.Sets.{IsMarkerNumber, IsOpened, IsSetBack, IsTaken, SameBeside}
use Rattle.directory_upgrade.specs.Directories.{StopsTaking, StopsUpgrade, untaken, up_to}
use Rattle.directory_upgrade.proofs.Counted.{on_ok_at}
use Rattle.directory_upgrade.proofs.Directed.{directory_done, directory_ended}
use Rattle.directory_upgrade.proofs.Same.{bytes_same, left_since, refused_left, shelf_stops, slots_same, stops_same, taken_same}
use Rattle.directory_upgrade.proofs.Sets.{back_kept}
use Rattle.directory_upgrade.proofs.directory.upgrade_directory.Goals as goal

pub returns-in_err-marker-clause-stopped : goal.returns-in_err-marker-clause-stopped
returns-in_err-marker-clause-stopped g c told =
    let dir = c.args.dir.now in
    let old = g.H.Shelf.files c.args.shelf.now in
    let new = g.H.Shelf.files c.disk.new.self in
    let fault = c.in_err-marker.field-0.0 in
    told_err (StopsUpgrade dir old new) c.from_residual.result (of_shelf fault) c.from_residual.ensures.1
    (untaken (of_shelf fault) (shelf_stops old dir fault) (refused_left dir FILES_MARKER (up_to 16) old new (c.in_err-marker.ensures.refused told) (c.disk.ensures.others told)))

pub returns-in-Ok-clause-done : goal.returns-in-Ok-clause-done
returns-in-Ok-clause-done g c told =
    let dir = c.args.dir.now in
    let old = g.H.Shelf.files c.args.shelf.now in
    let mid = g.H.Shelf.files c.disk.new.self in
    let late = g.H.Shelf.files c.take_directory-set.new.shelf in
    let disks = g.H.D.Disk in
    let set = c.take_directory-set.result.0 in
    let did = c.take_directory-set.ensures in
    let made = c.in_ok-marker.ensures.made told in
    let others = c.disk.ensures.others told in
    let same = bytes_same dir FILES_MARKER old mid made others in
    let first : IsOpened disks dir FILES_MARKER mid c.in_ok-marker.marker =
    record { mark = c.in_ok-marker.ensures.mark told; past = c.in_ok-marker.ensures.opened told ∙ ap began (sym (same FILES_MARKER)) } in
    let opened : IsOpened disks dir FILES_MARKER mid c.begin-set.result.marker = subst (IsOpened disks dir FILES_MARKER mid) (sym c.begin-set.ensures.marker.0) first in
    let taken = taken_same dir old mid same disks set.numbers.items set.files.items set.spares.items set.marker FILES_MARKER (did.taken told opened) in
    let has = on_ok_at c.take_directory-set.result.1 c.in-Ok.field-0 _ c.in-Ok.is (did.has told opened) in
    let kept = on_ok_at c.take_directory-set.result.1 c.in-Ok.field-0 _ c.in-Ok.is (did.kept told) in
    let beside = (left_since dir FILES_MARKER old mid made others set.numbers.items late kept).beside in
    let slots = slots_same dir old mid same has.0 has.1 in
    let new = g.H.Shelf.files c.upgrade_set.new.shelf in
    let at_number = subst (IsTaken disks dir old set.numbers.items set.files.items set.spares.items set.marker) (sym did.number) taken in
    let at_beside = subst (λ (n : ℕ). SameBeside dir n set.numbers.items old late) (sym did.number) beside in
    directory_done dir old new set.numbers.items c.upgrade_set.result has.0 has.2 slots
    (subst (λ (n : ℕ). IfOk c.upgrade_set.result (λ done. IsSetEnd dir n set.numbers.items old new (Ok done))) did.number (c.upgrade_set.ensures.done told dir old at_number at_beside))

pub returns-in-Ok-clause-stopped : goal.returns-in-Ok-clause-stopped
returns-in-Ok-clause-stopped g c told =
    let dir = c.args.dir.now in
    let old = g.H.Shelf.files c.args.shelf.now in
    let mid = g.H.Shelf.files c.disk.new.self in
    let late = g.H.Shelf.files c.take_directory-set.new.shelf in
    let disks = g.H.D.Disk in
    let set = c.take_directory-set.result.0 in
    let did = c.take_directory-set.ensures in
    let made = c.in_ok-marker.ensures.made told in
    let others = c.disk.ensures.others told in
    let same = bytes_same dir FILES_MARKER old mid made others in
    let first : IsOpened disks dir FILES_MARKER mid c.in_ok-marker.marker =
    record { mark = c.in_ok-marker.ensures.mark told; past = c.in_ok-marker.ensures.opened told ∙ ap began (sym (same FILES_MARKER)) } in
    let opened : IsOpened disks dir FILES_MARKER mid c.begin-set.result.marker = subst (IsOpened disks dir FILES_MARKER mid) (sym c.begin-set.ensures.marker.0) first in
    let taken = taken_same dir old mid same disks set.numbers.items set.files.items set.spares.items set.marker FILES_MARKER (did.taken told opened) in
    let has = on_ok_at c.take_directory-set.result.1 c.in-Ok.field-0 _ c.in-Ok.is (did.has told opened) in
    let kept = on_ok_at c.take_directory-set.result.1 c.in-Ok.field-0 _ c.in-Ok.is (did.kept told) in
    let beside = (left_since dir FILES_MARKER old mid made others set.numbers.items late kept).beside in
    let slots = slots_same dir old mid same has.0 has.1 in
    let new = g.H.Shelf.files c.upgrade_set.new.shelf in
    let at_number = subst (IsTaken disks dir old set.numbers.items set.files.items set.spares.items set.marker) (sym did.number) taken in
    let at_beside = subst (λ (n : ℕ). SameBeside dir n set.numbers.items old late) (sym did.number) beside in
    directory_ended dir old new set.numbers.items c.upgrade_set.result has.0 has.2 slots
    (subst (λ (n : ℕ). IfErr c.upgrade_set.result (λ fault. (why : UpgradeFault) × (fault ≡ check_fault_of_upgrade why) × IsSetEnd dir n set.numbers.items old new (Err why))) did.number
    (c.upgrade_set.ensures.stopped told dir old at_number at_beside))

pub returns-in-Err-clause-stopped : goal.returns-in-Err-clause-stopped
returns-in-Err-clause-stopped g c told =
    let dir = c.args.dir.now in
    let old = g.H.Shelf.files c.args.shelf.now in
    let mid = g.H.Shelf.files c.disk.new.self in
    let late = g.H.Shelf.files c.take_directory-set.new.shelf in
    let disks = g.H.D.Disk in
    let set = c.take_directory-set.result.0 in
    let did = c.take_directory-set.ensures in
    let made = c.in_ok-marker.ensures.made told in
    let others = c.disk.ensures.others told in
    let same = bytes_same dir FILES_MARKER old mid made others in
    let first : IsOpened disks dir FILES_MARKER mid c.in_ok-marker.marker =
    record { mark = c.in_ok-marker.ensures.mark told; past = c.in_ok-marker.ensures.opened told ∙ ap began (sym (same FILES_MARKER)) } in
    let opened : IsOpened disks dir FILES_MARKER mid c.begin-set.result.marker = subst (IsOpened disks dir FILES_MARKER mid) (sym c.begin-set.ensures.marker.0) first in
    let taken = taken_same dir old mid same disks set.numbers.items set.files.items set.spares.items set.marker FILES_MARKER (did.taken told opened) in
    let new = g.H.Shelf.files c.put_back_set.new.shelf in
    let past = disks.past in
    let left = left_since dir FILES_MARKER old mid made others (up_to 16) late (did.left told) in
    let stops = stops_same dir old mid same c.in-Err.fault (IfErr-at_err (StopsTaking mid dir) c.in-Err.is (did.fault told opened)) in
    let back = c.put_back_set.ensures.back told dir taken.file_marks taken.spare_marks (taken.marker_mark ∙ ap (λ (n : ℕ). Some (dir, n)) (sym did.number)) (subst IsMarkerNumber (sym did.number) (inl refl)) in
    let here = subst (λ (n : ℕ). IsSetBack dir n set.numbers.items (map past set.files.items) (map past set.spares.items) (past set.marker) late new) did.number back in
    untaken c.in-Err.fault stops (back_kept disks dir old late new set.numbers.items set.files.items set.spares.items set.marker FILES_MARKER taken (up_to 16) did.within left here)
