use Rattle.std.proofs.Common.{◌≡◌, inr, refl, ℕ, [], ◌∷◌, Ok, Err, map, ap, sym, subst, ◌∙◌}
use Rattle.std.specs.Prelude.{IfOk, IfErr, Some}
use Rattle.std.proofs.lemmas.Result.{IfErr-at_err}
use Rattle.disk_model.specs.Past.{began}
use Rattle.slot_checks.proofs.Steps.{told_err}
use Rattle.slot_checks.specs.Faults.{of_shelf}
use Rattle.slot_checks.specs.declared.marker.TheConstants.{ZONE_MARKER}
use Rattle.journal_upgrade.specs.declared.fault.UpgradeFault.{UpgradeFault}
use Rattle.directory_upgrade.specs.Ends.{IsSetEnd}
use Rattle.directory_upgrade.specs.Faults.{check_fault_of_upgrade}
use Rattle.directory_upgrade.specs.Sets.{IsMarkerNumber, IsOpened, IsSetBack, IsTaken, SameBeside}
use Rattle.directory_upgrade.specs.Zones.{StopsTakingZone, StopsZoneUpgrade, zone_untaken}
use Rattle.directory_upgrade.proofs.Counted.{on_ok_at}
use Rattle.directory_upgrade.proofs.Directed.{zone_done, zone_stopped}
use Rattle.directory_upgrade.proofs.Same.{bytes_same, left_since, refused_left, seen_bytes, seen_left, seen_none, taken_same, zone_shelf_stops, zone_stops_same}
use Rattle.directory_upgrade.proofs.Sets.{back_kept}
use Rattle.directory_upgrade.proofs.Stops.{zone_free_stops}
use Rattle.directory_upgrade.proofs.zone.upgrade_zone.Goals as goal

pub returns-in_err-both-clause-stopped : goal.returns-in_err-both-clause-stopped
returns-in_err-both-clause-stopped g c told =
    let dir = c.args.dir.now in
    let first = g.H.Shelf.files c.args.shelf.now in
    let new = g.H.Shelf.files c.has_second.new.shelf in
    let fault = c.in_err-both.field-0.0 in
    told_err (StopsZoneUpgrade dir first new) c.from_residual.result fault c.from_residual.ensures.1
    (zone_untaken fault (zone_free_stops first dir fault c.in_err-both.ensures.fault) (seen_left dir first new (c.has_second.ensures.seen told)))

pub returns-in_err-marker-clause-stopped : goal.returns-in_err-marker-clause-stopped
returns-in_err-marker-clause-stopped g c told =
    let dir = c.args.dir.now in
    let first = g.H.Shelf.files c.args.shelf.now in
    let old = g.H.Shelf.files c.has_second.new.shelf in
    let new = g.H.Shelf.files c.disk.new.self in
    let fault = c.in_err-marker.field-0.0 in
    told_err (StopsZoneUpgrade dir first new) c.from_residual-in_err-marker.result (of_shelf fault) c.from_residual-in_err-marker.ensures.1
    (zone_untaken (of_shelf fault) (zone_shelf_stops first dir fault)
    (seen_none dir first old (c.has_second.ensures.seen told) new (refused_left dir ZONE_MARKER (1000 ∷ 1001 ∷ []) old new (c.in_err-marker.ensures.refused told) (c.disk.ensures.others told))))

pub returns-in-Ok-clause-done : goal.returns-in-Ok-clause-done
returns-in-Ok-clause-done g c told =
    let dir = c.args.dir.now in
    let first = g.H.Shelf.files c.args.shelf.now in
    let old = g.H.Shelf.files c.has_second.new.shelf in
    let seen = c.has_second.ensures.seen told in
    let mid = g.H.Shelf.files c.disk.new.self in
    let late = g.H.Shelf.files c.take_zone.new.shelf in
    let disks = g.H.D.Disk in
    let set = c.take_zone.new.set in
    let did = c.take_zone.ensures in
    let made = c.in_ok-marker.ensures.made told in
    let others = c.disk.ensures.others told in
    let same = bytes_same dir ZONE_MARKER old mid made others in
    let given : IsOpened disks dir ZONE_MARKER mid c.in_ok-marker.marker =
    record { mark = c.in_ok-marker.ensures.mark told; past = c.in_ok-marker.ensures.opened told ∙ ap began (sym (same ZONE_MARKER)) } in
    let opened : IsOpened disks dir ZONE_MARKER mid c.begin-set.result.marker = subst (IsOpened disks dir ZONE_MARKER mid) (sym c.begin-set.ensures.marker.0) given in
    let taken = taken_same dir old mid same disks set.numbers.items set.files.items set.spares.items set.marker ZONE_MARKER (did.taken told opened) in
    let kept = on_ok_at c.take_zone.result c.in-Ok.field-0 _ c.in-Ok.is (did.kept told) in
    let are = on_ok_at c.take_zone.result c.in-Ok.field-0 _ c.in-Ok.is did.numbers in
    let beside = (left_since dir ZONE_MARKER old mid made others set.numbers.items late kept).beside in
    let new = g.H.Shelf.files c.upgrade_set.new.shelf in
    let at_number = subst (IsTaken disks dir old set.numbers.items set.files.items set.spares.items set.marker) (sym did.number) taken in
    let at_beside = subst (λ (n : ℕ). SameBeside dir n set.numbers.items old late) (sym did.number) beside in
    zone_done dir old new set.numbers.items c.upgrade_set.result first c.in_ok-both.both are (c.in_ok-both.ensures.long told) seen
    (subst (λ (n : ℕ). IfOk c.upgrade_set.result (λ done. IsSetEnd dir n set.numbers.items old new (Ok done))) did.number (c.upgrade_set.ensures.done told dir old at_number at_beside))

pub returns-in-Ok-clause-stopped : goal.returns-in-Ok-clause-stopped
returns-in-Ok-clause-stopped g c told =
    let dir = c.args.dir.now in
    let first = g.H.Shelf.files c.args.shelf.now in
    let old = g.H.Shelf.files c.has_second.new.shelf in
    let seen = c.has_second.ensures.seen told in
    let mid = g.H.Shelf.files c.disk.new.self in
    let late = g.H.Shelf.files c.take_zone.new.shelf in
    let disks = g.H.D.Disk in
    let set = c.take_zone.new.set in
    let did = c.take_zone.ensures in
    let made = c.in_ok-marker.ensures.made told in
    let others = c.disk.ensures.others told in
    let same = bytes_same dir ZONE_MARKER old mid made others in
    let given : IsOpened disks dir ZONE_MARKER mid c.in_ok-marker.marker =
    record { mark = c.in_ok-marker.ensures.mark told; past = c.in_ok-marker.ensures.opened told ∙ ap began (sym (same ZONE_MARKER)) } in
    let opened : IsOpened disks dir ZONE_MARKER mid c.begin-set.result.marker = subst (IsOpened disks dir ZONE_MARKER mid) (sym c.begin-set.ensures.marker.0) given in
    let taken = taken_same dir old mid same disks set.numbers.items set.files.items set.spares.items set.marker ZONE_MARKER (did.taken told opened) in
    let kept = on_ok_at c.take_zone.result c.in-Ok.field-0 _ c.in-Ok.is (did.kept told) in
    let are = on_ok_at c.take_zone.result c.in-Ok.field-0 _ c.in-Ok.is did.numbers in
    let beside = (left_since dir ZONE_MARKER old mid made others set.numbers.items late kept).beside in
    let new = g.H.Shelf.files c.upgrade_set.new.shelf in
    let at_number = subst (IsTaken disks dir old set.numbers.items set.files.items set.spares.items set.marker) (sym did.number) taken in
    let at_beside = subst (λ (n : ℕ). SameBeside dir n set.numbers.items old late) (sym did.number) beside in
    zone_stopped dir old new set.numbers.items c.upgrade_set.result first c.in_ok-both.both are (c.in_ok-both.ensures.long told) seen
    (subst (λ (n : ℕ). IfErr c.upgrade_set.result (λ fault. (why : UpgradeFault) × (fault ≡ check_fault_of_upgrade why) × IsSetEnd dir n set.numbers.items old new (Err why))) did.number
    (c.upgrade_set.ensures.stopped told dir old at_number at_beside))

pub returns-in-Err-clause-stopped : goal.returns-in-Err-clause-stopped
returns-in-Err-clause-stopped g c told =
    let dir = c.args.dir.now in
    let first = g.H.Shelf.files c.args.shelf.now in
    let old = g.H.Shelf.files c.has_second.new.shelf in
    let seen = c.has_second.ensures.seen told in
    let mid = g.H.Shelf.files c.disk.new.self in
    let late = g.H.Shelf.files c.take_zone.new.shelf in
    let disks = g.H.D.Disk in
    let set = c.take_zone.new.set in
    let did = c.take_zone.ensures in
    let made = c.in_ok-marker.ensures.made told in
    let others = c.disk.ensures.others told in
    let same = bytes_same dir ZONE_MARKER old mid made others in
    let given : IsOpened disks dir ZONE_MARKER mid c.in_ok-marker.marker =
    record { mark = c.in_ok-marker.ensures.mark told; past = c.in_ok-marker.ensures.opened told ∙ ap began (sym (same ZONE_MARKER)) } in
    let opened : IsOpened disks dir ZONE_MARKER mid c.begin-set.result.marker = subst (IsOpened disks dir ZONE_MARKER mid) (sym c.begin-set.ensures.marker.0) given in
    let taken = taken_same dir old mid same disks set.numbers.items set.files.items set.spares.items set.marker ZONE_MARKER (did.taken told opened) in
    let new = g.H.Shelf.files c.put_back_set.new.shelf in
    let past = disks.past in
    let numbers = 1000 ∷ 1001 ∷ [] in
    let left = left_since dir ZONE_MARKER old mid made others numbers late (did.left told) in
    let stops = zone_stops_same dir old mid same c.in-Err.fault (IfErr-at_err (StopsTakingZone mid dir) c.in-Err.is (did.fault told opened)) in
    let back = c.put_back_set.ensures.back told dir taken.file_marks taken.spare_marks (taken.marker_mark ∙ ap (λ (n : ℕ). Some (dir, n)) (sym did.number)) (subst IsMarkerNumber (sym did.number) (inr refl)) in
    let here = subst (λ (n : ℕ). IsSetBack dir n set.numbers.items (map past set.files.items) (map past set.spares.items) (past set.marker) late new) did.number back in
    zone_untaken c.in-Err.fault (zone_stops_same dir first old (seen_bytes dir first old seen) c.in-Err.fault stops)
    (seen_none dir first old seen new (back_kept disks dir old late new set.numbers.items set.files.items set.spares.items set.marker ZONE_MARKER taken numbers did.within left here))
