use Rattle.std.proofs.Common.{◌≡◌, ap, subst, ◌∙◌}
use Rattle.std.specs.Prelude.{Bool}
use Rattle.disk_model.specs.Past.{reads}
use Rattle.slot_files.specs.Files.{bytes_at}
use Rattle.slot_checks.proofs.Steps.{told_err}
use Rattle.directory_upgrade.specs.Directories.{StopsTaking}
use Rattle.directory_upgrade.specs.Sets.{MarkerSays}
use Rattle.directory_upgrade.proofs.Sets.{synced_unmarked}
use Rattle.directory_upgrade.proofs.Stops.{free_stops, marker_stops}
use Rattle.directory_upgrade.proofs.directory.take_registry.Goals as goal

pub returns-in_err-marked-clause-fault : goal.returns-in_err-marked-clause-fault
returns-in_err-marked-clause-fault g c told is opened =
    let files = g.H.Shelf.files c.args.shelf.now in
    let fault = c.in_err-marked.field-0.0 in
    told_err (StopsTaking files c.args.dir.now) c.from_residual.result fault c.from_residual.ensures.1
    (marker_stops files c.args.dir.now fault c.args.set.now.marker_number (reads (g.H.D.Disk.past c.args.set.now.marker)) is (ap reads opened.past ∙ ap (bytes_at files c.args.dir.now) is) (c.in_err-marked.ensures.fault (g.met.H.Shelf.disks_tell told)))

pub returns-in_err-take_file-clause-fault : goal.returns-in_err-take_file-clause-fault
returns-in_err-take_file-clause-fault g c told is opened =
    let files = g.H.Shelf.files c.args.shelf.now in
    let fault = c.in_err-take_file.field-0.0 in
    told_err (StopsTaking files c.args.dir.now) c.from_residual-in_err-take_file.result fault c.from_residual-in_err-take_file.ensures.1
    (free_stops files c.args.dir.now fault c.in_err-take_file.ensures.fault)

pub returns-clause-unmarked : goal.returns-clause-unmarked
returns-clause-unmarked g c told is_false =
    let set = c.args.set.now in
    let now = c.take_file.new.set in
    let past = g.H.D.Disk.past in
    let number : now.marker_number ≡ set.marker_number = c.take_file.ensures.same.1 ∙ ap (λ s. s.marker_number) c.is_marked.ensures.same in
    let quiet = subst (λ (b : Bool). MarkerSays b (reads (past set.marker)) set.marker_number) is_false (c.in_ok-marked.ensures.says told) in
    rw number (synced_unmarked (past set.marker) (past now.marker) set.marker_number (ap past c.take_file.ensures.same.0 ∙ c.in_ok-marked.ensures.synced told) quiet)
