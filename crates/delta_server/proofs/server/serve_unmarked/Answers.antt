use Rattle.std.proofs.Common.{inl, inr, refl, ap}
use Rattle.std.specs.Prelude.{Err}
use Rattle.std.proofs.lemmas.Result.{on_ok_weaker}
use Rattle.slot_checks.specs.declared.marker.TheConstants.{FILES_MARKER}
use Rattle.command_tables.specs.Markers.{SeesNoMark, StopsAtMark}
use Rattle.command_tables.specs.Views.{shelf_view}
use Rattle.delta_server.proofs.server.serve_unmarked.Goals as goal

pub returns-in-Ok-clause-served : goal.returns-in-Ok-clause-served
returns-in-Ok-clause-served g c =
    let old = shelf_view g.H.Shelf c.args.shelf.now in
    let seen = shelf_view g.H.Shelf c.check_marker.new.shelf in
    let sees : SeesNoMark c.args.serve.now.dir FILES_MARKER g.H.Shelf.tells old seen = record {
      nothing = c.in-Ok.ensures.nothing;
      kept = c.in-Ok.ensures.kept;
      others = c.in-Ok.ensures.others;
      faults = c.in-Ok.ensures.well;
    } in
    on_ok_weaker c.serve_files.result.1 (λ served. (seen, sees, served)) c.serve_files.ensures.served

pub returns-in-Err-clause-failed : goal.returns-in-Err-clause-failed
returns-in-Err-clause-failed g c =
    let old = shelf_view g.H.Shelf c.args.shelf.now in
    let new = shelf_view g.H.Shelf c.check_marker.new.shelf in
    let stops : StopsAtMark c.args.serve.now.dir FILES_MARKER g.H.Shelf.tells old new c.of_check.result = record {
      fault = c.in-Err.fault;
      refusal_is = c.of_check.ensures;
      has = c.in-Err.ensures.fault;
      cause = λ failed. c.in-Err.ensures.cause (ap (λ fault. Err fault) failed);
      kept = c.in-Err.ensures.kept;
      others = c.in-Err.ensures.others;
    } in
    inl (stops, refl)
