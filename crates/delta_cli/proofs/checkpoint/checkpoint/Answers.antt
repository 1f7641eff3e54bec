use Rattle.std.proofs.Common.{subst}
use Rattle.std.proofs.KnownBytes.{Keeps-refl}
use Rattle.command_tables.specs.Views.{output_view, shelf_view}
use Rattle.delta_cli.specs.Checkpoints.{ZoneCheckpointed, checkpoint_line, not_made, not_printed}
use Rattle.delta_cli.proofs.Checkpointing.{checkpoint_stopped, zone_checkpointed}
use Rattle.delta_cli.proofs.Printed.{err_weaker, ok_weaker}
use Rattle.delta_cli.proofs.checkpoint.checkpoint.Goals as goal

pub returns-in-Ok-Done : goal.returns-in-Ok-Done
returns-in-Ok-Done g c =
    let dir = c.args.dir.now in
    let old = shelf_view g.H.Shelf c.args.shelf.now in
    let new = shelf_view g.H.Shelf c.checkpoint_zone.new.shelf in
    let end = zone_checkpointed dir g.H.Shelf.tells old new c.checkpoint_zone.result c.in-Ok-Done.field-0 c.in-Ok-Done.is c.in-Ok-Done.ensures.ok c.checkpoint_zone.ensures.others c.checkpoint_zone.ensures.disk in
    let done = subst (ZoneCheckpointed dir g.H.Shelf.tells old new) c.in-Ok-Done.field-0-is end in
    let version = c.in-Ok-Done.version in
    record {
      done = ok_weaker c.print_line.result _ _ (λ written. (version, done, written)) (c.print_line.ensures.done (checkpoint_line version) c.line_of.ensures);
      stopped = err_weaker c.print_line.result _ _ (λ refusal stops. not_printed version done stops) (c.print_line.ensures.stopped (checkpoint_line version) c.line_of.ensures);
    }

pub returns-in-Ok : goal.returns-in-Ok
returns-in-Ok g c =
    let old = shelf_view g.H.Shelf c.args.shelf.now in
    let new = shelf_view g.H.Shelf c.checkpoint_zone.new.shelf in
    let end = zone_checkpointed c.args.dir.now g.H.Shelf.tells old new c.checkpoint_zone.result c.in-Ok.end c.in-Ok.is c.in-Ok.ensures.ok c.checkpoint_zone.ensures.others c.checkpoint_zone.ensures.disk in
    record { done = tt; stopped = not_made c.in-Ok.end end c.refusal_of.ensures (Keeps-refl (g.K.Sink.written c.args.out.now)) }

pub returns-in-Err-clause-stopped : goal.returns-in-Err-clause-stopped
returns-in-Err-clause-stopped g c =
    let old = shelf_view g.H.Shelf c.args.shelf.now in
    let new = shelf_view g.H.Shelf c.checkpoint_zone.new.shelf in
    checkpoint_stopped c.args.dir.now g.H.Shelf.tells old new c.checkpoint_zone.result c.in-Err.fault c.of_pair.result (output_view g.K.Sink c.args.out.now) c.in-Err.is c.of_pair.ensures c.in-Err.ensures.fault
    c.checkpoint_zone.ensures.cause c.in-Err.ensures.kept
