use Rattle.std.proofs.Common.{ap, subst}
use Rattle.std.proofs.KnownBytes.{Keeps-refl}
use Rattle.delta_cli.specs.Syncs.{Synced, caught_up_line, ended, unprinted}
use Rattle.command_tables.specs.Views.{output_view, shelf_view}
use Rattle.delta_client.specs.Exchanges.{dial_view}
use Rattle.delta_cli.proofs.Printed.{err_weaker, ok_weaker}
use Rattle.delta_cli.proofs.Shown.{all_visible}
use Rattle.delta_cli.proofs.Synced.{opening_stopped, synced}
use Rattle.delta_cli.proofs.sync.sync_zone.Goals as goal

pub follow_zone-requires : goal.follow_zone-requires
follow_zone-requires g c = all_visible c.args.address.now c.requires.visible

pub returns-in-Ok-CaughtUp : goal.returns-in-Ok-CaughtUp
returns-in-Ok-CaughtUp g c =
    let old = shelf_view g.H.Shelf c.args.shelf.now in
    let new = shelf_view g.H.Shelf c.follow_zone.new.shelf in
    let is = Synced g.H.Shelf g.N.Dial g.N.L.Link c.args.dir.now c.args.address.now c.args.name.now old new (dial_view g.N.Dial c.args.net.now) (dial_view g.N.Dial c.follow_zone.new.net) in
    let end = synced g.H.Shelf g.N.Dial g.N.L.Link c.args.dir.now c.args.address.now c.args.name.now old new (dial_view g.N.Dial c.args.net.now) (dial_view g.N.Dial c.follow_zone.new.net)
    c.follow_zone.result c.in-Ok-CaughtUp.field-0 c.in-Ok-CaughtUp.is c.in-Ok-CaughtUp.ensures.ok c.follow_zone.ensures.others c.follow_zone.ensures.disk c.follow_zone.ensures.link in
    let caught = subst is c.in-Ok-CaughtUp.field-0-is end in
    let version = c.in-Ok-CaughtUp.version in
    record {
      done = ok_weaker c.print_line.result _ _ (λ written. (version, caught, written)) (c.print_line.ensures.done (caught_up_line version) c.version_line.ensures);
      stopped = err_weaker c.print_line.result _ _ (λ refusal stops. unprinted version caught stops) (c.print_line.ensures.stopped (caught_up_line version) c.version_line.ensures);
    }

pub returns-in-Ok : goal.returns-in-Ok
returns-in-Ok g c =
    let old = shelf_view g.H.Shelf c.args.shelf.now in
    let new = shelf_view g.H.Shelf c.follow_zone.new.shelf in
    let end = synced g.H.Shelf g.N.Dial g.N.L.Link c.args.dir.now c.args.address.now c.args.name.now old new (dial_view g.N.Dial c.args.net.now) (dial_view g.N.Dial c.follow_zone.new.net)
    c.follow_zone.result c.in-Ok.end c.in-Ok.is c.in-Ok.ensures.ok c.follow_zone.ensures.others c.follow_zone.ensures.disk c.follow_zone.ensures.link in
    record { done = tt; stopped = ended c.in-Ok.end end c.refusal_of.ensures (Keeps-refl (g.K.Sink.written c.args.out.now)) }

pub returns-in-Err-clause-stopped : goal.returns-in-Err-clause-stopped
returns-in-Err-clause-stopped g c =
    let old = shelf_view g.H.Shelf c.args.shelf.now in
    let new = shelf_view g.H.Shelf c.follow_zone.new.shelf in
    opening_stopped g.H.Shelf g.N.Dial g.N.L.Link c.args.dir.now c.args.address.now c.args.name.now old new (dial_view g.N.Dial c.args.net.now) (dial_view g.N.Dial c.follow_zone.new.net)
    c.follow_zone.result c.in-Err.fault c.of_pair.result (output_view g.K.Sink c.args.out.now) c.in-Err.is c.of_pair.ensures c.in-Err.ensures.fault
    c.follow_zone.ensures.cause c.in-Err.ensures.kept (ap (dial_view g.N.Dial) c.in-Err.ensures.unopened)
