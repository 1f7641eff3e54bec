use Rattle.std.proofs.Common.{Err, refl, ◌∙◌, ap}
use Rattle.patch_log.specs.declared.next_fault.NextFault.{NextFault}
use Rattle.zone_state.specs.declared.opening.Reading.{Reading}
use Rattle.zone_state.proofs.Readings.{received_more, received_broken}
use Rattle.zone_state.proofs.opening.ReadingReceiver.receive.Goals as goal

pub returns-in-Ok : goal.returns-in-Ok
returns-in-Ok c first payloads has =
    let e = c.add_next.ensures in
    received_more first c.args.self.now c.add_next.new.self payloads c.args.payload has c.if-self.false e.broken e.most c.in-Ok.ensures.ok

pub returns-in-Err-Broken : goal.returns-in-Err-Broken
returns-in-Err-Broken c first payloads has =
    let e = c.add_next.ensures in
    let failed = c.in-Err-Broken.is ∙ ap (λ (fault : NextFault). Err fault) c.in-Err-Broken.field-0-is in
    received_broken first c.args.self.now _ payloads c.args.payload has c.if-self.false refl e.most (ap (λ (r : Reading). r.kept.ids.items) (e.same failed)) (e.none failed)
