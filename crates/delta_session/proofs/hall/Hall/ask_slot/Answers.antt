use Rattle.delta_session.specs.Answered.{BySlot}
use Rattle.delta_session.proofs.Asked.{then_log, then_none}
use Rattle.delta_session.proofs.hall.Hall.ask_slot.Goals as goal

pub returns-in-Ok-clause-takes : goal.returns-in-Ok-clause-takes
returns-in-Ok-clause-takes g c = then_log g.D.Disk c.args.self.now c.args.pass.now c.args.name (BySlot c.args.call) c.in-Ok.slot c.slot_of.new.pass c.ask_at.new.pass c.ask_at.result c.in-Ok.ensures.looks c.ask_at.ensures.takes

pub returns-in-Err-clause-takes : goal.returns-in-Err-clause-takes
returns-in-Err-clause-takes g c = then_none g.D.Disk c.args.self.now c.args.pass.now c.args.name (BySlot c.args.call) c.slot_of.new.pass c.in-Err.said c.in-Err.ensures.looks
