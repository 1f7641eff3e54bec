use Rattle.world_core.proofs.Running.{run_up_part, open_part}
use Rattle.world_core.proofs.log.run_log.Goals as goal

pub returns-in-Up-clause-part : goal.returns-in-Up-clause-part
returns-in-Up-clause-part c = run_up_part c.args.log c.in-Up.log c.args.event.now c.run_up.result c.in-Up.is c.run_up.ensures.part

pub returns-in_ok-open-in-Open-clause-part : goal.returns-in_ok-open-in-Open-clause-part
returns-in_ok-open-in-Open-clause-part c = open_part c.args.log c.in-Down.disk c.args.event.now c.in_ok-open-in-Open.field-0 c.in-Down.is c.in-Open.is c.in_ok-open-in-Open.ensures
