use Rattle.std.proofs.lemmas.Result.{IfOk-weaker, on_err_weaker}
use Rattle.hall_logs.proofs.Parts.{on_slot}
use Rattle.hall_logs.proofs.logs.HallLogs.fetch_id.Goals as goal

pub returns-clause-whole : goal.returns-clause-whole
returns-clause-whole g c = on_slot g.D.Disk c.log_of-log.ensures c.part_mut.ensures.value _ c.fetch_id.ensures.whole

pub returns-clause-called : goal.returns-clause-called
returns-clause-called g c = IfOk-weaker c.fetch_id.result _ _ (λ fetched called. on_slot g.D.Disk c.log_of-log.ensures c.part_mut.ensures.value _ called) c.fetch_id.ensures.called

pub returns-clause-want : goal.returns-clause-want
returns-clause-want g c = on_err_weaker c.fetch_id.result (λ want. on_slot g.D.Disk c.log_of-log.ensures c.part_mut.ensures.value _ want) c.fetch_id.ensures.want
