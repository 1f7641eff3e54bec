use Rattle.hall_logs.proofs.Parts.{on_slot}
use Rattle.hall_logs.proofs.logs.HallLogs.append.Goals as goal

pub returns-clause-whole : goal.returns-clause-whole
returns-clause-whole g c = on_slot g.D.Disk c.log_of-log.ensures c.part_mut.ensures.value _ c.append.ensures.whole

pub returns-clause-called : goal.returns-clause-called
returns-clause-called g c = on_slot g.D.Disk c.log_of-log.ensures c.part_mut.ensures.value _ c.append.ensures.called

pub returns-clause-alone : goal.returns-clause-alone
returns-clause-alone g c = λ patch is. on_slot g.D.Disk c.log_of-log.ensures c.part_mut.ensures.value _ (c.append.ensures.alone patch is)
