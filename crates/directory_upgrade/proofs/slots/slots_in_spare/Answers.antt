use Rattle.std.proofs.Common.{sym, subst}
use Rattle.disk_model.specs.Past.{Keeps}
use Rattle.disk_model.proofs.Moments.{kept}
use Rattle.directory_upgrade.proofs.slots.slots_in_spare.Goals as goal

pub returns-in-Ok-eq0-clause-kept : goal.returns-in-Ok-eq0-clause-kept
returns-in-Ok-eq0-clause-kept g c told = subst (Keeps (g.D.Disk.past c.args.disk.now)) (sym c.len.ensures.past) (kept (g.D.Disk.past c.args.disk.now))

pub returns-in-Err-clause-kept : goal.returns-in-Err-clause-kept
returns-in-Err-clause-kept g c told = subst (Keeps (g.D.Disk.past c.args.disk.now)) (sym c.len.ensures.past) (kept (g.D.Disk.past c.args.disk.now))
