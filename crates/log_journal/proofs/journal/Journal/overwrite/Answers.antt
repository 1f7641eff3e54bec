use Rattle.std.proofs.Common.{refl}
use Rattle.log_journal.proofs.Emptying.{written_over}
use Rattle.log_journal.proofs.journal.Journal.overwrite.Goals as goal

pub returns-in-Ok-clause-stands : goal.returns-in-Ok-clause-stands
returns-in-Ok-clause-stands g c = (refl, (λ told. written_over c.args.number (g.D.Disk.past c.args.disk) (g.D.Disk.past c.write_empty.new.disk) (c.in-Ok.ensures.ok told)), refl)
