use Rattle.std.proofs.Common.{ℕ, List, refl, sym, subst, not}
use Rattle.disk_model.specs.Past.{LeavesOnly}
use Rattle.disk_model.proofs.Moments.{leaves}
use Rattle.log_journal.specs.StandsFor.{StandsFor}
use Rattle.zone_files.specs.Generation.{number_of}
use Rattle.zone_files.specs.Pair.{MayBeOther}
use Rattle.zone_beside.proofs.Besides.{filled_moments}
use Rattle.zone_beside.proofs.filling.fill.Goals as goal

pub returns-in-Ok-clause-ok : goal.returns-in-Ok-clause-ok
returns-in-Ok-clause-ok g c =
    subst (λ (payloads : List (List ℕ)). StandsFor c.fill.new.self (number_of (not c.args.on_second)) payloads) c.payloads.ensures (c.in-Ok.ensures.ok (number_of (not c.args.on_second)) c.requires.stands)

pub returns-in-Ok-clause-any_moment : goal.returns-in-Ok-clause-any_moment
returns-in-Ok-clause-any_moment g c = λ told.
    filled_moments c.args.on_second c.args.generation c.requires.later c.payloads.result.now.items c.args.payload.now (g.D.Disk.past c.args.journal.disk) (g.D.Disk.past c.fill.new.self.disk) c.payloads.ensures (c.in-Ok.ensures.any_moment (number_of (not c.args.on_second)) c.requires.stands told)

pub returns-in-Err-clause-any_moment_refused : goal.returns-in-Err-clause-any_moment_refused
returns-in-Err-clause-any_moment_refused g c = λ told.
    subst (λ disk. LeavesOnly (MayBeOther c.args.on_second c.args.generation c.args.payload.now) (g.D.Disk.past c.args.journal.disk) (g.D.Disk.past disk)) (sym c.close.ensures)
    (filled_moments c.args.on_second c.args.generation c.requires.later c.payloads.result.now.items c.args.payload.now (g.D.Disk.past c.args.journal.disk) (g.D.Disk.past c.fill.new.self.disk) c.payloads.ensures (c.in-Err.ensures.any_moment (number_of (not c.args.on_second)) c.requires.stands told))

pub returns-in-Err-clause-err : goal.returns-in-Err-clause-err
returns-in-Err-clause-err g c = (
  refl,
  λ told. leaves (MayBeOther c.args.on_second c.args.generation c.args.payload.now) (g.D.Disk.past c.args.journal.disk) (g.D.Disk.past c.close.result) (returns-in-Err-clause-any_moment_refused g c told),
)
