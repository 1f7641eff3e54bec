use Rattle.std.proofs.Common.{ℕ, [], refl, sym, ◌∙◌, subst, not}
use Rattle.disk_model.specs.Past.{LeavesOnly}
use Rattle.disk_model.proofs.Moments.{starts, leaves}
use Rattle.log_journal.specs.StandsFor.{StandsFor}
use Rattle.zone_files.specs.Generation.{unmarked}
use Rattle.zone_beside.specs.Beside.{MayHoldBeside}
use Rattle.zone_beside.proofs.Besides.{emptied, empty_earlier}
use Rattle.zone_beside.proofs.beside.Beside.settle.Goals as goal

pub returns-then-not-self-clause-any_moment : goal.returns-then-not-self-clause-any_moment
returns-then-not-self-clause-any_moment g c = λ told doubt stands.
    starts (MayHoldBeside c.args.self.on_second c.args.self.generation doubt) (g.D.Disk.past c.args.self.disk) (stands.1 told)

pub returns-in-Ok-clause-ok : goal.returns-in-Ok-clause-ok
returns-in-Ok-clause-ok g c =
    c.left_by.ensures.stands [] (unmarked (not c.args.self.on_second)) refl (empty_earlier c.args.self.on_second c.args.self.generation c.args.self.later)
    (subst (λ (n : ℕ). StandsFor c.in-Ok.journal n []) c.file_number.ensures c.in-Ok.ensures.stands)

pub returns-in-Ok-clause-any_moment : goal.returns-in-Ok-clause-any_moment
returns-in-Ok-clause-any_moment g c = λ told doubt stands.
    subst (λ disk. LeavesOnly (MayHoldBeside c.args.self.on_second c.args.self.generation doubt) (g.D.Disk.past c.args.self.disk) (g.D.Disk.past disk)) (sym c.left_by.ensures.disk)
    (emptied c.args.self.on_second c.args.self.generation c.args.self.later c.file_number.result doubt (g.D.Disk.past c.args.self.disk) (g.D.Disk.past c.in-Ok.journal.disk) c.file_number.ensures (stands.1 told) (c.in-Ok.ensures.any_moment told))

pub returns-in-Err-clause-err : goal.returns-in-Err-clause-err
returns-in-Err-clause-err g c = λ doubt stands. (
  sym c.if-not-self.false ∙ stands.0,
  λ told. leaves (MayHoldBeside c.args.self.on_second c.args.self.generation doubt) (g.D.Disk.past c.args.self.disk) (g.D.Disk.past c.in-Err.field-0.disk)
      (emptied c.args.self.on_second c.args.self.generation c.args.self.later c.file_number.result doubt (g.D.Disk.past c.args.self.disk) (g.D.Disk.past c.in-Err.field-0.disk) c.file_number.ensures (stands.1 told) (c.in-Err.ensures.any_moment_refused told)),
)

pub returns-in-Err-clause-any_moment : goal.returns-in-Err-clause-any_moment
returns-in-Err-clause-any_moment g c = λ told doubt stands.
    emptied c.args.self.on_second c.args.self.generation c.args.self.later c.file_number.result doubt (g.D.Disk.past c.args.self.disk) (g.D.Disk.past c.in-Err.field-0.disk) c.file_number.ensures (stands.1 told) (c.in-Err.ensures.any_moment_refused told)
