use Rattle.std.proofs.Common.{inl, inr, ℕ, List, Option, Some, refl, sym, subst}
use Rattle.disk_model.specs.Past.{LeavesOnly}
use Rattle.disk_model.proofs.Moments.{leaves}
use Rattle.log_journal.specs.Front.{HasFront}
use Rattle.log_journal.specs.StandsFor.{disk_of}
use Rattle.zone_files.specs.Pair.{MayBeOther}
use Rattle.zone_beside.specs.Beside.{MayHoldBeside, MayHoldWriting, IsLeftBehind}
use Rattle.zone_beside.specs.StandsBehind.{StandsBehind}
use Rattle.zone_beside.proofs.Besides.{beside_front, emptied, written, not_written, ok_by, err_by}
use Rattle.zone_beside.proofs.beside.Beside.write.Goals as goal

pub restart-requires-clause-sound : goal.restart-requires-clause-sound
restart-requires-clause-sound g c = λ told image left.
    subst (λ (n : ℕ). HasFront image n) (sym c.file_number.ensures)
    (beside_front c.args.self.on_second c.args.self.generation c.args.self.later c.requires.stands.0 image (c.requires.stands.1.1 told image left))

pub returns-in-Err-clause-err : goal.returns-in-Err-clause-err
returns-in-Err-clause-err g c = λ doubt stands. (
  doubt,
  inl refl,
  (
    stands.0,
    λ told. leaves (MayHoldBeside c.args.self.on_second c.args.self.generation doubt) (g.D.Disk.past c.args.self.disk) (g.D.Disk.past c.in-Err.field-0.disk)
        (emptied c.args.self.on_second c.args.self.generation c.args.self.later c.file_number.result doubt (g.D.Disk.past c.args.self.disk) (g.D.Disk.past c.in-Err.field-0.disk) c.file_number.ensures (stands.1 told) (c.in-Err.ensures.any_moment_refused told)),
  ),
)

pub returns-in-Err-clause-any_moment_refused : goal.returns-in-Err-clause-any_moment_refused
returns-in-Err-clause-any_moment_refused g c = λ told doubt stands.
    not_written c.args.self.on_second c.args.self.generation c.args.self.later doubt c.args.payload.now (g.D.Disk.past c.args.self.disk) (g.D.Disk.past c.in-Err.field-0.disk)
    (emptied c.args.self.on_second c.args.self.generation c.args.self.later c.file_number.result doubt (g.D.Disk.past c.args.self.disk) (g.D.Disk.past c.in-Err.field-0.disk) c.file_number.ensures (stands.1 told) (c.in-Err.ensures.any_moment_refused told))

pub returns-in-Ok-clause-err : goal.returns-in-Ok-clause-err
returns-in-Ok-clause-err g c = λ doubt stands.
    err_by (λ refusal. StandsBehind refusal.beside (Some c.args.payload.now)) (λ refusal. (left : Option (List ℕ)) × IsLeftBehind doubt c.args.payload.now left × StandsBehind refusal.beside left) c.fill.result
    (λ refusal behind. (Some c.args.payload.now, inr refl, behind)) c.fill.ensures.err

pub returns-in-Ok-clause-any_moment : goal.returns-in-Ok-clause-any_moment
returns-in-Ok-clause-any_moment g c = λ told doubt stands.
    ok_by (λ journal. LeavesOnly (MayBeOther c.args.self.on_second c.args.self.generation c.args.payload.now) (g.D.Disk.past c.in-Ok.journal.disk) (g.D.Disk.past (disk_of journal)))
    (λ journal. LeavesOnly (MayHoldWriting c.args.self.on_second c.args.self.generation doubt c.args.payload.now) (g.D.Disk.past c.args.self.disk) (g.D.Disk.past (disk_of journal))) c.fill.result
    (λ journal filling. written c.args.self.on_second c.args.self.generation c.args.self.later doubt c.args.payload.now (g.D.Disk.past c.args.self.disk) (g.D.Disk.past c.in-Ok.journal.disk) (g.D.Disk.past (disk_of journal))
    (emptied c.args.self.on_second c.args.self.generation c.args.self.later c.file_number.result doubt (g.D.Disk.past c.args.self.disk) (g.D.Disk.past c.in-Ok.journal.disk) c.file_number.ensures (stands.1 told) (c.in-Ok.ensures.any_moment told)) filling) (c.fill.ensures.any_moment told)

pub returns-in-Ok-clause-any_moment_refused : goal.returns-in-Ok-clause-any_moment_refused
returns-in-Ok-clause-any_moment_refused g c = λ told doubt stands.
    err_by (λ refusal. LeavesOnly (MayBeOther c.args.self.on_second c.args.self.generation c.args.payload.now) (g.D.Disk.past c.in-Ok.journal.disk) (g.D.Disk.past refusal.beside.disk))
    (λ refusal. LeavesOnly (MayHoldWriting c.args.self.on_second c.args.self.generation doubt c.args.payload.now) (g.D.Disk.past c.args.self.disk) (g.D.Disk.past refusal.beside.disk)) c.fill.result
    (λ refusal filling. written c.args.self.on_second c.args.self.generation c.args.self.later doubt c.args.payload.now (g.D.Disk.past c.args.self.disk) (g.D.Disk.past c.in-Ok.journal.disk) (g.D.Disk.past refusal.beside.disk)
    (emptied c.args.self.on_second c.args.self.generation c.args.self.later c.file_number.result doubt (g.D.Disk.past c.args.self.disk) (g.D.Disk.past c.in-Ok.journal.disk) c.file_number.ensures (stands.1 told) (c.in-Ok.ensures.any_moment told)) filling) (c.fill.ensures.any_moment_refused told)
