use Rattle.std.proofs.Common.{◌≡◌, inl, [], ◌∷◌, sym, subst}
use Rattle.disk_model.specs.Past.{LeavesOnly}
use Rattle.disk_model.proofs.Moments.{starts}
use Rattle.log_journal.specs.Payload.{payload_of}
use Rattle.journal_upgrade.specs.Marker.{IsMarking}
use Rattle.journal_upgrade.proofs.Marker.{restarted, then_marked}
use Rattle.journal_upgrade.proofs.marking.mark_disk.Goals as goal

pub returns-in_default-clause-any_moment : goal.returns-in_default-clause-any_moment
returns-in_default-clause-any_moment g c told = starts (IsMarking c.args.number) (g.D.Disk.past c.args.marker) (λ image left. inl (c.requires told image left))

pub returns-in-Ok-restart-clause-any_moment : goal.returns-in-Ok-restart-clause-any_moment
returns-in-Ok-restart-clause-any_moment g c told =
    let old = g.D.Disk.past c.args.marker in
    let mid = g.D.Disk.past c.in-Ok-restart.journal.disk in
    let new = g.D.Disk.past c.append.new.self.disk in
    let first = restarted old mid c.args.number (c.requires told) (c.in-Ok-restart.ensures.any_moment told) in
    let second = c.append.ensures.any_moment c.args.number [] c.in-Ok-restart.ensures.stands told in
    let is : payload_of c.in-Ok.block ≡ 85 ∷ [] = c.in-Ok.ensures in
    subst (λ d. LeavesOnly (IsMarking c.args.number) old (g.D.Disk.past d)) (sym c.close.ensures) (then_marked old mid new c.args.number (payload_of c.in-Ok.block) is first second)
