use Rattle.std.proofs.Common.{◌≤◌, length, ap, subst, sym, arith}
use Rattle.std.proofs.lemmas.Result.{on_ok_weaker}
use Rattle.log_base.specs.Journals.{payloads_length}
use Rattle.disk_model.specs.Past.{reads, ok_syncs}
use Rattle.log_journal.specs.Filling.{behind_gate}
use Rattle.log_journal.proofs.Numbered.{no_shorter, same_syncs, gate_longer, length_after}
use Rattle.log_journal.specs.Writing.{WroteBehind}
use Rattle.log_journal.proofs.Fillings.{first_failed, gate_moments, gate_ok, length_behind}
use Rattle.log_journal.proofs.filling.fill_behind.Goals as goal

pub returns-in_err-write_bodies-clause-any_moment : goal.returns-in_err-write_bodies-clause-any_moment
returns-in_err-write_bodies-clause-any_moment g c told number all = first_failed number c.args.payloads.now c.requires.some c.requires.sized c.requires.few (g.D.Disk.past c.args.disk.now) (g.D.Disk.past c.write_bodies.new.disk) all (c.write_bodies.ensures.behind told)

pub returns-in_err-sync-clause-any_moment : goal.returns-in_err-sync-clause-any_moment
returns-in_err-sync-clause-any_moment g c told number all =
    let behind = subst (WroteBehind 9 (g.D.Disk.past c.args.disk.now)) (sym (c.in_err-sync.ensures.err told)) (c.write_bodies.ensures.behind told) in
    first_failed number c.args.payloads.now c.requires.some c.requires.sized c.requires.few (g.D.Disk.past c.args.disk.now) (g.D.Disk.past c.sync.new.self) all behind

pub returns-clause-any_moment : goal.returns-clause-any_moment
returns-clause-any_moment g c told number all =
    gate_moments number c.args.payloads.now c.requires.some c.requires.sized c.requires.few (g.D.Disk.past c.args.disk.now) (g.D.Disk.past c.write_bodies.new.disk) (g.D.Disk.past c.sync.new.self) (g.D.Disk.past c.write_synced.new.disk)
    (g.met.D.Disk.reads_may_be_left c.args.disk.now told) (g.met.D.Disk.reads_may_be_left c.sync.new.self told) all (c.write_bodies.ensures.behind told) (c.in_ok-write_bodies.ensures.ok told) (c.in_ok-sync.ensures.ok told) c.write_synced.result (c.write_synced.ensures.ok told) (c.write_synced.ensures.err told)

pub returns-clause-ok : goal.returns-clause-ok
returns-clause-ok g c told number all =
    gate_ok number c.args.payloads.now c.requires.some c.requires.sized c.requires.few (g.D.Disk.past c.args.disk.now) (g.D.Disk.past c.write_bodies.new.disk) (g.D.Disk.past c.sync.new.self) (g.D.Disk.past c.write_synced.new.disk)
    (g.met.D.Disk.reads_may_be_left c.args.disk.now told) (g.met.D.Disk.reads_may_be_left c.sync.new.self told) all (c.write_bodies.ensures.behind told) (c.in_ok-write_bodies.ensures.ok told) (c.in_ok-sync.ensures.ok told) c.write_synced.result (c.write_synced.ensures.ok told)

pub returns-in_err-write_bodies-clause-no_shorter : goal.returns-in_err-write_bodies-clause-no_shorter
returns-in_err-write_bodies-clause-no_shorter g c told = no_shorter 9 (g.D.Disk.past c.args.disk.now) (g.D.Disk.past c.write_bodies.new.disk) (c.write_bodies.ensures.behind told)

pub returns-in_err-sync-clause-no_shorter : goal.returns-in_err-sync-clause-no_shorter
returns-in_err-sync-clause-no_shorter g c told = omega (arith, no_shorter 9 (g.D.Disk.past c.args.disk.now) (g.D.Disk.past c.write_bodies.new.disk) (c.write_bodies.ensures.behind told), ap (λ p. length (reads p)) (c.in_err-sync.ensures.err told))

pub returns-clause-no_shorter : goal.returns-clause-no_shorter
returns-clause-no_shorter g c told = omega (
  arith,
  no_shorter 9 (g.D.Disk.past c.args.disk.now) (g.D.Disk.past c.write_bodies.new.disk) (c.write_bodies.ensures.behind told),
  ap (λ p. length (reads p)) (c.in_ok-sync.ensures.ok told),
  gate_longer (g.D.Disk.past c.sync.new.self) (g.D.Disk.past c.write_synced.new.disk) c.write_synced.result (c.write_synced.ensures.ok told) (c.write_synced.ensures.err told),
)

pub returns-clause-reaches : goal.returns-clause-reaches
returns-clause-reaches g c told =
    let old = g.D.Disk.past c.args.disk.now in
    let longer = gate_longer (g.D.Disk.past c.sync.new.self) (g.D.Disk.past c.write_synced.new.disk) c.write_synced.result (c.write_synced.ensures.ok told) (c.write_synced.ensures.err told) in
    let all : payloads_length c.args.payloads.now ≤ length (reads (g.D.Disk.past c.write_synced.new.disk)) = omega (
      arith,
      longer,
      ap (λ p. length (reads p)) (c.in_ok-sync.ensures.ok told),
      ap length (c.in_ok-write_bodies.ensures.ok told),
      length_after (reads old) (behind_gate c.args.payloads.now 0) 9 (c.requires.begun told),
      length_behind c.args.payloads.now 0,
    ) in
    on_ok_weaker c.write_synced.result (λ done. all) (c.write_synced.ensures.ok told)

pub returns-clause-syncs : goal.returns-clause-syncs
returns-clause-syncs g c told =
    let before = same_syncs 9 (g.D.Disk.past c.args.disk.now) (g.D.Disk.past c.write_bodies.new.disk) (c.write_bodies.ensures.behind told) in
    on_ok_weaker c.write_synced.result (λ done. omega (arith, before, ap ok_syncs (c.in_ok-sync.ensures.ok told), ap ok_syncs done)) (c.write_synced.ensures.ok told)
