use Rattle.std.proofs.Common.{◌≡◌, ◌≤◌, List, ℕ, ◌∙◌, ap, refl, arith}
use Rattle.std.specs.Int.{w32, to_be_bytes}
use Rattle.std.proofs.lemmas.Result.{on_ok_weaker, on_err_weaker, err_from_is_err_and}
use Rattle.disk_model.specs.Past.{wrote}
use Rattle.log_journal.proofs.Numbered.{none_behind, some_behind, two_behind, second_failed}
use Rattle.log_journal.proofs.synced_writes.write_numbered.Goals as goal

pub returns-in_err-write_at-clause-err : goal.returns-in_err-write_at-clause-err
returns-in_err-write_at-clause-err g c told =
    let old = g.D.Disk.past c.args.disk.now in
    let p = err_from_is_err_and c.from_residual.result c.from_residual.ensures.1 in
    let here : c.args.at ≤ c.args.at = omega arith in
    rw p.1 (some_behind c.args.at old old (g.D.Disk.past c.write_at.new.self) c.args.at _ here (none_behind c.args.at old) (c.in_err-write_at.ensures.err told))

pub returns-clause-ok : goal.returns-clause-ok
returns-clause-ok g c told =
    let old = g.D.Disk.past c.args.disk.now in
    let number = to_be_bytes w32 c.args.number in
    let first : g.D.Disk.past c.write_at.new.self ≡ wrote old c.args.at number = c.in_ok-write_at.ensures.ok told ∙ ap (λ (l : List ℕ). wrote old c.args.at l) c.to_be_bytes.ensures in
    on_ok_weaker c.write_synced.result (two_behind old (g.D.Disk.past c.write_at.new.self) (g.D.Disk.past c.write_synced.new.disk) c.args.at number c.args.bytes.now (c.requires.within told) refl first) (c.write_synced.ensures.ok told)

pub returns-clause-err : goal.returns-clause-err
returns-clause-err g c told =
    let old = g.D.Disk.past c.args.disk.now in
    let number = to_be_bytes w32 c.args.number in
    let first : g.D.Disk.past c.write_at.new.self ≡ wrote old c.args.at number = c.in_ok-write_at.ensures.ok told ∙ ap (λ (l : List ℕ). wrote old c.args.at l) c.to_be_bytes.ensures in
    on_err_weaker c.write_synced.result (second_failed old (g.D.Disk.past c.write_at.new.self) (g.D.Disk.past c.write_synced.new.disk) c.args.at number c.args.bytes.now (c.requires.within told) refl first) (c.write_synced.ensures.err told)
