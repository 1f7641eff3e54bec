use Rattle.std.proofs.Common.{◌≡◌, List, [], ◌∷◌, ◌++◌, length, refl, sym, ◌∙◌, ap, append_assoc, rules, arith}
use Rattle.std.specs.Vec.Iter.{into_iter_items}
use Rattle.chain_core.specs.declared.chain.Patch.{Patch}
use Rattle.patch_log.proofs.Runs.{run_more, no_append_yet, moments_more, grows_none, grows_more, rose_more}
use Rattle.patch_log.proofs.Writes.{any_moment as append_moments}
use Rattle.patch_log.proofs.appending.append_all.Goals as goal

pub returns-in_err-reserve-clause-any_moment : goal.returns-in_err-reserve-clause-any_moment
returns-in_err-reserve-clause-any_moment g c tells = no_append_yet g.D.Disk c.args.by c.args.log.now c.args.runs.items

pub loop-run-init : goal.loop-run-init
loop-run-init g c =
    let none : c.reserve.new.self.items ≡ [] = c.reserve.ensures.items ∙ c.new-answers.ensures in
    record {
      so_far = rw none refl;
      rest = search rules;
      grown = grows_none c.args.by c.args.log.now.entries;
      any_moment = λ tells. no_append_yet g.D.Disk c.args.by c.args.log.now c.args.runs.items;
      cause = rw none (omega arith);
      faults = omega arith;
      limits = refl;
      number = refl;
      mark = refl;
      room = grind arith;
    }

pub loop-run-preserved : goal.loop-run-preserved
loop-run-preserved g c =
    let old = c.args.log.now in
    let mid = c.loop-run.log in
    let new = c.append-answer.new.log in
    let run = c.in-Some.run' in
    let behind = into_iter_items c.next.new.self in
    let answers = c.loop-run.answers.items in
    let so = c.loop-run.invariant in
    let e = c.append-answer.ensures in
    let steps = c.in-Some.ensures.steps in
    let all : c.loop-run.yielded ++ run ∷ behind ≡ c.args.runs.items = ap (λ (l : List (List Patch)). c.loop-run.yielded ++ l) (sym steps.0) ∙ so.rest in
    record {
      so_far = rw c.in-Ok.ensures.ok (run_more g.D.Disk c.args.by old c.loop-run.yielded answers mid run c.append-answer.result new so.so_far e);
      rest = append_assoc c.loop-run.yielded (run ∷ []) behind ∙ all;
      grown = grows_more c.args.by run old.entries mid.entries new.entries c.append-answer.result so.grown e.accepted e.refused;
      any_moment = λ tells. moments_more g.D.Disk c.args.by old c.args.runs.items c.loop-run.yielded run behind answers mid new (sym all) so.number so.so_far (so.any_moment tells) (append_moments g.D.Disk mid new run c.args.by c.append-answer.result e tells);
      cause = rw c.in-Ok.ensures.ok (rose_more answers c.append-answer.result (g.D.Disk.faults old.disk) (g.D.Disk.faults mid.disk) (g.D.Disk.faults new.disk) so.cause e.went.cause e.went.never_falls);
      faults = omega (arith, e.went.never_falls, so.faults);
      limits = e.limits ∙ so.limits;
      number = e.number ∙ so.number;
      mark = e.went.mark ∙ so.mark;
      room = omega (arith, so.room, c.push.ensures.spare, ap length steps.0);
    }
