use Rattle.std.proofs.Common.{List, length, ◌≡◌, ◌∙◌, ap, subst, sym}
use Rattle.shared_log.specs.History.{LogSight}
use Rattle.hall_logs.specs.Slots.{AreAllHallPasses}
use Rattle.hall_logs.proofs.Visiting.{passes_stay}
use Rattle.hall_tests.proofs.Passes.{each_visits, whole}
use Rattle.hall_tests.proofs.threads.append_all.Goals as goal

pub returns : goal.returns
returns g c =
    let logs = c.args.hall.now.logs in
    let items : List (List LogSight) = c.args.passes.now.items in
    let before : List (List LogSight) = c.deref_mut.result.now in
    let after : List (List LogSight) = c.append_each.new.passes in
    let value : before ≡ items = c.deref_mut.ensures.value in
    let e = c.append_each.ensures in
    let count : length after ≡ length items = e.count ∙ ap length value in
    let all = subst (λ (passes : List (List LogSight)). AreAllHallPasses g.D.Disk logs 2 passes) (sym value) c.requires.all in
    let stay = passes_stay g.D.Disk logs 2 before after (each_visits g.D.Disk logs before after e.count e.each) all in
    subst (λ (passes : List (List LogSight)). AreAllHallPasses g.D.Disk logs 2 passes)
    (sym (whole c.args.passes.now.len items after c.args.passes.now.ok.0 count)) stay
