use Rattle.std.proofs.Common.{◌≡◌, ◌++◌, ◌∷◌, [], List, map, length, length-append, refl, sym, subst, ap, ◌∙◌, arith}
use Rattle.std.specs.Prelude.{reverse}
use Rattle.patch_log.specs.State.{LogView}
use Rattle.turn_cell.specs.Turns.{AllOf}
use Rattle.turn_cell.specs.Sights.{Made}
use Rattle.turn_cell.proofs.PassLists.{all_front}
use Rattle.shared_log.specs.History.{LogSight}
use Rattle.std.specs.List.{AllZip}
use Rattle.hall_logs.specs.Files.{IsFresh, IsDiskOf}
use Rattle.hall_logs.specs.Rooms.{Room}
use Rattle.hall_logs.specs.Slots.{LogsOfHall, AreNew}
use Rattle.hall_logs.proofs.Shares.{lengths_new, shares_none, shares_one}
use Rattle.hall_logs.proofs.logs.HallLogs.share.Goals as goal

pub loop-log-init : goal.loop-log-init
loop-log-init g c =
    let r = c.requires in record {
      sharing = shares_none g.D.Disk c.args.self c.args.opened.items c.args.passes.items r.none r.passes.1 (omega (arith, r.passes.0, c.args.passes.ok.0));
      seats = refl;
      left = omega (arith, ap length r.none);
      fresh = r.fresh;
      lists = ap (λ (room : Room). room.lists.count) c.rooms.view_is ∙ r.rooms.0 ∙ sym (ap length r.none);
      width = ap (λ (room : Room). room.lists.width) c.rooms.view_is ∙ r.rooms.1;
    }

pub add-requires-clause-fresh : goal.add-requires-clause-fresh
add-requires-clause-fresh g c =
    (all_front (IsFresh g.D.Disk) c.pop.new.self.items c.in-Some.log (subst (AllOf (IsFresh g.D.Disk)) c.in-Some.ensures.items c.loop-log.invariant.fresh)).1

pub add-requires-clause-parts : goal.add-requires-clause-parts
add-requires-clause-parts g c = lengths_new g.D.Disk c.loop-log.hall.logs 1 c.loop-log.passes.items c.loop-log.invariant.sharing.new

pub give_up-requires-clause-passes : goal.give_up-requires-clause-passes
give_up-requires-clause-passes g c =
    let l = c.loop-log in
    let e = c.in-Err.ensures.err in
    let new = subst (λ (z : LogsOfHall g.row.D.Denot × List (List LogSight)). AreNew g.D.Disk z.0.logs 1 z.1) (λ i. (sym e.1 i, sym e.2 i)) l.invariant.sharing.new in
    (new, omega (arith, c.add.ensures.count, l.passes.ok.0, l.invariant.sharing.count, ap (λ (h : LogsOfHall g.row.D.Denot). h.seats) e.1))

pub returns-in-Err-clause-still : goal.returns-in-Err-clause-still
returns-in-Err-clause-still g c =
    let l = c.loop-log in
    let e = c.in-Err.ensures.err in
    let origin = λ (log : Made (LogView g.row.D.Denot)). log.origin in
    let rest : List (LogView g.row.D.Denot) = c.pop.new.self.items in
    let again : c.push_reserved.new.self.items ≡ l.opened.items = c.push_reserved.ensures.items ∙ ap (λ (log : LogView g.row.D.Denot). rest ++ log ∷ []) e.0 ∙ sym c.in-Some.ensures.items in
    let is : map origin c.add.new.self.logs ++ reverse c.push_reserved.new.self.items ≡ reverse c.args.opened.items = (λ i. map origin ((e.1 i).logs) ++ reverse (again i)) ∙ l.invariant.sharing.order in
    subst (λ (logs : List (LogView g.row.D.Denot)). AllZip (IsDiskOf g.D.Disk) logs c.give_up.result.disks.items) is c.give_up.ensures.still

pub loop-log-preserved : goal.loop-log-preserved
loop-log-preserved g c =
    let l = c.loop-log in
    let rest : List (LogView g.row.D.Denot) = c.pop.new.self.items in
    let one = c.in-Ok.ensures.ok in record {
      sharing = shares_one g.D.Disk (reverse c.args.opened.items) l.hall c.add.new.self l.opened.items rest c.in-Some.log l.passes.items c.add.new.passes.items c.in-Some.ensures.items l.invariant.sharing one;
      seats = one.seats_are ∙ l.invariant.seats;
      left = omega (arith, l.invariant.left, c.in-Some.ensures.cases, ap length one.logs_are, length-append l.hall.logs (one.log ∷ []));
      fresh = (all_front (IsFresh g.D.Disk) rest c.in-Some.log (subst (AllOf (IsFresh g.D.Disk)) c.in-Some.ensures.items l.invariant.fresh)).0;
      lists = c.in-Ok.ensures.lists.0;
      width = c.in-Ok.ensures.lists.1 ∙ l.invariant.width;
    }
