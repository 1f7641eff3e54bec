use Rattle.std.proofs.Common.{◌≡◌, List, length, sym, subst, ap, ◌∙◌, arith, rules, vec_len}
use Rattle.patch_log.specs.State.{LogView}
use Rattle.turn_cell.specs.Sights.{Made}
use Rattle.shared_log.specs.History.{LogSight}
use Rattle.hall_logs.specs.Ends.{AreEnded}
use Rattle.hall_logs.specs.Slots.{LogsOfHall, AreAllHallPasses}
use Rattle.hall_logs.specs.Rooms.{Room}
use Rattle.hall_logs.proofs.Ending.{Closing, begins, counted, longs, parts_are, one_more, ended}
use Rattle.hall_logs.proofs.Still.{all_still}
use Rattle.hall_logs.proofs.logs.HallLogs.close.Goals as goal

pub loop-log-init : goal.loop-log-init
loop-log-init g c =
    let whole : List (List LogSight) = c.args.passes.items in
    let logs : List (Made (LogView g.row.D.Denot)) = c.self.inside.logs.items in
    let hall : LogsOfHall g.row.D.Denot = c.args.self in
    let is = c.self.view_is in
    let are = subst (λ (h : LogsOfHall g.row.D.Denot). AreAllHallPasses g.D.Disk h.logs h.seats whole) (sym is) c.requires.passes in
    let start = begins g.D.Disk logs c.self.inside.seats whole are c.self.invariant.0 in
    let r = c.requires.rooms in
    let room_is = ap (λ (room : Room). room.disks) c.rooms.view_is in
    let count_is = ap (λ (room : Room). room.lists.count) c.rooms.view_is in
    let width_is = ap (λ (room : Room). room.lists.width) c.rooms.view_is in
    let many : vec_len c.self.inside.logs ≡ length hall.logs = omega (arith, c.self.inside.logs.ok.0, ap (λ (h : LogsOfHall g.row.D.Denot). length h.logs) is) in record {
      closing = subst (λ (z : LogsOfHall g.row.D.Denot × List g.row.D.Denot). Closing g.D.Disk z.0.logs z.0.seats whole logs whole z.1) (λ i. (is i, sym c.rooms.invariant i)) start;
      capacity = room_is;
      room = omega (arith, ap length c.rooms.invariant, c.rooms.inside.disks.ok.0, r.disks, room_is, many);
      lists = omega (arith, r.count, count_is, many);
      width = omega (arith, r.width, width_is);
    }

pub gather-requires-clause-some : goal.gather-requires-clause-some
gather-requires-clause-some g c =
    let l = c.loop-log in
    let rest : List (Made (LogView g.row.D.Denot)) = c.pop.new.self.items in
    let before = subst (λ (logs : List (Made (LogView g.row.D.Denot))). Closing g.D.Disk c.args.self.logs c.args.self.seats c.args.passes.items logs l.passes.items l.disks.items) c.in-Some.ensures.items l.invariant.closing in
    longs g.D.Disk c.args.self.logs c.args.self.seats c.args.passes.items rest c.in-Some.log l.passes.items l.disks.items before

pub gather-requires-clause-room : goal.gather-requires-clause-room
gather-requires-clause-room g c =
    let l = c.loop-log in
    let rest : List (Made (LogView g.row.D.Denot)) = c.pop.new.self.items in
    let before = subst (λ (logs : List (Made (LogView g.row.D.Denot))). Closing g.D.Disk c.args.self.logs c.args.self.seats c.args.passes.items logs l.passes.items l.disks.items) c.in-Some.ensures.items l.invariant.closing in
    (c.take-parts.ensures.room.0, omega (arith, l.passes.ok.0, counted g.D.Disk c.args.self.logs c.args.self.seats c.args.passes.items rest c.in-Some.log l.passes.items l.disks.items before, l.invariant.width, c.take-parts.ensures.room.1))

pub close-requires : goal.close-requires
close-requires g c =
    let l = c.loop-log in
    let rest : List (Made (LogView g.row.D.Denot)) = c.pop.new.self.items in
    let before = subst (λ (logs : List (Made (LogView g.row.D.Denot))). Closing g.D.Disk c.args.self.logs c.args.self.seats c.args.passes.items logs l.passes.items l.disks.items) c.in-Some.ensures.items l.invariant.closing in
    let after : List (List LogSight) = c.gather.new.passes.items in
    let parts : List LogSight = c.gather.new.parts.items in
    parts_are g.D.Disk c.args.self.logs c.args.self.seats c.args.passes.items rest c.in-Some.log l.passes.items l.disks.items before after parts c.gather.ensures.gathered
    (omega (arith, c.gather.new.passes.ok.0, l.passes.ok.0, c.gather.ensures.passes)) (omega (arith, c.gather.new.parts.ok.0, l.passes.ok.0, c.gather.ensures.parts))

pub loop-log-preserved : goal.loop-log-preserved
loop-log-preserved g c =
    let l = c.loop-log in
    let rest : List (Made (LogView g.row.D.Denot)) = c.pop.new.self.items in
    let before = subst (λ (logs : List (Made (LogView g.row.D.Denot))). Closing g.D.Disk c.args.self.logs c.args.self.seats c.args.passes.items logs l.passes.items l.disks.items) c.in-Some.ensures.items l.invariant.closing in
    let after : List (List LogSight) = c.gather.new.passes.items in
    let parts : List LogSight = c.gather.new.parts.items in
    let disk = c.close-in-Some.result in
    let end = ended g.D.Disk c.in-Some.log parts c.close.result disk c.close-in-Some.ensures.disk c.close.ensures.closed (g.met.D.Disk.reads_may_be_left disk) in
    let next = one_more g.D.Disk c.args.self.logs c.args.self.seats c.args.passes.items rest c.in-Some.log l.passes.items l.disks.items before after parts c.gather.ensures.gathered
    (omega (arith, c.gather.new.passes.ok.0, l.passes.ok.0, c.gather.ensures.passes)) (omega (arith, c.gather.new.parts.ok.0, l.passes.ok.0, c.gather.ensures.parts)) disk end in
    let p = c.push_reserved.ensures in
    let popped = c.in-Some.ensures.cases in record {
      closing = subst (λ (given : List g.row.D.Denot). Closing g.D.Disk c.args.self.logs c.args.self.seats c.args.passes.items rest after given) (sym p.items) next;
      capacity = p.capacity ∙ l.invariant.capacity;
      room = omega (arith, l.invariant.room, p.len, p.capacity, popped);
      lists = omega (arith, l.invariant.lists, popped, c.take-parts.ensures.left.0);
      width = omega (arith, l.invariant.width, c.take-parts.ensures.left.1);
    }

pub returns-clause-idle : goal.returns-clause-idle
returns-clause-idle g c = λ new.
    let hall : LogsOfHall g.row.D.Denot = c.args.self in
    let ends : AreEnded g.D.Disk 0 hall.logs c.args.passes.items c.reverse.new.self.items = search rules in
    all_still g.D.Disk hall.logs c.args.passes.items new c.reverse.new.self.items ends
