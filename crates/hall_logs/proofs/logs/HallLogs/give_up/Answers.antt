use Rattle.std.proofs.Common.{◌++◌, List, map, refl, sym, subst, ◌∙◌, arith}
use Rattle.std.specs.Prelude.{reverse}
use Rattle.patch_log.specs.State.{LogView}
use Rattle.turn_cell.specs.Sights.{Made}
use Rattle.hall_logs.specs.Slots.{LogsOfHall}
use Rattle.hall_logs.proofs.Shares.{all_new}
use Rattle.hall_logs.proofs.Still.{GivingUp, gives_one, as_many_ended}
use Rattle.hall_logs.proofs.logs.HallLogs.give_up.Goals as goal

pub close-disks-requires-clause-passes : goal.close-disks-requires-clause-passes
close-disks-requires-clause-passes g c =
    all_new g.D.Disk c.args.self.logs c.args.self.seats c.args.passes.items c.requires.passes.0 (omega (arith, c.args.passes.ok.0, c.requires.passes.1))

pub loop-log-init : goal.loop-log-init
loop-log-init g c =
    let hall : LogsOfHall g.row.D.Denot = c.args.self in
    let disks : List g.row.D.Denot = c.close-disks.result.items in
    let ends = c.close-disks.ensures.ends in
    let many = as_many_ended g.D.Disk 0 hall.logs c.args.passes.items disks ends in record {
      giving = record {
        done = map (λ (log : Made (LogView g.row.D.Denot)). log.origin) hall.logs;
        all_is = refl;
        still = c.close-disks.ensures.idle c.requires.passes.0;
      };
      capacity = c.close-disks.ensures.room;
      room = omega (arith, many, c.close-disks.result.ok.0, c.requires.room, c.close-disks.ensures.room);
    }

pub loop-log-preserved : goal.loop-log-preserved
loop-log-preserved g c =
    let l = c.loop-log in
    let rest : List (LogView g.row.D.Denot) = c.pop.new.self.items in
    let all = map (λ (log : Made (LogView g.row.D.Denot)). log.origin) c.args.self.logs ++ reverse c.args.opened.items in
    let next = gives_one g.D.Disk all l.opened.items rest c.in-Some.log l.disks.items c.close.result c.in-Some.ensures.items c.close.ensures.disk l.invariant.giving in
    let p = c.push_reserved.ensures in record {
      giving = subst (λ (left : List g.row.D.Denot). GivingUp g.D.Disk all rest left) (sym p.items) next;
      capacity = p.capacity ∙ l.invariant.capacity;
      room = omega (arith, l.invariant.room, p.len, p.capacity, c.in-Some.ensures.cases);
    }
