use Rattle.std.proofs.Common.{◌∙◌, ◌++◌, ◌∷◌, [], List, sym, ap, subst, arith}
use Rattle.std.specs.Prelude.{reverse}
use Rattle.turn_cell.specs.Turns.{AllOf}
use Rattle.delta_session.specs.Halls.{IsHallPass}
use Rattle.delta_session.specs.Sessions.{WorkerView}
use Rattle.delta_session.specs.Steps.{HallSight}
use Rattle.delta_session.specs.Working.{workers_of}
use Rattle.delta_session.proofs.Posts.{all_but_last, workers_one}
use Rattle.delta_session.proofs.serving.engage.Goals as goal

pub loop-pass-preserved : goal.loop-pass-preserved
loop-pass-preserved g c =
    let l = c.loop-pass in
    let hall = c.args.hall.now in
    let rest : List HallSight = c.pop.new.self.items in
    let popped = c.in-Some.ensures in
    let p = c.push_reserved.ensures in
    let whole : List (WorkerView g.row.D.Denot) = workers_of hall c.args.passes.now.items in
    let worker = c.new.ensures.worker in record {
      of = all_but_last (λ (pass : HallSight). IsHallPass g.D.Disk hall pass.lists) rest c.in-Some.pass (subst (AllOf (λ (pass : HallSight). IsHallPass g.D.Disk hall pass.lists)) popped.items l.invariant.of);
      workers = workers_one hall whole l.passes.items rest l.workers.items c.in-Some.pass l.invariant.workers popped.items
          ∙ (λ i. workers_of hall rest ++ reverse (l.workers.items ++ record { hall = sym worker.0 i; pass = sym worker.1 i } ∷ []))
          ∙ ap (λ (workers : List (WorkerView g.row.D.Denot)). workers_of hall rest ++ reverse workers) (sym p.items);
      room = omega (arith, l.invariant.room, p.len, p.capacity, popped.cases);
      passes_room = c.pop.ensures.capacity ∙ l.invariant.passes_room;
    }
