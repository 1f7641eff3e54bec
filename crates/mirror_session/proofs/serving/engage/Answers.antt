use Rattle.std.proofs.Common.{◌≡◌, ◌∙◌, ◌++◌, ◌∷◌, [], List, length, sym, ap, subst, arith}
use Rattle.std.specs.Prelude.{reverse}
use Rattle.turn_cell.specs.Turns.{AllOf}
use Rattle.turn_cell.specs.Sharing.{IsPassOf}
use Rattle.shared_log.specs.History.{LogSight, shared_log}
use Rattle.mirror_session.specs.Sessions.{WorkerView}
use Rattle.mirror_session.specs.Working.{workers_of}
use Rattle.mirror_session.proofs.Posts.{all_but_last, worker_of, workers_one}
use Rattle.mirror_session.proofs.serving.engage.Goals as goal

pub loop-pass-preserved : goal.loop-pass-preserved
loop-pass-preserved g c =
    let l = c.loop-pass in
    let log = c.args.log.now in
    let address = c.args.address.now in
    let name = c.args.name.now in
    let rest : List LogSight = c.pop.new.self.items in
    let others : List g.row.N.Denot = c.pop-in-Some.new.self.items in
    let popped = c.in-Some.ensures in
    let taken = c.in-Some-pop.ensures in
    let p = c.push_reserved.ensures in
    let whole : List (WorkerView g.row.D.Denot g.row.N.Denot) = workers_of log address name c.args.passes.now.items c.args.nets.items in
    let same : length rest ≡ length others = omega (arith, popped.cases, taken.cases, l.invariant.count, c.pop.new.self.ok.0, c.pop-in-Some.new.self.ok.0, l.passes.ok.0, l.nets.ok.0) in
    let worker = c.new.ensures in
    let made : worker_of log address name c.in-Some.pass c.in-Some-pop.net ≡ c.new.result = λ i. record { log = sym worker.log.0 i; address = sym worker.log.1 i; name = sym worker.log.2 i; seat = sym worker.seat i } in record {
      of = all_but_last (IsPassOf (shared_log g.D.Disk) log) rest c.in-Some.pass (subst (AllOf (IsPassOf (shared_log g.D.Disk) log)) popped.items l.invariant.of);
      count = sym same;
      workers = workers_one log address name whole l.passes.items rest l.nets.items others l.workers.items c.in-Some.pass c.in-Some-pop.net l.invariant.workers popped.items taken.items same
          ∙ ap (λ (it : WorkerView g.row.D.Denot g.row.N.Denot). workers_of log address name rest others ++ reverse (l.workers.items ++ it ∷ [])) made
          ∙ ap (λ (workers : List (WorkerView g.row.D.Denot g.row.N.Denot)). workers_of log address name rest others ++ reverse workers) (sym p.items);
      room = omega (arith, l.invariant.room, p.len, p.capacity, popped.cases);
      passes_room = c.pop.ensures.capacity ∙ l.invariant.passes_room;
    }
