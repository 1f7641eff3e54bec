use Rattle.std.proofs.Common.{◌≡◌, ◌∙◌, ◌++◌, ◌∷◌, [], List, length, length-append, sym, ap, subst, arith}
use Rattle.std.specs.Prelude.{reverse}
use Rattle.turn_cell.specs.Turns.{AllOf}
use Rattle.turn_cell.specs.Sharing.{IsPassOf}
use Rattle.shared_zone.specs.History.{ZoneSight, shared_zone}
use Rattle.zone_session.specs.Sessions.{WorkerView}
use Rattle.zone_session.specs.Working.{workers_of}
use Rattle.zone_session.proofs.Posts.{all_but_last, workers_one}
use Rattle.zone_session.proofs.serving.engage.Goals as goal

pub loop-pass-preserved : goal.loop-pass-preserved
loop-pass-preserved g c =
    let l = c.loop-pass in
    let hall = c.args.hall.now in
    let address = c.args.address.now in
    let name = c.args.name.now in
    let rest : List ZoneSight = c.pop.new.self.items in
    let others : List g.row.N.Denot = c.pop-in-Some.new.self.items in
    let popped = c.in-Some.ensures in
    let taken = c.in-Some-pop.ensures in
    let p = c.push_reserved.ensures in
    let whole : List (WorkerView g.row.D.Denot g.row.N.Denot) = workers_of hall address name c.args.passes.now.items c.args.nets.items in
    let zone = c.new.ensures.zone in
    let passes_long = ap length popped.items ∙ length-append rest (c.in-Some.pass ∷ []) in
    let nets_long = ap length taken.items ∙ length-append others (c.in-Some-pop.net ∷ []) in
    let same : length others ≡ length rest = omega (arith, l.invariant.count, passes_long, nets_long) in record {
      of = all_but_last (IsPassOf (shared_zone g.D.Disk) hall) rest c.in-Some.pass (subst (AllOf (IsPassOf (shared_zone g.D.Disk) hall)) popped.items l.invariant.of);
      count = same;
      workers = workers_one hall address name whole l.passes.items rest l.nets.items others l.workers.items c.in-Some.pass c.in-Some-pop.net l.invariant.workers popped.items taken.items (sym same)
          ∙ (λ i. workers_of hall address name rest others ++ reverse (l.workers.items ++ record { hall = sym zone.0 i; address = sym zone.1 i; name = sym zone.2 i; seat = sym c.new.ensures.seat i } ∷ []))
          ∙ ap (λ (workers : List (WorkerView g.row.D.Denot g.row.N.Denot)). workers_of hall address name rest others ++ reverse workers) (sym p.items);
      room = omega (arith, l.invariant.room, p.len, p.capacity, popped.cases);
      passes_room = c.pop.ensures.capacity ∙ l.invariant.passes_room;
    }
