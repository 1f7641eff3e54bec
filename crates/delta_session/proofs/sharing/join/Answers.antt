use Rattle.std.proofs.Common.{◌≡◌, ◌∙◌, ◌++◌, ◌∷◌, [], List, length, sym, ap, arith}
use Rattle.std.specs.Prelude.{reverse}
use Rattle.shared_log.specs.History.{LogSight}
use Rattle.shared_registry.specs.History.{RegistrySight}
use Rattle.delta_session.specs.Halls.{paired_sights}
use Rattle.delta_session.specs.Steps.{HallSight}
use Rattle.delta_session.proofs.Opens.{joins_one, pair}
use Rattle.delta_session.proofs.sharing.join.Goals as goal

pub loop-sight-preserved : goal.loop-sight-preserved
loop-sight-preserved g c =
    let l = c.loop-sight in
    let rest : List RegistrySight = c.pop.new.self.items in
    let others : List (List LogSight) = c.pop-in-Some.new.self.items in
    let popped = c.in-Some.ensures in
    let taken = c.in-Some-pop.ensures in
    let p = c.push_reserved.ensures in
    let same : length rest ≡ length others = omega (arith, popped.cases, taken.cases, l.invariant.count, c.pop.new.self.ok.0, c.pop-in-Some.new.self.ok.0) in
    let whole : List HallSight = paired_sights c.args.sights.now.items c.args.parts.now.items in record {
      joined = joins_one whole l.sights.items rest l.parts.items others l.passes.items c.in-Some.sight c.in-Some-pop.part l.invariant.joined popped.items taken.items same
          ∙ ap (λ (s : RegistrySight). paired_sights rest others ++ reverse (l.passes.items ++ pair s c.in-Some-pop.part ∷ [])) (sym c.of.ensures)
          ∙ ap (λ (passes : List HallSight). paired_sights rest others ++ reverse passes) (sym p.items);
      count = omega (arith, popped.cases, taken.cases, l.invariant.count);
      room = omega (arith, l.invariant.room, p.len, p.capacity, popped.cases);
      sights_room = c.pop.ensures.capacity ∙ l.invariant.sights_room;
      parts_room = c.pop-in-Some.ensures.capacity ∙ l.invariant.parts_room;
    }
