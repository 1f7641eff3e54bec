use Rattle.std.proofs.Common.{rules, ◌≡◌, ◌++◌, ◌∙◌, ℕ, ◌<◌, ◌≤◌, List, subst, sym, ap, length, take, drop, arith, slice_get}
use Rattle.std.proofs.lemmas.Option.{slice_get-get_or}
use Rattle.turn_cell.specs.Turns.{AllOf, Knew}
use Rattle.turn_cell.specs.Sights.{AreAllPasses}
use Rattle.turn_bench.specs.After.{NumberSight, AreAfter}
use Rattle.turn_bench.proofs.Passes.{whole, all_idle, numbered, Numbered, have_added}
use Rattle.turn_bench.proofs.race.race.Goals as goal

pub stay_each-requires-after_bounds : goal.stay_each-requires-after_bounds
stay_each-requires-after_bounds g c κs within = λ k d low.
    let items : List NumberSight = c.deref_mut.result.now in
    let new = c.in_ok-turn.ensures.new k _ (ap (λ l. slice_get l k) (sym c.deref_mut.ensures.value) ∙ slice_get-get_or items k d low) in
    (new.0, new.8)

pub close-requires : goal.close-requires
close-requires g c =
    let items : List NumberSight = c.in_ok-turn.passes.items in
    let left : List NumberSight = c.stay_each.new.passes in
    let after : AreAfter c.args.stays items left = subst (λ l. AreAfter c.args.stays l left) c.deref_mut.ensures.value c.stay_each.ensures in
    let all : take c.in_ok-turn.passes.len (left ++ drop (length left) items) ≡ left = whole c.in_ok-turn.passes.len items left c.in_ok-turn.passes.ok.0 after.0 in
    let many : c.in_ok-turn.turn.seats ≡ length left = omega (arith, c.in_ok-turn.ensures.turn.1, c.in_ok-turn.ensures.passes.0, c.in_ok-turn.passes.ok.0, after.0) in
    let each : (n : ℕ) → 0 < n → n ≤ c.in_ok-turn.turn.seats → Numbered c.args.stays n left = λ n low high. numbered c.args.stays 1 items left after.0 after.1 (λ k p is. let new = c.in_ok-turn.ensures.new k p is in (omega (arith, new.1), new.3)) n low (omega (arith, high, many)) in
    subst (AreAllPasses c.in_ok-turn.turn.cell c.in_ok-turn.turn.seats) (sym all)
    (all_idle c.args.stays c.in_ok-turn.turn.cell items left after.0 after.1 (λ k p is. (c.in_ok-turn.ensures.new k p is).0), λ n low high. let z = each n low high in (z.after, z.there, z.number))

pub returns : goal.returns
returns g c =
    let items : List NumberSight = c.in_ok-turn.passes.items in
    let left : List NumberSight = c.stay_each.new.passes in
    let after : AreAfter c.args.stays items left = subst (λ l. AreAfter c.args.stays l left) c.deref_mut.ensures.value c.stay_each.ensures in
    let all : take c.in_ok-turn.passes.len (left ++ drop (length left) items) ≡ left = whole c.in_ok-turn.passes.len items left c.in_ok-turn.passes.ok.0 after.0 in
    let each : (n : ℕ) → 0 < n → n ≤ c.args.threads → Numbered c.args.stays n left = λ n low high. numbered c.args.stays 1 items left after.0 after.1 (λ k p is. let new = c.in_ok-turn.ensures.new k p is in (omega (arith, new.1), new.3)) n low (omega (arith, high, c.in_ok-turn.ensures.passes.0, c.in_ok-turn.passes.ok.0, after.0)) in
    let e = c.close.ensures.closed in
    record {
      theirs = search rules;
      each = have_added c.args.threads c.args.stays c.close.result left each (subst (AllOf (λ (p : NumberSight). Knew c.close.result.entries.items p.view.number p.view.seen p.view.mine)) all e.seen)
          (subst (AllOf (λ (p : NumberSight). p.view.own_faults ≤ c.close.result.faults)) all e.faults);
    }
