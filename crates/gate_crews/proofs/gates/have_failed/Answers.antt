use Rattle.std.proofs.Common.{ℕ, get_or, refl, sym, subst, ◌∙◌, arith, true≢false}
use Rattle.delta_base.specs.Outside.{Rose}
use Rattle.gate_crews.proofs.Risen.{risen_at, none_more, none_failed}
use Rattle.gate_crews.proofs.gates.have_failed.Goals as goal

pub returns-then-rose : goal.returns-then-rose
returns-then-rose g c before counted =
    let counts = c.args.counts.now in
    let place = c.loop-place.place in (
      (λ yes. risen_at (λ gate. g.G.Gate.faults gate) counts before c.args.gates.now counted c.requires place c.index-gates-place.result
          (omega (arith, c.loop-place-test.true)) c.index-gates-place.is
          (subst (λ (n : ℕ). Rose (get_or counts place 0) n) c.faults.ensures (c.rose.ensures.0 c.if-rose.true))),
      (λ failed. refl),
    )

pub loop-place-preserved : goal.loop-place-preserved
loop-place-preserved g c =
    let counts = c.args.counts.now in
    let place = c.loop-place.place in record {
      none = λ before counted same. none_more (λ gate. g.G.Gate.faults gate) counts before c.args.gates.now counted same place c.index-gates-place.result
          c.index-gates-place.is (omega (arith, c.loop-place-test.true))
          (λ rose. true≢false (sym (c.rose.ensures.1 (subst (λ (n : ℕ). Rose (get_or counts place 0) n) (sym c.faults.ensures) rose)) ∙ c.if-rose.false))
          (c.loop-place.invariant.none before counted same);
      bound = omega (arith, c.loop-place-test.true);
    }

pub returns : goal.returns
returns g c before counted = (
  (λ yes. absurd (true≢false (sym yes))),
  (λ failed. absurd (none_failed (λ gate. g.G.Gate.faults gate) c.args.counts.now before c.args.gates.now counted c.requires c.loop-place.place
      (omega (arith, c.loop-place-test.false)) (c.loop-place.invariant.none before counted c.requires) failed)),
)
