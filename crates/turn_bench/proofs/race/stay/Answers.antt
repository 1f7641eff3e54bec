use Rattle.std.proofs.Common.{ap, sym, refl, ◌∙◌}
use Rattle.turn_bench.specs.declared.numbers.Numbers.{Numbers}
use Rattle.turn_bench.proofs.Stays.{stayed}
use Rattle.turn_bench.proofs.race.stay.Goals as goal

pub returns : goal.returns
returns g c =
    let e = c.enter-held.ensures.enters in
    let l = c.give_back.ensures.leaves in
    let found = c.value_mut.ensures.value in
    let seen = ap (λ (v : Numbers). v.entries.items) (found ∙ e.value) ∙ sym e.sees in
    let own = stayed c.number-by.result c.args.number c.args.pass.now c.enter-held.new.pass c.give_back.new.pass c.enter-held.result.was c.value_mut.result.now c.add.new.self
    c.number-by.ensures e.same e.quiet (found ∙ e.value) seen e.own l.same.0 l.sees l.own (c.give_back.ensures.counts refl) c.add.ensures.added in
    record {
      idle = (l.same.0.0 ∙ e.same.0, l.same.1);
      number = l.same.0.2 ∙ e.same.2;
      looks = l.looks ∙ e.looked;
      adds = own.0;
      faults = own.1;
    }
