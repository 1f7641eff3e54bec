use Rattle.std.proofs.Common.{[], refl, true, false, ◌≡◌, sym}
use Rattle.zone_state.proofs.Readings.{found_none, has_read_none, true_or_false}
use Rattle.zone_state.proofs.opening.Reading.new.Goals as goal

pub returns-clause-received : goal.returns-clause-received
returns-clause-received c = record {
  most_is = refl;
  found = λ whole. ([], found_none c.args.most, has_read_none _ c.new.ensures.ids c.new.ensures.bytes c.new.ensures.contents refl);
  breaks = λ (is : false ≡ true). absurd (true_or_false (sym is));
}
