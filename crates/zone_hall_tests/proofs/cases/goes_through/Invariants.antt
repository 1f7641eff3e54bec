use Rattle.std.proofs.Common.{◌≡◌}
use Rattle.zone_hall_tests.specs.Halls.{IsNumbered}
use Rattle.zone_hall_tests.proofs.cases.goes_through.Given as goal

abbrev pub invariant-loop-step : goal.invariant-loop-step
invariant-loop-step g l = IsNumbered l.initial.hall 1 l.passes.one × IsNumbered l.initial.hall 2 l.passes.two × (l.passes.room ≡ l.initial.passes.room)
