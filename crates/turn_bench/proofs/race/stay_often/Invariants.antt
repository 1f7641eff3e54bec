use Rattle.turn_bench.specs.After.{IsAfter}
use Rattle.turn_bench.proofs.race.stay_often.Given as goal

abbrev pub invariant-loop-number : goal.invariant-loop-number
invariant-loop-number g l = IsAfter l.number l.initial.pass l.pass
