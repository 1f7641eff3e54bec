use Rattle.std.proofs.Common.{arith, sym, subst, ℕ}
use Rattle.hall_logs.specs.Slots.{AreAllHallPasses}
use Rattle.hall_logs.proofs.Still.{as_many_ended}
use Rattle.hall_tests.proofs.halls.close.Goals as goal

pub close-requires-clause-passes : goal.close-requires-clause-passes
close-requires-clause-passes g c =
    subst (λ (seats : ℕ). AreAllHallPasses g.D.Disk c.args.shared.0.logs seats c.args.shared.1.items) (sym c.requires.logs.1) c.requires.passes

pub returns : goal.returns
returns g c =
    let shared = c.args.shared in
    omega (arith, as_many_ended g.D.Disk 0 shared.0.logs shared.1.items c.close.result.items c.close.ensures.ends, c.close.result.ok.0, c.requires.logs.0)
