use Rattle.std.specs.Prelude.{◌≡◌, None}
use Rattle.dataset_tests.proofs.generated.fill.Given as goal

abbrev pub invariant-loop-number : goal.invariant-loop-number
invariant-loop-number g l = l.dataset.staged ≡ None
