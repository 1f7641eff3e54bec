use Rattle.std.specs.Prelude.{◌≡◌, None}
use Rattle.dataset_tests.proofs.searching.are_found.Given as goal

abbrev pub invariant-loop-mask : goal.invariant-loop-mask
invariant-loop-mask g l = l.dataset.staged ≡ None

abbrev pub invariant-loop-graph : goal.invariant-loop-graph
invariant-loop-graph g l = l.dataset.staged ≡ None
