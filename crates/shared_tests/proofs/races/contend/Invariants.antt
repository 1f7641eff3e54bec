use Rattle.std.proofs.Common.{◌≡◌, ◌≤◌}
use Rattle.turn_cell.specs.Sharing.{IsPassOf}
use Rattle.shared_tests.specs.Memory.{log_in_memory}
use Rattle.shared_tests.proofs.races.contend.Given as goal

abbrev pub invariant-loop : goal.invariant-loop
invariant-loop g l = IsPassOf log_in_memory l.initial.log l.pass × (l.pass.view.number ≡ l.initial.pass.view.number) × (l.told ≤ 50)
