use Rattle.std.proofs.Common.{◌≡◌, ◌-◌, length}
use Rattle.patch_reader.specs.Rows.{AddsRows}
use Rattle.patch_reader.proofs.pieces.take_rows.Given as goal

-- the rows up to this place were put there
abbrev pub invariant-rows : goal.invariant-rows
invariant-rows l = (l.window.fed ≡ l.initial.window.fed)
    × AddsRows l.end l.initial.window.fed l.initial.window.passed l.initial.ready.items l.ready.items l.window.passed

abbrev pub decreases-rows : goal.decreases-rows
decreases-rows l = length l.window.fed - l.window.passed
