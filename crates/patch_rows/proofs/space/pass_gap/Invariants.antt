use Rattle.std.proofs.Common.{◌≡◌, ◌-◌, ◌≤◌, ◌++◌, ℕ, List, drop, length}
use Rattle.patch_rows.specs.Reading.{space_behind}
use Rattle.patch_rows.proofs.space.pass_gap.Given as goal

-- what is left behind the place is what was left at the start
abbrev pub invariant-loop-at : goal.invariant-loop-at
invariant-loop-at l = (l.at ≤ length l.text) × (l.from ≤ l.at) × ((more : List ℕ) → space_behind l.in_comment 0 (drop l.from (l.text ++ more)) ≡ space_behind l.comment 0 (drop l.at (l.text ++ more)))

abbrev pub decreases-loop-at : goal.decreases-loop-at
decreases-loop-at l = length l.text - l.at
