use Rattle.std.proofs.Common.{◌≡◌, ◌≤◌, ◌-◌, take, length, nat_eq}
use Rattle.std.specs.List.{count_by}
use Rattle.patch_reader.proofs.lines.feeds_in.Given as goal

-- the line feeds so far were counted
abbrev pub invariant-loop-at : goal.invariant-loop-at
invariant-loop-at l = record {
  within : l.at ≤ length l.bytes;
  value : l.count ≡ count_by (λ b. nat_eq b 10) (take l.at l.bytes);
  few : l.count ≤ l.at;
}

abbrev pub decreases-loop-at : goal.decreases-loop-at
decreases-loop-at l = length l.bytes - l.at
