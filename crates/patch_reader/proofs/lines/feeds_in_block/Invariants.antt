use Rattle.std.proofs.Common.{◌≡◌, ◌≤◌, take, nat_eq}
use Rattle.std.specs.List.{count_by}
use Rattle.patch_reader.proofs.lines.feeds_in_block.Given as goal

-- the line feeds so far were counted
abbrev pub invariant-loop-at : goal.invariant-loop-at
invariant-loop-at l = record {
  value : l.count ≡ count_by (λ b. nat_eq b 10) (take l.at l.bytes);
  few : l.count ≤ l.at;
}
