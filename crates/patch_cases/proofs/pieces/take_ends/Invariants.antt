use Rattle.std.proofs.Common.{◌≡◌}
use Rattle.patch_cases.proofs.pieces.take_ends.Given as goal

-- taking rows ends no text
abbrev pub invariant-loop : goal.invariant-loop
invariant-loop l = l.reader.end ≡ l.initial.reader.end
