use Rattle.std.proofs.Common.{◌≡◌}
use Rattle.patch_rows.specs.declared.cut.TextEnd.TheVariants as ends
use Rattle.patch_cases.proofs.pieces.in_bytes.Given as goal

-- the text may go on
abbrev pub invariant-loop-at : goal.invariant-loop-at
invariant-loop-at l = l.reader.end ≡ ends.Open
