use Rattle.std.proofs.Common.{◌≡◌}
use Rattle.patch_rows.specs.declared.cut.TextEnd.TheVariants as ends
use Rattle.patch_cases.proofs.pieces.feed.Given as goal

-- the text may go on
abbrev pub invariant-loop-place : goal.invariant-loop-place
invariant-loop-place l = l.reader.end ≡ ends.Open
