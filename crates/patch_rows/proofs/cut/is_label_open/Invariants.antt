use Rattle.std.proofs.Common.{◌≡◌, drop}
use Rattle.patch_rows.specs.Cut.{label_open}
use Rattle.patch_rows.proofs.cut.is_label_open.Given as goal

-- only dots were passed
abbrev pub invariant-loop-at : goal.invariant-loop-at
invariant-loop-at l = label_open (drop l.at l.text) ≡ label_open (drop l.end l.text)
