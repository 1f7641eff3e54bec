use Rattle.std.proofs.Common.{◌-◌, length}
use Rattle.patch_meaning.specs.Cutting.{HasCut}
use Rattle.patch_meaning.proofs.stream.split_links.Given as goal

-- the rows so far were cut
abbrev pub invariant-loop-cutting : goal.invariant-loop-cutting
invariant-loop-cutting l = HasCut l.text l.at l.cutting

abbrev pub decreases-loop-cutting : goal.decreases-loop-cutting
decreases-loop-cutting l = length l.text - l.at
