use Rattle.std.proofs.Common.{◌-◌, ◌≤◌, length}
use Rattle.patch_reader.specs.declared.inside.Inside.TheVariants as inside
use Rattle.patch_reader.specs.Inside.{IsFurther}
use Rattle.patch_reader.proofs.inside.tag_run.Given as goal

-- the tag is open where it is from here on
abbrev pub invariant-run : goal.invariant-run
invariant-run l = (l.at ≤ length l.text) × IsFurther l.text (inside.Tag l.from l.initial.first l.initial.some) (inside.Tag l.at l.first l.some)

abbrev pub decreases-run : goal.decreases-run
decreases-run l = length l.text - l.at
