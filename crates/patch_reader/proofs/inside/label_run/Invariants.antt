use Rattle.std.proofs.Common.{◌-◌, ◌≤◌, length}
use Rattle.patch_reader.specs.declared.inside.Inside.TheVariants as inside
use Rattle.patch_reader.specs.Inside.{IsFurther}
use Rattle.patch_reader.proofs.inside.label_run.Given as goal

-- the token is open where it is from here on
abbrev pub invariant-run : goal.invariant-run
invariant-run l = (l.at ≤ length l.text) × IsFurther l.text (inside.Label l.from) (inside.Label l.at)

abbrev pub decreases-run : goal.decreases-run
decreases-run l = length l.text - l.at
