use Rattle.std.proofs.Common.{length}
use Rattle.patch_reader.specs.Inside.{IsInsideWithin, IsFurther}
use Rattle.patch_reader.proofs.inside.pass.Given as goal

-- the token is open where it is from here on
abbrev pub invariant-loop : goal.invariant-loop
invariant-loop l = IsInsideWithin (length l.text) l.inside × IsFurther l.text l.initial.inside l.inside
