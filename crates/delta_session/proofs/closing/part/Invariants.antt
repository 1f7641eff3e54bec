use Rattle.std.proofs.Common.{◌≡◌, ◌≤◌, ◌+◌, ◌++◌, map, vec_len, vec_capacity}
use Rattle.std.specs.Prelude.{reverse}
use Rattle.delta_session.specs.Steps.{HallSight}
use Rattle.delta_session.proofs.closing.part.Given as goal

abbrev pub invariant-loop-pass : goal.invariant-loop-pass
invariant-loop-pass g l = record {
  sights : map (λ (pass : HallSight). pass.lists.registry) l.initial.passes.items ≡ map (λ (pass : HallSight). pass.lists.registry) l.passes.items ++ reverse l.sights.items;
  parts : map (λ (pass : HallSight). pass.lists.logs) l.initial.passes.items ≡ map (λ (pass : HallSight). pass.lists.logs) l.passes.items ++ reverse l.parts.items;
  sights_room : vec_len l.sights + vec_len l.passes ≤ vec_capacity l.sights;
  parts_room : vec_len l.parts + vec_len l.passes ≤ vec_capacity l.parts;
}

abbrev pub decreases-loop-pass : goal.decreases-loop-pass
decreases-loop-pass g l = vec_len l.passes
