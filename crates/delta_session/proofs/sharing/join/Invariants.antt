use Rattle.std.proofs.Common.{◌≡◌, ◌≤◌, ◌+◌, ◌++◌, vec_len, vec_capacity}
use Rattle.std.specs.Prelude.{reverse}
use Rattle.delta_session.specs.Halls.{paired_sights}
use Rattle.delta_session.proofs.sharing.join.Given as goal

abbrev pub invariant-loop-sight : goal.invariant-loop-sight
invariant-loop-sight g l = record {
  joined : paired_sights l.initial.sights.items l.initial.parts.items ≡ paired_sights l.sights.items l.parts.items ++ reverse l.passes.items;
  count : vec_len l.sights ≡ vec_len l.parts;
  room : vec_len l.passes + vec_len l.sights ≤ vec_capacity l.passes;
  sights_room : vec_capacity l.sights ≡ vec_capacity l.initial.sights;
  parts_room : vec_capacity l.parts ≡ vec_capacity l.initial.parts;
}

abbrev pub decreases-loop-sight : goal.decreases-loop-sight
decreases-loop-sight g l = vec_len l.sights
