use Rattle.std.proofs.Common.{◌≡◌, ◌<◌, ◌++◌, ℕ, List, true, take}
use Rattle.http_heads.specs.Follow.{Follows, is_known}
use Rattle.http_heads.proofs.progress.follow.Given as goal

abbrev pub invariant-loop-passed : goal.invariant-loop-passed
invariant-loop-passed l = record {
  follows : (text : List ℕ) → Follows l.kind text l.fn.progress → Follows l.kind (text ++ take l.passed l.bytes) l.progress;
  known : 0 < l.passed → is_known l.progress ≡ true;
}
