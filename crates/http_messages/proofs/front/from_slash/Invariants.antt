use Rattle.std.proofs.Common.{◌≡◌, drop}
use Rattle.http_messages.specs.Messages.{from_slash}
use Rattle.http_messages.proofs.front.from_slash.Given as goal

abbrev pub invariant-loop-start : goal.invariant-loop-start
invariant-loop-start l = from_slash (drop l.start l.target) ≡ from_slash l.target
