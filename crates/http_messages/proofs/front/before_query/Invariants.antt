use Rattle.std.proofs.Common.{◌≡◌, ◌++◌, take, drop}
use Rattle.http_messages.specs.Messages.{before_query}
use Rattle.http_messages.proofs.front.before_query.Given as goal

abbrev pub invariant-loop-end : goal.invariant-loop-end
invariant-loop-end l = take l.end l.target ++ before_query (drop l.end l.target) ≡ before_query l.target
