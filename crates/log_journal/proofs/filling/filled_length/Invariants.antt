use Rattle.std.proofs.Common.{◌≡◌, ◌-◌, ◌^◌, min, take}
use Rattle.log_base.specs.Journals.{payloads_length}
use Rattle.log_journal.proofs.filling.filled_length.Given as goal

abbrev pub invariant-loop-payload : goal.invariant-loop-payload
invariant-loop-payload l = l.length ≡ min (payloads_length (take l.payload-index l.payloads)) (2 ^ 64 - 1)
