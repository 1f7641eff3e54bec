use Rattle.std.proofs.Common.{◌≡◌, take}
use Rattle.paired_reading.specs.Payloads.{AreNew}
use Rattle.paired_reading.proofs.ids.take_ids.Given as goal

abbrev pub invariant-loop-id : goal.invariant-loop-id
invariant-loop-id l = (l.ids.items ≡ take l.id-index l.found) × AreNew l.most l.ids.items
