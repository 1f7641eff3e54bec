use Rattle.std.proofs.Common.{◌≡◌, length}
use Rattle.http_heads.specs.Fields.{holds_item}
use Rattle.http_heads.proofs.fields.has_item.Given as goal

abbrev pub invariant-loop-item : goal.invariant-loop-item
invariant-loop-item l = holds_item l.word l.left ≡ holds_item l.word l.value

abbrev pub decreases-loop-item : goal.decreases-loop-item
decreases-loop-item l = length l.left
