use Rattle.std.proofs.Common.{refl, ◌∙◌}
use Rattle.std.proofs.Math.Seq.{map-set_same}
use Rattle.line_order.proofs.presort.write_keys.Goals as goal

pub loop-keyed-preserved : goal.loop-keyed-preserved
loop-keyed-preserved g c = map-set_same (λ k. k.line) c.loop-keyed.lines c.loop-keyed.keyed-index _ c.keyed-item.result refl ∙ c.loop-keyed.invariant
