use Rattle.std.proofs.Common.{◌<◌, length, arith}
use Rattle.paired_zone.proofs.Sizes.{one_longer}
use Rattle.paired_zone.proofs.making.lines_size.Goals as goal

pub loop-at-preserved : goal.loop-at-preserved
loop-at-preserved c =
    let within : c.loop-at.at < length c.args.lines.now = omega (arith, c.loop-at-test.true, c.len-at-end.ensures) in
    one_longer c.args.lines.now c.loop-at.at c.loop-at.size c.saturating_add-size.result c.line.result.now within c.line.ensures c.loop-at.invariant c.saturating_add-size.ensures
