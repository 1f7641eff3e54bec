use Rattle.std.proofs.Common.{◌+◌, ◌<◌, length, arith}
use Rattle.row_lines.proofs.Settled.{by_byte, by_dot}
use Rattle.row_lines.proofs.terms.is_settled.Goals as goal

pub returns-then-text-end-ne46 : goal.returns-then-text-end-ne46
returns-then-text-end-ne46 c = λ low.
    let skipped = c.skip_blanks.ensures in
    by_byte c.args.text.now c.args.end c.skip_blanks.result skipped.behind c.if-skip_blanks-text.false skipped.high skipped.low c.if-text-end-ne46.true low

pub returns : goal.returns
returns c = λ low.
    let skipped = c.skip_blanks.ensures in
    let inside : c.args.end + 1 < length c.args.text.now = let some = c.if-skip_blanks-text.false in let more = c.if-next-text.false in omega (arith, skipped.high, skipped.low) in
    by_dot c.args.text.now c.args.end c.skip_blanks.result skipped.behind c.if-skip_blanks-text.false skipped.high skipped.low c.if-text-end-ne46.false inside c.if-text-next-eq46.false low
