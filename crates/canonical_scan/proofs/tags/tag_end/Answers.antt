use Rattle.canonical_scan.proofs.LowerTags.{tag_begins, tag_goes_on}
use Rattle.canonical_scan.proofs.tags.tag_end.Goals as goal

pub loop-end-init : goal.loop-end-init
loop-end-init c = tag_begins c.args.text.now c.args.at c.in_ok-end.end c.in_ok-end.ensures.word

pub loop-end-preserved : goal.loop-end-preserved
loop-end-preserved c =
    tag_goes_on c.args.text.now c.args.at c.loop-end.end c.in_ok-end-2.end c.loop-end.invariant c.loop-end-test.true c.if-text-end-eq45.true c.in_ok-end-2.ensures.word
