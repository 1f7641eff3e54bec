use Rattle.std.proofs.Common.{sym, ◌∙◌, arith}
use Rattle.canonical_scan.specs.Parts.{is_lower_tag_byte}
use Rattle.nquads_text.proofs.PlainRuns.{run_more}
use Rattle.canonical_scan.proofs.tags.word_bytes_end.Goals as goal

pub loop-i-preserved : goal.loop-i-preserved
loop-i-preserved c =
    run_more (is_lower_tag_byte c.args.first) c.args.text.now c.args.at c.loop-i.i (omega arith) (omega arith) c.loop-i.invariant (sym c.is_lower_tag_byte.ensures ∙ c.if-not-is_lower_tag_byte.false)
