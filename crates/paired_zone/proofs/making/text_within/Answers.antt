use Rattle.std.proofs.Common.{arith}
use Rattle.zone_state.specs.State.{brief_in}
use Rattle.paired_zone.proofs.Printing.{counts_of}
use Rattle.paired_zone.proofs.making.text_within.Goals as goal

pub returns-then-length-gt-CHECKPOINT_FILE_LIMIT-clause-counts : goal.returns-then-length-gt-CHECKPOINT_FILE_LIMIT-clause-counts
returns-then-length-gt-CHECKPOINT_FILE_LIMIT-clause-counts c =
    counts_of c.args.generation (brief_in c.args.kept.now) c.from.result c.len-2.result c.len-3.result c.args.rows.now c.args.lines.now
    (omega (arith, c.from.ensures, c.len.ensures.len)) c.len-2.ensures c.len-3.ensures c.requires.rows c.requires.lines
    (omega arith) (omega arith) (omega arith) (omega arith) (omega arith)
