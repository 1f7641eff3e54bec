use Rattle.std.proofs.Common.{codes, drop}
use Rattle.row_scan.proofs.Scanned.{begins, begin_there, commit_there, abort_there}
use Rattle.row_scan.proofs.row.block_row.Goals as goal

pub returns-then-starts_with : goal.returns-then-starts_with
returns-then-starts_with c =
    begin_there c.args.text.now c.args.at (drop 5 (drop c.args.at c.args.text.now)) (begins c.args.text.now c.args.at (codes "TX .\n") c.starts_with.result c.starts_with.ensures.value c.if-starts_with.true) c.requires

pub returns-then-starts_with-2 : goal.returns-then-starts_with-2
returns-then-starts_with-2 c =
    commit_there c.args.text.now c.args.at (drop 5 (drop c.args.at c.args.text.now)) (begins c.args.text.now c.args.at (codes "TC .\n") c.starts_with-2.result c.starts_with-2.ensures.value c.if-starts_with-2.true) c.requires

pub returns-then-starts_with-3 : goal.returns-then-starts_with-3
returns-then-starts_with-3 c =
    abort_there c.args.text.now c.args.at (drop 5 (drop c.args.at c.args.text.now)) (begins c.args.text.now c.args.at (codes "TA .\n") c.starts_with-3.result c.starts_with-3.ensures.value c.if-starts_with-3.true) c.requires
