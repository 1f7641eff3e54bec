use Rattle.std.proofs.Common.{arith}
use Rattle.stream_generator.specs.Generator.{patch_text}
use Rattle.stream_generator.proofs.Appending.{three, patch_short}
use Rattle.stream_generator.proofs.patch.push_patch.Goals as goal

pub returns-in_err-push_id_row-clause-short : goal.returns-in_err-push_id_row-clause-short
returns-in_err-push_id_row-clause-short c = patch_short c.args.number (omega arith)

pub returns-in_err-push_prev_row-clause-short : goal.returns-in_err-push_prev_row-clause-short
returns-in_err-push_prev_row-clause-short c = patch_short c.args.number (omega arith)

pub returns-clause-appends : goal.returns-clause-appends
unfolding patch_text
returns-clause-appends c = three _ _ _ _ _ _ _ _ _ _ c.in_ok-push_id_row.ensures c.in_ok-push_prev_row.ensures c.push_block.ensures

pub returns-clause-short : goal.returns-clause-short
returns-clause-short c = patch_short c.args.number (omega arith)
