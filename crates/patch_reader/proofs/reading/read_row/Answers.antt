use Rattle.std.proofs.Common.{◌≤◌, length, arith}
use Rattle.patch_reader.proofs.RowAnswers.{answer_ok, answer_only, answer_fault, answer_only_fault}
use Rattle.patch_reader.proofs.reading.read_row.Goals as goal

pub returns-clause-ok : goal.returns-clause-ok
returns-clause-ok c = let low : c.args.at ≤ length c.args.text.now = omega (arith, c.requires.some) in answer_ok c.args.text.now c.args.at c.limited_row.result low c.limited_row.ensures

pub returns-clause-only : goal.returns-clause-only
returns-clause-only c = let low : c.args.at ≤ length c.args.text.now = omega (arith, c.requires.some) in answer_only c.args.text.now c.args.at c.limited_row.result low c.limited_row.ensures

pub returns-clause-fault : goal.returns-clause-fault
returns-clause-fault c = answer_fault c.args.text.now c.args.at c.limited_row.result c.limited_row.ensures

pub returns-clause-only_fault : goal.returns-clause-only_fault
returns-clause-only_fault c = answer_only_fault c.args.text.now c.args.at c.limited_row.result c.limited_row.ensures
