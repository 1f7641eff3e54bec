use Rattle.std.proofs.Common.{Some, None, ◌∙◌}
use Rattle.patch_rows.proofs.CodeTable.{found}
use Rattle.patch_rows.proofs.codes.find_code.Goals as goal

pub returns : goal.returns
returns c = c.code_at.ensures ∙ found c.args.word.now c.new.result (Some c.in_ok-place.place) c.new.ensures c.in_ok-place.ensures

pub returns-in_err-place : goal.returns-in_err-place
returns-in_err-place c = c.from_residual.ensures ∙ found c.args.word.now c.new.result None c.new.ensures c.in_err-place.ensures
