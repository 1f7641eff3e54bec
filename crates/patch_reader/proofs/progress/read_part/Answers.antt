use Rattle.std.proofs.Common.{sym, subst, drop}
use Rattle.patch_rows.specs.Fault.{GivesEnd}
use Rattle.patch_reader.specs.declared.progress.RowPart.{RowPart}
use Rattle.patch_reader.specs.Progress.{part_at, end_from}
use Rattle.patch_reader.proofs.progress.read_part.Goals as goal

pub returns-in-End : goal.returns-in-End
unfolding end_from
returns-in-End c = subst (λ (p : RowPart). GivesEnd c.args.text.now c.dot-in-End.result (part_at p (drop c.args.start c.args.text.now))) (sym c.in-End.is) c.dot-in-End.ensures
