use Rattle.printed_rows.proofs.Lines.{lines_read}
use Rattle.printed_rows.proofs.laws.printed_rows_are_read.Goals as goal

pub returns : goal.returns
returns c = lines_read
