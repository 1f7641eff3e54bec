use Rattle.printed_rows.proofs.Ids.{id_printed}
use Rattle.printed_rows.proofs.Values.{row_value}
use Rattle.printed_rows.proofs.laws.rows_have_values.Goals as goal

pub returns-clause-row : goal.returns-clause-row
returns-clause-row c = row_value

pub returns-clause-id : goal.returns-clause-id
returns-clause-id c = id_printed
