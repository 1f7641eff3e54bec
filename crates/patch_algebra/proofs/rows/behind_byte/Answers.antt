use Rattle.std.proofs.Common.{[]}
use Rattle.printed_rows.proofs.Values.{row_value}
use Rattle.patch_algebra.proofs.rows.behind_byte.Goals as goal

pub returns-clause-printed : goal.returns-clause-printed
returns-clause-printed c w = record { value = row_value _ _ _ (c.in_ok-line.ensures.read_again w []); writable = w }
