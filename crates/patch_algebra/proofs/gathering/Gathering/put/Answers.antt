use Rattle.std.proofs.Common.{ap, subst, ◌∙◌}
use Rattle.patch_rows.specs.declared.row.Row.TheVariants as row
use Rattle.patch_rows.specs.Printing.{IsWellPlaced}
use Rattle.rdf_terms.specs.declared.change.Change.{Change}
use Rattle.patch_algebra.specs.Nets.{ranked_row}
use Rattle.printed_rows.specs.Printed.{IsPrintedRow}
use Rattle.patch_algebra.proofs.Gathers.{rows_inserted}
use Rattle.patch_algebra.proofs.gathering.Gathering.put.Goals as goal

pub returns-clause-rows : goal.returns-clause-rows
returns-clause-rows c =
    rows_inserted _ _ _ _ c.in_ok-insert.ensures.keys (c.in_ok-row.ensures.bytes ∙ ap ranked_row c.in_ok-other.ensures)

pub returns-clause-printed : goal.returns-clause-printed
returns-clause-printed c =
    subst (λ (x : Change). IsWellPlaced x → IsPrintedRow (row.Change x)) c.in_ok-other.ensures c.in_ok-row.ensures.printed
