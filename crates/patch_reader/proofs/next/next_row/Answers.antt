use Rattle.std.proofs.Common.{ℕ, Option, Some, None, Ok, Err, sym, subst, ◌+◌, [], ◌∷◌}
use Rattle.patch_rows.specs.declared.fault.RowFault.{RowFault}
use Rattle.patch_rows.specs.declared.row.Row.{Row}
use Rattle.patch_reader.specs.declared.placed.PlacedRow.{PlacedRow}
use Rattle.patch_reader.specs.Decided.{GivesRow}
use Rattle.patch_reader.specs.Rows.{RowsStand, StopsRows}
use Rattle.patch_reader.proofs.Kept.{next_given}
use Rattle.patch_reader.proofs.next.next_row.Goals as goal

pub returns-in-Ok-Some-clause-gives : goal.returns-in-Ok-Some-clause-gives
returns-in-Ok-Some-clause-gives c = λ text k.
    let start = c.skip_space-start.result in
    subst (λ (r : PlacedRow). RowsStand c.args.end text (c.args.base + c.args.at) (r ∷ []) r.end) (sym c.placed.ensures)
    (next_given c.args.end text c.args.kept.now c.args.base c.args.at start (Ok (Some (c.in-Ok-Some.row, c.in-Ok-Some.behind)))
    c.skip_space-start.ensures.low c.skip_space-start.ensures.high c.skip_space-start.ensures.space (subst (λ (o : Option (Row × ℕ)). GivesRow c.args.end c.args.kept.now start (Ok o)) c.in-Ok-Some.field-0-is c.in-Ok-Some.ensures) k)

pub returns-in-Ok-None-clause-gives : goal.returns-in-Ok-None-clause-gives
returns-in-Ok-None-clause-gives c = λ text k.
    next_given c.args.end text c.args.kept.now c.args.base c.args.at c.skip_space-start.result (Ok None)
    c.skip_space-start.ensures.low c.skip_space-start.ensures.high c.skip_space-start.ensures.space
    (subst (λ (o : Option (Row × ℕ)). GivesRow c.args.end c.args.kept.now c.skip_space-start.result (Ok o)) c.in-Ok-None.field-0-is c.in-Ok-None.ensures) k

pub returns-in-Err-clause-gives : goal.returns-in-Err-clause-gives
returns-in-Err-clause-gives c = λ text k.
    subst (λ (fault : RowFault). StopsRows c.args.end text (c.args.base + c.args.at) (Some fault)) (sym c.moved.ensures)
    (next_given c.args.end text c.args.kept.now c.args.base c.args.at c.skip_space-start.result (Err c.in-Err.fault)
    c.skip_space-start.ensures.low c.skip_space-start.ensures.high c.skip_space-start.ensures.space c.in-Err.ensures k)
