use Rattle.std.proofs.Common.{rules, ◌≡◌, List, [], sym, ap, subst, ◌∙◌}
use Rattle.dataset_tx.specs.Prefixes.{PrefixRow, AreStagedRows, next_settings}
use Rattle.dataset_tx.proofs.Rows.{nothing_left}
use Rattle.dataset_tx.proofs.Settling.{none_staged, settle_has, settle_rows, settle_next}
use Rattle.dataset_tx.proofs.prefixes.settle_all.Goals as goal

pub settle-requires : goal.settle-requires
settle-requires c = settle_has _ c.loop-row.rows.entries _ c.in-Some.row c.in-Some.entry (subst (AreStagedRows c.loop-row.rows.entries) c.in-Some.ensures.removal c.loop-row.invariant.rows)

pub loop-row-preserved : goal.loop-row-preserved
loop-row-preserved c =
    let staged = subst (AreStagedRows c.loop-row.rows.entries) c.in-Some.ensures.removal c.loop-row.invariant.rows in
    record {
      rows = settle_rows _ _ _ c.in-Some.row c.in-Some.entry staged c.settle.ensures.rows c.settle.ensures.sorted c.settle.ensures.others;
      same = settle_next _ _ _ c.in-Some.row c.in-Some.entry staged c.settle.ensures.rows
          ∙ ap (λ (l : List PrefixRow). next_settings l c.loop-row.rows.entries) (sym c.in-Some.ensures.removal)
          ∙ c.loop-row.invariant.same;
    }

pub returns-clause-contents : goal.returns-clause-contents
returns-clause-contents c =
    let none : c.loop-row.staged.entries ≡ [] = nothing_left c.loop-row.staged.entries (search rules) in
    sym (none_staged c.loop-row.rows.entries) ∙ ap (λ (l : List PrefixRow). next_settings l c.loop-row.rows.entries) (sym none) ∙ c.loop-row.invariant.same
