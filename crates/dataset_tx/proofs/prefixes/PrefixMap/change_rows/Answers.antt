use Rattle.std.proofs.Common.{rules, ◌≡◌, map, ap, ◌∙◌}
use Rattle.std.specs.Map.{values_of}
use Rattle.std.specs.Map.Iter.{deref}
use Rattle.std.proofs.lemmas.Map.Iter.{iter_end}
use Rattle.std.proofs.lemmas.Result.{IfOk-weaker}
use Rattle.dataset_tx.specs.Prefixes.{StagedPrefixes, prefix_change}
use Rattle.dataset_tx.specs.Rows.{rows_in_order}
use Rattle.line_log.specs.Edits.{made}
use Rattle.dataset_tx.proofs.Settling.{settings_of, settings_read, rows_logged}
use Rattle.dataset_tx.proofs.prefixes.PrefixMap.change_rows.Goals as goal

pub loop-entry-preserved : goal.loop-entry-preserved
loop-entry-preserved c = rows_logged _ _ c.loop-entry.yielded c.in-Some.entry c.loop-entry.invariant c.in_ok-log_row.ensures

pub returns : goal.returns
returns c =
    let whole : map deref c.loop-entry.yielded ≡ values_of c.self.inside.rows.entries = search (rules, iter_end) in
    IfOk-weaker c.into_lines.result _ _
    (λ rows e.
    e ∙ ap made c.loop-entry.invariant ∙ ap (λ v. rows_in_order (map prefix_change (settings_of v))) whole ∙ ap (λ s. rows_in_order (map prefix_change s)) (settings_read c.self.inside.rows.entries)
    ∙ ap (λ (s : StagedPrefixes). rows_in_order (map prefix_change s.contents)) c.self.view_is)
    c.into_lines.ensures
