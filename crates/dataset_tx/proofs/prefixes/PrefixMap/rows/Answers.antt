use Rattle.std.proofs.Common.{rules, ◌≡◌, map, ap, ◌∙◌, arith}
use Rattle.std.specs.Map.{values_of}
use Rattle.std.specs.Map.Iter.{deref}
use Rattle.std.proofs.lemmas.Map.Iter.{iter_end}
use Rattle.dataset_tx.specs.Prefixes.{StagedPrefixes, prefix_change}
use Rattle.dataset_tx.proofs.Settling.{settings_of, settings_read, change_pushed}
use Rattle.dataset_tx.proofs.Rowed.{none_rowed}
use Rattle.dataset_tx.proofs.prefixes.PrefixMap.rows.Goals as goal

pub loop-entry-init : goal.loop-entry-init
loop-entry-init c = record { changes = search rules; rows = none_rowed _ c.new-rows.ensures.items }

pub loop-entry-preserved : goal.loop-entry-preserved
loop-entry-preserved c = record {
  changes = change_pushed _ _ c.loop-entry.yielded c.in-Some.entry c.loop-entry.invariant.changes c.in_ok-push_row.ensures.changes;
  rows = c.in_ok-push_row.ensures.rows c.loop-entry.invariant.rows;
}

pub returns-clause-changes : goal.returns-clause-changes
returns-clause-changes c =
    let whole : map deref c.loop-entry.yielded ≡ values_of c.self.inside.rows.entries = search (rules, iter_end) in
    c.loop-entry.invariant.changes ∙ ap (λ v. map prefix_change (settings_of v)) whole ∙ ap (map prefix_change) (settings_read c.self.inside.rows.entries)
    ∙ ap (λ (s : StagedPrefixes). map prefix_change s.contents) c.self.view_is
