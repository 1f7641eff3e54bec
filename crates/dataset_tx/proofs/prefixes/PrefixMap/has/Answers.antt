use Rattle.std.proofs.Common.{rules, ◌≡◌, ap, ◌∙◌}
use Rattle.dataset_tx.specs.Prefixes.{StagedPrefixes, has_prefix, row_bytes}
use Rattle.dataset_tx.proofs.Rows.{set_there}
use Rattle.dataset_tx.proofs.prefixes.PrefixMap.has.Goals as goal

pub returns : goal.returns
returns c =
    let bytes : c.as_slice.result.now ≡ row_bytes (c.args.graph.now, c.args.prefix.now) = search rules in
    c.is_taken.ensures ∙ set_there c.as_slice.result.now (c.args.graph.now, c.args.prefix.now) bytes c.self.inside.rows.entries c.self.invariant.stand c.self.invariant.sorted
    ∙ ap (λ (s : StagedPrefixes). has_prefix s.contents (c.args.graph.now, c.args.prefix.now)) c.self.view_is
