use Rattle.std.proofs.Common.{List, ℕ, ap, ◌∙◌}
use Rattle.std.specs.BTreeMap.{is_at}
use Rattle.std.specs.Map.{lookup}
use Rattle.rdf_terms.specs.Dataset.{prefix_cmp}
use Rattle.dataset_tx.specs.Prefixes.{StagedPrefixes, at_bytes, iri_in}
use Rattle.dataset_tx.proofs.Containing.{iri_there}
use Rattle.dataset_tx.proofs.prefixes.PrefixMap.iri_of.Goals as goal

pub returns : goal.returns
returns c =
    let entries = c.self.inside.rows.entries in
    c.iri_at.ensures ∙ ap (λ (b : List ℕ). iri_in (at_bytes b entries)) (c.as_slice.ensures.value ∙ c.in_ok-row.ensures.bytes)
    ∙ iri_there (c.args.graph.now, c.args.prefix.now) entries c.self.invariant.stand c.self.invariant.sorted
    ∙ ap (λ (s : StagedPrefixes). lookup (is_at (prefix_cmp (c.args.graph.now, c.args.prefix.now))) s.contents) c.self.view_is
