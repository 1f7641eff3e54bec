use Rattle.std.proofs.Common.{subst}
use Rattle.std.specs.List.{AllByRecursion}
use Rattle.std.specs.List.Sorted.{IsStrictlySortedBy}
use Rattle.std.specs.Map.{keys_of}
use Rattle.net_changes.specs.Values.{IsPrefixValue}
use Rattle.rdf_terms.specs.Dataset.{prefix_cmp}
use Rattle.dataset_tx.specs.Prefixes.{StagedPrefixes}
use Rattle.dataset_tx.proofs.Valued.{prefixes_are, prefixes_rise}
use Rattle.dataset_tx.proofs.prefixes.PrefixMap.are_values.Goals as goal

pub returns-clause-each : goal.returns-clause-each
returns-clause-each c =
    subst (λ (s : StagedPrefixes). AllByRecursion IsPrefixValue (keys_of s.contents)) c.self.view_is (prefixes_are c.self.inside.rows.entries c.self.invariant.stand)

pub returns-clause-rise : goal.returns-clause-rise
returns-clause-rise c =
    subst (λ (s : StagedPrefixes). IsStrictlySortedBy prefix_cmp (keys_of s.contents)) c.self.view_is
    (prefixes_rise c.self.inside.rows.entries c.self.invariant.stand c.self.invariant.sorted)
