use Rattle.std.proofs.Common.{ℕ, cond, Some, sym, ◌∙◌, ap}
use Rattle.std.specs.Prelude.{nat_eq}
use Rattle.chain_core.specs.Ids.{version_among}
use Rattle.chain_core.proofs.Versions.{versions-push}
use Rattle.chain_core.proofs.id_index.IdIndex.insert.Goals as goal

pub returns-clause-more : goal.returns-clause-more
returns-clause-more c = λ ids is new version q.
    let here = nat_eq c.args.id.0 q.0 in
    c.in_ok-had.ensures.updates.0 q.0 ∙ ap (cond here (Some c.args.version)) (is q) ∙ ap (λ (n : ℕ). cond here (Some n) (version_among ids q)) version ∙ sym (versions-push ids c.args.id q new)
