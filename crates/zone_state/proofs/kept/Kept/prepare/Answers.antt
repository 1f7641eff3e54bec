use Rattle.std.proofs.Common.{List, subst}
use Rattle.rdf_terms.specs.declared.change.Change.{Change}
use Rattle.dataset_tx.specs.Held.{AreMet}
use Rattle.zone_state.proofs.kept.Kept.prepare.Goals as goal

pub returns-in_err-stage-clause-met : goal.returns-in_err-stage-clause-met
returns-in_err-stage-clause-met c = subst (λ (cs : List Change). AreMet cs c.args.self.now.contents.terms c.stage.new.self.terms) c.changes.ensures c.stage.ensures.met

pub returns-clause-met : goal.returns-clause-met
returns-clause-met c = subst (λ (cs : List Change). AreMet cs c.args.self.now.contents.terms c.stage.new.self.terms) c.changes.ensures c.stage.ensures.met
