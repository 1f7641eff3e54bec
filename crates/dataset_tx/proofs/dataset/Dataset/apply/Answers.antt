use Rattle.std.proofs.Common.{List, sym, subst}
use Rattle.rdf_terms.specs.declared.term.Term.{Term}
use Rattle.dataset_tx.specs.Held.{AreMet}
use Rattle.dataset_tx.proofs.dataset.Dataset.apply.Goals as goal

pub returns-clause-met : goal.returns-clause-met
returns-clause-met c = subst (λ (l : List Term). AreMet c.args.changes.now.items c.args.self.now.terms l) (sym c.commit_staged.ensures.terms) c.stage.ensures.met
