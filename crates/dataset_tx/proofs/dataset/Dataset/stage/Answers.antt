use Rattle.std.proofs.Common.{List, sym, subst}
use Rattle.rdf_terms.specs.declared.term.Term.{Term}
use Rattle.rdf_terms.specs.declared.change.Change.{Change}
use Rattle.dataset_tx.specs.Held.{Held, AreMet}
use Rattle.dataset_tx.proofs.dataset.Dataset.stage.Goals as goal

pub returns-in-Ok-clause-met : goal.returns-in-Ok-clause-met
returns-in-Ok-clause-met c =
    subst (λ (v : Held). AreMet c.args.changes.now.items v.terms c.stage_kept.new.self.terms) c.self.view_is
    (subst (λ (l : List Change). AreMet l c.self.inside.store.terms c.stage_kept.new.self.terms) c.as_slice.ensures c.stage_kept.ensures.met)

pub returns-in-Err-clause-met : goal.returns-in-Err-clause-met
returns-in-Err-clause-met c =
    subst (λ (l : List Term). AreMet c.args.changes.now.items c.args.self.now.terms l) (sym c.give_up.ensures.terms)
    (subst (λ (v : Held). AreMet c.args.changes.now.items v.terms c.stage_kept.new.self.terms) c.self.view_is
    (subst (λ (l : List Change). AreMet l c.self.inside.store.terms c.stage_kept.new.self.terms) c.as_slice.ensures c.stage_kept.ensures.met))
