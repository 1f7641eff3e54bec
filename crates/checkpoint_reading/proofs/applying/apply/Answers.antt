use Rattle.std.proofs.Common.{◌≡◌, List, [], ◌∷◌, ◌++◌, subst, ap, ◌∙◌}
use Rattle.rdf_terms.specs.declared.change.Change.{Change}
use Rattle.rdf_terms.specs.declared.term.Term.{Term}
use Rattle.dataset_tx.specs.Held.{AreMet}
use Rattle.checkpoint_reading.proofs.applying.apply.Goals as goal

one_met : (old new : List Change) (change : Change) (a b : List Term) → old ≡ [] → new ≡ old ++ change ∷ [] → AreMet new a b → AreMet (change ∷ []) a b
one_met old new change a b none pushed met =
    subst (λ (l : List Change). AreMet l a b) (pushed ∙ ap (λ (l : List Change). l ++ change ∷ []) none) met

pub returns-in-Ok-clause-met : goal.returns-in-Ok-clause-met
returns-in-Ok-clause-met c = one_met _ _ c.args.change _ _ c.requires.none c.in_ok-push.ensures.ok c.apply-applied.ensures.met

pub returns-in-Err-TermsFull-clause-met : goal.returns-in-Err-TermsFull-clause-met
returns-in-Err-TermsFull-clause-met c = one_met _ _ c.args.change _ _ c.requires.none c.in_ok-push.ensures.ok c.apply-applied.ensures.met

pub returns-in-Err-OutOfMemory-clause-met : goal.returns-in-Err-OutOfMemory-clause-met
returns-in-Err-OutOfMemory-clause-met c = one_met _ _ c.args.change _ _ c.requires.none c.in_ok-push.ensures.ok c.apply-applied.ensures.met
