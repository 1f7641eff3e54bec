use Rattle.std.proofs.Common.{List, ◌∙◌, ap, subst}
use Rattle.rdf_terms.specs.declared.change.Change.{Change}
use Rattle.rdf_terms.specs.Dataset.{apply}
use Rattle.dataset_tx.specs.Held.{AreMet}
use Rattle.zone_state.proofs.Readings.{true_and_false}
use Rattle.zone_state.proofs.opening.Reading.apply.Goals as goal

pub returns-in-Ok-clause-ok : goal.returns-in-Ok-clause-ok
returns-in-Ok-clause-ok c = record {
  stays_full = λ is. is;
  applied = λ is. (
    c.in-Ok.ensures.ok ∙ ap (λ (cs : List Change). apply cs c.args.self.now.kept.contents.contents) c.changes.ensures,
    subst (λ (cs : List Change). AreMet cs c.args.self.now.kept.contents.terms c.apply.new.self.terms) c.changes.ensures c.apply.ensures.met,
  );
  overflow = λ not is. absurd (true_and_false c.args.self.now.full is not);
}
