use Rattle.std.proofs.Common.{◌≡◌, Option, Some, None, refl, subst}
use Rattle.rdf_terms.specs.declared.term.Term.{Term}
use Rattle.dataset_tx.specs.declared.pattern.GraphPart.{GraphPart}
use Rattle.pattern_words.specs.declared.words.Position.TheVariants as position
use Rattle.pattern_words.specs.Words.{Finds, IsGraphWord, IsPartWord}
use Rattle.pattern_words.proofs.words.read_pattern.Goals as goal

-- what is found is not some value, so it holds of none
none_found : {X : Type 0} (Is : X → Type 0) (found : Option X) → ((x : X) → found ≡ Some x → ⊥) → Finds Is found → (x : X) → Is x → ⊥
none_found Is None never finds = finds
none_found Is (Some x) never finds = λ other is. absurd (never x refl)

pub returns-in_default : goal.returns-in_default
returns-in_default c = λ x is.
    none_found (λ (parts : GraphPart × Option Term). IsGraphWord c.args.graph.now parts.0 × IsPartWord position.Subject c.args.subject.now parts.1) c.in_ok-first.field-0 c.in_default.not-Some c.in_ok-first.ensures (x.graph, x.subject) (is.graph, is.subject)

pub returns-in-Ok-None : goal.returns-in-Ok-None
returns-in-Ok-None c = λ x is.
    subst (Finds (λ (parts : Option Term × Option Term). IsPartWord position.Predicate c.args.predicate.now parts.0 × IsPartWord position.Object c.args.object.now parts.1)) c.in-Ok-None.field-0-is c.in-Ok-None.ensures (x.predicate, x.object) (is.predicate, is.object)
