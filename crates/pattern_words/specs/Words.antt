-- The words that stand for the parts of a pattern.
use Rattle.std.specs.Prelude.{◌≡◌, ℕ, Bool, true, not, List, [], Option, Some, None, codes}
use Rattle.rdf_terms.specs.declared.term.Term.{Term}
use Rattle.rdf_terms.specs.Quad.{is_iri, is_literal}
use Rattle.nquads_text.specs.Grammar.{TermAt}
use Rattle.dataset_tx.specs.declared.pattern.GraphPart.{GraphPart}
use Rattle.dataset_tx.specs.declared.pattern.GraphPart.TheVariants.{Any, Default, Named}
use Rattle.dataset_tx.specs.declared.pattern.Pattern.{Pattern}
use Rattle.pattern_words.specs.declared.words.Position.{Position}
use Rattle.pattern_words.specs.declared.words.Position.TheVariants as position

-- whether a term may stand in a position
abbrev pub fits_position : Position → Term → Bool
fits_position position.Graph term = not (is_literal term)
fits_position position.Subject term = not (is_literal term)
fits_position position.Predicate term = is_iri term
fits_position position.Object term = true

-- the word is the text of a term that may stand there
abbrev pub IsTermWord : Position → List ℕ → Term → Type 0
IsTermWord position word term = TermAt word term [] × (fits_position position term ≡ true)

-- `*` is free
abbrev pub IsPartWord : Position → List ℕ → Option Term → Type 0
IsPartWord position word None = word ≡ codes "*"
IsPartWord position word (Some term) = IsTermWord position word term

-- `default` is the default graph
abbrev pub IsGraphWord : List ℕ → GraphPart → Type 0
IsGraphWord word Any = word ≡ codes "*"
IsGraphWord word Default = word ≡ codes "default"
IsGraphWord word (Named name) = IsTermWord position.Graph word name

-- the words of a graph, a subject, a predicate and an object ask for this pattern
pub record IsPatternOf (g s p o : List ℕ) (pattern : Pattern) : Type 0 where
  pub graph : IsGraphWord g pattern.graph
  pub subject : IsPartWord position.Subject s pattern.subject
  pub predicate : IsPartWord position.Predicate p pattern.predicate
  pub object : IsPartWord position.Object o pattern.object

-- the value of which this holds, or none where it holds of none
abbrev pub Finds : {X : Type 0} → (X → Type 0) → Option X → Type 0
Finds {X = X} Is None = (x : X) → Is x → ⊥
Finds Is (Some x) = Is x
