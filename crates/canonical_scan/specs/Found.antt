-- The canonical text of a term, and the canonical line of a quad, in a text.
use Rattle.std.specs.Prelude.{◌≡◌, ℕ, ◌<◌, ◌≤◌, List, ◌++◌, length, drop}
use Rattle.std.specs.Prelude.{IsTrue, slice_range, true, false}
use Rattle.rdf_terms.specs.declared.term.Term.{Term}
use Rattle.rdf_terms.specs.Line.{line, term_text}
use Rattle.rdf_terms.specs.Quad.{Statement, is_iri, is_literal, is_quad}
use Rattle.nquads_text.specs.Printing.{EndsTerm, HasTermValues, IsTermValue}
use Rattle.canonical_scan.specs.declared.term.TermPlaces.{TermPlaces}
use Rattle.canonical_scan.specs.Parts.{HasObject}

-- the canonical text of a term stands between two places, and what follows can't go on with it
pub record IsTermThere (text : List ℕ) (at end : ℕ) (term : Term) : Type 0 where
  pub value : IsTermValue term
  pub stands : drop at text ≡ term_text term ++ drop end text
  pub ends : EndsTerm term (drop end text)
  pub further : at < end
  pub within : end ≤ length text

abbrev pub HasTerm : List ℕ → ℕ → ℕ → Type 0
HasTerm text at end = (term : Term) × IsTermThere text at end term

-- a term and its string end at these places
abbrev pub HasPlaces : List ℕ → ℕ → TermPlaces → Type 0
HasPlaces text at p = HasTerm text at p.end × HasObject text at p.string p.end

-- the term is an IRI or a blank node
abbrev pub HasNode : List ℕ → ℕ → ℕ → Type 0
HasNode text at end = (term : Term) × IsTermThere text at end term × (is_literal term ≡ false)

-- the term is an IRI
abbrev pub HasIri : List ℕ → ℕ → ℕ → Type 0
HasIri text at end = (term : Term) × IsTermThere text at end term × (is_iri term ≡ true)

-- the canonical line of a quad stands between two places
pub record IsLineThere (text : List ℕ) (at end : ℕ) (quad : Statement) : Type 0 where
  pub quads : IsTrue (is_quad quad)
  pub values : HasTermValues quad
  pub stands : drop at text ≡ line quad ++ drop end text
  pub bytes : slice_range text at end ≡ line quad
  pub further : at < end
  pub within : end ≤ length text

abbrev pub HasLine : List ℕ → ℕ → ℕ → Type 0
HasLine text at end = (quad : Statement) × IsLineThere text at end quad
