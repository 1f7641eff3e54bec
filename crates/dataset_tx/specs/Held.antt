-- What a dataset holds, and what is staged beside it.
use Rattle.std.specs.Prelude.{◌⊎◌, ℕ, ◌<◌, List, ◌∷◌, [], length, Option, None, Some}
use Rattle.std.specs.List.{Contains, IsDistinct, flat_map}
use Rattle.rdf_terms.specs.declared.term.Term.{Term}
use Rattle.rdf_terms.specs.declared.change.Change.{Change}
use Rattle.rdf_terms.specs.declared.change.Change.TheVariants.{Add, Delete, PrefixAdd}
use Rattle.rdf_terms.specs.declared.change.Change.TheVariants.{PrefixDelete, Begin, Commit, Abort}
use Rattle.rdf_terms.specs.declared.term.Term.TheVariants as term
use Rattle.rdf_terms.specs.Dataset.{Dataset}
use Rattle.term_table.specs.Table.{same}

-- the contents, what is staged beside them, and terms that changes had which were handed to it
pub record Held : Type 0 where
  pub contents : Dataset
  pub staged : Option Dataset
  pub terms : List Term

-- a graph's name, if it has one
abbrev pub graph_terms : Option Term → List Term
graph_terms None = []
graph_terms (Some name) = name ∷ []

-- the terms of a change
abbrev pub terms_of : Change → List Term
terms_of (Add q) = q.subject ∷ q.predicate ∷ q.object ∷ graph_terms q.graph
terms_of (Delete q) = q.subject ∷ q.predicate ∷ q.object ∷ graph_terms q.graph
terms_of (PrefixAdd prefix iri graph) = term.Iri iri ∷ graph_terms graph
terms_of (PrefixDelete prefix graph) = graph_terms graph
terms_of Begin = []
terms_of Commit = []
terms_of Abort = []

-- each of the terms is one that was met before, or one of the changes
abbrev pub AreMet : List Change → List Term → List Term → Type 0
AreMet changes before terms =
    (t : Term) → Contains terms t → Contains before t ⊎ Contains (flat_map terms_of changes) t

-- the terms that were met before and those of the changes are more than so many
pub record AreMore (most : ℕ) (changes : List Change) (before : List Term) : Type 0 where
  pub terms : List Term
  pub met : AreMet changes before terms
  pub each_once : IsDistinct same terms
  pub many : most < length terms
