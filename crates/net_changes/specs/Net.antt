-- Net changes: of the changes at each key the last one, where it changes the dataset; and the
-- changes that undo them.
use Rattle.std.specs.Prelude.{ℕ, Bool, true, false, not, List, [], ◌∷◌, ◌++◌, Option, None, Some}
use Rattle.std.specs.Prelude.{map, is_some}
use Rattle.std.specs.List.{filter, flat_map}
use Rattle.std.specs.Str.{bytes_eq}
use Rattle.std.specs.declared.cmp.Ordering.{Ordering}
use Rattle.rdf_terms.specs.Dataset.{Dataset, kept}
use Rattle.rdf_terms.specs.declared.term.Term.{Term}
use Rattle.rdf_terms.specs.declared.change.Change.{Change}
use Rattle.rdf_terms.specs.declared.change.Change.TheVariants.{Add, Delete, PrefixAdd}
use Rattle.rdf_terms.specs.declared.change.Change.TheVariants.{PrefixDelete, Begin, Commit, Abort}
use Rattle.net_changes.specs.Keys.{change_key, same_key, has_quad, iri_of}
use Rattle.net_changes.specs.Writes.{last_writes, insertion_sort}

-- whether an IRI is this one
abbrev pub is_same_iri : Option (List ℕ) → List ℕ → Bool
is_same_iri None iri = false
is_same_iri (Some old) iri = bytes_eq old iri

-- whether a change changes a dataset: a quad that is added isn't there, one that is deleted is, a
-- prefix that is set isn't there or has another IRI, and one that is removed is there
abbrev pub alters : Dataset → Change → Bool
alters d (Add q) = not (has_quad d q)
alters d (Delete q) = has_quad d q
alters d (PrefixAdd prefix iri graph) = not (is_same_iri (iri_of d (graph, prefix)) iri)
alters d (PrefixDelete prefix graph) = is_some (iri_of d (graph, prefix))
alters d Begin = false
alters d Commit = false
alters d Abort = false

-- of the changes that stand, the last one at each key
abbrev pub last_changes : List Change → List Change
last_changes changes = last_writes change_key same_key (kept changes)

-- those of them that change the dataset
abbrev pub altering : Dataset → List Change → List Change
altering d changes = filter (alters d) (last_changes changes)

-- the same in an order
abbrev pub net_in : (Change → Change → Ordering) → Dataset → List Change → List Change
net_in cmp d changes = insertion_sort cmp (altering d changes)

-- a prefix gets back the IRI that it had, or goes
abbrev pub prefix_restored : List ℕ → Option Term → Option (List ℕ) → Change
prefix_restored prefix graph None = PrefixDelete prefix graph
prefix_restored prefix graph (Some iri) = PrefixAdd prefix iri graph

-- the change that undoes one that changes the dataset
abbrev pub undone : Dataset → Change → Change
undone d (Add q) = Delete q
undone d (Delete q) = Add q
undone d (PrefixAdd prefix iri graph) = prefix_restored prefix graph (iri_of d (graph, prefix))
undone d (PrefixDelete prefix graph) = prefix_restored prefix graph (iri_of d (graph, prefix))
undone d Begin = Begin
undone d Commit = Commit
undone d Abort = Abort

-- the changes that undo the net changes, in an order
abbrev pub inverse_in : (Change → Change → Ordering) → Dataset → List Change → List Change
inverse_in cmp d changes = insertion_sort cmp (map (undone d) (altering d changes))

-- a change that is no word of a block
abbrev pub IsPlain : Change → Type 0
IsPlain (Add q) = Unit {0}
IsPlain (Delete q) = Unit {0}
IsPlain (PrefixAdd prefix iri graph) = Unit {0}
IsPlain (PrefixDelete prefix graph) = Unit {0}
IsPlain Begin = ⊥
IsPlain Commit = ⊥
IsPlain Abort = ⊥

-- changes in one block
abbrev pub in_block : List Change → List Change
in_block changes = Begin ∷ (changes ++ Commit ∷ [])
