-- The terms of changes that are met one after another, over plain variables.
use Rattle.std.proofs.Common.{◌≡◌, ℕ, List, ◌∷◌, sym, subst, inl, inr, ⊎_elim}
use Rattle.std.specs.List.{Contains, flat_map}
use Rattle.std.proofs.lemmas.List.Elements.{Contains-append_cases, Contains-append_left, Contains-append_right}
use Rattle.rdf_terms.specs.declared.term.Term.{Term}
use Rattle.rdf_terms.specs.declared.change.Change.{Change}
use Rattle.dataset_tx.specs.Held.{terms_of, AreMet, AreMore}
use Rattle.dataset_tx.specs.Numbering.{Grows, AreMoreThan}

-- these terms are those of changes
abbrev pub ArePart : List Term → List Change → Type 0
ArePart terms changes = (t : Term) → Contains terms t → Contains (flat_map terms_of changes) t

pub part_here : (changes rest behind : List Change) (change : Change) → rest ≡ change ∷ behind → ArePart (flat_map terms_of rest) changes → ArePart (terms_of change) changes
part_here changes rest behind change e part t h =
    part t (subst (λ (l : List Change). Contains (flat_map terms_of l) t) (sym e) (Contains-append_left (terms_of change) (flat_map terms_of behind) t h))

pub part_behind : (changes rest behind : List Change) (change : Change) → rest ≡ change ∷ behind → ArePart (flat_map terms_of rest) changes → ArePart (flat_map terms_of behind) changes
part_behind changes rest behind change e part t h =
    part t (subst (λ (l : List Change). Contains (flat_map terms_of l) t) (sym e) (Contains-append_right (terms_of change) (flat_map terms_of behind) t h))

pub met_grown : (changes : List Change) (a b : List Term) → Grows (flat_map terms_of changes) a b → AreMet changes a b
met_grown changes a b h t c =
    ⊎_elim (λ (x : Contains a t). inl x) (λ (y : Contains h.more t). inr (h.came t y)) (Contains-append_cases a h.more t (subst (λ (l : List Term). Contains l t) h.new_is c))

pub more_met : (most : ℕ) (changes : List Change) (fresh a b : List Term) → Grows (flat_map terms_of changes) a b → ArePart fresh changes → AreMoreThan most fresh b → AreMore most changes a
more_met most changes fresh a b g part h = record {
  terms = h.all;
  met = λ t c. ⊎_elim (λ (x : Contains b t). met_grown changes a b g t x) (λ (y : Contains fresh t). inr (part t y)) (h.from t c);
  each_once = h.each_once;
  many = h.many;
}
