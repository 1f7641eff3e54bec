-- Terms that get numbers, over plain variables.
use Rattle.std.proofs.Common.{◌≡◌, ◌⊎◌, ℕ, Bool, true, false, cond, List, [], ◌∷◌, ◌++◌, length, Option, Some, None, refl, sym, ap, subst, ◌∙◌, append-nil, append_assoc, length-append, arith, inl, inr, ⊎_elim}
use Rattle.std.specs.List.{Contains, IsDistinct, list_any}
use Rattle.std.specs.Option.{IsSome, is_some}
use Rattle.std.proofs.lemmas.List.Elements.{Contains-append_cases, Contains-append_left, Contains-append_right}
use Rattle.rdf_terms.specs.declared.term.Term.{Term}
use Rattle.term_table.specs.Table.{same, number_in, interned, term_numbered}
use Rattle.term_table.proofs.Numbers.{is_new, with_new, stays}
use Rattle.quad_keys.specs.Keys.{term_of_number}
use Rattle.dataset_tx.proofs.Numbered.{the_term}
use Rattle.rdf_terms.specs.Quad.{Statement}
use Rattle.rdf_terms.specs.declared.change.Change.TheVariants.{Add}
use Rattle.dataset_tx.specs.Held.{graph_terms, terms_of}
use Rattle.dataset_tx.specs.Numbering.{Grows, AreMoreThan, IsGraphNumber}

nothing_in : {X : Type 0} (x : X) → Contains [] x → ⊥
nothing_in x h = let low = h.1 in omega arith

pub stays_same : (fresh old new : List Term) → IsDistinct same old → new ≡ old → Grows fresh old new
stays_same fresh old new d e = record { more = []; new_is = e ∙ sym (append-nil old); each_once = subst (IsDistinct same) (sym e) d; came = λ t h. absurd (nothing_in t h) }

pub interned_grows : (old new : List Term) (t : Term) → IsDistinct same old → new ≡ interned old t → Grows (t ∷ []) old new
interned_grows old new t d e = by (list_any (same t) old) refl e
  where
    by : (b : Bool) → list_any (same t) old ≡ b → new ≡ cond b old (old ++ t ∷ []) → Grows (t ∷ []) old new
    by true h e = stays_same (t ∷ []) old new d e
    by false h e = record { more = t ∷ []; new_is = e; each_once = subst (IsDistinct same) (sym e) (with_new old t d h); came = λ x c. c }

pub one_too_many : (most : ℕ) (old new : List Term) (t : Term) → IsDistinct same old → number_in old t ≡ None → length old ≡ most → new ≡ old → AreMoreThan most (t ∷ []) new
one_too_many most old new t d e full same_terms =
    subst (AreMoreThan most (t ∷ [])) (sym same_terms) (record {
      all = old ++ t ∷ [];
      from = λ x h. Contains-append_cases old (t ∷ []) x h;
      each_once = with_new old t d (is_new old t e);
      many = omega (arith, full, length-append old);
    })

-- ---- several growths

pub wider : (f g old new : List Term) → ((t : Term) → Contains f t → Contains g t) → Grows f old new → Grows g old new
wider f g old new sub h = record { more = h.more; new_is = h.new_is; each_once = h.each_once; came = λ t c. sub t (h.came t c) }

pub then_grows : (f a b d : List Term) → Grows f a b → Grows f b d → Grows f a d
then_grows f a b d h k = record {
  more = h.more ++ k.more;
  new_is = k.new_is ∙ ap (λ (l : List Term). l ++ k.more) h.new_is ∙ append_assoc a h.more k.more;
  each_once = k.each_once;
  came = λ t c. ⊎_elim (h.came t) (k.came t) (Contains-append_cases h.more k.more t c);
}

pub keeps_number : (f a b : List Term) (n : ℕ) (t : Term) → Grows f a b → term_numbered a n ≡ Some t → term_numbered b n ≡ Some t
keeps_number f a b n t h e = ap (λ (l : List Term). term_numbered l n) h.new_is ∙ stays a h.more n t e

pub keeps_graph : (f a b : List Term) (graph : Option Term) (n : ℕ) → Grows f a b → IsGraphNumber a graph n → IsGraphNumber b graph n
keeps_graph f a b graph n h e = by e.1
  where
    by : (n ≡ 0) ⊎ IsSome (term_numbered a n) → IsGraphNumber b graph n
    by (inl z) = (ap (term_numbered b) z ∙ sym (ap (term_numbered a) z) ∙ e.0, inl z)
    by (inr s) = let at = keeps_number f a b n (term_of_number a n) h (the_term a n s) in (at ∙ sym (the_term a n s) ∙ e.0, inr (ap is_some at))

pub wider_than : (most : ℕ) (f g terms : List Term) → ((t : Term) → Contains f t → Contains g t) → AreMoreThan most f terms → AreMoreThan most g terms
wider_than most f g terms sub h = record {
  all = h.all;
  from = λ t c. ⊎_elim (λ (x : Contains terms t). inl x) (λ (x : Contains f t). inr (sub t x)) (h.from t c);
  each_once = h.each_once;
  many = h.many;
}

pub first_of : (x : Term) (xs : List Term) (t : Term) → Contains (x ∷ []) t → Contains (x ∷ xs) t
first_of x xs t h = Contains-append_left (x ∷ []) xs t h

pub behind : (x : Term) (xs ys : List Term) → ((t : Term) → Contains ys t → Contains xs t) → (t : Term) → Contains ys t → Contains (x ∷ xs) t
behind x xs ys sub t h = Contains-append_right (x ∷ []) xs t (sub t h)

-- ---- a graph's name

pub named_grows : (graph : Option Term) (name : Term) (old new : List Term) → graph ≡ Some name → Grows (name ∷ []) old new → Grows (graph_terms graph) old new
named_grows graph name old new e h = subst (λ (g : Option Term). Grows (graph_terms g) old new) (sym e) h

pub named_number : (graph : Option Term) (name : Term) (terms : List Term) (n : ℕ) → graph ≡ Some name → term_numbered terms n ≡ Some name → IsGraphNumber terms graph n
named_number graph name terms n e h = (h ∙ sym e, inr (ap is_some h))

pub named_more : (most : ℕ) (graph : Option Term) (name : Term) (terms : List Term) → graph ≡ Some name → AreMoreThan most (name ∷ []) terms → AreMoreThan most (graph_terms graph) terms
named_more most graph name terms e h = subst (λ (g : Option Term). AreMoreThan most (graph_terms g) terms) (sym e) h

-- ---- the terms of a quad

module _ (q : Statement) where
  pub of_graph : (graph : Option Term) → graph ≡ q.graph → (t : Term) → Contains (graph_terms graph) t → Contains (terms_of (Add q)) t
  of_graph graph e t h =
      behind q.subject (q.predicate ∷ q.object ∷ graph_terms q.graph) (graph_terms q.graph)
      (behind q.predicate (q.object ∷ graph_terms q.graph) (graph_terms q.graph) (behind q.object (graph_terms q.graph) (graph_terms q.graph) (λ x c. c))) t
      (subst (λ (g : Option Term). Contains (graph_terms g) t) e h)

  pub of_subject : (x : Term) → x ≡ q.subject → (t : Term) → Contains (x ∷ []) t → Contains (terms_of (Add q)) t
  of_subject x e t h = first_of q.subject (q.predicate ∷ q.object ∷ graph_terms q.graph) t (subst (λ (y : Term). Contains (y ∷ []) t) e h)

  pub of_predicate : (x : Term) → x ≡ q.predicate → (t : Term) → Contains (x ∷ []) t → Contains (terms_of (Add q)) t
  of_predicate x e t h =
      behind q.subject (q.predicate ∷ q.object ∷ graph_terms q.graph) (q.predicate ∷ []) (first_of q.predicate (q.object ∷ graph_terms q.graph)) t
      (subst (λ (y : Term). Contains (y ∷ []) t) e h)

  pub of_object : (x : Term) → x ≡ q.object → (t : Term) → Contains (x ∷ []) t → Contains (terms_of (Add q)) t
  of_object x e t h =
      behind q.subject (q.predicate ∷ q.object ∷ graph_terms q.graph) (q.object ∷ [])
      (behind q.predicate (q.object ∷ graph_terms q.graph) (q.object ∷ []) (first_of q.object (graph_terms q.graph))) t
      (subst (λ (y : Term). Contains (y ∷ []) t) e h)
