-- Keys of quads whose terms have numbers.
use Rattle.std.proofs.Common.{◌≡◌, ℕ, ◌-◌, ◌==◌, Bool, true, false, cond, List, [], Option, Some, None, refl, sym, ap, subst, ◌∙◌, inr}
use Rattle.std.specs.Prelude.{slice_get, IfSome, IfNone}
use mathlib.Core.Bool.{true≢false}
use Rattle.std.specs.Option.{unwrap_or, IsSome, is_some}
use Rattle.std.specs.List.{list_any}
use Rattle.std.proofs.lemmas.Map.Keys.{any_passes_from_place}
use Rattle.rdf_terms.specs.declared.term.Term.{Term}
use Rattle.rdf_terms.specs.declared.term.Term.TheVariants as term
use Rattle.rdf_terms.specs.Quad.{Statement, statement}
use Rattle.nquads_documents.specs.Laws.{IsQuadValue}
use Rattle.quad_index.specs.declared.key.QuadKey.{QuadKey}
use Rattle.quad_keys.specs.Keys.{term_of_number, quad_of_key, IsNumbered}
use Rattle.term_table.specs.Table.{same, term_numbered, number_in}
use Rattle.term_table.proofs.Numbers.{is_new, same_refl, named}
use Rattle.dataset_tx.specs.Numbering.{IsGraphNumber}

abbrev pub key_of : ℕ → ℕ → ℕ → ℕ → QuadKey
key_of g s p o = record { g = g; s = s; p = p; o = o }

the_same : (terms : List Term) (n : ℕ) (t : Term) → term_numbered terms n ≡ Some t → term_of_number terms n ≡ t
the_same terms n t e = ap (λ (o : Option Term). unwrap_or o (term.Blank [])) e

some_term : (terms : List Term) (n : ℕ) (t : Term) → term_numbered terms n ≡ Some t → IsSome (term_numbered terms n)
some_term terms n t e = ap is_some e

pub quad_is : (terms : List Term) (q : Statement) (g s p o : ℕ) → IsGraphNumber terms q.graph g → term_numbered terms s ≡ Some q.subject → term_numbered terms p ≡ Some q.predicate → term_numbered terms o ≡ Some q.object → quad_of_key terms (key_of g s p o) ≡ q
quad_is terms q g s p o eg es ep eo =
    ap (λ (x : Term). statement x (term_of_number terms p) (term_of_number terms o) (term_numbered terms g)) (the_same terms s q.subject es)
    ∙ ap (λ (x : Term). statement q.subject x (term_of_number terms o) (term_numbered terms g)) (the_same terms p q.predicate ep)
    ∙ ap (λ (x : Term). statement q.subject q.predicate x (term_numbered terms g)) (the_same terms o q.object eo)
    ∙ ap (λ (x : Option Term). statement q.subject q.predicate q.object x) eg.0

pub key_is_known : (terms : List Term) (q : Statement) (g s p o : ℕ) → IsQuadValue q → IsGraphNumber terms q.graph g → term_numbered terms s ≡ Some q.subject → term_numbered terms p ≡ Some q.predicate → term_numbered terms o ≡ Some q.object → IsNumbered terms (key_of g s p o)
key_is_known terms q g s p o v eg es ep eo = record {
  g_in = eg.1;
  s_in = some_term terms s q.subject es;
  p_in = some_term terms p q.predicate ep;
  o_in = some_term terms o q.object eo;
  value = subst IsQuadValue (sym (quad_is terms q g s p o eg es ep eo)) v;
}

-- ---- a term without a number

no_place : (terms : List Term) (t : Term) (n : ℕ) → list_any (same t) terms ≡ false → term_numbered terms n ≡ Some t → ⊥
no_place terms t n e h = by (n == 0) h
  where
    by : (b : Bool) → cond b None (slice_get terms (n - 1)) ≡ Some t → ⊥
    by true k = cc
    by false k = true≢false (sym (any_passes_from_place (same t) terms (n - 1) t k (same_refl t)) ∙ e)

pub unnumbered : (terms : List Term) (t : Term) (n : ℕ) → number_in terms t ≡ None → term_numbered terms n ≡ Some t → ⊥
unnumbered terms t n e h = no_place terms t n (is_new terms t e) h

pub the_term : (terms : List Term) (n : ℕ) → IsSome (term_numbered terms n) → term_numbered terms n ≡ Some (term_of_number terms n)
the_term terms n h = by (term_numbered terms n) h
  where
    by : (o : Option Term) → is_some o ≡ true → o ≡ Some (unwrap_or o (term.Blank []))
    by None k = absurd (true≢false (sym k))
    by (Some t) k = refl

pub no_subject : (terms : List Term) (q : Statement) → number_in terms q.subject ≡ None → (k : QuadKey) → IsNumbered terms k → q ≡ quad_of_key terms k → ⊥
no_subject terms q e k h is = unnumbered terms q.subject k.s e (the_term terms k.s h.s_in ∙ ap Some (sym (ap (λ (x : Statement). x.subject) is)))

pub no_predicate : (terms : List Term) (q : Statement) → number_in terms q.predicate ≡ None → (k : QuadKey) → IsNumbered terms k → q ≡ quad_of_key terms k → ⊥
no_predicate terms q e k h is = unnumbered terms q.predicate k.p e (the_term terms k.p h.p_in ∙ ap Some (sym (ap (λ (x : Statement). x.predicate) is)))

pub no_object : (terms : List Term) (q : Statement) → number_in terms q.object ≡ None → (k : QuadKey) → IsNumbered terms k → q ≡ quad_of_key terms k → ⊥
no_object terms q e k h is = unnumbered terms q.object k.o e (the_term terms k.o h.o_in ∙ ap Some (sym (ap (λ (x : Statement). x.object) is)))

pub none_named : (terms : List Term) (t : Term) → number_in terms t ≡ None → (n : ℕ) → IsGraphNumber terms (Some t) n → ⊥
none_named terms t e n h = unnumbered terms t n e h.0

-- ---- what a look-up of a graph's name answers

pub some_named : (terms : List Term) (graph : Option Term) (name : Term) (o : Option ℕ) → graph ≡ Some name → o ≡ number_in terms name → IfSome o (IsGraphNumber terms graph)
some_named terms graph name None g e = tt
some_named terms graph name (Some n) g e = let at = named terms name n (sym e) in (at ∙ sym g, inr (some_term terms n name at))

pub none_found : (terms : List Term) (graph : Option Term) (name : Term) (o : Option ℕ) → graph ≡ Some name → o ≡ number_in terms name → IfNone o ((n : ℕ) → IsGraphNumber terms graph n → ⊥)
none_found terms graph name None g e = λ n h. none_named terms name (sym e) n (subst (λ (x : Option Term). IsGraphNumber terms x n) g h)
none_found terms graph name (Some n) g e = tt

pub if_none : (o : Option QuadKey) (P : Type 0) → P → IfNone o P
if_none None P p = p
if_none (Some k) P p = tt
