-- Quads that are asked for, by the numbers of their terms.
use Rattle.std.proofs.Common.{◌≡◌, ◌⊎◌, ℕ, ◌+◌, ◌≤◌, ◌==◌, Bool, true, false, ◌&&◌, ◌||◌, List, [], ◌∷◌, length, Option, Some, None, refl, sym, ap, subst, ◌∙◌, inl, inr, arith}
use mathlib.Core.Bool.{true≢false}
use Rattle.std.specs.Cmp.{both_ways, eq_by_cmp_equiv}
use Rattle.std.specs.declared.cmp.Ordering.{Ordering}
use Rattle.std.specs.declared.cmp.Ordering.TheVariants.{Less, Equal, Greater}
use Rattle.std.specs.Ordering.{eq_by_cmp, is_eq, match_ordering}
use Rattle.std.specs.Prelude.{Result, Ok, Err, IfOk}
use Rattle.std.specs.Option.{IsSome, option_map}
use Rattle.std.specs.List.{AllByRecursion, IsDistinct, filter, list_any}
use Rattle.std.specs.BTreeMap.{is_at}
use Rattle.std.specs.BTreeSet.{insert_key}
use Rattle.std.proofs.lemmas.Map.Keys.{IsDistinct-head, IsDistinct-tail}
use Rattle.std.proofs.lemmas.Bool.{eq-eqb, eqb-true, and_parts}
use Rattle.rdf_terms.specs.declared.term.Term.{Term}
use Rattle.rdf_terms.specs.Quad.{Statement}
use Rattle.rdf_terms.specs.Line.{line_cmp}
use Rattle.quad_index.specs.declared.key.QuadKey.{QuadKey}
use Rattle.quad_index.specs.declared.key.KeyPattern.{KeyPattern}
use Rattle.quad_index.specs.Key.{key_cmp, has_key, AreMatches, matches_key}
use Rattle.quad_index.proofs.Same.{key_total, exact_key, from_tied}
use Rattle.quad_keys.specs.Keys.{term_of_number, quad_of_key, quads_of, IsNumbered, AreKnown}
use Rattle.quad_keys.proofs.Quads.{any_quads, own, quads_found}
use Rattle.term_table.specs.Table.{same, term_numbered, number_in}
use Rattle.term_table.proofs.Numbers.{named, one_number, same_exact, same_refl}
use Rattle.dataset_tx.specs.declared.pattern.GraphPart.{GraphPart}
use Rattle.dataset_tx.specs.declared.pattern.GraphPart.TheVariants.{Named}
use Rattle.dataset_tx.specs.declared.pattern.Pattern.{Pattern}
use Rattle.dataset_tx.specs.Pattern.{fits, fits_graph, fits_number, matches}
use Rattle.dataset_tx.proofs.Numbered.{the_term, unnumbered}

-- ---- the number of a term

no_zero : (terms : List Term) (t : Term) → term_numbered terms 0 ≡ Some t → ⊥
no_zero terms t e = cc

module _ (terms : List Term) (wanted : Term) where
  fits_found : (m n : ℕ) → IsDistinct same terms → number_in terms wanted ≡ Some m → IsSome (term_numbered terms n) → same wanted (term_of_number terms n) ≡ (m == n)
  fits_found m n d e h =
      both_ways _ _
      (λ s. eq-eqb m n (one_number terms m n wanted d (named terms wanted m e) (the_term terms n h ∙ ap Some (sym (same_exact wanted (term_of_number terms n) s)))))
      (λ s. same_term (eqb-true m n s))
    where
      same_term : m ≡ n → same wanted (term_of_number terms n) ≡ true
      same_term is =
          let at : Some (term_of_number terms n) ≡ Some wanted = sym (the_term terms n h) ∙ ap (term_numbered terms) (sym is) ∙ named terms wanted m e in
          let t : term_of_number terms n ≡ wanted = cc in
          ap (same wanted) t ∙ same_refl wanted

  fits_nothing : (n : ℕ) → number_in terms wanted ≡ None → IsSome (term_numbered terms n) → same wanted (term_of_number terms n) ≡ false
  fits_nothing n e h = by (same wanted (term_of_number terms n)) refl
    where
      by : (b : Bool) → same wanted (term_of_number terms n) ≡ b → b ≡ false
      by true s = absurd (unnumbered terms wanted n e (the_term terms n h ∙ ap Some (sym (same_exact wanted (term_of_number terms n) s))))
      by false s = refl

  pub part_found : (part : Option Term) (o : Option ℕ) → IsDistinct same terms → part ≡ Some wanted → o ≡ number_in terms wanted → (n : ℕ) → IsSome (term_numbered terms n) → fits part (term_of_number terms n) ≡ fits_number (option_map Some o) n
  part_found part None d is e n h = ap (λ (p : Option Term). fits p (term_of_number terms n)) is ∙ fits_nothing n (sym e) h
  part_found part (Some m) d is e n h = ap (λ (p : Option Term). fits p (term_of_number terms n)) is ∙ fits_found m n d (sym e) h

  graph_at : (o : Option ℕ) → IsDistinct same terms → o ≡ number_in terms wanted → (n : ℕ) → (n ≡ 0) ⊎ IsSome (term_numbered terms n) → fits_graph (Named wanted) (term_numbered terms n) ≡ fits_number (option_map Some o) n
  graph_at None d e n (inl z) = ap (λ (m : ℕ). fits_graph (Named wanted) (term_numbered terms m)) z
  graph_at None d e n (inr h) = ap (fits_graph (Named wanted)) (the_term terms n h) ∙ fits_nothing n (sym e) h
  graph_at (Some m) d e n (inl z) = ap (λ (k : ℕ). fits_graph (Named wanted) (term_numbered terms k)) z ∙ sym (apart (m == n) refl)
    where
      apart : (b : Bool) → (m == n) ≡ b → b ≡ false
      apart true s = absurd (no_zero terms wanted (ap (term_numbered terms) (sym (eqb-true m n s ∙ z)) ∙ named terms wanted m (sym e)))
      apart false s = refl
  graph_at (Some m) d e n (inr h) = ap (fits_graph (Named wanted)) (the_term terms n h) ∙ fits_found m n d (sym e) h

  pub graph_found : (graph : GraphPart) (o : Option ℕ) → IsDistinct same terms → graph ≡ Named wanted → o ≡ number_in terms wanted → (n : ℕ) → (n ≡ 0) ⊎ IsSome (term_numbered terms n) → fits_graph graph (term_numbered terms n) ≡ fits_number (option_map Some o) n
  graph_found graph o d is e n h = ap (λ (g : GraphPart). fits_graph g (term_numbered terms n)) is ∙ graph_at o d e n h

-- ---- the keys that were found

and_false : (a : Bool) → (a && false) ≡ false
and_false true = refl
and_false false = refl

known_at : (terms : List Term) (keys : List QuadKey) (key : QuadKey) → AreKnown terms keys → has_key keys key ≡ true → IsNumbered terms key
known_at terms [] key ks h = absurd (true≢false (sym h))
known_at terms (x ∷ keys) key ks h = by (eq_by_cmp key_cmp key x) refl h (known_at terms keys key ks.1)
  where
    by : (b : Bool) → eq_by_cmp key_cmp key x ≡ b → (b || has_key keys key) ≡ true → (has_key keys key ≡ true → IsNumbered terms key) → IsNumbered terms key
    by true e h r = subst (IsNumbered terms) (sym (from_tied key_cmp exact_key key x _ refl e)) ks.0
    by false e h r = r h

known_found : (terms : List Term) (keys found : List QuadKey) → AreKnown terms keys → ((key : QuadKey) → has_key found key ≡ true → has_key keys key ≡ true) → AreKnown terms found
known_found terms keys [] ks sub = tt
known_found terms keys (x ∷ found) ks sub =
    (known_at terms keys x ks (sub x (ap (λ (b : Bool). b || has_key found x) ((eq_by_cmp_equiv key_total).refl x))), known_found terms keys found ks (λ key h. sub key (later (eq_by_cmp key_cmp key x) h)))
  where
    later : (b : Bool) {c : Bool} → c ≡ true → (b || c) ≡ true
    later true h = refl
    later false h = h

all_known : (terms : List Term) (m : QuadKey → Bool) (keys found : List QuadKey) → AreKnown terms keys → ((key : QuadKey) → has_key found key ≡ (has_key keys key && m key)) → AreKnown terms found
all_known terms m keys found ks e = known_found terms keys found ks (λ key h. (and_parts (has_key keys key) (m key) (sym (e key) ∙ h)).0)

pub none_match : (terms : List Term) (pattern : Statement → Bool) (keys : List QuadKey) → IsDistinct same terms → AreKnown terms keys → ((key : QuadKey) → IsNumbered terms key → pattern (quad_of_key terms key) ≡ false) → [] ≡ filter pattern (quads_of terms keys)
none_match terms pattern keys d ks agrees = quads_found terms d pattern (λ key. false) agrees keys [] ks tt (λ key. sym (and_false (has_key keys key)))

pub both_ok : {T E : Type 0} (r : Result T E) (P Q R : T → Type 0) → ((x : T) → P x → Q x → R x) → IfOk r P → IfOk r Q → IfOk r R
both_ok (Ok x) P Q R f p q = f x p q
both_ok (Err e) P Q R f p q = tt

-- ---- as many quads as keys

length_inserted : (q : Statement) (xs : List Statement) → list_any (is_at (line_cmp q)) xs ≡ false → length (insert_key line_cmp xs q) ≡ length xs + 1
length_inserted q [] h = refl
length_inserted q (x ∷ xs) h = by (line_cmp q x) h (length_inserted q xs)
  where
    by : (o : Ordering) → (is_eq o || list_any (is_at (line_cmp q)) xs) ≡ false → (list_any (is_at (line_cmp q)) xs ≡ false → length (insert_key line_cmp xs q) ≡ length xs + 1)
        → length (match_ordering o (q ∷ x ∷ xs) (x ∷ xs) (x ∷ insert_key line_cmp xs q)) ≡ length (x ∷ xs) + 1
    by Less h r = omega arith
    by Equal h r = absurd (true≢false h)
    by Greater h r = let more = r h in omega arith

unlike_all : (terms : List Term) → IsDistinct same terms → (key : QuadKey) (keys : List QuadKey) → IsNumbered terms key → AreKnown terms keys → AllByRecursion (λ y. eq_by_cmp key_cmp key y ≡ false) keys
    → list_any (λ k. is_at (line_cmp (quad_of_key terms key)) (quad_of_key terms k)) keys ≡ false
unlike_all terms d key [] h ks a = refl
unlike_all terms d key (x ∷ keys) h ks a =
    ap (λ (b : Bool). b || list_any (λ k. is_at (line_cmp (quad_of_key terms key)) (quad_of_key terms k)) keys) (own terms d key x h ks.0 ∙ a.0) ∙ unlike_all terms d key keys h ks.1 a.1

count_quads : (terms : List Term) (keys : List QuadKey) → IsDistinct same terms → AreKnown terms keys → IsDistinct (eq_by_cmp key_cmp) keys → length (quads_of terms keys) ≡ length keys
count_quads terms [] d ks e = refl
count_quads terms (key ∷ keys) d ks e =
    let rest = count_quads terms keys d ks.1 (IsDistinct-tail (eq_by_cmp key_cmp) key keys e) in
    let new = any_quads (is_at (line_cmp (quad_of_key terms key))) terms keys ks.1 ∙ unlike_all terms d key keys ks.0 ks.1 (IsDistinct-head (eq_by_cmp key_cmp) key keys e) in
    let more = length_inserted (quad_of_key terms key) (quads_of terms keys) new in
    omega (arith, rest, more)

module _ (terms : List Term) (pattern : Pattern) (wanted : KeyPattern) (keys index found : List QuadKey) (d : IsDistinct same terms) (ks : AreKnown terms keys) (is : index ≡ keys)
    (agrees : (key : QuadKey) → IsNumbered terms key → matches pattern (quad_of_key terms key) ≡ matches_key wanted key) (h : AreMatches wanted index found) where
  exactly : (key : QuadKey) → has_key found key ≡ (has_key keys key && matches_key wanted key)
  exactly key = h.exactly key ∙ ap (λ (l : List QuadKey). has_key l key && matches_key wanted key) is

  pub match_known : AreKnown terms found
  match_known = all_known terms (matches_key wanted) keys found ks exactly

  pub match_quads : quads_of terms found ≡ filter (matches pattern) (quads_of terms keys)
  match_quads = quads_found terms d (matches pattern) (matches_key wanted) agrees keys found ks match_known exactly

  pub match_count : length (filter (matches pattern) (quads_of terms keys)) ≡ length found
  match_count = ap length (sym match_quads) ∙ count_quads terms found d match_known h.each_once
