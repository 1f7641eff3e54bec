-- What is put into an order of keys, where its key is new or comes last.
use Rattle.std.proofs.Common.{◌≡◌, ◌⊎◌, inl, inr, ⊎_elim, Bool, true, false, ◌||◌, List, [], ◌∷◌, ◌++◌, refl, sym, ap, subst, ◌∙◌, arith}
use Rattle.std.specs.List.{AllByRecursion, Contains, list_any}
use Rattle.std.specs.Ordering.{is_eq, match_ordering, ordering_reverse}
use Rattle.std.specs.declared.cmp.Ordering.{Ordering}
use Rattle.std.specs.declared.cmp.Ordering.TheVariants.{Less, Equal, Greater}
use Rattle.std.specs.BTreeMap.{is_at, insert_entry}
use Rattle.std.specs.BTreeSet.{insert_key}
use Rattle.std.specs.Cmp.{IsTotalOrder}
use Rattle.std.proofs.lemmas.Bool.{false≢true}
use Rattle.checkpoint_text.proofs.Ordered.{cases, begins, behind}

or_parts : (a b : Bool) → (a || b) ≡ false → (a ≡ false) × (b ≡ false)
or_parts true b h = absurd (false≢true (sym h))
or_parts false b h = (refl, h)

module _ {K V : Type 0} (R : K → K → Ordering) where
  -- whether an entry has this key
  abbrev pub has_key : List (K × V) → K → Bool
  has_key es k = list_any (λ e. is_at (R k) e.0) es

  -- what is there once a new key is put in
  pub came : (k : K) (v : V) (es : List (K × V)) (z : K × V) → has_key es k ≡ false → Contains (insert_entry R es k v) z → ((k, v) ≡ z) ⊎ Contains es z
  came k v [] z new c = cases (k, v) [] z c
  came k v (e ∷ es) z new c = let parts = or_parts (is_at (R k) e.0) (has_key es k) new in by (R k e.0) refl parts.0 (came k v es z parts.1) c
    where
      by : (r : Ordering) → R k e.0 ≡ r → is_at (R k) e.0 ≡ false → (Contains (insert_entry R es k v) z → ((k, v) ≡ z) ⊎ Contains es z) → Contains (match_ordering r ((k, v) ∷ e ∷ es) ((e.0, v) ∷ es) (e ∷ insert_entry R es k v)) z → ((k, v) ≡ z) ⊎ Contains (e ∷ es) z
      by Less is not h c = cases (k, v) (e ∷ es) z c
      by Equal is not h c = absurd (false≢true (sym not ∙ ap is_eq is))
      by Greater is not h c =
          ⊎_elim (λ (same : e ≡ z). inr (subst (Contains (e ∷ es)) same (begins e es))) (λ (past : Contains (insert_entry R es k v) z). ⊎_elim (λ (new : (k, v) ≡ z). inl new) (λ (old : Contains es z). inr (behind e es z old)) (h past)) (cases e (insert_entry R es k v) z c)

  pub comes : (k : K) (v : V) (es : List (K × V)) → has_key es k ≡ false → Contains (insert_entry R es k v) (k, v)
  comes k v [] new = begins (k, v) []
  comes k v (e ∷ es) new = let parts = or_parts (is_at (R k) e.0) (has_key es k) new in by (R k e.0) refl parts.0 (comes k v es parts.1)
    where
      by : (r : Ordering) → R k e.0 ≡ r → is_at (R k) e.0 ≡ false → Contains (insert_entry R es k v) (k, v) → Contains (match_ordering r ((k, v) ∷ e ∷ es) ((e.0, v) ∷ es) (e ∷ insert_entry R es k v)) (k, v)
      by Less is not h = begins (k, v) (e ∷ es)
      by Equal is not h = absurd (false≢true (sym not ∙ ap is_eq is))
      by Greater is not h = behind e (insert_entry R es k v) (k, v) h

  pub stays : (k : K) (v : V) (es : List (K × V)) (z : K × V) → has_key es k ≡ false → Contains es z → Contains (insert_entry R es k v) z
  stays k v [] z new c = let low = c.1 in absurd (omega arith)
  stays k v (e ∷ es) z new c = let parts = or_parts (is_at (R k) e.0) (has_key es k) new in by (R k e.0) refl parts.0 (stays k v es z parts.1)
    where
      by : (r : Ordering) → R k e.0 ≡ r → is_at (R k) e.0 ≡ false → (Contains es z → Contains (insert_entry R es k v) z) → Contains (match_ordering r ((k, v) ∷ e ∷ es) ((e.0, v) ∷ es) (e ∷ insert_entry R es k v)) z
      by Less is not h = behind (k, v) (e ∷ es) z c
      by Equal is not h = absurd (false≢true (sym not ∙ ap is_eq is))
      by Greater is not h = ⊎_elim (λ (same : e ≡ z). subst (Contains (e ∷ insert_entry R es k v)) same (begins e (insert_entry R es k v))) (λ (past : Contains es z). behind e (insert_entry R es k v) z (h past)) (cases e es z c)

  -- a key that is there is that of an entry
  pub entry_at : (k : K) (es : List (K × V)) → has_key es k ≡ true → (e : K × V) × Contains es e × (R k e.0 ≡ Equal)
  entry_at k [] has = absurd (false≢true has)
  entry_at k (e ∷ es) has = by (R k e.0) refl has (entry_at k es)
    where
      by : (r : Ordering) → R k e.0 ≡ r → (is_eq r || has_key es k) ≡ true → (has_key es k ≡ true → (e : K × V) × Contains es e × (R k e.0 ≡ Equal)) → (f : K × V) × Contains (e ∷ es) f × (R k f.0 ≡ Equal)
      by Less is has h = let found = h has in (found.0, behind e es found.0 found.1, found.2)
      by Equal is has h = (e, begins e es, is)
      by Greater is has h = let found = h has in (found.0, behind e es found.0 found.1, found.2)

module _ {K : Type 0} (R : K → K → Ordering) (o : IsTotalOrder R) where
  -- what comes behind all of them is put at the end
  pub put_last : (k : K) (ks : List K) → AllByRecursion (λ x. R x k ≡ Less) ks → insert_key R ks k ≡ ks ++ k ∷ []
  put_last k [] a = refl
  put_last k (x ∷ xs) a =
      let greater : R k x ≡ Greater = o.antisymm k x ∙ ap ordering_reverse a.0 in
      ap (λ (r : Ordering). match_ordering r (k ∷ x ∷ xs) (x ∷ xs) (x ∷ insert_key R xs k)) greater ∙ ap (λ (l : List K). x ∷ l) (put_last k xs a.1)
