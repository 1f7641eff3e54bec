-- The rows of changes, put in order one after another.
use Rattle.std.proofs.Common.{◌≡◌, ◌⊎◌, inl, inr, ⊎_elim, ℕ, zero, suc, ◌<◌, List, [], ◌∷◌, length, get_or, map, refl, sym, ap, subst, ◌∙◌, arith}
use Rattle.std.specs.List.{Contains}
use Rattle.std.specs.List.Sorted.{IsStrictlySortedBy}
use Rattle.std.specs.Ordering.{nat_cmp, is_eq, match_ordering}
use Rattle.std.specs.declared.cmp.Ordering.{Ordering}
use Rattle.std.specs.declared.cmp.Ordering.TheVariants.{Less, Equal, Greater}
use Rattle.std.specs.Cmp.Lexicographic.{slice_cmp, nat_list_cmp_total, bytes_decides}
use Rattle.std.specs.BTreeSet.{insert_key}
use Rattle.std.proofs.lemmas.Map.Text.{is_eq-slice_cmp}
use Rattle.quad_index.proofs.Members.{sorted_inserted}
use Rattle.line_log.specs.Edits.{edited}
use Rattle.rdf_terms.specs.declared.change.Change.{Change}
use Rattle.dataset_tx.specs.Rows.{change_row, rows_added, rows_in_order}

pub cases : {K : Type 0} (x : K) (xs : List K) (z : K) → Contains (x ∷ xs) z → (x ≡ z) ⊎ Contains xs z
cases x xs z c = by c.0 c.1 c.2
  where
    by : (k : ℕ) → k < length (x ∷ xs) → get_or (x ∷ xs) k z ≡ z → (x ≡ z) ⊎ Contains xs z
    by zero lt e = inl e
    by (suc k) lt e = inr (k, omega arith, e)

pub begins : {K : Type 0} (x : K) (xs : List K) → Contains (x ∷ xs) x
begins x xs = (0, omega arith, refl)

pub behind : {K : Type 0} (x : K) (xs : List K) (z : K) → Contains xs z → Contains (x ∷ xs) z
behind x xs z c = let low = c.1 in (suc c.0, omega arith, c.2)

-- ---- what is put among others in order

module _ {K : Type 0} (R : K → K → Ordering) where
  -- what stands there is the new one, or stood there before
  pub out_of : (new : K) (xs : List K) (z : K) → Contains (insert_key R xs new) z → (new ≡ z) ⊎ Contains xs z
  out_of new [] z c = cases new [] z c
  out_of new (x ∷ xs) z c = by (R new x) (out_of new xs z) c
    where
      by : (r : Ordering) → (Contains (insert_key R xs new) z → (new ≡ z) ⊎ Contains xs z) → Contains (match_ordering r (new ∷ x ∷ xs) (x ∷ xs) (x ∷ insert_key R xs new)) z → (new ≡ z) ⊎ Contains (x ∷ xs) z
      by Less h c = cases new (x ∷ xs) z c
      by Equal h c = inr c
      by Greater h c =
          ⊎_elim (λ first. inr (subst (Contains (x ∷ xs)) first (begins x xs))) (λ other. ⊎_elim (λ same. inl same) (λ old. inr (behind x xs z old)) (h other)) (cases x (insert_key R xs new) z c)

  -- what stood there stays
  pub stays : (new : K) (xs : List K) (z : K) → Contains xs z → Contains (insert_key R xs new) z
  stays new [] z c = behind new [] z c
  stays new (x ∷ xs) z c = by (R new x) (stays new xs z)
    where
      by : (r : Ordering) → (Contains xs z → Contains (insert_key R xs new) z) → Contains (match_ordering r (new ∷ x ∷ xs) (x ∷ xs) (x ∷ insert_key R xs new)) z
      by Less h = behind new (x ∷ xs) z c
      by Equal h = c
      by Greater h = ⊎_elim (λ first. subst (Contains (x ∷ insert_key R xs new)) first (begins x (insert_key R xs new))) (λ other. behind x (insert_key R xs new) z (h other)) (cases x xs z c)

  -- the new one comes, where one that is equal in the order is the same
  pub comes : (new : K) (xs : List K) → ((x : K) → Contains xs x → R new x ≡ Equal → new ≡ x) → Contains (insert_key R xs new) new
  comes new [] exact = begins new []
  comes new (x ∷ xs) exact = by (R new x) refl (comes new xs (λ z c. exact z (behind x xs z c)))
    where
      by : (r : Ordering) → R new x ≡ r → Contains (insert_key R xs new) new → Contains (match_ordering r (new ∷ x ∷ xs) (x ∷ xs) (x ∷ insert_key R xs new)) new
      by Less e h = begins new (x ∷ xs)
      by Equal e h = subst (Contains (x ∷ xs)) (sym (exact x (begins x xs) e)) (begins x xs)
      by Greater e h = behind x (insert_key R xs new) new h

-- ---- rows

abbrev pub bytes_cmp : List ℕ → List ℕ → Ordering
bytes_cmp a b = slice_cmp nat_cmp a b

equal_texts : (a b : List ℕ) → bytes_cmp a b ≡ Equal → a ≡ b
equal_texts a b e = (bytes_decides a b).0 (sym (is_eq-slice_cmp a b) ∙ ap is_eq e)

-- what a list of rows is when those of changes are put in order among them
abbrev with_rows : List Change → List (List ℕ) → List (List ℕ)
with_rows changes rows = edited (rows_added changes) rows

rows_from : (changes : List Change) (rows : List (List ℕ)) (z : List ℕ) → Contains (with_rows changes rows) z → Contains (map change_row changes) z ⊎ Contains rows z
rows_from [] rows z c = inr c
rows_from (change ∷ changes) rows z c =
    ⊎_elim (λ other. inl (behind (change_row change) (map change_row changes) z other))
    (λ before. ⊎_elim (λ new. inl (subst (Contains (change_row change ∷ map change_row changes)) new (begins (change_row change) (map change_row changes)))) (λ old. inr old) (out_of bytes_cmp (change_row change) rows z before))
    (rows_from changes (insert_key bytes_cmp rows (change_row change)) z c)

rows_stay : (changes : List Change) (rows : List (List ℕ)) (z : List ℕ) → Contains rows z → Contains (with_rows changes rows) z
rows_stay [] rows z c = c
rows_stay (change ∷ changes) rows z c = rows_stay changes (insert_key bytes_cmp rows (change_row change)) z (stays bytes_cmp (change_row change) rows z c)

rows_come : (changes : List Change) (rows : List (List ℕ)) (z : List ℕ) → Contains (map change_row changes) z → Contains (with_rows changes rows) z
rows_come [] rows z c = let low = c.1 in absurd (omega arith)
rows_come (change ∷ changes) rows z c =
    ⊎_elim (λ first. rows_stay changes (insert_key bytes_cmp rows (change_row change)) z (subst (Contains (insert_key bytes_cmp rows (change_row change))) first (comes bytes_cmp (change_row change) rows (λ x c e. equal_texts (change_row change) x e))))
    (λ other. rows_come changes (insert_key bytes_cmp rows (change_row change)) z other)
    (cases (change_row change) (map change_row changes) z c)

rows_rise : (changes : List Change) (rows : List (List ℕ)) → IsStrictlySortedBy bytes_cmp rows → IsStrictlySortedBy bytes_cmp (with_rows changes rows)
rows_rise [] rows s = s
rows_rise (change ∷ changes) rows s = rows_rise changes (insert_key bytes_cmp rows (change_row change)) (sorted_inserted nat_list_cmp_total (change_row change) rows s)

none_rise : IsStrictlySortedBy bytes_cmp []
unfolding IsStrictlySortedBy
none_rise = tt

-- the rows in order are those of the changes, and they rise

pub ordered_from : (changes : List Change) (z : List ℕ) → Contains (rows_in_order changes) z → Contains (map change_row changes) z
ordered_from changes z c = ⊎_elim (λ among. among) (λ none. let low = none.1 in absurd (omega arith)) (rows_from changes [] z c)

pub ordered_to : (changes : List Change) (z : List ℕ) → Contains (map change_row changes) z → Contains (rows_in_order changes) z
ordered_to changes z c = rows_come changes [] z c

pub ordered_rises : (changes : List Change) → IsStrictlySortedBy bytes_cmp (rows_in_order changes)
ordered_rises changes = rows_rise changes [] none_rise
