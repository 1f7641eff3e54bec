-- Prefixes at the bytes of their rows, over plain variables.
use Rattle.std.proofs.Common.{◌≡◌, ℕ, Bool, false, cond, ◌||◌, List, [], ◌∷◌, length, Option, None, Some, refl, sym, ap, subst, ◌∙◌}
use mathlib.Core.Bool.{true≢false}
use Rattle.std.specs.declared.cmp.Ordering.{Ordering}
use Rattle.std.specs.declared.cmp.Ordering.TheVariants.{Less, Equal, Greater}
use Rattle.std.specs.Option.{is_some, unwrap_or}
use Rattle.std.specs.Ordering.{nat_cmp, is_eq, match_ordering}
use Rattle.std.specs.Cmp.Lexicographic.{slice_cmp, nat_list_cmp_total}
use Rattle.std.specs.List.{AllByRecursion}
use Rattle.std.specs.List.Sorted.{IsStrictlySortedBy}
use Rattle.std.specs.BTreeMap.{is_at, insert_entry}
use Rattle.std.specs.Map.{keys_of, remove_entry}
use Rattle.std.proofs.lemmas.Map.Keys.{sorted_head, sorted_tail}
use Rattle.std.proofs.lemmas.Map.Lookups.{exact_bytes}
use Rattle.rdf_terms.specs.Dataset.{PrefixKey, prefix_cmp}
use Rattle.dataset_tx.specs.declared.prefixes.PrefixEntry.{PrefixEntry}
use Rattle.dataset_tx.specs.Prefixes.{PrefixRow, RowBytes, bytes_cmp, row_cmp, at_bytes, has_row, row_bytes, StandsAt, AreRows, setting, with_entry, settings_by, settings, set_to, has_prefix}

pub nothing_left : {X : Type 0} (l : List X) → length l ≡ 0 → l ≡ []
nothing_left [] e = refl
nothing_left (x ∷ l) e = cc

-- what is read at each row has its bytes
abbrev pub Stand : (PrefixRow → Option PrefixEntry) → List PrefixRow → Type 0
Stand read rows = AllByRecursion (λ row. StandsAt row.0.items (read row)) rows

abbrev pub AreAbove : PrefixKey → List (PrefixKey × List ℕ) → Type 0
AreAbove key settings = AllByRecursion (λ s. prefix_cmp key s.0 ≡ Less) settings

-- no row has bytes that are below the first
pub none_above : (bytes : List ℕ) (row : RowBytes) (rows : List PrefixRow) → bytes_cmp bytes row ≡ Less → AllByRecursion (λ x. row_cmp row x ≡ Less) (keys_of rows) → has_row rows bytes ≡ false
none_above bytes row [] e h = refl
none_above bytes row (x ∷ rows) e h =
    ap (λ (o : Ordering). is_some (cond (is_eq o) (Some x.1) (at_bytes bytes rows))) (nat_list_cmp_total.trans bytes row.items x.0.items e h.0) ∙ none_above bytes row rows e h.1

-- ---- one prefix and its row

module _ (bytes : List ℕ) (key : PrefixKey) (is : bytes ≡ row_bytes key) where
  cmp_is : (row : PrefixRow) (entry : PrefixEntry) → StandsAt row.0.items (Some entry) → prefix_cmp key (setting entry).0 ≡ bytes_cmp bytes row.0
  cmp_is row entry at = ap (λ (b : List ℕ). slice_cmp nat_cmp b (row_bytes (setting entry).0)) (sym is) ∙ ap (slice_cmp nat_cmp bytes) (sym at.0)

  pub above : (read : PrefixRow → Option PrefixEntry) (rows : List PrefixRow) → Stand read rows → AllByRecursion (λ row. bytes_cmp bytes row ≡ Less) (keys_of rows) → AreAbove key (settings_by read rows)
  above read [] st h = tt
  above read (row ∷ rows) st h = by (read row) st.0 (above read rows st.1 h.1)
    where
      by : (o : Option PrefixEntry) → StandsAt row.0.items o → AreAbove key (settings_by read rows) → AreAbove key (with_entry o (settings_by read rows))
      by None at r = r
      by (Some entry) at r = (cmp_is row entry at ∙ h.0, r)

  put_first : (iri : List ℕ) (l : List (PrefixKey × List ℕ)) → AreAbove key l → insert_entry prefix_cmp l key iri ≡ (key, iri) ∷ l
  put_first iri [] h = refl
  put_first iri (s ∷ l) h = ap (λ (o : Ordering). match_ordering o ((key, iri) ∷ s ∷ l) ((s.0, iri) ∷ l) (s ∷ insert_entry prefix_cmp l key iri)) h.0

  not_there : (l : List (PrefixKey × List ℕ)) → AreAbove key l → remove_entry (is_at (prefix_cmp key)) l ≡ l
  not_there [] h = refl
  not_there (s ∷ l) h =
      ap (λ (o : Ordering). cond (is_eq o) l (s ∷ remove_entry (is_at (prefix_cmp key)) l)) h.0 ∙ ap (λ (k : List (PrefixKey × List ℕ)). s ∷ k) (not_there l h.1)

  -- a prefix without a row isn't set
  pub no_row : (read : PrefixRow → Option PrefixEntry) (rows : List PrefixRow) → Stand read rows → has_row rows bytes ≡ false → settings_by read rows ≡ remove_entry (is_at (prefix_cmp key)) (settings_by read rows)
  no_row read [] st h = refl
  no_row read (row ∷ rows) st h = by (bytes_cmp bytes row.0) refl h (no_row read rows st.1)
    where
      past : (o : Option PrefixEntry) (r : Ordering) → bytes_cmp bytes row.0 ≡ r → is_eq r ≡ false → StandsAt row.0.items o → settings_by read rows ≡ remove_entry (is_at (prefix_cmp key)) (settings_by read rows)
          → with_entry o (settings_by read rows) ≡ remove_entry (is_at (prefix_cmp key)) (with_entry o (settings_by read rows))
      past None r e ne at same = same
      past (Some entry) r e ne at same =
          ap (λ (l : List (PrefixKey × List ℕ)). setting entry ∷ l) same
          ∙ sym (ap (λ (b : Bool). cond b (settings_by read rows) (setting entry ∷ remove_entry (is_at (prefix_cmp key)) (settings_by read rows))) (ap is_eq (cmp_is row entry at ∙ e) ∙ ne))

      by : (r : Ordering) → bytes_cmp bytes row.0 ≡ r → is_some (cond (is_eq r) (Some row.1) (at_bytes bytes rows)) ≡ false → (has_row rows bytes ≡ false → settings_by read rows ≡ remove_entry (is_at (prefix_cmp key)) (settings_by read rows))
          → with_entry (read row) (settings_by read rows) ≡ remove_entry (is_at (prefix_cmp key)) (with_entry (read row) (settings_by read rows))
      by Less e n same = past (read row) Less e refl st.0 (same n)
      by Equal e n same = absurd (true≢false n)
      by Greater e n same = past (read row) Greater e refl st.0 (same n)

-- ---- two readings that differ at one row

module _ (bytes : List ℕ) (read read' : PrefixRow → Option PrefixEntry) (agree : (row : PrefixRow) → is_at (bytes_cmp bytes) row.0 ≡ false → read' row ≡ read row) where
  pub same_above : (rows : List PrefixRow) → AllByRecursion (λ row. bytes_cmp bytes row ≡ Less) (keys_of rows) → settings_by read' rows ≡ settings_by read rows
  same_above [] h = refl
  same_above (row ∷ rows) h =
      ap (λ (o : Option PrefixEntry). with_entry o (settings_by read' rows)) (agree row (ap is_eq h.0)) ∙ ap (with_entry (read row)) (same_above rows h.1)

  pub above_equal : (row : PrefixRow) (rows : List PrefixRow) → IsStrictlySortedBy row_cmp (keys_of (row ∷ rows)) → bytes_cmp bytes row.0 ≡ Equal → AllByRecursion (λ x. bytes_cmp bytes x ≡ Less) (keys_of rows)
  above_equal row rows s e =
      subst (λ (b : List ℕ). AllByRecursion (λ x. bytes_cmp b x ≡ Less) (keys_of rows)) (sym (exact_bytes bytes row.0.items e)) (sorted_head row_cmp row.0 (keys_of rows) s)

  module _ (key : PrefixKey) (is : bytes ≡ row_bytes key) where
    pub row_set : (iri : List ℕ) (was : Option PrefixEntry) (rows : List PrefixRow) → IsStrictlySortedBy row_cmp (keys_of rows) → Stand read rows → at_bytes bytes rows ≡ Some was
        → ((row : PrefixRow) → bytes_cmp bytes row.0 ≡ Equal → row.1 ≡ was → read' row ≡ Some (set_to key iri (read row)))
        → settings_by read' rows ≡ insert_entry prefix_cmp (settings_by read rows) key iri
    row_set iri was [] s st h here = cc
    row_set iri was (row ∷ rows) s st h here = by (bytes_cmp bytes row.0) refl h (λ k. row_set iri was rows (sorted_tail row_cmp row.0 (keys_of rows) s) st.1 k here)
      where
        set_here : (o : Option PrefixEntry) → bytes_cmp bytes row.0 ≡ Equal → StandsAt row.0.items o → setting (set_to key iri o) ∷ settings_by read rows ≡ insert_entry prefix_cmp (with_entry o (settings_by read rows)) key iri
        set_here None e at = sym (put_first bytes key is iri (settings_by read rows) (above bytes key is read rows st.1 (above_equal row rows s e)))
        set_here (Some entry) e at =
            sym (ap (λ (o : Ordering). match_ordering o ((key, iri) ∷ setting entry ∷ settings_by read rows) (((setting entry).0, iri) ∷ settings_by read rows) (setting entry ∷ insert_entry prefix_cmp (settings_by read rows) key iri)) (cmp_is bytes key is row entry at ∙ e))

        set_later : (o : Option PrefixEntry) → bytes_cmp bytes row.0 ≡ Greater → StandsAt row.0.items o → with_entry o (insert_entry prefix_cmp (settings_by read rows) key iri) ≡ insert_entry prefix_cmp (with_entry o (settings_by read rows)) key iri
        set_later None e at = refl
        set_later (Some entry) e at =
            sym (ap (λ (o : Ordering). match_ordering o ((key, iri) ∷ setting entry ∷ settings_by read rows) (((setting entry).0, iri) ∷ settings_by read rows) (setting entry ∷ insert_entry prefix_cmp (settings_by read rows) key iri)) (cmp_is bytes key is row entry at ∙ e))

        by : (r : Ordering) → bytes_cmp bytes row.0 ≡ r → cond (is_eq r) (Some row.1) (at_bytes bytes rows) ≡ Some was → (at_bytes bytes rows ≡ Some was → settings_by read' rows ≡ insert_entry prefix_cmp (settings_by read rows) key iri)
            → with_entry (read' row) (settings_by read' rows) ≡ insert_entry prefix_cmp (with_entry (read row) (settings_by read rows)) key iri
        by Less e f r = absurd (true≢false (sym (ap is_some f) ∙ none_above bytes row.0 rows e (sorted_head row_cmp row.0 (keys_of rows) s)))
        by Equal e f r =
            let is_was : row.1 ≡ was = cc in
            ap (λ (o : Option PrefixEntry). with_entry o (settings_by read' rows)) (here row e is_was)
            ∙ ap (λ (l : List (PrefixKey × List ℕ)). setting (set_to key iri (read row)) ∷ l) (same_above rows (above_equal row rows s e))
            ∙ set_here (read row) e st.0
        by Greater e f r =
            ap (λ (o : Option PrefixEntry). with_entry o (settings_by read' rows)) (agree row (ap is_eq e)) ∙ ap (with_entry (read row)) (r f) ∙ set_later (read row) e st.0

    pub row_gone : (rows : List PrefixRow) → IsStrictlySortedBy row_cmp (keys_of rows) → Stand read rows → ((row : PrefixRow) → bytes_cmp bytes row.0 ≡ Equal → read' row ≡ None)
        → settings_by read' rows ≡ remove_entry (is_at (prefix_cmp key)) (settings_by read rows)
    row_gone [] s st here = refl
    row_gone (row ∷ rows) s st here = by (bytes_cmp bytes row.0) refl (row_gone rows (sorted_tail row_cmp row.0 (keys_of rows) s) st.1 here)
      where
        gone_here : (o : Option PrefixEntry) → bytes_cmp bytes row.0 ≡ Equal → StandsAt row.0.items o → settings_by read rows ≡ remove_entry (is_at (prefix_cmp key)) (with_entry o (settings_by read rows))
        gone_here None e at = sym (not_there bytes key is (settings_by read rows) (above bytes key is read rows st.1 (above_equal row rows s e)))
        gone_here (Some entry) e at =
            sym (ap (λ (o : Ordering). cond (is_eq o) (settings_by read rows) (setting entry ∷ remove_entry (is_at (prefix_cmp key)) (settings_by read rows))) (cmp_is bytes key is row entry at ∙ e))

        gone_later : (o : Option PrefixEntry) (r : Ordering) → bytes_cmp bytes row.0 ≡ r → is_eq r ≡ false → StandsAt row.0.items o → with_entry o (remove_entry (is_at (prefix_cmp key)) (settings_by read rows)) ≡ remove_entry (is_at (prefix_cmp key)) (with_entry o (settings_by read rows))
        gone_later None r e ne at = refl
        gone_later (Some entry) r e ne at =
            sym (ap (λ (b : Bool). cond b (settings_by read rows) (setting entry ∷ remove_entry (is_at (prefix_cmp key)) (settings_by read rows))) (ap is_eq (cmp_is bytes key is row entry at ∙ e) ∙ ne))

        later : (r : Ordering) → bytes_cmp bytes row.0 ≡ r → is_eq r ≡ false → settings_by read' rows ≡ remove_entry (is_at (prefix_cmp key)) (settings_by read rows) → with_entry (read' row) (settings_by read' rows) ≡ remove_entry (is_at (prefix_cmp key)) (with_entry (read row) (settings_by read rows))
        later r e ne same = ap (λ (o : Option PrefixEntry). with_entry o (settings_by read' rows)) (agree row (ap is_eq e ∙ ne)) ∙ ap (with_entry (read row)) same ∙ gone_later (read row) r e ne st.0

        by : (r : Ordering) → bytes_cmp bytes row.0 ≡ r → settings_by read' rows ≡ remove_entry (is_at (prefix_cmp key)) (settings_by read rows) → with_entry (read' row) (settings_by read' rows) ≡ remove_entry (is_at (prefix_cmp key)) (with_entry (read row) (settings_by read rows))
        by Less e same = later Less e refl same
        by Equal e same =
            ap (λ (o : Option PrefixEntry). with_entry o (settings_by read' rows)) (here row e) ∙ same_above rows (above_equal row rows s e) ∙ gone_here (read row) e st.0
        by Greater e same = later Greater e refl same

-- ---- whether a prefix is set

module _ (bytes : List ℕ) (key : PrefixKey) (is : bytes ≡ row_bytes key) where
  none_set : (l : List (PrefixKey × List ℕ)) → AreAbove key l → has_prefix l key ≡ false
  none_set [] h = refl
  none_set (s ∷ l) h = ap (λ (o : Ordering). is_eq o || has_prefix l key) h.0 ∙ none_set l h.1

  -- it is where something stands at its row
  pub set_there : (rows : List PrefixRow) → AreRows rows → IsStrictlySortedBy row_cmp (keys_of rows) → is_some (unwrap_or (at_bytes bytes rows) None) ≡ has_prefix (settings rows) key
  set_there [] st s = refl
  set_there (row ∷ rows) st s = by (bytes_cmp bytes row.0) refl (set_there rows st.1 (sorted_tail row_cmp row.0 (keys_of rows) s))
    where
      here : (o : Option PrefixEntry) → bytes_cmp bytes row.0 ≡ Equal → StandsAt row.0.items o → is_some o ≡ has_prefix (with_entry o (settings rows)) key
      here None e at =
          sym (none_set (settings rows) (above bytes key is (λ row. row.1) rows st.1 (above_equal bytes (λ row. row.1) (λ row. row.1) (λ row e. refl) row rows s e)))
      here (Some entry) e at = sym (ap (λ (o : Ordering). is_eq o || has_prefix (settings rows) key) (cmp_is bytes key is row entry at ∙ e))

      past : (found : Bool) (o : Option PrefixEntry) (r : Ordering) → bytes_cmp bytes row.0 ≡ r → is_eq r ≡ false → StandsAt row.0.items o → found ≡ has_prefix (settings rows) key → found ≡ has_prefix (with_entry o (settings rows)) key
      past found None r e ne at same = same
      past found (Some entry) r e ne at same = same ∙ sym (ap (λ (b : Bool). b || has_prefix (settings rows) key) (ap is_eq (cmp_is bytes key is row entry at ∙ e) ∙ ne))

      by : (r : Ordering) → bytes_cmp bytes row.0 ≡ r → is_some (unwrap_or (at_bytes bytes rows) None) ≡ has_prefix (settings rows) key
          → is_some (unwrap_or (cond (is_eq r) (Some row.1) (at_bytes bytes rows)) None) ≡ has_prefix (with_entry row.1 (settings rows)) key
      by Less e same = past (is_some (unwrap_or (at_bytes bytes rows) None)) row.1 Less e refl st.0 same
      by Equal e same = here row.1 e st.0
      by Greater e same = past (is_some (unwrap_or (at_bytes bytes rows) None)) row.1 Greater e refl st.0 same
