-- Rows that come, are put in place or go, over plain variables.
use Rattle.std.proofs.Common.{◌≡◌, ℕ, Bool, true, false, cond, List, [], ◌∷◌, ◌++◌, map, Option, None, Some, Bor, refl, sym, ap, subst, ◌∙◌}
use mathlib.Core.Bool.{true≢false}
use Rattle.std.specs.declared.cmp.Ordering.{Ordering}
use Rattle.std.specs.declared.cmp.Ordering.TheVariants.{Less, Equal, Greater}
use Rattle.std.specs.Option.{unwrap_or, is_some}
use Rattle.std.specs.Ordering.{nat_cmp, is_eq, match_ordering}
use Rattle.std.specs.Cmp.{eq_by_cmp_equiv}
use Rattle.std.specs.Cmp.Lexicographic.{slice_cmp, nat_list_cmp_total}
use Rattle.std.specs.List.{AllByRecursion}
use Rattle.std.specs.List.Sorted.{IsStrictlySortedBy}
use Rattle.std.specs.BTreeMap.{is_at, insert_entry}
use Rattle.std.specs.Map.{keys_of, values_of, remove_entry}
use Rattle.std.specs.Map.Iter.{deref}
use Rattle.std.proofs.lemmas.List.{map-append}
use Rattle.std.proofs.lemmas.Map.Keys.{sorted_head, sorted_tail}
use Rattle.std.proofs.lemmas.Map.Lookups.{exact_bytes}
use Rattle.net_changes.specs.Values.{IsPrefixValue}
use Rattle.rdf_terms.specs.Dataset.{PrefixKey, prefix_cmp}
use Rattle.dataset_tx.specs.declared.prefixes.PrefixEntry.{PrefixEntry}
use Rattle.rdf_terms.specs.declared.change.Change.{Change}
use Rattle.dataset_tx.specs.Rows.{change_row, rows_added}
use Rattle.dataset_tx.specs.Prefixes.{PrefixRow, RowBytes, prefix_change, bytes_cmp, row_cmp, at_bytes, has_row, row_bytes, StandsAt, AreRows, AreStagedRows, setting, with_entry, settings_by, settings, becomes, next_settings, standing, set_to, settled}
use Rattle.dataset_tx.proofs.Rows.{Stand, none_above, same_above, above_equal, row_set, row_gone, no_row}

abbrev IsSorted : List PrefixRow → Type 0
IsSorted rows = IsStrictlySortedBy row_cmp (keys_of rows)

-- what a map answers for other rows than this
abbrev pub KeepsOthers : RowBytes → List PrefixRow → List PrefixRow → Type 0
KeepsOthers row old new = (other : RowBytes) → is_at (row_cmp row) other ≡ false → at_bytes other.items new ≡ at_bytes other.items old

-- ---- rows that have the same bytes

-- what holds of a row that is tied holds of its bytes
tied : (P : List ℕ → Type 0) (a b : List ℕ) → is_eq (slice_cmp nat_cmp a b) ≡ true → P b → P a
tied P a b e p = by (slice_cmp nat_cmp a b) refl e
  where
    by : (o : Ordering) → slice_cmp nat_cmp a b ≡ o → is_eq o ≡ true → P a
    by Less f e = absurd (true≢false (sym e))
    by Equal f e = subst P (sym (exact_bytes a b f)) p
    by Greater f e = absurd (true≢false (sym e))

other_way : (a b : List ℕ) → is_eq (slice_cmp nat_cmp a b) ≡ is_eq (slice_cmp nat_cmp b a)
other_way a b = (eq_by_cmp_equiv nat_list_cmp_total).symm a b

-- ---- what stands at rows

pub stands_inserted : (row : RowBytes) (entry : Option PrefixEntry) (rows : List PrefixRow) → StandsAt row.items entry → AreRows rows → AreRows (insert_entry row_cmp rows row entry)
stands_inserted row entry [] at st = (at, tt)
stands_inserted row entry (x ∷ rows) at st = by (row_cmp row x.0) refl (stands_inserted row entry rows at st.1)
  where
    by : (o : Ordering) → row_cmp row x.0 ≡ o → AreRows (insert_entry row_cmp rows row entry) → AreRows (match_ordering o ((row, entry) ∷ x ∷ rows) ((x.0, entry) ∷ rows) (x ∷ insert_entry row_cmp rows row entry))
    by Less e r = (at, st)
    by Equal e r = (subst (λ (b : List ℕ). StandsAt b entry) (exact_bytes row.items x.0.items e) at, st.1)
    by Greater e r = (st.0, r)

pub stands_removed : (test : RowBytes → Bool) (rows : List PrefixRow) → AreRows rows → AreRows (remove_entry test rows)
stands_removed test [] st = tt
stands_removed test (x ∷ rows) st = by (test x.0) (stands_removed test rows st.1)
  where
    by : (b : Bool) → AreRows (remove_entry test rows) → AreRows (cond b rows (x ∷ remove_entry test rows))
    by true r = st.1
    by false r = (st.0, r)

becomes_stands : (staged : List PrefixRow) (row : PrefixRow) → AreRows staged → StandsAt row.0.items row.1 → StandsAt row.0.items (becomes staged row)
becomes_stands [] row st at = at
becomes_stands (s ∷ staged) row st at = by (bytes_cmp row.0.items s.0) refl (becomes_stands staged row st.1 at)
  where
    by : (o : Ordering) → bytes_cmp row.0.items s.0 ≡ o → StandsAt row.0.items (becomes staged row) → StandsAt row.0.items (unwrap_or (cond (is_eq o) (Some s.1) (at_bytes row.0.items staged)) row.1)
    by Less e r = r
    by Equal e r = subst (λ (b : List ℕ). StandsAt b s.1) (sym (exact_bytes row.0.items s.0.items e)) st.0
    by Greater e r = r

all_become : (staged rows : List PrefixRow) → AreRows staged → AreRows rows → Stand (becomes staged) rows
all_become staged [] ss st = tt
all_become staged (row ∷ rows) ss st = (becomes_stands staged row ss st.0, all_become staged rows ss st.1)

-- nothing is staged
pub none_staged : (rows : List PrefixRow) → next_settings [] rows ≡ settings rows
none_staged [] = refl
none_staged (row ∷ rows) = ap (with_entry row.1) (none_staged rows)

-- ---- a new row at which nothing stands

placed_settings : (read : PrefixRow → Option PrefixEntry) (row : RowBytes) (rows : List PrefixRow) → read (row, None) ≡ None → has_row rows row.items ≡ false → settings_by read (insert_entry row_cmp rows row None) ≡ settings_by read rows
placed_settings read row [] n h = ap (λ (o : Option PrefixEntry). with_entry o []) n
placed_settings read row (x ∷ rows) n h = by (row_cmp row x.0) h (placed_settings read row rows n)
  where
    by : (o : Ordering) → is_some (cond (is_eq o) (Some x.1) (at_bytes row.items rows)) ≡ false → (has_row rows row.items ≡ false → settings_by read (insert_entry row_cmp rows row None) ≡ settings_by read rows)
        → settings_by read (match_ordering o ((row, None) ∷ x ∷ rows) ((x.0, None) ∷ rows) (x ∷ insert_entry row_cmp rows row None)) ≡ with_entry (read x) (settings_by read rows)
    by Less h r = ap (λ (o : Option PrefixEntry). with_entry o (with_entry (read x) (settings_by read rows))) n
    by Equal h r = absurd (true≢false h)
    by Greater h r = ap (with_entry (read x)) (r h)

none_at : (o : Option (Option PrefixEntry)) → is_some o ≡ false → unwrap_or o None ≡ None
none_at None h = refl
none_at (Some x) h = absurd (true≢false h)

not_staged : (rows staged : List PrefixRow) (row : RowBytes) → AreStagedRows rows staged → has_row rows row.items ≡ false → has_row staged row.items ≡ false
not_staged rows staged row h n = by (has_row staged row.items) refl
  where
    by : (b : Bool) → has_row staged row.items ≡ b → b ≡ false
    by true e = absurd (true≢false (sym (h.in_rows row e) ∙ n))
    by false e = refl

module _ (rows rows' : List PrefixRow) (row : RowBytes) (new : rows' ≡ insert_entry row_cmp rows row None) (absent : has_row rows row.items ≡ false) where
  pub place_settings : settings rows' ≡ settings rows
  place_settings = ap settings new ∙ placed_settings (λ x. x.1) row rows refl absent

  pub place_next : (staged : List PrefixRow) → AreStagedRows rows staged → next_settings staged rows' ≡ next_settings staged rows
  place_next staged h = ap (next_settings staged) new ∙ placed_settings (becomes staged) row rows (none_at (at_bytes row.items staged) (not_staged rows staged row h absent)) absent

  pub place_staged : IsSorted rows' → KeepsOthers row rows rows' → has_row rows' row.items ≡ true → (staged : List PrefixRow) → AreStagedRows rows staged → AreStagedRows rows' staged
  place_staged s others there staged h = record {
    stand = subst AreRows (sym new) (stands_inserted row None rows tt h.stand);
    sorted = s;
    staged_stand = h.staged_stand;
    staged_sorted = h.staged_sorted;
    in_rows = λ other e. by other (is_at (row_cmp row) other) refl e;
  }
    where
      by : (other : RowBytes) (b : Bool) → is_at (row_cmp row) other ≡ b → has_row staged other.items ≡ true → has_row rows' other.items ≡ true
      by other true e is = tied (λ (l : List ℕ). has_row rows' l ≡ true) other.items row.items (other_way other.items row.items ∙ e) there
      by other false e is = ap is_some (others other e) ∙ h.in_rows other is

-- ---- a row that is staged

module _ (rows staged staged' : List PrefixRow) (row : RowBytes) (entry : Option PrefixEntry) (h : AreStagedRows rows staged) (new : staged' ≡ insert_entry row_cmp staged row entry) (s : IsSorted staged') (others : KeepsOthers row staged staged') (here : at_bytes row.items staged' ≡ Some entry) where
  agrees : (x : PrefixRow) → is_at (bytes_cmp row.items) x.0 ≡ false → becomes staged' x ≡ becomes staged x
  agrees x e = ap (λ (o : Option (Option PrefixEntry)). unwrap_or o x.1) (others x.0 e)

  is_staged : (x : PrefixRow) → bytes_cmp row.items x.0 ≡ Equal → becomes staged' x ≡ entry
  is_staged x e = ap (λ (b : List ℕ). unwrap_or (at_bytes b staged') x.1) (sym (exact_bytes row.items x.0.items e)) ∙ ap (λ (o : Option (Option PrefixEntry)). unwrap_or o x.1) here

  pub stage_rows : StandsAt row.items entry → has_row rows row.items ≡ true → AreStagedRows rows staged'
  stage_rows at there = record {
    stand = h.stand;
    sorted = h.sorted;
    staged_stand = subst AreRows (sym new) (stands_inserted row entry staged at h.staged_stand);
    staged_sorted = s;
    in_rows = λ other e. by other (is_at (row_cmp row) other) refl e;
  }
    where
      by : (other : RowBytes) (b : Bool) → is_at (row_cmp row) other ≡ b → has_row staged' other.items ≡ true → has_row rows other.items ≡ true
      by other true e is = tied (λ (l : List ℕ). has_row rows l ≡ true) other.items row.items (other_way other.items row.items ∙ e) there
      by other false e is = h.in_rows other (sym (ap is_some (others other e)) ∙ is)

  pub stage_gone : (key : PrefixKey) → row.items ≡ row_bytes key → entry ≡ None → next_settings staged' rows ≡ remove_entry (is_at (prefix_cmp key)) (next_settings staged rows)
  stage_gone key is none =
      row_gone row.items (becomes staged) (becomes staged') agrees key is rows h.sorted (all_become staged rows h.staged_stand h.stand) (λ x e. is_staged x e ∙ none)

  becomes_standing : (was : Option PrefixEntry) (x : PrefixRow) → at_bytes row.items rows ≡ Some was → bytes_cmp row.items x.0 ≡ Equal → x.1 ≡ was → standing staged rows row.items ≡ becomes staged x
  becomes_standing was x f e w =
      ap (λ (o : Option (Option PrefixEntry)). unwrap_or (at_bytes row.items staged) (unwrap_or o None)) f
      ∙ ap (unwrap_or (at_bytes row.items staged)) (sym w)
      ∙ ap (λ (b : List ℕ). unwrap_or (at_bytes b staged) x.1) (exact_bytes row.items x.0.items e)

  pub stage_set : (key : PrefixKey) (iri : List ℕ) → row.items ≡ row_bytes key → has_row rows row.items ≡ true → entry ≡ Some (set_to key iri (standing staged rows row.items)) → next_settings staged' rows ≡ insert_entry prefix_cmp (next_settings staged rows) key iri
  stage_set key iri is there set = by (at_bytes row.items rows) refl there
    where
      by : (o : Option (Option PrefixEntry)) → at_bytes row.items rows ≡ o → is_some o ≡ true → next_settings staged' rows ≡ insert_entry prefix_cmp (next_settings staged rows) key iri
      by None f t = absurd (true≢false (sym t))
      by (Some was) f t =
          row_set row.items (becomes staged) (becomes staged') agrees key is iri was rows h.sorted (all_become staged rows h.staged_stand h.stand) f
          (λ x e w. is_staged x e ∙ set ∙ ap (λ (o : Option PrefixEntry). Some (set_to key iri o)) (becomes_standing was x f e w))

-- a prefix without a row isn't set
pub stage_none : (rows staged : List PrefixRow) (bytes : List ℕ) (key : PrefixKey) → AreStagedRows rows staged → bytes ≡ row_bytes key → has_row rows bytes ≡ false → next_settings staged rows ≡ remove_entry (is_at (prefix_cmp key)) (next_settings staged rows)
stage_none rows staged bytes key h is n = no_row bytes key is (becomes staged) rows (all_become staged rows h.staged_stand h.stand) n

-- what is set has the bytes of its row
pub set_stands : (key : PrefixKey) (iri bytes : List ℕ) (was : Option PrefixEntry) → bytes ≡ row_bytes key → IsPrefixValue key → StandsAt bytes was → StandsAt bytes (Some (set_to key iri was))
set_stands key iri bytes None is value at = (is, value)
set_stands key iri bytes (Some entry) is value at = at

found_stands : (bytes : List ℕ) (rows : List PrefixRow) (o : Option (Option PrefixEntry)) → AreRows rows → at_bytes bytes rows ≡ o → StandsAt bytes (unwrap_or o None)
found_stands bytes [] None st e = tt
found_stands bytes [] (Some x) st e = absurd cc
found_stands bytes (row ∷ rows) o st e = by (bytes_cmp bytes row.0) refl e (found_stands bytes rows o st.1)
  where
    by : (r : Ordering) → bytes_cmp bytes row.0 ≡ r → cond (is_eq r) (Some row.1) (at_bytes bytes rows) ≡ o → (at_bytes bytes rows ≡ o → StandsAt bytes (unwrap_or o None)) → StandsAt bytes (unwrap_or o None)
    by Less f e r = r e
    by Equal f e r = subst (λ (x : Option (Option PrefixEntry)). StandsAt bytes (unwrap_or x None)) e (subst (λ (b : List ℕ). StandsAt b row.1) (sym (exact_bytes bytes row.0.items f)) st.0)
    by Greater f e r = r e

pub standing_stands : (rows staged : List PrefixRow) (bytes : List ℕ) → AreStagedRows rows staged → StandsAt bytes (standing staged rows bytes)
standing_stands rows staged bytes h = by (at_bytes bytes staged) (found_stands bytes staged _ h.staged_stand refl)
  where
    by : (o : Option (Option PrefixEntry)) → StandsAt bytes (unwrap_or o None) → StandsAt bytes (unwrap_or o (unwrap_or (at_bytes bytes rows) None))
    by None at = found_stands bytes rows _ h.stand refl
    by (Some x) at = at

-- ---- a row that is settled

module _ (row : RowBytes) (read read' : PrefixRow → Option PrefixEntry) (agree : (x : PrefixRow) → is_at (row_cmp row) x.0 ≡ false → read' x ≡ read x) where
  put_settled : (entry : PrefixEntry) (rows : List PrefixRow) → IsSorted rows → has_row rows row.items ≡ true → ((x : PrefixRow) → row_cmp row x.0 ≡ Equal → read x ≡ Some entry) → ((x : PrefixRow) → row_cmp row x.0 ≡ Equal → read' (x.0, Some entry) ≡ Some entry)
      → settings_by read' (insert_entry row_cmp rows row (Some entry)) ≡ settings_by read rows
  put_settled entry [] s there old new = absurd (true≢false (sym there))
  put_settled entry (x ∷ rows) s there old new = by (row_cmp row x.0) refl there (λ t. put_settled entry rows (sorted_tail row_cmp x.0 (keys_of rows) s) t old new)
    where
      by : (o : Ordering) → row_cmp row x.0 ≡ o → is_some (cond (is_eq o) (Some x.1) (at_bytes row.items rows)) ≡ true → (has_row rows row.items ≡ true → settings_by read' (insert_entry row_cmp rows row (Some entry)) ≡ settings_by read rows)
          → settings_by read' (match_ordering o ((row, Some entry) ∷ x ∷ rows) ((x.0, Some entry) ∷ rows) (x ∷ insert_entry row_cmp rows row (Some entry))) ≡ with_entry (read x) (settings_by read rows)
      by Less e t r = absurd (true≢false (sym t ∙ none_above row.items x.0 rows e (sorted_head row_cmp x.0 (keys_of rows) s)))
      by Equal e t r =
          ap (λ (o : Option PrefixEntry). with_entry o (settings_by read' rows)) (new x e)
          ∙ ap (with_entry (Some entry)) (same_above row.items read read' agree rows (above_equal row.items read read' agree x rows s e))
          ∙ ap (λ (o : Option PrefixEntry). with_entry o (settings_by read rows)) (sym (old x e))
      by Greater e t r = ap (λ (o : Option PrefixEntry). with_entry o (settings_by read' (insert_entry row_cmp rows row (Some entry)))) (agree x (ap is_eq e)) ∙ ap (with_entry (read x)) (r t)

  gone_settled : (rows : List PrefixRow) → IsSorted rows → ((x : PrefixRow) → row_cmp row x.0 ≡ Equal → read x ≡ None) → settings_by read' (remove_entry (is_at (row_cmp row)) rows) ≡ settings_by read rows
  gone_settled [] s old = refl
  gone_settled (x ∷ rows) s old = by (row_cmp row x.0) refl (gone_settled rows (sorted_tail row_cmp x.0 (keys_of rows) s) old)
    where
      later : is_at (row_cmp row) x.0 ≡ false → settings_by read' (remove_entry (is_at (row_cmp row)) rows) ≡ settings_by read rows → with_entry (read' x) (settings_by read' (remove_entry (is_at (row_cmp row)) rows)) ≡ with_entry (read x) (settings_by read rows)
      later ne r = ap (λ (o : Option PrefixEntry). with_entry o (settings_by read' (remove_entry (is_at (row_cmp row)) rows))) (agree x ne) ∙ ap (with_entry (read x)) r

      by : (o : Ordering) → row_cmp row x.0 ≡ o → settings_by read' (remove_entry (is_at (row_cmp row)) rows) ≡ settings_by read rows → settings_by read' (cond (is_eq o) rows (x ∷ remove_entry (is_at (row_cmp row)) rows)) ≡ with_entry (read x) (settings_by read rows)
      by Less e r = later (ap is_eq e) r
      by Equal e r = same_above row.items read read' agree rows (above_equal row.items read read' agree x rows s e) ∙ ap (λ (o : Option PrefixEntry). with_entry o (settings_by read rows)) (sym (old x e))
      by Greater e r = later (ap is_eq e) r

-- what is staged for a row, once it is taken out and stands there
taken : (staged : List PrefixRow) (row : RowBytes) (entry : Option PrefixEntry) (x : PrefixRow) → is_at (row_cmp row) x.0 ≡ false → becomes staged x ≡ becomes ((row, entry) ∷ staged) x
taken staged row entry x ne = sym (ap (λ (b : Bool). unwrap_or (cond b (Some entry) (at_bytes x.0.items staged)) x.1) (other_way x.0.items row.items ∙ ne))

was_staged : (staged : List PrefixRow) (row : RowBytes) (entry : Option PrefixEntry) (x : PrefixRow) → row_cmp row x.0 ≡ Equal → becomes ((row, entry) ∷ staged) x ≡ entry
was_staged staged row entry x e = ap (λ (b : Bool). unwrap_or (cond b (Some entry) (at_bytes x.0.items staged)) x.1) (other_way x.0.items row.items ∙ ap is_eq e)

no_more : (staged : List PrefixRow) (row other : RowBytes) → AllByRecursion (λ y. row_cmp row y ≡ Less) (keys_of staged) → row_cmp row other ≡ Equal → at_bytes other.items staged ≡ None
no_more staged row other a e = subst (λ (b : List ℕ). at_bytes b staged ≡ None) (exact_bytes row.items other.items e) (none_in staged a)
  where
    none_in : (l : List PrefixRow) → AllByRecursion (λ y. row_cmp row y ≡ Less) (keys_of l) → at_bytes row.items l ≡ None
    none_in [] a = refl
    none_in (y ∷ l) a = ap (λ (o : Ordering). cond (is_eq o) (Some y.1) (at_bytes row.items l)) a.0 ∙ none_in l a.1

has_own : (rows staged : List PrefixRow) (row : RowBytes) (entry : Option PrefixEntry) → AreStagedRows rows ((row, entry) ∷ staged) → has_row rows row.items ≡ true
has_own rows staged row entry h = h.in_rows row (ap (λ (b : Bool). is_some (cond b (Some entry) (at_bytes row.items staged))) ((eq_by_cmp_equiv nat_list_cmp_total).refl row.items))

settled_stand : (rows : List PrefixRow) (row : RowBytes) (entry : Option PrefixEntry) → StandsAt row.items entry → AreRows rows → AreRows (settled rows row entry)
settled_stand rows row None at st = stands_removed (is_at (row_cmp row)) rows st
settled_stand rows row (Some entry) at st = stands_inserted row (Some entry) rows at st

one_more : (b : Bool) (entry : Option PrefixEntry) (o : Option (Option PrefixEntry)) → is_some o ≡ true → is_some (cond b (Some entry) o) ≡ true
one_more true entry o h = refl
one_more false entry o h = h

module _ (rows rows' staged : List PrefixRow) (row : RowBytes) where
  pub settle_has : (entry : Option PrefixEntry) → AreStagedRows rows ((row, entry) ∷ staged) → has_row rows row.items ≡ true
  settle_has entry h = has_own rows staged row entry h

  pub settle_next : (entry : Option PrefixEntry) → AreStagedRows rows ((row, entry) ∷ staged) → rows' ≡ settled rows row entry → next_settings staged rows' ≡ next_settings ((row, entry) ∷ staged) rows
  settle_next None h new =
      ap (next_settings staged) new ∙ gone_settled row (becomes ((row, None) ∷ staged)) (becomes staged) (taken staged row None) rows h.sorted (was_staged staged row None)
  settle_next (Some entry) h new =
      ap (next_settings staged) new
      ∙ put_settled row (becomes ((row, Some entry) ∷ staged)) (becomes staged) (taken staged row (Some entry)) entry rows h.sorted (has_own rows staged row (Some entry) h) (was_staged staged row (Some entry))
      (λ x e. ap (λ (o : Option (Option PrefixEntry)). unwrap_or o (Some entry)) (no_more staged row x.0 (sorted_head row_cmp row (keys_of staged) h.staged_sorted) e))

  pub settle_rows : (entry : Option PrefixEntry) → AreStagedRows rows ((row, entry) ∷ staged) → rows' ≡ settled rows row entry → IsSorted rows' → KeepsOthers row rows rows' → AreStagedRows rows' staged
  settle_rows entry h new s others = record {
    stand = subst AreRows (sym new) (settled_stand rows row entry h.staged_stand.0 h.stand);
    sorted = s;
    staged_stand = h.staged_stand.1;
    staged_sorted = sorted_tail row_cmp row (keys_of staged) h.staged_sorted;
    in_rows = λ other e. by other (row_cmp row other) refl e;
  }
    where
      kept : (other : RowBytes) → is_at (row_cmp row) other ≡ false → has_row staged other.items ≡ true → has_row rows' other.items ≡ true
      kept other ne is = ap is_some (others other ne) ∙ h.in_rows other (one_more (is_eq (bytes_cmp other.items row)) entry (at_bytes other.items staged) is)

      by : (other : RowBytes) (o : Ordering) → row_cmp row other ≡ o → has_row staged other.items ≡ true → has_row rows' other.items ≡ true
      by other Less e is = kept other (ap is_eq e) is
      by other Equal e is = absurd (true≢false (sym is ∙ ap is_some (no_more staged row other (sorted_head row_cmp row (keys_of staged) h.staged_sorted) e)))
      by other Greater e is = kept other (ap is_eq e) is

-- ---- a row that is given back

pub back_settings : (bytes : List ℕ) (rows : List PrefixRow) → at_bytes bytes rows ≡ Some None → settings (remove_entry (is_at (bytes_cmp bytes)) rows) ≡ settings rows
back_settings bytes [] e = refl
back_settings bytes (row ∷ rows) e = by (is_at (bytes_cmp bytes) row.0) e (back_settings bytes rows)
  where
    by : (b : Bool) → cond b (Some row.1) (at_bytes bytes rows) ≡ Some None → (at_bytes bytes rows ≡ Some None → settings (remove_entry (is_at (bytes_cmp bytes)) rows) ≡ settings rows)
        → settings (cond b rows (row ∷ remove_entry (is_at (bytes_cmp bytes)) rows)) ≡ with_entry row.1 (settings rows)
    by true e r = let none : None ≡ row.1 = cc in ap (λ (o : Option PrefixEntry). with_entry o (settings rows)) none
    by false e r = ap (with_entry row.1) (r e)

-- ---- the settings in the order of the rows

abbrev pub settings_of : List (Option PrefixEntry) → List (PrefixKey × List ℕ)
settings_of [] = []
settings_of (entry ∷ entries) = with_entry entry (settings_of entries)

pub settings_read : (rows : List PrefixRow) → settings_of (values_of rows) ≡ settings rows
settings_read [] = refl
settings_read (row ∷ rows) = ap (with_entry row.1) (settings_read rows)

one_more_shown : (xs : List (Bor (Option PrefixEntry))) (x : Bor (Option PrefixEntry)) → settings_of (map deref (xs ++ x ∷ [])) ≡ settings_of (map deref xs) ++ with_entry x.now []
one_more_shown [] x = refl
one_more_shown (y ∷ xs) x = by y.now (one_more_shown xs x)
  where
    by : (o : Option PrefixEntry) → settings_of (map deref (xs ++ x ∷ [])) ≡ settings_of (map deref xs) ++ with_entry x.now [] → with_entry o (settings_of (map deref (xs ++ x ∷ []))) ≡ with_entry o (settings_of (map deref xs)) ++ with_entry x.now []
    by None r = r
    by (Some entry) r = ap (λ (l : List (PrefixKey × List ℕ)). setting entry ∷ l) r

pub change_pushed : (changes changes' : List Change) (xs : List (Bor (Option PrefixEntry))) (x : Bor (Option PrefixEntry)) → changes ≡ map prefix_change (settings_of (map deref xs)) → changes' ≡ changes ++ map prefix_change (with_entry x.now [])
    → changes' ≡ map prefix_change (settings_of (map deref (xs ++ x ∷ [])))
change_pushed changes changes' xs x e p =
    p ∙ ap (λ (l : List Change). l ++ map prefix_change (with_entry x.now [])) e
    ∙ sym (map-append prefix_change (settings_of (map deref xs)) (with_entry x.now []))
    ∙ ap (map prefix_change) (sym (one_more_shown xs x))

pub rows_logged : (log log' : List (Bool × List ℕ)) (xs : List (Bor (Option PrefixEntry))) (x : Bor (Option PrefixEntry)) → log ≡ rows_added (map prefix_change (settings_of (map deref xs))) → log' ≡ log ++ rows_added (map prefix_change (with_entry x.now []))
    → log' ≡ rows_added (map prefix_change (settings_of (map deref (xs ++ x ∷ []))))
rows_logged log log' xs x e p =
    p ∙ ap (λ (l : List (Bool × List ℕ)). l ++ rows_added (map prefix_change (with_entry x.now []))) e
    ∙ sym (map-append (λ (c : Change). (true, change_row c)) (map prefix_change (settings_of (map deref xs))) (map prefix_change (with_entry x.now [])))
    ∙ ap rows_added (sym (map-append prefix_change (settings_of (map deref xs)) (with_entry x.now [])) ∙ ap (map prefix_change) (sym (one_more_shown xs x)))
