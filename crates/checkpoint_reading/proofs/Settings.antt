-- The rows of prefixes, as the settings whose rows they are.
use Rattle.std.proofs.Common.{◌≡◌, ⊎_elim, ◌↔◌, ℕ, List, [], ◌∷◌, map, refl, sym, ap, subst, ◌∙◌, arith}
use Rattle.std.specs.Cmp.{IsTotalOrder}
use Rattle.std.specs.Cmp.Lexicographic.{slice_cmp, nat_list_cmp_total}
use Rattle.std.specs.List.{All, AllByRecursion, Contains}
use Rattle.std.specs.List.Sorted.{IsStrictlySortedBy}
use Rattle.std.specs.Ordering.{nat_cmp}
use Rattle.std.specs.declared.cmp.Ordering.{Ordering}
use Rattle.std.specs.declared.cmp.Ordering.TheVariants.{Less, Equal}
use Rattle.std.proofs.lemmas.Cmp.{tied_back}
use Rattle.std.proofs.lemmas.List.Elements.{All-nil, All-cons, All-contains, All-weaker, All-from_recursion}
use Rattle.nquads_documents.proofs.CanonicalLaws.{contains_map, from_map}
use Rattle.nquads_documents.proofs.Rising.{same_rising}
use Rattle.dataset_tx.specs.Prefixes.{prefix_change}
use Rattle.dataset_tx.specs.Rows.{rows_in_order}
use Rattle.checkpoint_text.specs.Text.{Setting, setting_line, IsSetting, ArePrefixes}
use Rattle.checkpoint_text.proofs.OneText.{row_from, row_of, setting_cmp, setting_total, sorted_settings}
use Rattle.checkpoint_text.proofs.Ordered.{cases, begins, behind, ordered_rises}
use Rattle.checkpoint_reading.specs.Front.{shown_cmp}
use Rattle.checkpoint_reading.specs.Reading.{HaveOneEach}

-- ---- items in the order of their texts, and the texts in theirs

less_mapped : {X : Type 0} (show : X → List ℕ) (x : X) (xs : List X) → AllByRecursion (λ y. shown_cmp show x y ≡ Less) xs → AllByRecursion (λ t. slice_cmp nat_cmp (show x) t ≡ Less) (map show xs)
less_mapped show x [] a = tt
less_mapped show x (y ∷ xs) a = (a.0, less_mapped show x xs a.1)

pub sorted_texts : {X : Type 0} (show : X → List ℕ) (xs : List X) → IsStrictlySortedBy (shown_cmp show) xs → IsStrictlySortedBy (slice_cmp nat_cmp) (map show xs)
unfolding IsStrictlySortedBy
sorted_texts show [] s = tt
sorted_texts show (x ∷ xs) s = (less_mapped show x xs s.0, sorted_texts show xs s.1)

less_items : {X : Type 0} (show : X → List ℕ) (x : X) (xs : List X) → AllByRecursion (λ t. slice_cmp nat_cmp (show x) t ≡ Less) (map show xs) → AllByRecursion (λ y. shown_cmp show x y ≡ Less) xs
less_items show x [] a = tt
less_items show x (y ∷ xs) a = (a.0, less_items show x xs a.1)

pub sorted_items : {X : Type 0} (show : X → List ℕ) (xs : List X) → IsStrictlySortedBy (slice_cmp nat_cmp) (map show xs) → IsStrictlySortedBy (shown_cmp show) xs
unfolding IsStrictlySortedBy
sorted_items show [] s = tt
sorted_items show (x ∷ xs) s = (less_items show x xs s.0, sorted_items show xs s.1)

-- ---- in a rising list what is equal in the order is one

module _ {K : Type 0} (R : K → K → Ordering) (o : IsTotalOrder R) where
  above : (x : K) (xs : List K) (z : K) → AllByRecursion (λ y. R x y ≡ Less) xs → Contains xs z → R x z ≡ Equal → ⊥
  above x xs z a c tied =
      let less : R x z ≡ Less = All-contains (λ y. R x y ≡ Less) xs z (All-from_recursion (λ y. R x y ≡ Less) xs a) c in
      let bad : Less ≡ Equal = sym less ∙ tied in
      absurd cc

  pub one_at : (xs : List K) (a b : K) → IsStrictlySortedBy R xs → Contains xs a → Contains xs b → R a b ≡ Equal → a ≡ b
  unfolding IsStrictlySortedBy
  one_at [] a b s in_a in_b tied = let low = in_a.1 in absurd (omega arith)
  one_at (x ∷ xs) a b s in_a in_b tied =
      ⊎_elim (λ (first : x ≡ a). ⊎_elim (λ (other : x ≡ b). sym first ∙ other) (λ (past : Contains xs b). absurd (above x xs b s.0 past (ap (λ (w : K). R w b) first ∙ tied))) (cases x xs b in_b))
      (λ (behind_a : Contains xs a). ⊎_elim (λ (other : x ≡ b). absurd (above x xs a s.0 behind_a (ap (λ (w : K). R w a) other ∙ tied_back o a b tied))) (λ (behind_b : Contains xs b). one_at xs a b s.1 behind_a behind_b tied) (cases x xs b in_b))
      (cases x xs a in_a)

-- ---- texts of items that are such

pub items_of : {X : Type 0} (show : X → List ℕ) (P : X → Type 0) (ts : List (List ℕ)) → ((t : List ℕ) → Contains ts t → (x : X) × P x × (show x ≡ t)) → (xs : List X) × All P xs × (map show xs ≡ ts)
items_of show P [] each = ([], All-nil P, refl)
items_of show P (t ∷ ts) each =
    let first = each t (begins t ts) in
    let rest = items_of show P ts (λ u c. each u (behind t ts u c)) in
    (first.0 ∷ rest.0, All-cons P first.0 rest.0 first.1 rest.1, ap (λ (u : List ℕ). u ∷ map show rest.0) first.2 ∙ ap (λ (us : List (List ℕ)). t ∷ us) rest.2)

-- ---- rows

-- the settings of the rows of prefixes, in the order of the rows
pub record HasRows (prefixes settings : List Setting) : Type 0 where
  pub are : All IsSetting settings
  pub rows : map setting_line settings ≡ rows_in_order (map prefix_change prefixes)
  pub rising : IsStrictlySortedBy (shown_cmp setting_line) settings
  pub one_each : HaveOneEach settings

pub settings_of : (prefixes : List Setting) → ArePrefixes prefixes → (settings : List Setting) × HasRows prefixes settings
settings_of prefixes are =
    let found = items_of setting_line (Contains prefixes) (rows_in_order (map prefix_change prefixes)) (λ t c. row_from prefixes t c) in (
      found.0,
      record {
        are = All-weaker (Contains prefixes) IsSetting (λ s c. All-contains IsSetting prefixes s are.are c) found.0 found.1;
        rows = found.2;
        rising = sorted_items setting_line found.0 (subst (IsStrictlySortedBy (slice_cmp nat_cmp)) (sym found.2) (ordered_rises (map prefix_change prefixes)));
        one_each = λ a b in_a in_b tied. one_at setting_cmp setting_total prefixes a b (sorted_settings prefixes are.in_order) (All-contains (Contains prefixes) found.0 a found.1 in_a) (All-contains (Contains prefixes) found.0 b found.1 in_b) tied;
      },
    )

-- prefixes that are these settings have these rows
pub rows_of : (prefixes settings : List Setting) → ((s : Setting) → Contains prefixes s ↔ Contains settings s) → IsStrictlySortedBy (shown_cmp setting_line) settings → rows_in_order (map prefix_change prefixes) ≡ map setting_line settings
rows_of prefixes settings same rising =
    same_rising (slice_cmp nat_cmp) nat_list_cmp_total (rows_in_order (map prefix_change prefixes)) (map setting_line settings) (ordered_rises (map prefix_change prefixes)) (sorted_texts setting_line settings rising)
    (λ t c. let found = row_from prefixes t c in subst (Contains (map setting_line settings)) found.2 (contains_map setting_line settings found.0 ((same found.0).0 found.1)))
    (λ t c. let found = from_map setting_line settings t c in subst (Contains (rows_in_order (map prefix_change prefixes))) found.2 (row_of prefixes found.0 ((same found.0).1 found.1)))
