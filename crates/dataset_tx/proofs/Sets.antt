-- Sets of keys by what they have.
use Rattle.std.proofs.Common.{◌≡◌, Bool, true, false, cond, not, ◌&&◌, ◌||◌, List, [], ◌∷◌, ◌++◌, refl, sym, ◌∙◌, ap, subst}
use mathlib.Core.Bool.{true≢false}
use Rattle.std.specs.Ordering.{eq_by_cmp}
use Rattle.std.specs.Cmp.{eq_by_cmp_equiv}
use Rattle.std.specs.List.Sorted.{IsStrictlySortedBy}
use Rattle.std.specs.BTreeMap.{is_at}
use Rattle.std.specs.BTreeSet.{insert_key}
use Rattle.std.specs.Set.{remove_key}
use Rattle.std.proofs.lemmas.Map.Lookups.{btree_set_from_contains}
use Rattle.std.proofs.lemmas.List.Kept.{IsStrictlySortedBy-filter}
use Rattle.quad_index.specs.declared.key.QuadKey.{QuadKey}
use Rattle.quad_index.specs.Key.{key_cmp, has_key}
use Rattle.quad_index.proofs.Members.{any_inserted, inserted_again, any_removed, sorted_inserted, sorted_removed}
use Rattle.quad_index.proofs.Same.{key_total, exact_key, any_filtered, from_tied}
use Rattle.dataset_tx.specs.Staging.{without, AreStaged}

abbrev IsSet : List QuadKey → Type 0
IsSet keys = IsStrictlySortedBy key_cmp keys

abbrev same : QuadKey → QuadKey → Bool
same = eq_by_cmp key_cmp

same_keys : (xs ys : List QuadKey) → IsSet xs → IsSet ys → ((q : QuadKey) → has_key xs q ≡ has_key ys q) → xs ≡ ys
same_keys xs ys s t h = btree_set_from_contains key_total record { keys = xs } record { keys = ys } s t h exact_key

-- what holds at k holds at a key that is the same
at_same : (P : QuadKey → Type 0) (k q : QuadKey) → P k → same k q ≡ true → P q
at_same P k q h e = subst P (from_tied key_cmp exact_key k q _ refl e) h

-- ---- what each operation has
pub sorted_without : (out keys : List QuadKey) → IsSet keys → IsSet (without out keys)
sorted_without out keys s = IsStrictlySortedBy-filter key_cmp (λ key. not (has_key out key)) keys s

has_without : (out keys : List QuadKey) (q : QuadKey) → has_key (without out keys) q ≡ (has_key keys q && not (has_key out q))
has_without out keys q = any_filtered q (λ key. not (has_key out key)) keys

has_inserted : (k : QuadKey) (keys : List QuadKey) (q : QuadKey) → has_key (insert_key key_cmp keys k) q ≡ (same k q || has_key keys q)
has_inserted k keys q = any_inserted key_total q k keys ∙ ap (λ b. b || has_key keys q) ((eq_by_cmp_equiv key_total).symm q k)

has_removed : (k : QuadKey) (keys : List QuadKey) → IsSet keys → (q : QuadKey) → has_key (remove_key (is_at (key_cmp k)) keys) q ≡ (not (same k q) && has_key keys q)
has_removed k keys s q = any_removed key_total q k keys s

-- what a std set has after an insertion or a removal
abbrev pub Gains : QuadKey → List QuadKey → List QuadKey → Type 0
Gains k keys new = (q : QuadKey) → has_key new q ≡ cond (same k q) true (has_key keys q)

abbrev pub Loses : QuadKey → List QuadKey → List QuadKey → Type 0
Loses k keys new = (q : QuadKey) → has_key new q ≡ cond (same k q) false (has_key keys q)

lost : (e r : Bool) → cond e false r ≡ true → r ≡ true
lost true r h = absurd (true≢false (sym h))
lost false r h = h

-- ---- adding a key that was removed
back : (e i r : Bool) → (e ≡ true → i ≡ true) → (i && not (cond e false r)) ≡ (e || (i && not r))
back true i r h = ap (λ v. v && true) (h refl)
back false i r h = refl

pub back_staged : (index added removed removed' : List QuadKey) (k : QuadKey) → AreStaged index added removed → Loses k removed removed' → AreStaged index added removed'
back_staged index added removed removed' k h m = record {
  sorted = h.sorted;
  added_in = h.added_in;
  removed_in = λ q e. h.removed_in q (lost (same k q) (has_key removed q) (sym (m q) ∙ e));
}

pub back_ok : (index added removed removed' : List QuadKey) (k : QuadKey) → AreStaged index added removed → has_key removed k ≡ true → Loses k removed removed' → without removed' index ≡ insert_key key_cmp (without removed index) k
back_ok index added removed removed' k h was m =
    same_keys _ _ (sorted_without removed' index h.sorted) (sorted_inserted key_total k _ (sorted_without removed index h.sorted)) (λ q.
    has_without removed' index q
    ∙ ap (λ v. has_key index q && not v) (m q)
    ∙ back (same k q) (has_key index q) (has_key removed q) (at_same (λ z. has_key index z ≡ true) k q (h.removed_in k was))
    ∙ sym (has_inserted k (without removed index) q ∙ ap (λ v. same k q || v) (has_without removed index q)))

-- ---- adding a key that is there
both : (i r : Bool) → i ≡ true → r ≡ false → (i && not r) ≡ true
both true r h e = ap not e
both false r h e = h

pub again_ok : (index removed : List QuadKey) (k : QuadKey) → IsSet index → has_key index k ≡ true → has_key removed k ≡ false → without removed index ≡ insert_key key_cmp (without removed index) k
again_ok index removed k s i r =
    sym (inserted_again key_total k (without removed index) (sorted_without removed index s) (has_without removed index k ∙ both (has_key index k) (has_key removed k) i r))

-- ---- adding a new key
new_same : (e i a : Bool) → (e ≡ true → i ≡ false) → ((e || i) && not (cond e true a)) ≡ (i && not a)
new_same true i a h = sym (ap (λ v. v && not a) (h refl))
new_same false i a h = refl

new_more : (e i r : Bool) → (e ≡ true → r ≡ false) → ((e || i) && not r) ≡ (e || (i && not r))
new_more true i r h = ap not (h refl)
new_more false i r h = refl

or_right : (e : Bool) {i : Bool} → i ≡ true → (e || i) ≡ true
or_right true h = refl
or_right false h = h

pub new_staged : (index added added' removed : List QuadKey) (k : QuadKey) → AreStaged index added removed → Gains k added added' → AreStaged (insert_key key_cmp index k) added' removed
new_staged index added added' removed k h m = record {
  sorted = sorted_inserted key_total k index h.sorted;
  added_in = λ q e. has_inserted k index q ∙ first_or (same k q) (λ f. h.added_in q f) (sym (m q) ∙ e);
  removed_in = λ q e. has_inserted k index q ∙ or_right (same k q) (h.removed_in q e);
}
  where
    first_or : {a i : Bool} (e : Bool) → (a ≡ true → i ≡ true) → cond e true a ≡ true → (e || i) ≡ true
    first_or true f h = refl
    first_or false f h = f h

pub new_contents : (index added added' removed : List QuadKey) (k : QuadKey) → AreStaged index added removed → has_key index k ≡ false → Gains k added added' → without added' (insert_key key_cmp index k) ≡ without added index
new_contents index added added' removed k h i m =
    same_keys _ _ (sorted_without added' _ (sorted_inserted key_total k index h.sorted)) (sorted_without added index h.sorted) (λ q.
    has_without added' (insert_key key_cmp index k) q
    ∙ ap (λ v. v && not (has_key added' q)) (has_inserted k index q)
    ∙ ap (λ v. (same k q || has_key index q) && not v) (m q)
    ∙ new_same (same k q) (has_key index q) (has_key added q) (at_same (λ z. has_key index z ≡ false) k q i)
    ∙ sym (has_without added index q))

pub new_ok : (index added removed : List QuadKey) (k : QuadKey) → AreStaged index added removed → has_key removed k ≡ false → without removed (insert_key key_cmp index k) ≡ insert_key key_cmp (without removed index) k
new_ok index added removed k h r =
    same_keys _ _ (sorted_without removed _ (sorted_inserted key_total k index h.sorted)) (sorted_inserted key_total k _ (sorted_without removed index h.sorted)) (λ q.
    has_without removed (insert_key key_cmp index k) q
    ∙ ap (λ v. v && not (has_key removed q)) (has_inserted k index q)
    ∙ new_more (same k q) (has_key index q) (has_key removed q) (at_same (λ z. has_key removed z ≡ false) k q r)
    ∙ sym (has_inserted k (without removed index) q ∙ ap (λ v. same k q || v) (has_without removed index q)))

-- ---- deleting a key of the contents
out_more : (e i r : Bool) → (i && not (cond e true r)) ≡ (not e && (i && not r))
out_more true true r = refl
out_more true false r = refl
out_more false i r = refl

pub out_staged : (index added removed removed' : List QuadKey) (k : QuadKey) → AreStaged index added removed → has_key index k ≡ true → Gains k removed removed' → AreStaged index added removed'
out_staged index added removed removed' k h i m = record {
  sorted = h.sorted;
  added_in = h.added_in;
  removed_in = λ q e. either (same k q) (at_same (λ z. has_key index z ≡ true) k q i) (h.removed_in q) (sym (m q) ∙ e);
}
  where
    either : {a : Bool} {P : Type 0} (e : Bool) → (e ≡ true → P) → (a ≡ true → P) → cond e true a ≡ true → P
    either true f g h = f refl
    either false f g h = g h

pub out_ok : (index removed removed' : List QuadKey) (k : QuadKey) → IsSet index → Gains k removed removed' → without removed' index ≡ remove_key (is_at (key_cmp k)) (without removed index)
out_ok index removed removed' k s m =
    same_keys _ _ (sorted_without removed' index s) (sorted_removed key_total (is_at (key_cmp k)) _ (sorted_without removed index s)) (λ q.
    has_without removed' index q
    ∙ ap (λ v. has_key index q && not v) (m q)
    ∙ out_more (same k q) (has_key index q) (has_key removed q)
    ∙ sym (has_removed k (without removed index) (sorted_without removed index s) q ∙ ap (λ v. not (same k q) && v) (has_without removed index q)))

-- ---- deleting a key that isn't there
absent_more : (e i r : Bool) → (e ≡ true → i ≡ false) → (i && not r) ≡ (not e && (i && not r))
absent_more true i r h = ap (λ v. v && not r) (h refl)
absent_more false i r h = refl

pub absent_ok : (index removed : List QuadKey) (k : QuadKey) → IsSet index → has_key index k ≡ false → without removed index ≡ remove_key (is_at (key_cmp k)) (without removed index)
absent_ok index removed k s i =
    same_keys _ _ (sorted_without removed index s) (sorted_removed key_total (is_at (key_cmp k)) _ (sorted_without removed index s)) (λ q.
    has_without removed index q
    ∙ absent_more (same k q) (has_key index q) (has_key removed q) (at_same (λ z. has_key index z ≡ false) k q i)
    ∙ sym (has_removed k (without removed index) (sorted_without removed index s) q ∙ ap (λ v. not (same k q) && v) (has_without removed index q)))

-- ---- removing several
step_more : (e i n : Bool) → ((not e && i) && not n) ≡ (i && not (e || n))
step_more true true n = refl
step_more true false n = refl
step_more false i n = refl

pub one_out : (index keys : List QuadKey) (k : QuadKey) → IsSet index → without keys (remove_key (is_at (key_cmp k)) index) ≡ without (k ∷ keys) index
one_out index keys k s =
    same_keys _ _ (sorted_without keys _ (sorted_removed key_total (is_at (key_cmp k)) index s)) (sorted_without (k ∷ keys) index s) (λ q.
    has_without keys (remove_key (is_at (key_cmp k)) index) q
    ∙ ap (λ v. v && not (has_key keys q)) (has_removed k index s q)
    ∙ step_more (same k q) (has_key index q) (has_key keys q)
    ∙ ap (λ v. has_key index q && not (v || has_key keys q)) ((eq_by_cmp_equiv key_total).symm k q)
    ∙ sym (has_without (k ∷ keys) index q))

pub sorted_out : (index : List QuadKey) (k : QuadKey) → IsSet index → IsSet (remove_key (is_at (key_cmp k)) index)
sorted_out index k s = sorted_removed key_total (is_at (key_cmp k)) index s

pub without_none : (keys : List QuadKey) → without [] keys ≡ keys
without_none [] = refl
without_none (k ∷ keys) = ap (λ l. k ∷ l) (without_none keys)

pub none_staged : (index : List QuadKey) → IsSet index → AreStaged index [] []
none_staged index s = record { sorted = s; added_in = λ q e. absurd (true≢false (sym e)); removed_in = λ q e. absurd (true≢false (sym e)) }

-- ---- what a list has with one more behind it
swapped : (a b : Bool) → (a || (b || false)) ≡ cond b true a
swapped true true = refl
swapped true false = refl
swapped false true = refl
swapped false false = refl

behind_all : (q k : QuadKey) (keys : List QuadKey) → has_key (keys ++ k ∷ []) q ≡ (has_key keys q || (same q k || false))
behind_all q k [] = refl
behind_all q k (x ∷ keys) = ap (λ b. same q x || b) (behind_all q k keys) ∙ assoc (same q x) (has_key keys q) (same q k || false)
  where
    assoc : (a b c : Bool) → (a || (b || c)) ≡ ((a || b) || c)
    assoc true b c = refl
    assoc false b c = refl

pub gains_pushed : (k : QuadKey) (keys : List QuadKey) → Gains k keys (keys ++ k ∷ [])
gains_pushed k keys q = behind_all q k keys ∙ swapped (has_key keys q) (same q k) ∙ ap (λ b. cond b true (has_key keys q)) ((eq_by_cmp_equiv key_total).symm q k)

step_last : (e i n : Bool) → ((not e && i) && not n) ≡ (i && not (cond e true n))
step_last true true n = refl
step_last true false n = refl
step_last false true n = refl
step_last false false n = refl

-- removing several from the last on
pub last_out : (index keys : List QuadKey) (k : QuadKey) → IsSet index → without keys (remove_key (is_at (key_cmp k)) index) ≡ without (keys ++ k ∷ []) index
last_out index keys k s =
    same_keys _ _ (sorted_without keys _ (sorted_removed key_total (is_at (key_cmp k)) index s)) (sorted_without (keys ++ k ∷ []) index s) (λ q.
    has_without keys (remove_key (is_at (key_cmp k)) index) q
    ∙ ap (λ v. v && not (has_key keys q)) (has_removed k index s q)
    ∙ step_last (same k q) (has_key index q) (has_key keys q)
    ∙ ap (λ v. has_key index q && not v) (sym (gains_pushed k keys q))
    ∙ sym (has_without (keys ++ k ∷ []) index q))
