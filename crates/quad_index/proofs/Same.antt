-- The orders together.
use Rattle.std.proofs.Common.{◌≡◌, ℕ, zero, suc, ◌<◌, arith, Bool, true, false, cond, not, ◌&&◌, ◌||◌, List, [], ◌∷◌, ◌++◌, map, length, take, drop, append-nil, get_or, refl, sym, ◌∙◌, ap, subst}
use mathlib.Core.Bool.{true≢false}
use Rattle.std.specs.declared.cmp.Ordering.{Ordering}
use Rattle.std.specs.declared.cmp.Ordering.TheVariants.{Less, Equal, Greater}
use Rattle.std.specs.Ordering.{is_eq, eq_by_cmp, match_ordering, nat_cmp, ordering_then}
use Rattle.std.specs.Cmp.{IsTotalOrder, eq_by_cmp_equiv, both_ways, nat_cmp_total, then_total}
use Rattle.std.specs.List.{list_any, filter, IsDistinct, AllByRecursion}
use Rattle.std.specs.List.Sorted.{IsStrictlySortedBy}
use Rattle.std.specs.BTreeMap.{is_at}
use Rattle.std.specs.BTreeSet.{BTreeSet, insert_key, IsFromIterResult}
use Rattle.std.specs.Set.{remove_key}
use Rattle.std.proofs.Math.ListN.{drop_of_length-le}
use Rattle.std.proofs.lemmas.List.{take_all, length-map}
use Rattle.std.proofs.lemmas.Cmp.{on_total}
use Rattle.std.proofs.lemmas.Map.Lookups.{CmpEqualImpliesEq, exact_unsigned, exact_pairs}
use Rattle.std.proofs.lemmas.Map.Keys.{IsDistinct-from_sorted}
use Rattle.std.proofs.lemmas.List.Kept.{IsStrictlySortedBy-filter}
use Rattle.quad_index.specs.declared.key.QuadKey.{QuadKey}
use Rattle.quad_index.specs.declared.key.KeyPattern.{KeyPattern}
use Rattle.quad_index.specs.declared.order.Order.{Order}
use Rattle.quad_index.specs.declared.order.Order.TheVariants.{Gspo, Gpos, Gosp, Spog, Posg, Ospg}
use Rattle.quad_index.specs.declared.order.Placed.{Placed}
use Rattle.quad_index.specs.Key.{key_cmp, has_key, matches_key, AreMatches}
use Rattle.quad_index.specs.Order.{placed_cmp, arranged, restored}
use Rattle.quad_index.specs.Ordered.{OrderedKeys, keeps, with_key, without_key, keys_of, HoldSame, AreSame}
use Rattle.quad_index.proofs.Fronts.{filter_mapped}
use Rattle.quad_index.proofs.Members.{any_inserted, any_removed, removed_inserted}

-- ---- the orders are total, and tell all keys apart
pub key_total : IsTotalOrder key_cmp
key_total = then_total (on_total (λ (k : QuadKey). k.g) nat_cmp_total) (then_total (on_total (λ (k : QuadKey). k.s) nat_cmp_total) (then_total (on_total (λ (k : QuadKey). k.p) nat_cmp_total) (on_total (λ (k : QuadKey). k.o) nat_cmp_total)))

pub placed_total : IsTotalOrder placed_cmp
placed_total = then_total (on_total (λ (k : Placed). k.first) nat_cmp_total) (then_total (on_total (λ (k : Placed). k.second) nat_cmp_total) (then_total (on_total (λ (k : Placed). k.third) nat_cmp_total) (on_total (λ (k : Placed). k.fourth) nat_cmp_total)))

abbrev exact4 : CmpEqualImpliesEq (λ (x y : ℕ × (ℕ × (ℕ × ℕ))). ordering_then (nat_cmp x.0 y.0) (ordering_then (nat_cmp x.1.0 y.1.0) (ordering_then (nat_cmp x.1.1.0 y.1.1.0) (nat_cmp x.1.1.1 y.1.1.1))))
exact4 = exact_pairs nat_cmp _ exact_unsigned (exact_pairs nat_cmp _ exact_unsigned (exact_pairs nat_cmp nat_cmp exact_unsigned exact_unsigned))

pub exact_key : CmpEqualImpliesEq key_cmp
exact_key a b h = ap (λ (p : ℕ × (ℕ × (ℕ × ℕ))). record { g = p.0; s = p.1.0; p = p.1.1.0; o = p.1.1.1 }) (exact4 (a.g, (a.s, (a.p, a.o))) (b.g, (b.s, (b.p, b.o))) h)

exact_placed : CmpEqualImpliesEq placed_cmp
exact_placed a b h = ap (λ (p : ℕ × (ℕ × (ℕ × ℕ))). record { first = p.0; second = p.1.0; third = p.1.1.0; fourth = p.1.1.1 }) (exact4 (a.first, (a.second, (a.third, a.fourth))) (b.first, (b.second, (b.third, b.fourth))) h)

restored_arranged : (o : Order) (k : QuadKey) → restored o (arranged o k) ≡ k
restored_arranged Gspo k = refl
restored_arranged Gpos k = refl
restored_arranged Gosp k = refl
restored_arranged Spog k = refl
restored_arranged Posg k = refl
restored_arranged Ospg k = refl

arranged_restored : (o : Order) (x : Placed) → arranged o (restored o x) ≡ x
arranged_restored Gspo x = refl
arranged_restored Gpos x = refl
arranged_restored Gosp x = refl
arranged_restored Spog x = refl
arranged_restored Posg x = refl
arranged_restored Ospg x = refl

pub from_tied : {K : Type 0} (R : K → K → Ordering) → CmpEqualImpliesEq R → (x y : K) (r : Ordering) → R x y ≡ r → is_eq r ≡ true → x ≡ y
from_tied R e x y Less p h = absurd (true≢false (sym h))
from_tied R e x y Equal p h = e x y p
from_tied R e x y Greater p h = absurd (true≢false (sym h))

tied_from : {K : Type 0} {R : K → K → Ordering} → IsTotalOrder R → (x y : K) → x ≡ y → eq_by_cmp R x y ≡ true
tied_from {R = R} o x y h = subst (λ z. eq_by_cmp R x z ≡ true) h ((eq_by_cmp_equiv o).refl x)

-- a key is another exactly where their parts are, in any order
same_arranged : (o : Order) (a b : QuadKey) → eq_by_cmp placed_cmp (arranged o a) (arranged o b) ≡ eq_by_cmp key_cmp a b
same_arranged o a b =
    both_ways _ _
    (λ h. tied_from key_total a b (sym (restored_arranged o a) ∙ ap (restored o) (from_tied placed_cmp exact_placed _ _ _ refl h) ∙ restored_arranged o b))
    (λ h. tied_from placed_total (arranged o a) (arranged o b) (ap (arranged o) (from_tied key_cmp exact_key a b _ refl h)))

same_restored : (o : Order) (a : QuadKey) (x : Placed) → eq_by_cmp key_cmp a (restored o x) ≡ eq_by_cmp placed_cmp (arranged o a) x
same_restored o a x = sym (same_arranged o a (restored o x)) ∙ ap (eq_by_cmp placed_cmp (arranged o a)) (arranged_restored o x)

-- ---- the first order is that of the keys
map_match : (r : Ordering) (xs ys zs : List Placed) → map (restored Gspo) (match_ordering r xs ys zs) ≡ match_ordering r (map (restored Gspo) xs) (map (restored Gspo) ys) (map (restored Gspo) zs)
map_match Less xs ys zs = refl
map_match Equal xs ys zs = refl
map_match Greater xs ys zs = refl

insert_restored : (key : QuadKey) (xs : List Placed) → map (restored Gspo) (insert_key placed_cmp xs (arranged Gspo key)) ≡ insert_key key_cmp (map (restored Gspo) xs) key
insert_restored key [] = refl
insert_restored key (x ∷ xs) =
    map_match (placed_cmp (arranged Gspo key) x) _ _ _
    ∙ ap (λ l. match_ordering (placed_cmp (arranged Gspo key) x) (key ∷ restored Gspo x ∷ map (restored Gspo) xs) (restored Gspo x ∷ map (restored Gspo) xs) (restored Gspo x ∷ l)) (insert_restored key xs)

map_cond : (b : Bool) (xs ys : List Placed) → map (restored Gspo) (cond b xs ys) ≡ cond b (map (restored Gspo) xs) (map (restored Gspo) ys)
map_cond true xs ys = refl
map_cond false xs ys = refl

remove_restored : (key : QuadKey) (xs : List Placed) → map (restored Gspo) (remove_key (is_at (placed_cmp (arranged Gspo key))) xs) ≡ remove_key (is_at (key_cmp key)) (map (restored Gspo) xs)
remove_restored key [] = refl
remove_restored key (x ∷ xs) =
    map_cond (is_at (placed_cmp (arranged Gspo key)) x) _ _
    ∙ ap (λ l. cond (is_at (placed_cmp (arranged Gspo key)) x) (map (restored Gspo) xs) (restored Gspo x ∷ l)) (remove_restored key xs)

all_restored : (x : Placed) (xs : List Placed) → AllByRecursion (λ y. placed_cmp x y ≡ Less) xs → AllByRecursion (λ k. key_cmp (restored Gspo x) k ≡ Less) (map (restored Gspo) xs)
all_restored x [] h = tt
all_restored x (y ∷ ys) h = (h.0, all_restored x ys h.1)

sorted_restored : (xs : List Placed) → IsStrictlySortedBy placed_cmp xs → IsStrictlySortedBy key_cmp (map (restored Gspo) xs)
unfolding IsStrictlySortedBy
sorted_restored [] h = tt
sorted_restored (x ∷ xs) h = (all_restored x xs h.0, sorted_restored xs h.1)

-- ---- an order keeps a key exactly where its keys have it
any_restored : (o : Order) (q : QuadKey) (xs : List Placed) → list_any (eq_by_cmp key_cmp q) (map (restored o) xs) ≡ list_any (is_at (placed_cmp (arranged o q))) xs
any_restored o q [] = refl
any_restored o q (x ∷ xs) =
    ap (λ b. b || list_any (eq_by_cmp key_cmp q) (map (restored o) xs)) (same_restored o q x) ∙ ap (λ b. is_at (placed_cmp (arranged o q)) x || b) (any_restored o q xs)

pub keeps_key : (kept : OrderedKeys) (key : QuadKey) → keeps kept key ≡ has_key (keys_of kept) key
keeps_key kept key = sym (any_restored kept.order key kept.keys)

pub first_sorted : (first : OrderedKeys) → first.order ≡ Gspo → IsStrictlySortedBy placed_cmp first.keys → IsStrictlySortedBy key_cmp (keys_of first)
first_sorted first o s = subst (λ (o : Order). IsStrictlySortedBy key_cmp (map (restored o) first.keys)) (sym o) (sorted_restored first.keys s)

-- ---- an insertion into all
pub all_absent : (first : OrderedKeys) (others : List OrderedKeys) (key : QuadKey) → HoldSame first others → keeps first key ≡ false → AllByRecursion (λ kept. keeps kept key ≡ false) others
all_absent first [] key h a = tt
all_absent first (kept ∷ rest) key h a = (h.0 key ∙ a, all_absent first rest key h.1 a)

pub keys_with : (first : OrderedKeys) (key : QuadKey) → first.order ≡ Gspo → keys_of (with_key key first) ≡ insert_key key_cmp (keys_of first) key
keys_with first key o =
    subst (λ (o : Order). map (restored o) (insert_key placed_cmp first.keys (arranged o key)) ≡ insert_key key_cmp (map (restored o) first.keys) key) (sym o) (insert_restored key first.keys)

keeps_with : (kept : OrderedKeys) (key k : QuadKey) → keeps (with_key key kept) k ≡ (eq_by_cmp key_cmp k key || keeps kept k)
keeps_with kept key k =
    any_inserted placed_total (arranged kept.order k) (arranged kept.order key) kept.keys ∙ ap (λ b. b || keeps kept k) (same_arranged kept.order k key)

pub same_with : (first : OrderedKeys) (others : List OrderedKeys) (key : QuadKey) → HoldSame first others → HoldSame (with_key key first) (map (with_key key) others)
same_with first [] key h = tt
same_with first (kept ∷ rest) key h =
    ((λ k. keeps_with kept key k ∙ ap (λ b. eq_by_cmp key_cmp k key || b) (h.0 k) ∙ sym (keeps_with first key k)), same_with first rest key h.1)

-- a new key goes out of an order again
pub out_again : (kept : OrderedKeys) (key : QuadKey) → keeps kept key ≡ false → without_key key (with_key key kept) ≡ kept
out_again kept key h = ap (λ (l : List Placed). record { order = kept.order; keys = l }) (removed_inserted placed_total (arranged kept.order key) kept.keys h)

-- ---- a removal from all
pub keys_without : (first : OrderedKeys) (key : QuadKey) → first.order ≡ Gspo → keys_of (without_key key first) ≡ remove_key (is_at (key_cmp key)) (keys_of first)
keys_without first key o =
    subst (λ (o : Order). map (restored o) (remove_key (is_at (placed_cmp (arranged o key))) first.keys) ≡ remove_key (is_at (key_cmp key)) (map (restored o) first.keys)) (sym o) (remove_restored key first.keys)

keeps_without : (kept : OrderedKeys) (key k : QuadKey) → IsStrictlySortedBy placed_cmp kept.keys → keeps (without_key key kept) k ≡ (not (eq_by_cmp key_cmp key k) && keeps kept k)
keeps_without kept key k s =
    any_removed placed_total (arranged kept.order k) (arranged kept.order key) kept.keys s ∙ ap (λ b. not b && keeps kept k) (same_arranged kept.order key k)

pub same_without : (first : OrderedKeys) (others : List OrderedKeys) (key : QuadKey) → IsStrictlySortedBy placed_cmp first.keys → AllByRecursion (λ kept. IsStrictlySortedBy placed_cmp kept.keys) others → HoldSame first others → HoldSame (without_key key first) (map (without_key key) others)
same_without first [] key t s h = tt
same_without first (kept ∷ rest) key t s h =
    ((λ k. keeps_without kept key k s.0 ∙ ap (λ b. not (eq_by_cmp key_cmp key k) && b) (h.0 k) ∙ sym (keeps_without first key k t)), same_without first rest key t s.1 h.1)

-- ---- one more order
pub same_behind : (first : OrderedKeys) (others : List OrderedKeys) (made : OrderedKeys) → HoldSame first others → ((key : QuadKey) → keeps made key ≡ keeps first key) → HoldSame first (others ++ made ∷ [])
same_behind first [] made h m = (m, tt)
same_behind first (kept ∷ rest) made h m = (h.0, same_behind first rest made h.1 m)

pub same_at : (first : OrderedKeys) (others : List OrderedKeys) (i : ℕ) (d : OrderedKeys) → HoldSame first others → i < length others → (key : QuadKey) → keeps (get_or others i d) key ≡ keeps first key
same_at first [] i d h l key = absurd (omega arith)
same_at first (kept ∷ rest) zero d h l key = h.0 key
same_at first (kept ∷ rest) (suc i) d h l key = same_at first rest i d h.1 (omega arith) key

-- the same keys, arranged otherwise
any_moved : (o p : Order) (key : QuadKey) (xs : List Placed) → list_any (is_at (placed_cmp (arranged p key))) (map (λ x. arranged p (restored o x)) xs) ≡ list_any (is_at (placed_cmp (arranged o key))) xs
any_moved o p key [] = refl
any_moved o p key (x ∷ xs) =
    ap (λ b. b || list_any (is_at (placed_cmp (arranged p key))) (map (λ x. arranged p (restored o x)) xs)) (same_arranged p key (restored o x) ∙ same_restored o key x)
    ∙ ap (λ b. is_at (placed_cmp (arranged o key)) x || b) (any_moved o p key xs)

pub keeps_moved : (kept : OrderedKeys) (p : Order) (made : BTreeSet Placed) (key : QuadKey) → IsFromIterResult placed_cmp (map (λ x. arranged p (restored kept.order x)) kept.keys) made → list_any (is_at (placed_cmp (arranged p key))) made.keys ≡ keeps kept key
keeps_moved kept p made key h = h.0 (arranged p key) ∙ any_moved kept.order p key kept.keys

-- ---- orders that are written back to the list that lent them
pub written_back : {X : Type 0} (n : ℕ) (xs ys : List X) → n ≡ length xs → length ys ≡ length xs → take n (ys ++ drop (length ys) xs) ≡ ys
written_back n xs ys e l =
    ap (λ (zs : List _). take n (ys ++ zs)) (drop_of_length-le xs (omega arith)) ∙ ap (take n) (append-nil ys) ∙ take_all n ys (omega arith)

pub written_map : {X : Type 0} (f : X → X) (n : ℕ) (xs lent ys : List X) → n ≡ length xs → lent ≡ xs → ys ≡ map f lent → take n (ys ++ drop (length ys) xs) ≡ map f xs
written_map f n xs lent ys e l m = written_back n xs ys e (ap length (m ∙ ap (map f) l) ∙ length-map xs f) ∙ m ∙ ap (map f) l

pub written_same : {X : Type 0} (n : ℕ) (xs lent ys : List X) → n ≡ length xs → lent ≡ xs → ys ≡ lent → take n (ys ++ drop (length ys) xs) ≡ xs
written_same n xs lent ys e l m = written_back n xs ys e (ap length (m ∙ l)) ∙ m ∙ l

-- ---- what becomes of the rule
pub after_insertion : (first first' : OrderedKeys) (others others' : List OrderedKeys) (key : QuadKey) → AreSame first others → first' ≡ with_key key first → others' ≡ map (with_key key) others → AreSame first' others'
after_insertion first first' others others' key h f o =
    subst (λ (k : OrderedKeys). AreSame k others') (sym f) (subst (AreSame (with_key key first)) (sym o) record { leads = h.leads; same = same_with first others key h.same })

pub after_removal : (first first' : OrderedKeys) (others others' : List OrderedKeys) (key : QuadKey) → AreSame first others → IsStrictlySortedBy placed_cmp first.keys → AllByRecursion (λ kept. IsStrictlySortedBy placed_cmp kept.keys) others → first' ≡ without_key key first → others' ≡ map (without_key key) others → AreSame first' others'
after_removal first first' others others' key h s t f o =
    subst (λ (k : OrderedKeys). AreSame k others') (sym f) (subst (AreSame (without_key key first)) (sym o) record { leads = h.leads; same = same_without first others key s t h.same })

pub as_before : (first first' : OrderedKeys) (others others' : List OrderedKeys) → AreSame first others → first' ≡ first → others' ≡ others → AreSame first' others'
as_before first first' others others' h f o = subst (λ (k : OrderedKeys). AreSame k others') (sym f) (subst (AreSame first) (sym o) h)

-- ---- what matches in an order is what matches
any_filtered_at : (q : QuadKey) (test : QuadKey → Bool) (x : QuadKey) (rest : Bool) (xs : List QuadKey) → list_any (eq_by_cmp key_cmp q) xs ≡ (rest && test q) → (b : Bool) → test x ≡ b → (c : Bool) → eq_by_cmp key_cmp q x ≡ c → list_any (eq_by_cmp key_cmp q) (cond b (x ∷ xs) xs) ≡ ((c || rest) && test q)
any_filtered_at q test x rest xs h true p true e = ap (λ v. v || list_any (eq_by_cmp key_cmp q) xs) e ∙ sym (ap test (from_tied key_cmp exact_key q x _ refl e) ∙ p)
any_filtered_at q test x rest xs h true p false e = ap (λ v. v || list_any (eq_by_cmp key_cmp q) xs) e ∙ h
any_filtered_at q test x rest xs h false p true e = h ∙ ap (λ v. rest && v) failed ∙ and_false rest ∙ sym failed
  where
    failed : test q ≡ false
    failed = ap test (from_tied key_cmp exact_key q x _ refl e) ∙ p

    and_false : (b : Bool) → (b && false) ≡ false
    and_false true = refl
    and_false false = refl
any_filtered_at q test x rest xs h false p false e = h

pub any_filtered : (q : QuadKey) (test : QuadKey → Bool) (xs : List QuadKey) → list_any (eq_by_cmp key_cmp q) (filter test xs) ≡ (list_any (eq_by_cmp key_cmp q) xs && test q)
any_filtered q test [] = refl
any_filtered q test (x ∷ xs) = any_filtered_at q test x (list_any (eq_by_cmp key_cmp q) xs) (filter test xs) (any_filtered q test xs) (test x) refl (eq_by_cmp key_cmp q x) refl

apart_restored : (o : Order) (x : Placed) (xs : List Placed) → AllByRecursion (λ y. eq_by_cmp placed_cmp x y ≡ false) xs → AllByRecursion (λ k. eq_by_cmp key_cmp (restored o x) k ≡ false) (map (restored o) xs)
apart_restored o x [] h = tt
apart_restored o x (y ∷ ys) h =
    (same_restored o (restored o x) y ∙ ap (λ z. eq_by_cmp placed_cmp z y) (arranged_restored o x) ∙ h.0, apart_restored o x ys h.1)

distinct_restored : (o : Order) (xs : List Placed) → IsDistinct (eq_by_cmp placed_cmp) xs → IsDistinct (eq_by_cmp key_cmp) (map (restored o) xs)
unfolding IsDistinct
distinct_restored o [] h = tt
distinct_restored o (x ∷ xs) h = (apart_restored o x xs h.0, distinct_restored o xs h.1)

pub are_matches : (pattern : KeyPattern) (keys found : List QuadKey) (kept : OrderedKeys) → ((k : QuadKey) → keeps kept k ≡ has_key keys k) → IsStrictlySortedBy placed_cmp kept.keys → found ≡ filter (matches_key pattern) (map (restored kept.order) kept.keys) → AreMatches pattern keys found
are_matches pattern keys found kept h s e = record {
  exactly = λ k. ap (λ (l : List QuadKey). has_key l k) e
      ∙ any_filtered k (matches_key pattern) (map (restored kept.order) kept.keys)
      ∙ ap (λ b. b && matches_key pattern k) (any_restored kept.order k kept.keys ∙ h k);
  each_once = subst (IsDistinct (eq_by_cmp key_cmp)) (filter_mapped (restored kept.order) (matches_key pattern) kept.keys ∙ sym e)
      (distinct_restored kept.order _ (IsDistinct-from_sorted placed_cmp _ (IsStrictlySortedBy-filter placed_cmp (λ x. matches_key pattern (restored kept.order x)) kept.keys s)));
}
