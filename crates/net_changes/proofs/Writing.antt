-- What writes leave at a key.
use Rattle.std.proofs.Common.{◌≡◌, ℕ, suc, ◌≤◌, Bool, true, false, cond, not, ◌||◌, List, [], ◌∷◌, map, length, refl, sym, ap, subst, ◌∙◌, arith}
use mathlib.Core.Bool.{true≢false}
use Rattle.std.specs.List.{AllByRecursion, filter, list_any}
use Rattle.std.specs.Cmp.{IsEquivalence}
use Rattle.std.specs.Ordering.{match_ordering}
use Rattle.std.specs.declared.cmp.Ordering.{Ordering}
use Rattle.std.specs.declared.cmp.Ordering.TheVariants.{Less, Equal, Greater}
use Rattle.net_changes.specs.Writes.{last_value, is_written, last_writes, insert_sorted, insertion_sort}

false_or : (a b : Bool) → (a || b) ≡ false → (a ≡ false) × (b ≡ false)
false_or true b e = absurd (true≢false e)
false_or false b e = (refl, e)

or_true : (a b : Bool) → (a || b) ≡ true → a ≡ false → b ≡ true
or_true true b e f = absurd (true≢false f)
or_true false b e f = e

true_or : (a : Bool) {b : Bool} → b ≡ true → (a || b) ≡ true
true_or true e = refl
true_or false e = e

or_swap : (a b c : Bool) → (a || (b || c)) ≡ (b || (a || c))
or_swap true true c = refl
or_swap true false c = refl
or_swap false b c = refl

cond_same : {V : Type 0} (b : Bool) (v : V) → cond b v v ≡ v
cond_same true v = refl
cond_same false v = refl

module _ {X K V : Type 0} (key : X → K) (value : X → V) {same : K → K → Bool} (laws : IsEquivalence same) where
  abbrev at : K → V → List X → V
  at = last_value key value same

  abbrev named : K → List X → Bool
  named = is_written key same

  -- a key that is the same is written alike
  pub named_alike : (k l : K) (xs : List X) → same k l ≡ true → named k xs ≡ named l xs
  named_alike k l [] e = refl
  named_alike k l (x ∷ xs) e =
      let one : same (key x) k ≡ same (key x) l = laws.symm (key x) k ∙ laws.congr k l (key x) e ∙ laws.symm l (key x) in
      ap (λ b. b || named k xs) one ∙ ap (λ b. same (key x) l || b) (named_alike k l xs e)

  pub unwritten : (k : K) (v : V) (xs : List X) → named k xs ≡ false → at k v xs ≡ v
  unwritten k v [] e = refl
  unwritten k v (x ∷ xs) e =
      let both = false_or (same (key x) k) (named k xs) e in
      ap (λ b. at k (cond b (value x) v) xs) both.0 ∙ unwritten k v xs both.1

  -- where a key is written, it doesn't matter what stood there
  pub overwritten : (k : K) (u v : V) (xs : List X) → named k xs ≡ true → at k u xs ≡ at k v xs
  overwritten k u v [] e = absurd (true≢false (sym e))
  overwritten k u v (x ∷ xs) e = by (overwritten k u v xs) (same (key x) k) refl
    where
      by : (named k xs ≡ true → at k u xs ≡ at k v xs) → (b : Bool) → same (key x) k ≡ b → at k (cond (same (key x) k) (value x) u) xs ≡ at k (cond (same (key x) k) (value x) v) xs
      by h true f = ap (λ b. at k (cond b (value x) u) xs) f ∙ sym (ap (λ b. at k (cond b (value x) v) xs) f)
      by h false f =
          ap (λ b. at k (cond b (value x) u) xs) f ∙ h (or_true (same (key x) k) (named k xs) e f) ∙ sym (ap (λ b. at k (cond b (value x) v) xs) f)

  -- ---- the last write at each key

  pub last_named : (k : K) (xs : List X) → named k (last_writes key same xs) ≡ named k xs
  last_named k [] = refl
  last_named k (x ∷ xs) = by (named (key x) xs) refl (last_named k xs)
    where
      again : (b : Bool) → same (key x) k ≡ b → named (key x) xs ≡ true → named k xs ≡ (b || named k xs)
      again true e f = sym (named_alike (key x) k xs e) ∙ f
      again false e f = refl

      by : (b : Bool) → named (key x) xs ≡ b → named k (last_writes key same xs) ≡ named k xs → named k (cond b (last_writes key same xs) (x ∷ last_writes key same xs)) ≡ (same (key x) k || named k xs)
      by true e h = h ∙ again (same (key x) k) refl e
      by false e h = ap (λ b. same (key x) k || b) h

  pub last_after : (k : K) (v : V) (xs : List X) → at k v (last_writes key same xs) ≡ at k v xs
  last_after k v [] = refl
  last_after k v (x ∷ xs) = by (λ u. last_after k u xs) (named (key x) xs) refl
    where
      again : (b : Bool) → same (key x) k ≡ b → named (key x) xs ≡ true → at k v xs ≡ at k (cond b (value x) v) xs
      again true e f = overwritten k v (value x) xs (sym (named_alike (key x) k xs e) ∙ f)
      again false e f = refl

      by : ((u : V) → at k u (last_writes key same xs) ≡ at k u xs) → (b : Bool) → named (key x) xs ≡ b → at k v (cond b (last_writes key same xs) (x ∷ last_writes key same xs)) ≡ at k (cond (same (key x) k) (value x) v) xs
      by h true e = h v ∙ again (same (key x) k) refl e
      by h false e = h (cond (same (key x) k) (value x) v)

  -- no two writes are at one key
  abbrev pub AreApart : List X → Type 0
  AreApart [] = Unit {0}
  AreApart (x ∷ xs) = (named (key x) xs ≡ false) × AreApart xs

  pub last_apart : (xs : List X) → AreApart (last_writes key same xs)
  last_apart [] = tt
  last_apart (x ∷ xs) = by (last_apart xs) (named (key x) xs) refl
    where
      by : AreApart (last_writes key same xs) → (b : Bool) → named (key x) xs ≡ b → AreApart (cond b (last_writes key same xs) (x ∷ last_writes key same xs))
      by h true e = h
      by h false e = (last_named (key x) xs ∙ e, h)

  -- ---- some of the writes

  pub kept_unnamed : (k : K) (test : X → Bool) (xs : List X) → named k xs ≡ false → named k (filter test xs) ≡ false
  kept_unnamed k test [] e = refl
  kept_unnamed k test (x ∷ xs) e =
      let both = false_or (same (key x) k) (named k xs) e in
      by both.0 (kept_unnamed k test xs both.1) (test x)
    where
      by : same (key x) k ≡ false → named k (filter test xs) ≡ false → (b : Bool) → named k (cond b (x ∷ filter test xs) (filter test xs)) ≡ false
      by n h true = ap (λ b. b || named k (filter test xs)) n ∙ h
      by n h false = h

  pub kept_apart : (test : X → Bool) (xs : List X) → AreApart xs → AreApart (filter test xs)
  kept_apart test [] a = tt
  kept_apart test (x ∷ xs) a = by (kept_apart test xs a.1) (test x)
    where
      by : AreApart (filter test xs) → (b : Bool) → AreApart (cond b (x ∷ filter test xs) (filter test xs))
      by h true = (kept_unnamed (key x) test xs a.0, h)
      by h false = h

  -- writes of what stands there already can be left out
  pub kept_after : (f : K → V) (test : X → Bool) → ((k l : K) → same k l ≡ true → f k ≡ f l) → ((x : X) → test x ≡ false → value x ≡ f (key x)) → (k : K) (xs : List X) → AreApart xs → at k (f k) (filter test xs) ≡ at k (f k) xs
  kept_after f test alike idle k [] a = refl
  kept_after f test alike idle k (x ∷ xs) a = by (kept_after f test alike idle k xs a.1) (test x) refl (same (key x) k) refl
    where
      by : at k (f k) (filter test xs) ≡ at k (f k) xs → (b : Bool) → test x ≡ b → (c : Bool) → same (key x) k ≡ c → at k (f k) (cond b (x ∷ filter test xs) (filter test xs)) ≡ at k (cond (same (key x) k) (value x) (f k)) xs
      by h true t true e =
          let none : named k xs ≡ false = sym (named_alike (key x) k xs e) ∙ a.0 in
          ap (λ c. at k (cond c (value x) (f k)) (filter test xs)) e ∙ unwritten k (value x) (filter test xs) (kept_unnamed k test xs none) ∙ sym (unwritten k (value x) xs none)
          ∙ sym (ap (λ c. at k (cond c (value x) (f k)) xs) e)
      by h true t false e =
          ap (λ c. at k (cond c (value x) (f k)) (filter test xs)) e ∙ h ∙ sym (ap (λ c. at k (cond c (value x) (f k)) xs) e)
      by h false t true e =
          h ∙ ap (λ v. at k v xs) (sym (idle x t ∙ alike (key x) k e)) ∙ sym (ap (λ c. at k (cond c (value x) (f k)) xs) e)
      by h false t false e = h ∙ sym (ap (λ c. at k (cond c (value x) (f k)) xs) e)

  -- ---- the writes in another order

  pub put_named : (cmp : X → X → Ordering) (k : K) (x : X) (xs : List X) → named k (insert_sorted cmp x xs) ≡ (same (key x) k || named k xs)
  put_named cmp k x [] = refl
  put_named cmp k x (y ∷ ys) = by (put_named cmp k x ys) (cmp x y)
    where
      by : named k (insert_sorted cmp x ys) ≡ (same (key x) k || named k ys) → (o : Ordering) → named k (match_ordering o (x ∷ y ∷ ys) (x ∷ y ∷ ys) (y ∷ insert_sorted cmp x ys)) ≡ (same (key x) k || (same (key y) k || named k ys))
      by h Less = refl
      by h Equal = refl
      by h Greater = ap (λ b. same (key y) k || b) h ∙ or_swap (same (key y) k) (same (key x) k) (named k ys)

  put_apart : (cmp : X → X → Ordering) (x : X) (xs : List X) → named (key x) xs ≡ false → AreApart xs → AreApart (insert_sorted cmp x xs)
  put_apart cmp x [] e a = (refl, tt)
  put_apart cmp x (y ∷ ys) e a =
      let both = false_or (same (key y) (key x)) (named (key x) ys) e in
      by both.0 (put_apart cmp x ys both.1 a.1) (cmp x y)
    where
      by : same (key y) (key x) ≡ false → AreApart (insert_sorted cmp x ys) → (o : Ordering) → AreApart (match_ordering o (x ∷ y ∷ ys) (x ∷ y ∷ ys) (y ∷ insert_sorted cmp x ys))
      by n h Less = (e, a)
      by n h Equal = (e, a)
      by n h Greater = (
        put_named cmp (key y) x ys ∙ ap (λ b. b || named (key y) ys) (laws.symm (key x) (key y) ∙ n) ∙ a.0,
        h,
      )

  -- two writes at keys that differ change places
  turned : (k : K) (v : V) (x y : X) (xs : List X) → same (key y) (key x) ≡ false → at k v (y ∷ x ∷ xs) ≡ at k v (x ∷ y ∷ xs)
  turned k v x y xs e = ap (λ u. at k u xs) (by (same (key x) k) refl (same (key y) k) refl)
    where
      by : (b : Bool) → same (key x) k ≡ b → (c : Bool) → same (key y) k ≡ c → cond (same (key x) k) (value x) (cond (same (key y) k) (value y) v) ≡ cond (same (key y) k) (value y) (cond (same (key x) k) (value x) v)
      by true p true q = absurd (true≢false (sym (laws.congr (key y) k (key x) q ∙ laws.symm k (key x) ∙ p) ∙ e))
      by true p false q = ap (λ b. cond b (value x) (cond (same (key y) k) (value y) v)) p ∙ sym (ap (λ b. cond b (value y) (cond (same (key x) k) (value x) v)) q ∙ ap (λ b. cond b (value x) v) p)
      by false p c q = ap (λ b. cond b (value x) (cond (same (key y) k) (value y) v)) p ∙ sym (ap (λ b. cond (same (key y) k) (value y) (cond b (value x) v)) p)

  put_after : (cmp : X → X → Ordering) (k : K) (v : V) (x : X) (xs : List X) → named (key x) xs ≡ false → at k v (insert_sorted cmp x xs) ≡ at k v (x ∷ xs)
  put_after cmp k v x [] e = refl
  put_after cmp k v x (y ∷ ys) e =
      let both = false_or (same (key y) (key x)) (named (key x) ys) e in
      by both.0 (put_after cmp k (cond (same (key y) k) (value y) v) x ys both.1) (cmp x y)
    where
      by : same (key y) (key x) ≡ false → at k (cond (same (key y) k) (value y) v) (insert_sorted cmp x ys) ≡ at k (cond (same (key y) k) (value y) v) (x ∷ ys) → (o : Ordering) → at k v (match_ordering o (x ∷ y ∷ ys) (x ∷ y ∷ ys) (y ∷ insert_sorted cmp x ys)) ≡ at k v (x ∷ y ∷ ys)
      by n h Less = refl
      by n h Equal = refl
      by n h Greater = h ∙ turned k v x y ys n

  pub ordered_named : (cmp : X → X → Ordering) (k : K) (xs : List X) → named k (insertion_sort cmp xs) ≡ named k xs
  ordered_named cmp k [] = refl
  ordered_named cmp k (x ∷ xs) = put_named cmp k x (insertion_sort cmp xs) ∙ ap (λ b. same (key x) k || b) (ordered_named cmp k xs)

  pub ordered_apart : (cmp : X → X → Ordering) (xs : List X) → AreApart xs → AreApart (insertion_sort cmp xs)
  ordered_apart cmp [] a = tt
  ordered_apart cmp (x ∷ xs) a = put_apart cmp x (insertion_sort cmp xs) (ordered_named cmp (key x) xs ∙ a.0) (ordered_apart cmp xs a.1)

  pub ordered_after : (cmp : X → X → Ordering) (k : K) (v : V) (xs : List X) → AreApart xs → at k v (insertion_sort cmp xs) ≡ at k v xs
  ordered_after cmp k v [] a = refl
  ordered_after cmp k v (x ∷ xs) a =
      put_after cmp k v x (insertion_sort cmp xs) (ordered_named cmp (key x) xs ∙ a.0) ∙ ordered_after cmp k (cond (same (key x) k) (value x) v) xs a.1

  -- ---- fewest writes

  -- each write changes what stands at its key
  abbrev pub Differ : (K → V) → List X → Type 0
  Differ f xs = AllByRecursion (λ x. value x ≡ f (key x) → ⊥) xs

  -- writes of which each changes something are at keys of any writes that leave the same
  pub all_written : (f : K → V) (xs ys : List X) → AreApart xs → Differ f xs → ((k : K) → named k ys ≡ false → at k (f k) xs ≡ f k) → AllByRecursion (λ x. named (key x) ys ≡ true) xs
  all_written f [] ys a d h = tt
  all_written f (x ∷ xs) ys a d h = (here, all_written f xs ys a.1 d.1 rest)
    where
      by : (b : Bool) → named (key x) ys ≡ b → b ≡ true
      by true e = refl
      by false e =
          absurd (d.0 (sym (unwritten (key x) (value x) xs a.0) ∙ ap (λ b. at (key x) (cond b (value x) (f (key x))) xs) (sym (laws.refl (key x))) ∙ h (key x) e))

      here : named (key x) ys ≡ true
      here = by (named (key x) ys) refl

      rest : (k : K) → named k ys ≡ false → at k (f k) xs ≡ f k
      rest k e = go (same (key x) k) refl
        where
          go : (b : Bool) → same (key x) k ≡ b → at k (f k) xs ≡ f k
          go true s = absurd (true≢false (sym here ∙ named_alike (key x) k ys s ∙ e))
          go false s = sym (ap (λ b. at k (cond b (value x) (f k)) xs) s) ∙ h k e

  -- without the first write at a key
  without : K → List X → List X
  without k [] = []
  without k (y ∷ ys) = cond (same (key y) k) ys (y ∷ without k ys)

  without_length : (k : K) (ys : List X) → named k ys ≡ true → length ys ≡ suc (length (without k ys))
  unfolding without
  without_length k [] e = absurd (true≢false (sym e))
  without_length k (y ∷ ys) e = by (without_length k ys) (same (key y) k) refl
    where
      by : (named k ys ≡ true → length ys ≡ suc (length (without k ys))) → (b : Bool) → same (key y) k ≡ b → suc (length ys) ≡ suc (length (cond b ys (y ∷ without k ys)))
      by h true s = refl
      by h false s = ap suc (h (or_true (same (key y) k) (named k ys) e s))

  without_named : (k l : K) (ys : List X) → same k l ≡ false → named l ys ≡ true → named l (without k ys) ≡ true
  unfolding without
  without_named k l [] n e = e
  without_named k l (y ∷ ys) n e = by (without_named k l ys n) (same (key y) k) refl
    where
      past : (named l ys ≡ true → named l (without k ys) ≡ true) → (b : Bool) → same (key y) l ≡ b → (b || named l (without k ys)) ≡ true
      past h true s = refl
      past h false s = h (or_true (same (key y) l) (named l ys) e s)

      by : (named l ys ≡ true → named l (without k ys) ≡ true) → (b : Bool) → same (key y) k ≡ b → named l (cond b ys (y ∷ without k ys)) ≡ true
      by h true s = or_true (same (key y) l) (named l ys) e (laws.congr (key y) k l s ∙ n)
      by h false s = past h (same (key y) l) refl

  left_named : (x : X) (xs ys : List X) → named (key x) xs ≡ false → AllByRecursion (λ z. named (key z) ys ≡ true) xs → AllByRecursion (λ z. named (key z) (without (key x) ys) ≡ true) xs
  left_named x [] ys e h = tt
  left_named x (z ∷ xs) ys e h =
      let both = false_or (same (key z) (key x)) (named (key x) xs) e in
      (without_named (key x) (key z) ys (laws.symm (key x) (key z) ∙ both.0) h.0, left_named x xs ys both.1 h.1)

  -- writes at keys that differ, each of which is a key of others, are no more than these
  pub no_more : (xs ys : List X) → AreApart xs → AllByRecursion (λ x. named (key x) ys ≡ true) xs → length xs ≤ length ys
  no_more [] ys a h = omega arith
  no_more (x ∷ xs) ys a h =
      let fewer = no_more xs (without (key x) ys) a.1 (left_named x xs ys a.0 h.1) in
      let one = without_length (key x) ys h.0 in
      omega (arith, fewer, one)

  -- ---- writes undone

  module _ (f : K → V) (alike : (k l : K) → same k l ≡ true → f k ≡ f l) (undo : X → X) where
    abbrev pub Undoes : List X → Type 0
    Undoes xs = AllByRecursion (λ x. (key (undo x) ≡ key x) × (value (undo x) ≡ f (key x))) xs

    pub undone_named : (k : K) (xs : List X) → Undoes xs → named k (map undo xs) ≡ named k xs
    undone_named k [] u = refl
    undone_named k (x ∷ xs) u = ap (λ l. same l k || named k (map undo xs)) u.0.0 ∙ ap (λ b. same (key x) k || b) (undone_named k xs u.1)

    pub undone_apart : (xs : List X) → Undoes xs → AreApart xs → AreApart (map undo xs)
    undone_apart [] u a = tt
    undone_apart (x ∷ xs) u a = (
      ap (λ l. named l (map undo xs)) u.0.0 ∙ undone_named (key x) xs u.1 ∙ a.0,
      undone_apart xs u.1 a.1,
    )

    undone_after : (k : K) (v : V) (xs : List X) → Undoes xs → at k v (map undo xs) ≡ cond (named k xs) (f k) v
    undone_after k v [] u = refl
    undone_after k v (x ∷ xs) u =
        ap (λ l. at k (cond (same l k) (value (undo x)) v) (map undo xs)) u.0.0 ∙ ap (λ w. at k (cond (same (key x) k) w v) (map undo xs)) u.0.1
        ∙ undone_after k (cond (same (key x) k) (f (key x)) v) xs u.1 ∙ by (same (key x) k) refl
      where
        by : (b : Bool) → same (key x) k ≡ b → cond (named k xs) (f k) (cond b (f (key x)) v) ≡ cond (b || named k xs) (f k) v
        by true s = ap (λ w. cond (named k xs) (f k) w) (alike (key x) k s) ∙ cond_same (named k xs) (f k)
        by false s = refl

    -- they leave what stood before the writes
    pub undone : (k : K) (xs : List X) → Undoes xs → at k (at k (f k) xs) (map undo xs) ≡ f k
    undone k xs u = undone_after k (at k (f k) xs) xs u ∙ by (named k xs) refl
      where
        by : (b : Bool) → named k xs ≡ b → cond b (f k) (at k (f k) xs) ≡ f k
        by true e = refl
        by false e = unwritten k (f k) xs e
