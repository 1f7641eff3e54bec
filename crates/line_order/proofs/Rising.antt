-- Runs that rise one behind another.
use Rattle.std.proofs.Common.{◌≡◌, ℕ, ◌+◌, ◌-◌, ◌<◌, ◌≤◌, Bool, false, List, ◌++◌, length, get_or, take, drop, refl, sym, ap, subst, ◌∙◌, ⊎_elim, arith}
use Rattle.std.specs.List.Sorted.{IsSorted, IsSortedWithin}
use Rattle.std.specs.Ordering.{is_lt}
use Rattle.std.specs.declared.cmp.Ordering.{Ordering}
use Rattle.std.proofs.lemmas.Bool.{cases_lt}
use Rattle.std.proofs.lemmas.List.{get_or_append_left, get_or-append_right}
use Rattle.std.proofs.lemmas.List.{length-map, length-take-le, map-append}
use Rattle.std.proofs.Math.ListN.{take-append-drop}
use borrow.Rule.Slice.PartMut.{post_of, put_mid}
use Rattle.line_order.specs.declared.presort.Keyed.{Keyed}
use Rattle.line_order.specs.Moves.{RisesAt, lines_of}
use Rattle.line_order.proofs.Moving.{in_three}

module _ {X : Type 0} (cmp : X → X → Ordering) where
  abbrev below : X → X → Bool
  below x y = is_lt (cmp x y)

  -- up to a place, and one more
  pub one_more : (xs : List X) (at : ℕ) → IsSortedWithin below xs 0 at → RisesAt cmp xs at → IsSortedWithin below xs 0 (at + 1)
  one_more xs at rise goes k d low within = ⊎_elim (λ before. rise k d low before) (λ behind. here behind) (cases_lt (k + 1) at)
    where
      here : at ≤ k + 1 → below (get_or xs (k + 1) d) (get_or xs k d) ≡ false
      here behind =
          let is : at ≡ k + 1 = omega arith in
          let one : at - 1 ≡ k = omega arith in
          subst (λ (i : ℕ). below (get_or xs (k + 1) d) (get_or xs i d) ≡ false) one
          (subst (λ (i : ℕ). below (get_or xs i d) (get_or xs (at - 1) d) ≡ false) is (goes d (omega arith)))

  -- the first lines rise, and those of a run behind them, from the first ones on
  pub run_rises : (us vs ws old : List X) (end : ℕ) → IsSortedWithin below (us ++ old) 0 (length us) → IsSorted cmp vs → RisesAt cmp (us ++ (vs ++ ws)) (length us)
      → end ≡ length us + length vs → IsSortedWithin below (us ++ (vs ++ ws)) 0 end
  run_rises us vs ws old end first run goes is k d low within = ⊎_elim (λ before. front before) (λ behind. ⊎_elim (λ at. seam at behind) (λ k_behind. back k_behind) (cases_lt k (length us))) (cases_lt (k + 1) (length us))
    where
      all : List X
      all = us ++ (vs ++ ws)

      front : k + 1 < length us → below (get_or all (k + 1) d) (get_or all k d) ≡ false
      front lt =
          rw (get_or_append_left us (vs ++ ws) d (k + 1) lt, get_or_append_left us (vs ++ ws) d k (omega arith))
          (subst (λ (y : X). below (get_or us (k + 1) d) y ≡ false) (get_or_append_left us old d k (omega arith))
          (subst (λ (x : X). below x (get_or (us ++ old) k d) ≡ false) (get_or_append_left us old d (k + 1) lt) (first k d low lt)))

      seam : k < length us → length us ≤ k + 1 → below (get_or all (k + 1) d) (get_or all k d) ≡ false
      seam lt behind =
          let here : length us ≡ k + 1 = omega arith in
          let one : length us - 1 ≡ k = omega arith in
          subst (λ (i : ℕ). below (get_or all (k + 1) d) (get_or all i d) ≡ false) one
          (subst (λ (i : ℕ). below (get_or all i d) (get_or all (length us - 1) d) ≡ false) here (goes d (omega arith)))

      in_run : (i : ℕ) → length us ≤ i → i < end → get_or all i d ≡ get_or vs (i - length us) d
      in_run i behind lt = get_or-append_right us (vs ++ ws) (length us) i d refl behind ∙ get_or_append_left vs ws d (i - length us) (omega arith)

      back : length us ≤ k → below (get_or all (k + 1) d) (get_or all k d) ≡ false
      back behind =
          let at = k - length us in
          let next : k + 1 - length us ≡ at + 1 = omega arith in
          rw (in_run (k + 1) (omega arith) within, in_run k behind (omega arith), next) (run at d (omega arith) (omega arith))

  -- where a run behind lines that rise is sorted, all rise up to its end
  pub run_joined : (a end : ℕ) (xs ys : List (Keyed X)) → a ≤ end → end ≤ length xs → length ys ≡ end - a → IsSortedWithin below (lines_of xs) 0 a → IsSorted cmp (lines_of ys)
      → RisesAt cmp (lines_of (put_mid a (end - a) xs ys)) a → IsSortedWithin below (lines_of (put_mid a (end - a) xs ys)) 0 end
  run_joined a end xs ys low high size first run goes =
      let us = lines_of (take a xs) in
      let vs = lines_of ys in
      let ws = lines_of (post_of a (end - a) xs) in
      let new : lines_of (put_mid a (end - a) xs ys) ≡ us ++ (vs ++ ws) = in_three (take a xs) ys (post_of a (end - a) xs) in
      let old : lines_of xs ≡ us ++ lines_of (drop a xs) = ap lines_of (sym (take-append-drop a xs)) ∙ map-append (λ k. k.line) (take a xs) (drop a xs) in
      let start : length us ≡ a = length-map (take a xs) (λ k. k.line) ∙ length-take-le a xs (omega arith) in
      let many : length vs ≡ end - a = length-map ys (λ k. k.line) ∙ size in
      subst (λ (l : List X). IsSortedWithin below l 0 end) (sym new)
      (run_rises us vs ws (lines_of (drop a xs)) end (subst (λ (n : ℕ). IsSortedWithin below (us ++ lines_of (drop a xs)) 0 n) (sym start) (subst (λ (l : List X). IsSortedWithin below l 0 a) old first)) run
      (subst (λ (n : ℕ). RisesAt cmp (us ++ (vs ++ ws)) n) (sym start) (subst (λ (l : List X). RisesAt cmp l a) new goes)) (omega (arith, start, many)))
