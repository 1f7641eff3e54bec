-- Lines that change their places.
use Rattle.std.proofs.Common.{◌≡◌, ℕ, ◌<◌, ◌+◌, List, ◌++◌, take, sym, ap, subst, ◌∙◌, arith}
use Rattle.std.specs.List.Sorted.{IsPermutation, IsSorted, IsSortedByKey}
use Rattle.std.specs.declared.cmp.Ordering.{Ordering}
use Rattle.std.proofs.lemmas.List.{map-append, get_or-map, length-map}
use Rattle.std.proofs.lemmas.List.Sorted.{IsPermutation-append_left, IsPermutation-append_right, IsPermutation-map, IsPermutation-trans}
use borrow.Rule.Slice.PartMut.{mid_of, post_of, put_mid, put_same}
use Rattle.line_order.specs.declared.presort.Keyed.{Keyed}
use Rattle.line_order.specs.Moves.{AreMoved, lines_of}

module _ {X : Type 0} where
  pub moved : (xs ys : List (Keyed X)) → IsPermutation xs ys → AreMoved xs ys
  moved xs ys h = IsPermutation-map (λ k. k.line) xs ys h

  pub moved_on : (xs ys zs : List (Keyed X)) → AreMoved xs ys → AreMoved ys zs → AreMoved xs zs
  moved_on xs ys zs h k = IsPermutation-trans (lines_of xs) (lines_of ys) (lines_of zs) h k

  pub same_moved : (xs ys zs : List (Keyed X)) → lines_of ys ≡ lines_of xs → AreMoved ys zs → AreMoved xs zs
  same_moved xs ys zs same h = subst (λ (l : List X). IsPermutation l (lines_of zs)) same h

  pub in_three : (us vs ws : List (Keyed X)) → lines_of (us ++ (vs ++ ws)) ≡ lines_of us ++ (lines_of vs ++ lines_of ws)
  in_three us vs ws = map-append (λ k. k.line) us (vs ++ ws) ∙ ap (λ (l : List X). lines_of us ++ l) (map-append (λ k. k.line) vs ws)

  -- where some lines in a row are moved among themselves, all are moved
  pub run_moved : (a k : ℕ) (xs ys : List (Keyed X)) → AreMoved (mid_of a k xs) ys → AreMoved xs (put_mid a k xs ys)
  run_moved a k xs ys h =
      let front = lines_of (take a xs) in
      let back = lines_of (post_of a k xs) in
      let parts = IsPermutation-append_right front _ _ (IsPermutation-append_left back (lines_of (mid_of a k xs)) (lines_of ys) h) in
      subst (λ (l : List (Keyed X)). AreMoved l (put_mid a k xs ys)) (put_same a k xs)
      (subst (λ (l : List X). IsPermutation l (lines_of (put_mid a k xs ys))) (sym (in_three (take a xs) (mid_of a k xs) (post_of a k xs)))
      (subst (IsPermutation (front ++ (lines_of (mid_of a k xs) ++ back))) (sym (in_three (take a xs) ys (post_of a k xs))) parts))

  -- lines that are sorted by themselves, with their bytes beside them
  pub sorted_lines : (cmp : X → X → Ordering) (xs : List (Keyed X)) → IsSortedByKey (λ k. k.line) cmp xs → IsSorted cmp (lines_of xs)
  sorted_lines cmp xs s k d low below =
      let any : Keyed X = record { key = 0; line = d } in
      let inside = subst (λ (n : ℕ). k + 1 < n) (length-map xs (λ k. k.line)) below in
      let one = get_or-map (λ k. k.line) xs k any d (omega arith) in
      let next = get_or-map (λ k. k.line) xs (k + 1) any d inside in
      rw (one, next) (s k any low inside)
