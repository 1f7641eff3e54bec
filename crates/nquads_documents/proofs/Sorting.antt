-- Lines that were sorted, and each kept once.
use Rattle.std.proofs.Common.{◌≡◌, ℕ, Bool, true, false, cond, List, [], ◌∷◌, ◌++◌, map, refl, sym, ap, subst, ◌∙◌}
use Rattle.std.specs.List.{flat_map, Contains, dedup, dedup_from, AllByRecursion}
use Rattle.std.specs.List.Sorted.{IsPermutation, IsSorted, IsStrictlySortedBy}
use Rattle.std.specs.Ordering.{nat_cmp}
use Rattle.std.specs.declared.cmp.Ordering.{Ordering}
use Rattle.std.specs.declared.cmp.Ordering.TheVariants.{Less}
use Rattle.std.specs.Str.{bytes_eq}
use Rattle.std.specs.Cmp.Lexicographic.{slice_cmp, nat_list_eq_equiv, on_texts, texts_ties, same_text}
use Rattle.std.proofs.lemmas.List.Kept.{Contains-dedup, Contains-from_dedup, IsStrictlySortedBy-dedup}
use Rattle.std.proofs.lemmas.List.Sorted.{Contains-permutation, IsPermutation-map, IsPermutation-sym}
use Rattle.rdf_terms.specs.Quad.{Statement}
use Rattle.rdf_terms.specs.Line.{line}
use Rattle.nquads_documents.specs.Canonical.{AreCanonical, IsCanonical}
use Rattle.nquads_documents.specs.Shown.{AreLinesOf}

-- elements that show a text
module _ {X : Type 0} (shown : X → List ℕ) where
  abbrev pub same_shown : X → X → Bool
  same_shown x y = bytes_eq (shown x) (shown y)

  abbrev pub shown_cmp : X → X → Ordering
  shown_cmp x y = slice_cmp nat_cmp (shown x) (shown y)

  map-cond : (b : Bool) (us vs : List X) → map shown (cond b us vs) ≡ cond b (map shown us) (map shown vs)
  map-cond true us vs = refl
  map-cond false us vs = refl

  shown-dedup_from : (xs : List X) (k : X) → map shown (dedup_from same_shown k xs) ≡ dedup_from bytes_eq (shown k) (map shown xs)
  shown-dedup_from [] k = refl
  shown-dedup_from (x ∷ xs) k = rw (map-cond, shown-dedup_from xs k, shown-dedup_from xs x) refl

  shown-dedup : (xs : List X) → map shown (dedup same_shown xs) ≡ dedup bytes_eq (map shown xs)
  shown-dedup [] = refl
  shown-dedup (x ∷ xs) = shown-dedup_from xs x

  less_all : (x : X) (xs : List X) → AllByRecursion (λ y. shown_cmp x y ≡ Less) xs → AllByRecursion (λ l. slice_cmp nat_cmp (shown x) l ≡ Less) (map shown xs)
  less_all x [] a = tt
  less_all x (y ∷ xs) a = (a.0, less_all x xs a.1)

  rising_shown : (xs : List X) → IsStrictlySortedBy shown_cmp xs → IsStrictlySortedBy (slice_cmp nat_cmp) (map shown xs)
  unfolding IsStrictlySortedBy
  rising_shown [] s = tt
  rising_shown (x ∷ xs) s = (less_all x xs s.0, rising_shown xs s.1)

  joined_shown : (xs : List X) → flat_map shown xs ≡ flat_map (λ l. l) (map shown xs)
  joined_shown [] = refl
  joined_shown (x ∷ xs) = ap (λ (t : List ℕ). shown x ++ t) (joined_shown xs)

  -- the lines of the elements are those of the quads
  pub made_of : (quads : List Statement) (xs ys zs : List X) → AreLinesOf quads (map shown xs) → IsPermutation xs ys → IsSorted shown_cmp ys → zs ≡ dedup same_shown ys → AreCanonical quads (map shown zs)
  made_of quads xs ys zs are moved sorted kept =
      let texts = map shown ys in
      let once : map shown zs ≡ dedup bytes_eq texts = ap (map shown) kept ∙ shown-dedup ys in
      let moves : IsPermutation (map shown xs) texts = IsPermutation-map shown xs ys moved in
      record {
        same = λ l. (
          λ has. (are l).0 (Contains-permutation texts (map shown xs) l (IsPermutation-sym (map shown xs) texts moves) (Contains-from_dedup bytes_eq texts l (subst (λ (t : List (List ℕ)). Contains t l) once has))),
          λ has. subst (λ (t : List (List ℕ)). Contains t l) (sym once) (Contains-dedup nat_list_eq_equiv (λ x y e. same_text x y (sym e)) texts l (Contains-permutation (map shown xs) texts l moves ((are l).1 has))),
        );
        rising = rising_shown zs (subst (IsStrictlySortedBy shown_cmp) (sym kept) (IsStrictlySortedBy-dedup (on_texts shown) (λ x y. texts_ties (shown x) (shown y)) ys sorted));
      }

  pub made_lines : (quads : List Statement) (xs ys zs : List X) → map shown xs ≡ map line quads → IsPermutation xs ys → IsSorted shown_cmp ys → zs ≡ dedup same_shown ys → AreCanonical quads (map shown zs)
  made_lines quads xs ys zs lines = made_of quads xs ys zs (subst (AreLinesOf quads) (sym lines) (λ l. (λ has. has, λ has. has)))

  pub made_canonical : (quads : List Statement) (zs : List X) (text : List ℕ) → AreCanonical quads (map shown zs) → text ≡ flat_map shown zs → IsCanonical quads text
  made_canonical quads zs text are joined = record { lines = map shown zs; joined = joined ∙ joined_shown zs; are = are }
