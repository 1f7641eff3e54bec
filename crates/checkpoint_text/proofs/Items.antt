-- Items whose texts stand one after another, each of which is told from what follows it.
use Rattle.std.proofs.Common.{◌≡◌, ℕ, ◌<◌, List, [], ◌∷◌, ◌++◌, length, map, refl, sym, ap, ◌∙◌, append_assoc, arith}
use Rattle.std.specs.List.{All, Contains, concat, flat_map}
use Rattle.std.proofs.lemmas.List.Elements.{All-head, All-tail, All-weaker, All-contains_itself}

-- behind some items another one stands, which is the next of more
pub record Following {X : Type 0} (show : X → List ℕ) (Is : X → Type 0) (xs ys : List X) (x y : List ℕ) : Type 0 where
  pub item : X
  pub others : List X
  pub is : Is item
  pub goes_on : ys ≡ xs ++ item ∷ others
  pub there : x ≡ show item ++ (flat_map show others ++ y)

module _ {X : Type 0} (show : X → List ℕ) (Is : X → Type 0) (cut : (a b : X) (x y : List ℕ) → Is a → Is b → show a ++ x ≡ show b ++ y → (a ≡ b) × (x ≡ y)) where
  first_cut : (a b : X) (xs ys : List X) (x y : List ℕ) → All Is (a ∷ xs) → All Is (b ∷ ys) → flat_map show (a ∷ xs) ++ x ≡ flat_map show (b ∷ ys) ++ y → (a ≡ b) × (flat_map show xs ++ x ≡ flat_map show ys ++ y)
  first_cut a b xs ys x y are_a are_b same =
      cut a b (flat_map show xs ++ x) (flat_map show ys ++ y) (All-head Is a xs are_a) (All-head Is b ys are_b) (sym (append_assoc (show a) (flat_map show xs) x) ∙ same ∙ append_assoc (show b) (flat_map show ys) y)

  -- so many items stand in front of one text only
  pub once : (xs ys : List X) (x y : List ℕ) → length xs ≡ length ys → All Is xs → All Is ys → flat_map show xs ++ x ≡ flat_map show ys ++ y → (xs ≡ ys) × (x ≡ y)
  once [] [] x y long are_a are_b same = (refl, same)
  once [] (b ∷ ys) x y long are_a are_b same = absurd (omega (arith, long))
  once (a ∷ xs) [] x y long are_a are_b same = absurd (omega (arith, long))
  once (a ∷ xs) (b ∷ ys) x y long are_a are_b same =
      let first = first_cut a b xs ys x y are_a are_b same in
      let others = once xs ys x y (omega (arith, long)) (All-tail Is a xs are_a) (All-tail Is b ys are_b) first.1 in
      (ap (λ (z : X). z ∷ xs) first.0 ∙ ap (λ (zs : List X). b ∷ zs) others.0, others.1)

  -- where more items stand, the next one stands behind those that are fewer
  pub following : (xs ys : List X) (x y : List ℕ) → length xs < length ys → All Is xs → All Is ys → flat_map show xs ++ x ≡ flat_map show ys ++ y → Following show Is xs ys x y
  following [] [] x y more are_a are_b same = absurd (omega (arith, more))
  following (a ∷ xs) [] x y more are_a are_b same = absurd (omega (arith, more))
  following [] (b ∷ ys) x y more are_a are_b same = record {
    item = b;
    others = ys;
    is = All-head Is b ys are_b;
    goes_on = refl;
    there = same ∙ append_assoc (show b) (flat_map show ys) y;
  }
  following (a ∷ xs) (b ∷ ys) x y more are_a are_b same =
      let first = first_cut a b xs ys x y are_a are_b same in
      let rest = following xs ys x y (omega (arith, more)) (All-tail Is a xs are_a) (All-tail Is b ys are_b) first.1 in
      record {
        item = rest.item;
        others = rest.others;
        is = rest.is;
        goes_on = ap (λ (z : X). z ∷ ys) (sym first.0) ∙ ap (λ (zs : List X). a ∷ zs) rest.goes_on;
        there = rest.there;
      }

abbrev pub itself : List ℕ → List ℕ
itself text = text

pub concat_flat : (texts : List (List ℕ)) → concat texts ≡ flat_map itself texts
concat_flat [] = refl
concat_flat (text ∷ texts) = ap (λ (t : List ℕ). text ++ t) (concat_flat texts)

pub concat_mapped : {X : Type 0} (show : X → List ℕ) (xs : List X) → concat (map show xs) ≡ flat_map show xs
concat_mapped show [] = refl
concat_mapped show (x ∷ xs) = ap (λ (t : List ℕ). show x ++ t) (concat_mapped show xs)

pub All-from_contains : {X : Type 0} (P : X → Type 0) (xs : List X) → ((x : X) → Contains xs x → P x) → All P xs
All-from_contains P xs each = All-weaker (Contains xs) P each xs (All-contains_itself xs)
