-- Writes of values at keys, one after another, and the last ones of each key.
use Rattle.std.specs.Prelude.{Bool, List, [], ◌∷◌, cond}
use Rattle.std.specs.List.{list_any}
use Rattle.std.specs.Ordering.{match_ordering}
use Rattle.std.specs.declared.cmp.Ordering.{Ordering}

module _ {X K V : Type 0} (key : X → K) (value : X → V) (same : K → K → Bool) where
  -- what stands at a key after writes, where this stood before them
  abbrev pub last_value : K → V → List X → V
  last_value k v [] = v
  last_value k v (x ∷ xs) = last_value k (cond (same (key x) k) (value x) v) xs

module _ {X K : Type 0} (key : X → K) (same : K → K → Bool) where
  -- whether one of the writes is at this key
  abbrev pub is_written : K → List X → Bool
  is_written k xs = list_any (λ x. same (key x) k) xs

  -- the last write at each key
  abbrev pub last_writes : List X → List X
  last_writes [] = []
  last_writes (x ∷ xs) = cond (is_written (key x) xs) (last_writes xs) (x ∷ last_writes xs)

-- with one more at its place in the order, in front of those that tie with it
abbrev pub insert_sorted : {X : Type 0} → (X → X → Ordering) → X → List X → List X
insert_sorted cmp x [] = x ∷ []
insert_sorted cmp x (y ∷ ys) = match_ordering (cmp x y) (x ∷ y ∷ ys) (x ∷ y ∷ ys) (y ∷ insert_sorted cmp x ys)

abbrev pub insertion_sort : {X : Type 0} → (X → X → Ordering) → List X → List X
insertion_sort cmp [] = []
insertion_sort cmp (x ∷ xs) = insert_sorted cmp x (insertion_sort cmp xs)
