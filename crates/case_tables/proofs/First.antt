-- The first element that passes a test, once those before it are known not to.
use Rattle.std.proofs.Common.{◌≡◌, ℕ, zero, suc, ◌<◌, ◌≤◌, Bool, true, false, List, [], ◌∷◌, length, map, take, get_or, Some, None, refl, arith, nat_lt}
use Rattle.std.specs.List.{list_any, position, position_or_len}
use Rattle.std.proofs.lemmas.Bool.{or_parts, lt-ltb, le-ltb}
use Rattle.std.proofs.lemmas.List.{length-map}

module _ {X : Type 0} (p : X → Bool) where
  place : (xs : List X) (at : ℕ) (d : X) → at < length xs → list_any p (take at xs) ≡ false → p (get_or xs at d) ≡ true → position_or_len p xs ≡ at
  place [] at d lt none hit = absurd (omega arith)
  place (x ∷ xs) zero d lt none hit = rw hit refl
  place (x ∷ xs) (suc at) d lt none hit =
      let parts = or_parts (p x) (list_any p (take at xs)) none in
      let later : position_or_len p xs ≡ at = place xs at d (omega arith) parts.1 hit in
      rw (parts.0, later) (omega arith)

  past : (xs : List X) (at : ℕ) → length xs ≤ at → list_any p (take at xs) ≡ false → position_or_len p xs ≡ length xs
  past [] at le none = refl
  past (x ∷ xs) zero le none = absurd (omega arith)
  past (x ∷ xs) (suc at) le none =
      let parts = or_parts (p x) (list_any p (take at xs)) none in
      let later : position_or_len p xs ≡ length xs = past xs at (omega arith) parts.1 in
      rw (parts.0, later) (omega arith)

  pub first_is : (xs : List X) (at : ℕ) (d : X) → at < length xs → list_any p (take at xs) ≡ false → p (get_or xs at d) ≡ true → position p xs ≡ Some at
  first_is xs at d lt none hit =
      let here : position_or_len p xs ≡ at = place xs at d lt none hit in
      let within : nat_lt at (length xs) ≡ true = lt-ltb at (length xs) lt in
      rw (here, within) refl

  pub first_is_none : (xs : List X) (at : ℕ) → length xs ≤ at → list_any p (take at xs) ≡ false → position p xs ≡ None
  first_is_none xs at le none =
      let here : position_or_len p xs ≡ length xs = past xs at le none in
      let not_within : nat_lt (length xs) (length xs) ≡ false = le-ltb (length xs) (length xs) (omega arith) in
      rw (here, not_within) refl

-- a test of what the elements show
pub position-map : {X Y : Type 0} (p : Y → Bool) (f : X → Y) (xs : List X) → position p (map f xs) ≡ position (λ x. p (f x)) xs
position-map p f xs = rw (length-map xs f, len-map xs) refl
  where
    len-map : (xs : List _) → position_or_len p (map f xs) ≡ position_or_len (λ x. p (f x)) xs
    len-map [] = refl
    len-map (x ∷ xs) = rw (len-map xs) refl
