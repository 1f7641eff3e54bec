-- Lines that change their places.
use Rattle.std.specs.Prelude.{◌≡◌, ℕ, ◌-◌, ◌<◌, false, List, map, slice_index_or}
use Rattle.std.specs.List.Sorted.{IsPermutation}
use Rattle.std.specs.Ordering.{is_lt}
use Rattle.std.specs.declared.cmp.Ordering.{Ordering}
use Rattle.line_order.specs.declared.presort.Keyed.{Keyed}

-- the lines themselves
abbrev pub lines_of : {X : Type 0} → List (Keyed X) → List X
lines_of keyed = map (λ k. k.line) keyed

-- the same lines, maybe at other places
abbrev pub AreMoved : {X : Type 0} → List (Keyed X) → List (Keyed X) → Type 0
AreMoved before after = IsPermutation (lines_of before) (lines_of after)

-- the element at a place is no less than the one before it, if there is one
abbrev pub RisesAt : {X : Type 0} → (X → X → Ordering) → List X → ℕ → Type 0
RisesAt {X} cmp xs at = (d : X) → 0 < at
    → is_lt (cmp (slice_index_or xs at d) (slice_index_or xs (at - 1) d)) ≡ false
