-- What a range from a low key on has.
use Rattle.std.proofs.Common.{◌≡◌, Bool, true, false, ◌&&◌, List, [], ◌∷◌}
use Rattle.std.specs.List.{filter, AllByRecursion}
use Rattle.std.specs.declared.cmp.Ordering.{Ordering}
use Rattle.std.specs.declared.ops.Bound.TheVariants.{Included, Unbounded}
use Rattle.std.specs.Ordering.{is_le}
use Rattle.std.specs.BTreeMap.Range.{range_contains}
use Rattle.quad_index.proofs.Fronts.{IsFront, filter_wider, all_filtered}

and_true : (b : Bool) → (b && true) ≡ true → b ≡ true
and_true true h = h
and_true false h = h

true_and : (b : Bool) → b ≡ true → (b && true) ≡ true
true_and true h = h
true_and false h = h

pub from_low : {K : Type 0} {R : K → K → Ordering} {low : K} {test : K → Bool} → IsFront R low test → (xs : List K) → filter test (filter (range_contains R (Included low) Unbounded) xs) ≡ filter test xs
from_low {R = R} {low = low} {test = test} f xs = filter_wider test (range_contains R (Included low) Unbounded) (λ x h. true_and (is_le (R low x)) (f.above x h)) xs

all_weaker : {K : Type 0} (P Q : K → Type 0) → ((x : K) → P x → Q x) → (xs : List K) → AllByRecursion P xs → AllByRecursion Q xs
all_weaker P Q f [] h = tt
all_weaker P Q f (x ∷ xs) h = (f x h.0, all_weaker P Q f xs h.1)

pub above_low : {K : Type 0} (R : K → K → Ordering) (low : K) (xs : List K) → AllByRecursion (λ x. is_le (R low x) ≡ true) (filter (range_contains R (Included low) Unbounded) xs)
above_low R low xs = all_weaker (λ x. range_contains R (Included low) Unbounded x ≡ true) (λ x. is_le (R low x) ≡ true) (λ x h. and_true (is_le (R low x)) h) _ (all_filtered (range_contains R (Included low) Unbounded) xs)
