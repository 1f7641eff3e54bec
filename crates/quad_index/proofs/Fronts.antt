-- A scan of keys in order, from a low key up to the first that fails a test.
use Rattle.std.proofs.Common.{◌≡◌, Bool, true, false, cond, List, [], ◌∷◌, map, refl, sym, ◌∙◌, ap}
use Rattle.std.specs.List.{filter, AllByRecursion}
use Rattle.std.specs.declared.cmp.Ordering.{Ordering}
use Rattle.std.specs.declared.cmp.Ordering.TheVariants.{Less}
use Rattle.std.specs.Ordering.{is_le}
use mathlib.Core.Bool.{true≢false}

-- What passes the test is not below the low key. From there on, what stands below a key that passes does too.
pub record IsFront {K : Type 0} (R : K → K → Ordering) (low : K) (test : K → Bool) : Type 0 where
  pub above : (x : K) → test x ≡ true → is_le (R low x) ≡ true
  pub closes : (x y : K) → is_le (R low x) ≡ true → R x y ≡ Less → test y ≡ true → test x ≡ true

filter_step : {K : Type 0} (test wide : K → Bool) (x : K) (xs : List K) → (test x ≡ true → wide x ≡ true) → (b w : Bool) → test x ≡ b → wide x ≡ w → filter test (cond w (x ∷ filter wide xs) (filter wide xs)) ≡ cond b (x ∷ filter test (filter wide xs)) (filter test (filter wide xs))
filter_step test wide x xs h b true p q = ap (λ c. cond c (x ∷ filter test (filter wide xs)) (filter test (filter wide xs))) p
filter_step test wide x xs h true false p q = absurd (true≢false (sym (h p) ∙ q))
filter_step test wide x xs h false false p q = refl

-- a filter after a wider one
pub filter_wider : {K : Type 0} (test wide : K → Bool) → ((x : K) → test x ≡ true → wide x ≡ true) → (xs : List K) → filter test (filter wide xs) ≡ filter test xs
filter_wider test wide h [] = refl
filter_wider test wide h (x ∷ xs) =
    filter_step test wide x xs (h x) (test x) (wide x) refl refl ∙ ap (λ l. cond (test x) (x ∷ l) l) (filter_wider test wide h xs)

all_step : {K : Type 0} (wide : K → Bool) (x : K) (xs : List K) → AllByRecursion (λ x. wide x ≡ true) xs → (w : Bool) → wide x ≡ w → AllByRecursion (λ x. wide x ≡ true) (cond w (x ∷ xs) xs)
all_step wide x xs h true p = (p, h)
all_step wide x xs h false p = h

pub all_filtered : {K : Type 0} (wide : K → Bool) (xs : List K) → AllByRecursion (λ x. wide x ≡ true) (filter wide xs)
all_filtered wide [] = tt
all_filtered wide (x ∷ xs) = all_step wide x (filter wide xs) (all_filtered wide xs) (wide x) refl

skipped : {K : Type 0} (b : Bool) (x : K) (xs : List K) → xs ≡ [] → (b ≡ true → ⊥) → cond b (x ∷ xs) xs ≡ []
skipped true x xs e h = absurd (h refl)
skipped false x xs e h = e

-- behind a key that fails, all fail
pub none_behind : {K : Type 0} {R : K → K → Ordering} {low : K} {test : K → Bool} → IsFront R low test → (x : K) → is_le (R low x) ≡ true → test x ≡ false → (ys : List K) → AllByRecursion (λ y. R x y ≡ Less) ys → filter test ys ≡ []
none_behind f x a e [] h = refl
none_behind {test = test} f x a e (y ∷ ys) h =
    skipped (test y) y (filter test ys) (none_behind f x a e ys h.1) (λ p. true≢false (sym (f.closes x y a h.0 p) ∙ e))

map_cond : {K J : Type 0} (f : K → J) (b : Bool) (x : K) (xs : List K) (ys : List J) → map f xs ≡ ys → map f (cond b (x ∷ xs) xs) ≡ cond b (f x ∷ ys) ys
map_cond f true x xs ys e = ap (λ l. f x ∷ l) e
map_cond f false x xs ys e = e

-- a filter before and behind a map
pub filter_mapped : {K J : Type 0} (f : K → J) (test : J → Bool) (xs : List K) → map f (filter (λ x. test (f x)) xs) ≡ filter test (map f xs)
filter_mapped f test [] = refl
filter_mapped f test (x ∷ xs) = map_cond f (test (f x)) x _ _ (filter_mapped f test xs)
