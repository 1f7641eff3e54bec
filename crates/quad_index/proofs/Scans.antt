-- The scan of one order, over plain variables.
use Rattle.std.proofs.Common.{◌≡◌, Bool, true, false, List, [], ◌∷◌, ◌++◌, map, cond, sym, ap, subst, ◌∙◌, append_assoc}
use mathlib.Core.List.{append-nil}
use Rattle.std.specs.List.{filter, AllByRecursion}
use Rattle.std.specs.List.Sorted.{IsStrictlySortedBy}
use Rattle.std.specs.Ordering.{is_le}
use Rattle.std.specs.declared.ops.Bound.TheVariants.{Included, Unbounded}
use Rattle.std.specs.BTreeMap.Range.{range_contains}
use Rattle.std.proofs.lemmas.List.Kept.{IsStrictlySortedBy-filter}
use Rattle.std.proofs.lemmas.Map.Keys.{sorted_head, sorted_tail}
use Rattle.quad_index.specs.declared.key.QuadKey.{QuadKey}
use Rattle.quad_index.specs.declared.key.KeyPattern.{KeyPattern}
use Rattle.quad_index.specs.declared.order.Order.{Order}
use Rattle.quad_index.specs.declared.order.Placed.{Placed}
use Rattle.quad_index.specs.Key.{matches_key}
use Rattle.quad_index.specs.Order.{placed_cmp, arranged, restored, lowest, binds_front}
use Rattle.quad_index.proofs.Fronts.{filter_mapped, none_behind}
use Rattle.quad_index.proofs.Orders.{front_of}
use Rattle.quad_index.proofs.Sets.{from_low, above_low}

-- the keys that match, in an order
abbrev pub matching_in : Order → KeyPattern → List Placed → List QuadKey
matching_in order pattern xs = filter (matches_key pattern) (map (restored order) xs)

-- what is found so far, and what of the rest matches, is what matches
pub record Scanning (order : Order) (pattern : KeyPattern) (keys rest : List Placed) (found : List QuadKey) : Type 0 where
  pub told : found ++ matching_in order pattern rest ≡ matching_in order pattern keys
  pub sorted : IsStrictlySortedBy placed_cmp rest
  pub above : AllByRecursion (λ x. is_le (placed_cmp (arranged order (lowest pattern)) x) ≡ true) rest

abbrev from : Placed → List Placed → List Placed
from low keys = filter (range_contains placed_cmp (Included low) Unbounded) keys

start_at : (order : Order) (pattern : KeyPattern) (keys : List Placed) → binds_front order pattern ≡ true → IsStrictlySortedBy placed_cmp keys → Scanning order pattern keys (from (arranged order (lowest pattern)) keys) []
start_at order pattern keys l s = record {
  told = sym (filter_mapped (restored order) (matches_key pattern) (from (arranged order (lowest pattern)) keys))
      ∙ ap (map (restored order)) (from_low (front_of order pattern l) keys)
      ∙ filter_mapped (restored order) (matches_key pattern) keys;
  sorted = IsStrictlySortedBy-filter placed_cmp _ keys s;
  above = above_low placed_cmp (arranged order (lowest pattern)) keys;
}

pub scan_start : (order : Order) (pattern : KeyPattern) (low : Placed) (keys rest : List Placed) (found : List QuadKey) → binds_front order pattern ≡ true → IsStrictlySortedBy placed_cmp keys → low ≡ arranged order (lowest pattern) → rest ≡ filter (range_contains placed_cmp (Included low) Unbounded) keys → found ≡ [] → Scanning order pattern keys rest found
scan_start order pattern low keys rest found l s e r f =
    subst (Scanning order pattern keys rest) (sym f) (subst (λ (xs : List Placed). Scanning order pattern keys xs []) (sym (r ∙ ap (λ (x : Placed). from x keys) e)) (start_at order pattern keys l s))

taken : (b : Bool) (x : QuadKey) (xs found : List QuadKey) → b ≡ true → (found ++ x ∷ []) ++ xs ≡ found ++ cond b (x ∷ xs) xs
taken true x xs found h = append_assoc found (x ∷ []) xs
taken false x xs found h = cc

more_at : (order : Order) (pattern : KeyPattern) (keys rest : List Placed) (x : Placed) (found : List QuadKey) → Scanning order pattern keys (x ∷ rest) found → matches_key pattern (restored order x) ≡ true → Scanning order pattern keys rest (found ++ restored order x ∷ [])
more_at order pattern keys rest x found s m = record {
  told = taken (matches_key pattern (restored order x)) (restored order x) (matching_in order pattern rest) found m ∙ s.told;
  sorted = sorted_tail placed_cmp x rest s.sorted;
  above = s.above.1;
}

pub scan_more : (order : Order) (pattern : KeyPattern) (keys rest rest' : List Placed) (x : Placed) (key : QuadKey) (found found' : List QuadKey) → Scanning order pattern keys rest found → rest ≡ x ∷ rest' → key ≡ restored order x → matches_key pattern key ≡ true → found' ≡ found ++ key ∷ [] → Scanning order pattern keys rest' found'
scan_more order pattern keys rest rest' x key found found' s r k m f =
    subst (Scanning order pattern keys rest') (sym (f ∙ ap (λ (y : QuadKey). found ++ y ∷ []) k))
    (more_at order pattern keys rest' x found (subst (λ (xs : List Placed). Scanning order pattern keys xs found) r s) (ap (matches_key pattern) (sym k) ∙ m))

skipped : (b : Bool) (x : QuadKey) (xs found ys : List QuadKey) → b ≡ false → xs ≡ [] → found ++ cond b (x ∷ xs) xs ≡ ys → found ≡ ys
skipped true x xs found ys h e f = cc
skipped false x xs found ys h e f = sym (ap (λ (l : List QuadKey). found ++ l) e ∙ append-nil found) ∙ f

stop_at : (order : Order) (pattern : KeyPattern) (keys rest : List Placed) (x : Placed) (found : List QuadKey) → binds_front order pattern ≡ true → Scanning order pattern keys (x ∷ rest) found → matches_key pattern (restored order x) ≡ false → found ≡ matching_in order pattern keys
stop_at order pattern keys rest x found l s m =
    skipped (matches_key pattern (restored order x)) (restored order x) (matching_in order pattern rest) found _ m
    (sym (filter_mapped (restored order) (matches_key pattern) rest)
    ∙ ap (map (restored order)) (none_behind (front_of order pattern l) x s.above.0 m rest (sorted_head placed_cmp x rest s.sorted)))
    s.told

pub scan_stop : (order : Order) (pattern : KeyPattern) (keys rest rest' : List Placed) (x : Placed) (key : QuadKey) (found : List QuadKey) → binds_front order pattern ≡ true → Scanning order pattern keys rest found → rest ≡ x ∷ rest' → key ≡ restored order x → matches_key pattern key ≡ false → found ≡ matching_in order pattern keys
scan_stop order pattern keys rest rest' x key found l s r k m =
    stop_at order pattern keys rest' x found l (subst (λ (xs : List Placed). Scanning order pattern keys xs found) r s) (ap (matches_key pattern) (sym k) ∙ m)

pub scan_end : (order : Order) (pattern : KeyPattern) (keys rest : List Placed) (found : List QuadKey) → Scanning order pattern keys rest found → rest ≡ [] → found ≡ matching_in order pattern keys
scan_end order pattern keys rest found s r =
    sym (ap (λ (l : List Placed). found ++ matching_in order pattern l) r ∙ append-nil found) ∙ s.told
