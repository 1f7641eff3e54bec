-- The keys in an order.
use Rattle.std.specs.Prelude.{◌≡◌, Bool, List, map}
use Rattle.std.specs.List.{AllByRecursion, filter, list_any}
use Rattle.std.specs.BTreeMap.{is_at}
use Rattle.std.specs.BTreeMap.Range.{range_contains}
use Rattle.std.specs.BTreeSet.{insert_key}
use Rattle.std.specs.Set.{remove_key}
use Rattle.std.specs.declared.ops.Bound.TheVariants.{Included, Unbounded}
use Rattle.quad_index.specs.declared.key.QuadKey.{QuadKey}
use Rattle.quad_index.specs.declared.order.Order.{Order}
use Rattle.quad_index.specs.declared.order.Order.TheVariants.{Gspo}
use Rattle.quad_index.specs.declared.order.Placed.{Placed}
use Rattle.quad_index.specs.Order.{placed_cmp, arranged, restored}

-- an order, and the keys in it
pub record OrderedKeys : Type 0 where
  pub order : Order
  pub keys : List Placed

abbrev pub keeps : OrderedKeys → QuadKey → Bool
keeps kept key = list_any (is_at (placed_cmp (arranged kept.order key))) kept.keys

abbrev pub with_key : QuadKey → OrderedKeys → OrderedKeys
with_key key kept =
    record { order = kept.order; keys = insert_key placed_cmp kept.keys (arranged kept.order key) }

abbrev pub without_key : QuadKey → OrderedKeys → OrderedKeys
without_key key kept = record {
  order = kept.order;
  keys = remove_key (is_at (placed_cmp (arranged kept.order key))) kept.keys;
}

-- the keys as they stand in the order
abbrev pub keys_of : OrderedKeys → List QuadKey
keys_of kept = map (restored kept.order) kept.keys

-- those of the keys that aren't below one
abbrev pub from_key : Placed → List Placed → List Placed
from_key low keys = filter (range_contains placed_cmp (Included low) Unbounded) keys

-- each of the orders holds the keys of this one
abbrev pub HoldSame : OrderedKeys → List OrderedKeys → Type 0
HoldSame first others =
    AllByRecursion (λ kept. (key : QuadKey) → keeps kept key ≡ keeps first key) others

-- the first order is by graph, subject, predicate and object, and the others hold its keys
pub record AreSame (first : OrderedKeys) (others : List OrderedKeys) : Type 0 where
  pub leads : first.order ≡ Gspo
  pub same : HoldSame first others
