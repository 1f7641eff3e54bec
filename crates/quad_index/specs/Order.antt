-- Where the parts of a key stand in each order.
use Rattle.std.specs.Prelude.{ℕ, Bool, ◌&&◌, ◌||◌, not, Option, is_some}
use Rattle.std.specs.Option.{unwrap_or}
use Rattle.std.specs.declared.cmp.Ordering.{Ordering}
use Rattle.std.specs.Ordering.{nat_cmp, ordering_then}
use Rattle.quad_index.specs.declared.key.QuadKey.{QuadKey}
use Rattle.quad_index.specs.declared.key.KeyPattern.{KeyPattern}
use Rattle.quad_index.specs.declared.order.Placed.{Placed}
use Rattle.quad_index.specs.declared.order.Order.{Order}
use Rattle.quad_index.specs.declared.order.Order.TheVariants.{Gspo, Gpos, Gosp, Spog, Posg, Ospg}

-- from the first part
abbrev pub placed_cmp : Placed → Placed → Ordering
placed_cmp a b = ordering_then (nat_cmp a.first b.first) (ordering_then (nat_cmp a.second b.second)
    (ordering_then (nat_cmp a.third b.third) (nat_cmp a.fourth b.fourth)))

abbrev pub arranged : Order → QuadKey → Placed
arranged Gspo k = record { first = k.g; second = k.s; third = k.p; fourth = k.o }
arranged Gpos k = record { first = k.g; second = k.p; third = k.o; fourth = k.s }
arranged Gosp k = record { first = k.g; second = k.o; third = k.s; fourth = k.p }
arranged Spog k = record { first = k.s; second = k.p; third = k.o; fourth = k.g }
arranged Posg k = record { first = k.p; second = k.o; third = k.s; fourth = k.g }
arranged Ospg k = record { first = k.o; second = k.s; third = k.p; fourth = k.g }

abbrev pub restored : Order → Placed → QuadKey
restored Gspo x = record { g = x.first; s = x.second; p = x.third; o = x.fourth }
restored Gpos x = record { g = x.first; s = x.fourth; p = x.second; o = x.third }
restored Gosp x = record { g = x.first; s = x.third; p = x.fourth; o = x.second }
restored Spog x = record { g = x.fourth; s = x.first; p = x.second; o = x.third }
restored Posg x = record { g = x.fourth; s = x.third; p = x.first; o = x.second }
restored Ospg x = record { g = x.fourth; s = x.second; p = x.third; o = x.first }

abbrev pub lowest : KeyPattern → QuadKey
lowest pattern = record {
  g = unwrap_or pattern.g 0;
  s = unwrap_or pattern.s 0;
  p = unwrap_or pattern.p 0;
  o = unwrap_or pattern.o 0;
}

-- of four parts in their order, no free one stands before a bound one
abbrev pub bound_first : Option ℕ → Option ℕ → Option ℕ → Option ℕ → Bool
bound_first a b c d = (is_some a || not (is_some b)) && (is_some b || not (is_some c))
    && (is_some c || not (is_some d))

-- whether the bound parts of a pattern stand first in an order
abbrev pub binds_front : Order → KeyPattern → Bool
binds_front Gspo q = bound_first q.g q.s q.p q.o
binds_front Gpos q = bound_first q.g q.p q.o q.s
binds_front Gosp q = bound_first q.g q.o q.s q.p
binds_front Spog q = bound_first q.s q.p q.o q.g
binds_front Posg q = bound_first q.p q.o q.s q.g
binds_front Ospg q = bound_first q.o q.s q.p q.g
