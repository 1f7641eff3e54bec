-- The parts that a pattern binds lead in an order: so its matches stand together from the lowest one on.
use Rattle.std.proofs.Common.{◌≡◌, ℕ, ◌<◌, ◌≤◌, Bool, true, false, ◌&&◌, ◌==◌, Option, None, Some, refl, sym, ◌∙◌, arith}
use Rattle.std.specs.Option.{unwrap_or}
use Rattle.std.specs.declared.cmp.Ordering.{Ordering}
use Rattle.std.specs.declared.cmp.Ordering.TheVariants.{Less, Equal, Greater}
use Rattle.std.specs.Ordering.{is_le, nat_cmp, ordering_then, MatchOrdering}
use Rattle.std.specs.Cmp.{ranks}
use Rattle.std.proofs.lemmas.Bool.{eqb-true, eq-eqb, and_parts, and_from}
use mathlib.Core.Bool.{true≢false}
use Rattle.quad_index.specs.declared.key.KeyPattern.{KeyPattern}
use Rattle.quad_index.specs.declared.order.Order.{Order}
use Rattle.quad_index.specs.declared.order.Order.TheVariants.{Gspo, Gpos, Gosp, Spog, Posg, Ospg}
use Rattle.quad_index.specs.declared.order.Placed.{Placed}
use Rattle.quad_index.specs.Key.{fits_bound, matches_key}
use Rattle.quad_index.specs.Order.{placed_cmp, arranged, restored, lowest, bound_first, binds_front}
use Rattle.quad_index.proofs.Fronts.{IsFront}

-- ---- one part
le_part : (o : Ordering) (m n : ℕ) → MatchOrdering o (m < n) (m ≡ n) (n < m) → (r : Ordering) → m ≤ n → is_le r ≡ true → is_le (ordering_then o r) ≡ true
le_part Less m n h r a b = refl
le_part Equal m n h r a b = b
le_part Greater m n h r a b = absurd (omega arith)

le_last : (o : Ordering) (m n : ℕ) → MatchOrdering o (m < n) (m ≡ n) (n < m) → m ≤ n → is_le o ≡ true
le_last Less m n h a = refl
le_last Equal m n h a = refl
le_last Greater m n h a = absurd (omega arith)

low_fits : (a : Option ℕ) (n : ℕ) → fits_bound a n ≡ true → unwrap_or a 0 ≤ n
low_fits None n h = omega arith
low_fits (Some m) n h = let e : m ≡ n = eqb-true m n h in omega arith

record Squeezed (m x : ℕ) (r q : Ordering) : Type 0 where
  same : (m == x) ≡ true
  rest : is_le r ≡ true
  below : q ≡ Less

squeeze_at : (o p : Ordering) (m x y : ℕ) (r q : Ordering) → MatchOrdering o (m < x) (m ≡ x) (x < m) → MatchOrdering p (x < y) (x ≡ y) (y < x) → is_le (ordering_then o r) ≡ true → ordering_then p q ≡ Less → m ≡ y → Squeezed m x r q
squeeze_at Less Less m x y r q h k a b e = absurd (omega arith)
squeeze_at Less Equal m x y r q h k a b e = absurd (omega arith)
squeeze_at Less Greater m x y r q h k a b e = cc
squeeze_at Equal Less m x y r q h k a b e = absurd (omega arith)
squeeze_at Equal Equal m x y r q h k a b e = record { same = eq-eqb m x h; rest = a; below = b }
squeeze_at Equal Greater m x y r q h k a b e = cc
squeeze_at Greater p m x y r q h k a b e = absurd (true≢false (sym a))

squeeze : (m x y : ℕ) (r q : Ordering) → is_le (ordering_then (nat_cmp m x) r) ≡ true → ordering_then (nat_cmp x y) q ≡ Less → (m == y) ≡ true → Squeezed m x r q
squeeze m x y r q a b e = squeeze_at (nat_cmp m x) (nat_cmp x y) m x y r q (ranks m x) (ranks x y) a b (eqb-true m y e)

squeeze_last : (o p : Ordering) (m x y : ℕ) → MatchOrdering o (m < x) (m ≡ x) (x < m) → MatchOrdering p (x < y) (x ≡ y) (y < x) → is_le o ≡ true → p ≡ Less → m ≡ y → (m == x) ≡ true
squeeze_last Less Less m x y h k a b e = absurd (omega arith)
squeeze_last Equal Less m x y h k a b e = absurd (omega arith)
squeeze_last Greater Less m x y h k a b e = absurd (true≢false (sym a))
squeeze_last o Equal m x y h k a b e = cc
squeeze_last o Greater m x y h k a b e = cc

-- ---- four parts
abbrev fits4 : Option ℕ → Option ℕ → Option ℕ → Option ℕ → Placed → Bool
fits4 a b c d x = fits_bound a x.first && (fits_bound b x.second && (fits_bound c x.third && fits_bound d x.fourth))

abbrev low4 : Option ℕ → Option ℕ → Option ℕ → Option ℕ → Placed
low4 a b c d = record { first = unwrap_or a 0; second = unwrap_or b 0; third = unwrap_or c 0; fourth = unwrap_or d 0 }

above4 : (a b c d : Option ℕ) (x : Placed) → fits4 a b c d x ≡ true → is_le (placed_cmp (low4 a b c d) x) ≡ true
above4 a b c d x h =
    let h1 = and_parts (fits_bound a x.first) _ h in
    let h2 = and_parts (fits_bound b x.second) _ h1.1 in
    let h3 = and_parts (fits_bound c x.third) _ h2.1 in
    le_part _ _ _ (ranks (unwrap_or a 0) x.first) _ (low_fits a x.first h1.0)
    (le_part _ _ _ (ranks (unwrap_or b 0) x.second) _ (low_fits b x.second h2.0)
    (le_part _ _ _ (ranks (unwrap_or c 0) x.third) _ (low_fits c x.third h3.0)
    (le_last _ _ _ (ranks (unwrap_or d 0) x.fourth) (low_fits d x.fourth h3.1))))

closes4 : (a b c d : Option ℕ) → bound_first a b c d ≡ true → (x y : Placed) → is_le (placed_cmp (low4 a b c d) x) ≡ true → placed_cmp x y ≡ Less → fits4 a b c d y ≡ true → fits4 a b c d x ≡ true
closes4 None None None None l x y p q h = refl
closes4 (Some k) None None None l x y p q h =
    let h1 = and_parts (k == y.first) _ h in
    let s1 = squeeze k x.first y.first _ _ p q h1.0 in
    and_from _ _ s1.same refl
closes4 (Some k) (Some m) None None l x y p q h =
    let h1 = and_parts (k == y.first) _ h in
    let s1 = squeeze k x.first y.first _ _ p q h1.0 in
    let h2 = and_parts (m == y.second) _ h1.1 in
    let s2 = squeeze m x.second y.second _ _ s1.rest s1.below h2.0 in
    and_from _ _ s1.same (and_from _ _ s2.same refl)
closes4 (Some k) (Some m) (Some n) None l x y p q h =
    let h1 = and_parts (k == y.first) _ h in
    let s1 = squeeze k x.first y.first _ _ p q h1.0 in
    let h2 = and_parts (m == y.second) _ h1.1 in
    let s2 = squeeze m x.second y.second _ _ s1.rest s1.below h2.0 in
    let h3 = and_parts (n == y.third) _ h2.1 in
    let s3 = squeeze n x.third y.third _ _ s2.rest s2.below h3.0 in
    and_from _ _ s1.same (and_from _ _ s2.same (and_from _ _ s3.same refl))
closes4 (Some k) (Some m) (Some n) (Some i) l x y p q h =
    let h1 = and_parts (k == y.first) _ h in
    let s1 = squeeze k x.first y.first _ _ p q h1.0 in
    let h2 = and_parts (m == y.second) _ h1.1 in
    let s2 = squeeze m x.second y.second _ _ s1.rest s1.below h2.0 in
    let h3 = and_parts (n == y.third) _ h2.1 in
    let s3 = squeeze n x.third y.third _ _ s2.rest s2.below h3.0 in
    and_from _ _ s1.same (and_from _ _ s2.same (and_from _ _ s3.same (squeeze_last _ _ i x.fourth y.fourth (ranks i x.fourth) (ranks x.fourth y.fourth) s3.rest s3.below (eqb-true i y.fourth h3.1))))
closes4 None None None (Some i) l x y p q h = absurd (true≢false (sym l))
closes4 None None (Some n) None l x y p q h = absurd (true≢false (sym l))
closes4 None None (Some n) (Some i) l x y p q h = absurd (true≢false (sym l))
closes4 None (Some m) None None l x y p q h = absurd (true≢false (sym l))
closes4 None (Some m) None (Some i) l x y p q h = absurd (true≢false (sym l))
closes4 None (Some m) (Some n) None l x y p q h = absurd (true≢false (sym l))
closes4 None (Some m) (Some n) (Some i) l x y p q h = absurd (true≢false (sym l))
closes4 (Some k) None None (Some i) l x y p q h = absurd (true≢false (sym l))
closes4 (Some k) None (Some n) None l x y p q h = absurd (true≢false (sym l))
closes4 (Some k) None (Some n) (Some i) l x y p q h = absurd (true≢false (sym l))
closes4 (Some k) (Some m) None (Some i) l x y p q h = absurd (true≢false (sym l))

front4 : (a b c d : Option ℕ) → bound_first a b c d ≡ true → IsFront placed_cmp (low4 a b c d) (fits4 a b c d)
front4 a b c d l = record { above = above4 a b c d; closes = closes4 a b c d l }

-- the same for a test that answers alike
alike : (low : Placed) (t u : Placed → Bool) → ((x : Placed) → t x ≡ u x) → IsFront placed_cmp low t → IsFront placed_cmp low u
alike low t u e f = record {
  above = λ x h. f.above x (e x ∙ h);
  closes = λ x y p q h. sym (e x) ∙ f.closes x y p q (e y ∙ h);
}

turn_gspo : (g s p o : Bool) → (g && (s && (p && o))) ≡ (((g && s) && p) && o)
turn_gspo true true true true = refl
turn_gspo true true true false = refl
turn_gspo true true false true = refl
turn_gspo true true false false = refl
turn_gspo true false true true = refl
turn_gspo true false true false = refl
turn_gspo true false false true = refl
turn_gspo true false false false = refl
turn_gspo false true true true = refl
turn_gspo false true true false = refl
turn_gspo false true false true = refl
turn_gspo false true false false = refl
turn_gspo false false true true = refl
turn_gspo false false true false = refl
turn_gspo false false false true = refl
turn_gspo false false false false = refl

turn_gpos : (g s p o : Bool) → (g && (p && (o && s))) ≡ (((g && s) && p) && o)
turn_gpos true true true true = refl
turn_gpos true true true false = refl
turn_gpos true true false true = refl
turn_gpos true true false false = refl
turn_gpos true false true true = refl
turn_gpos true false true false = refl
turn_gpos true false false true = refl
turn_gpos true false false false = refl
turn_gpos false true true true = refl
turn_gpos false true true false = refl
turn_gpos false true false true = refl
turn_gpos false true false false = refl
turn_gpos false false true true = refl
turn_gpos false false true false = refl
turn_gpos false false false true = refl
turn_gpos false false false false = refl

turn_gosp : (g s p o : Bool) → (g && (o && (s && p))) ≡ (((g && s) && p) && o)
turn_gosp true true true true = refl
turn_gosp true true true false = refl
turn_gosp true true false true = refl
turn_gosp true true false false = refl
turn_gosp true false true true = refl
turn_gosp true false true false = refl
turn_gosp true false false true = refl
turn_gosp true false false false = refl
turn_gosp false true true true = refl
turn_gosp false true true false = refl
turn_gosp false true false true = refl
turn_gosp false true false false = refl
turn_gosp false false true true = refl
turn_gosp false false true false = refl
turn_gosp false false false true = refl
turn_gosp false false false false = refl

turn_spog : (g s p o : Bool) → (s && (p && (o && g))) ≡ (((g && s) && p) && o)
turn_spog true true true true = refl
turn_spog true true true false = refl
turn_spog true true false true = refl
turn_spog true true false false = refl
turn_spog true false true true = refl
turn_spog true false true false = refl
turn_spog true false false true = refl
turn_spog true false false false = refl
turn_spog false true true true = refl
turn_spog false true true false = refl
turn_spog false true false true = refl
turn_spog false true false false = refl
turn_spog false false true true = refl
turn_spog false false true false = refl
turn_spog false false false true = refl
turn_spog false false false false = refl

turn_posg : (g s p o : Bool) → (p && (o && (s && g))) ≡ (((g && s) && p) && o)
turn_posg true true true true = refl
turn_posg true true true false = refl
turn_posg true true false true = refl
turn_posg true true false false = refl
turn_posg true false true true = refl
turn_posg true false true false = refl
turn_posg true false false true = refl
turn_posg true false false false = refl
turn_posg false true true true = refl
turn_posg false true true false = refl
turn_posg false true false true = refl
turn_posg false true false false = refl
turn_posg false false true true = refl
turn_posg false false true false = refl
turn_posg false false false true = refl
turn_posg false false false false = refl

turn_ospg : (g s p o : Bool) → (o && (s && (p && g))) ≡ (((g && s) && p) && o)
turn_ospg true true true true = refl
turn_ospg true true true false = refl
turn_ospg true true false true = refl
turn_ospg true true false false = refl
turn_ospg true false true true = refl
turn_ospg true false true false = refl
turn_ospg true false false true = refl
turn_ospg true false false false = refl
turn_ospg false true true true = refl
turn_ospg false true true false = refl
turn_ospg false true false true = refl
turn_ospg false true false false = refl
turn_ospg false false true true = refl
turn_ospg false false true false = refl
turn_ospg false false false true = refl
turn_ospg false false false false = refl

pub front_of : (order : Order) (q : KeyPattern) → binds_front order q ≡ true → IsFront placed_cmp (arranged order (lowest q)) (λ x. matches_key q (restored order x))
front_of Gspo q l = alike _ _ _ (λ x. turn_gspo (fits_bound q.g x.first) (fits_bound q.s x.second) (fits_bound q.p x.third) (fits_bound q.o x.fourth)) (front4 q.g q.s q.p q.o l)
front_of Gpos q l = alike _ _ _ (λ x. turn_gpos (fits_bound q.g x.first) (fits_bound q.s x.fourth) (fits_bound q.p x.second) (fits_bound q.o x.third)) (front4 q.g q.p q.o q.s l)
front_of Gosp q l = alike _ _ _ (λ x. turn_gosp (fits_bound q.g x.first) (fits_bound q.s x.third) (fits_bound q.p x.fourth) (fits_bound q.o x.second)) (front4 q.g q.o q.s q.p l)
front_of Spog q l = alike _ _ _ (λ x. turn_spog (fits_bound q.g x.fourth) (fits_bound q.s x.first) (fits_bound q.p x.second) (fits_bound q.o x.third)) (front4 q.s q.p q.o q.g l)
front_of Posg q l = alike _ _ _ (λ x. turn_posg (fits_bound q.g x.fourth) (fits_bound q.s x.third) (fits_bound q.p x.first) (fits_bound q.o x.second)) (front4 q.p q.o q.s q.g l)
front_of Ospg q l = alike _ _ _ (λ x. turn_ospg (fits_bound q.g x.fourth) (fits_bound q.s x.second) (fits_bound q.p x.third) (fits_bound q.o x.first)) (front4 q.o q.s q.p q.g l)
