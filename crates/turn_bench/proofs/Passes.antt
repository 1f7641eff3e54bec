-- Passes that were used are those of the cell still.
use Rattle.std.proofs.Common.{◌≡◌, ℕ, zero, suc, ◌+◌, ◌<◌, ◌≤◌, ◌⊎◌, List, [], ◌∷◌, ◌++◌, length, take, drop, refl, ap, ◌∙◌, inl, inr, ⊎_elim, sym, arith, Some, slice_get, slice_index_or}
use Rattle.std.proofs.lemmas.List.{drop_all, take_all, append-nil}
use mathlib.Core.Logic.{dite}
use native.Mathlib.Decide.{ℕ_discrete}
use Rattle.atomic_table.specs.Seated.{TableId}
use Rattle.turn_cell.specs.Turns.{AllOf, IsIn, places_by, Knew}
use Rattle.turn_cell.proofs.Ends.{all_in}
use Rattle.turn_bench.specs.declared.numbers.Numbers.{Numbers}
use Rattle.turn_bench.specs.After.{NumberSight, IsIdle, IsAfter, HaveAdded}

-- what was written over a whole list
pub whole : {A : Type 0} (n : ℕ) (xs ys : List A) → n ≡ length xs → length ys ≡ length xs → take n (ys ++ drop (length ys) xs) ≡ ys
whole n xs ys all same =
    ap (λ l. take n (ys ++ l)) (drop_all (length ys) xs (omega (arith, same))) ∙ ap (take n) (append-nil ys) ∙ take_all n ys (omega (arith, all, same))

abbrev pub Each : ℕ → List NumberSight → List NumberSight → Type 0
Each stays ps qs = (k : ℕ) (d : NumberSight) → k < length ps → IsAfter stays (slice_index_or ps k d) (slice_index_or qs k d)

pub all_idle : (stays : ℕ) (cell : TableId) (ps qs : List NumberSight) → length qs ≡ length ps → Each stays ps qs → ((k : ℕ) (p : NumberSight) → slice_get ps k ≡ Some p → p.cell ≡ cell) → AllOf (IsIdle cell) qs
all_idle stays cell [] [] same each known = tt
all_idle stays cell (p ∷ ps) [] same each known = tt
all_idle stays cell [] (q ∷ qs) same each known = absurd (omega (arith, same))
all_idle stays cell (p ∷ ps) (q ∷ qs) same each known =
    let e : IsAfter stays p q = each zero p (omega arith) in
    ((e.idle.0 ∙ known zero p refl, e.idle.1), all_idle stays cell ps qs (omega (arith, same)) (λ k d low. each (suc k) d (omega (arith, low))) (λ k p' is. known (suc k) p' is))

-- the pass of a number, after its stays
pub record Numbered (stays n : ℕ) (qs : List NumberSight) : Type 0 where
  pub before : NumberSight
  pub after : NumberSight
  pub there : IsIn after qs
  pub number : after.view.number ≡ n
  pub is_after : IsAfter stays before after
  pub was_new : before.view.mine ≡ []

pub numbered : (stays first : ℕ) (ps qs : List NumberSight) → length qs ≡ length ps → Each stays ps qs → ((k : ℕ) (p : NumberSight) → slice_get ps k ≡ Some p → (p.view.number ≡ first + k) × (p.view.mine ≡ []))
    → (n : ℕ) → first ≤ n → n < first + length qs → Numbered stays n qs
numbered stays first [] [] same each known n low high = absurd (omega (arith, low, high))
numbered stays first (p ∷ ps) [] same each known n low high = absurd (omega (arith, low, high))
numbered stays first [] (q ∷ qs) same each known n low high = absurd (omega (arith, same))
numbered stays first (p ∷ ps) (q ∷ qs) same each known n low high =
    let e : IsAfter stays p q = each zero p (omega arith) in
    dite (ℕ_discrete n first)
    (λ here. record { before = p; after = q; there = inl refl; number = omega (arith, e.number, (known zero p refl).0, here); is_after = e; was_new = (known zero p refl).1 })
    (λ there.
    let more = numbered stays (first + 1) ps qs (omega (arith, same)) (λ k d lt. each (suc k) d (omega (arith, lt))) (λ k p' is. let o = known (suc k) p' is in (omega (arith, o.0), o.1)) n (omega (arith, low, there)) (omega (arith, high)) in
    record { before = more.before; after = more.after; there = inr more.there; number = more.number; is_after = more.is_after; was_new = more.was_new })

-- at the end each has added its numbers, unless a fault was counted
pub have_added : (passes stays : ℕ) (numbers : Numbers) (qs : List NumberSight) → ((n : ℕ) → 0 < n → n ≤ passes → Numbered stays n qs)
    → AllOf (λ (p : NumberSight). Knew numbers.entries.items p.view.number p.view.seen p.view.mine) qs → AllOf (λ (p : NumberSight). p.view.own_faults ≤ numbers.faults) qs → HaveAdded passes stays numbers ⊎ (0 < numbers.faults)
have_added passes stays numbers qs each knew own = dite (ℕ_discrete numbers.faults 0)
    (λ none. inl (λ n low high. let z = each n low high in
    let places : places_by n numbers.entries.items ≡ z.after.view.mine = ap (λ k. places_by k numbers.entries.items) (sym z.number) ∙ (all_in (λ (p : NumberSight). Knew numbers.entries.items p.view.number p.view.seen p.view.mine) qs z.after knew z.there).1 in
    let below : z.after.view.own_faults ≤ numbers.faults = all_in (λ (p : NumberSight). p.view.own_faults ≤ numbers.faults) qs z.after own z.there in
    ⊎_elim (λ (adds : length z.after.view.mine ≡ length z.before.view.mine + stays). omega (arith, ap length places, adds, ap length z.was_new))
    (λ (fault : 0 < z.after.view.own_faults). absurd (omega (arith, below, none, fault))) z.is_after.adds))
    (λ some. inr (omega (arith, some)))
