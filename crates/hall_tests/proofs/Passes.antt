-- One of many passes made calls.
use Rattle.std.proofs.Common.{◌≡◌, ℕ, zero, suc, ◌<◌, List, [], ◌∷◌, ◌++◌, length, take, drop, ◌∙◌, refl, sym, ap, subst, arith, slice_index_or}
use Rattle.std.proofs.lemmas.List.{drop_all, take_all, append-nil}
use Rattle.std.specs.Prelude.{slice_set, Result, Ok, Err, IfOk}
use Rattle.std.specs.List.{AllZip}
use Rattle.disk_model.specs.declared.disk.Disk.{Ghosts}
use Rattle.patch_log.specs.State.{LogView}
use Rattle.turn_cell.specs.Turns.{AllOf}
use Rattle.turn_cell.specs.Sights.{Made}
use Rattle.chain_core.specs.Replies.{LogCall, LogReply}
use Rattle.shared_log.specs.History.{LogSight, SeesWhole}
use Rattle.shared_log.specs.Stays.{CalledOnLog}
use Rattle.hall_logs.specs.Slots.{ArePartsOf, AreAllHallPasses, OnSlot}
use Rattle.hall_logs.specs.Visits.{HasVisited}
use Rattle.hall_logs.proofs.Visiting.{each_is_visit, passes_stay}

module _ {D : Type 0} (disks : Ghosts D) (logs : List (Made (LogView D))) where
  at : (P : List LogSight → Type 0) (passes : List (List LogSight)) (k : ℕ) (pass : List LogSight) → AllOf P passes → k < length passes → pass ≡ slice_index_or passes k pass → P pass
  at P [] k pass all low is = absurd (omega (arith, low))
  at P (x ∷ passes) zero pass all low is = subst P (sym is) all.0
  at P (x ∷ passes) (suc k) pass all low is = at P passes k pass all.1 (omega (arith, low)) is

  same : (passes : List (List LogSight)) → AllZip (HasVisited disks logs) passes passes
  same [] = tt
  same (pass ∷ passes) = (([], refl), same passes)

  set_one : (passes : List (List LogSight)) (k : ℕ) (pass after : List LogSight) → k < length passes → pass ≡ slice_index_or passes k pass → HasVisited disks logs pass after → AllZip (HasVisited disks logs) passes (slice_set passes k after)
  set_one [] k pass after low is visited = absurd (omega (arith, low))
  set_one (x ∷ passes) zero pass after low is visited = (subst (λ (p : List LogSight). HasVisited disks logs p after) is visited, same passes)
  set_one (x ∷ passes) (suc k) pass after low is visited = (([], refl), set_one passes k pass after (omega (arith, low)) is visited)

  -- a call is a visit
  pub called : {slot : ℕ} {call : LogCall} {reply : LogReply} {before after : List LogSight} → OnSlot slot (λ log p q. CalledOnLog disks log.origin p call reply q) logs before after → OnSlot slot (λ log p q. SeesWhole q) logs before after → HasVisited disks logs before after
  called {slot} {call} {reply} {before} {after} on whole = let one = (each_is_visit disks logs slot call before after).replied reply on whole in (_ ∷ [], (after, one.1, refl))

  module _ {seats : ℕ} {passes : List (List LogSight)} {pass : List LogSight} where
    -- one of them has a part of each log
    pub has_parts : (k : ℕ) → AreAllHallPasses disks logs seats passes → k < seats → pass ≡ slice_index_or passes k pass → ArePartsOf disks logs pass
    has_parts k all low is = at (ArePartsOf disks logs) passes k pass all.of (omega (arith, low, all.count)) is

    -- one of them made a call
    pub one_called : {slot : ℕ} {call : LogCall} {reply : LogReply} {after : List LogSight} (k : ℕ) → AreAllHallPasses disks logs seats passes → k < seats → pass ≡ slice_index_or passes k pass → OnSlot slot (λ log p q. CalledOnLog disks log.origin p call reply q) logs pass after
        → OnSlot slot (λ log p q. SeesWhole q) logs pass after → AreAllHallPasses disks logs seats (slice_set passes k after)
    one_called {after = after} k all low is on whole = passes_stay disks logs seats passes (slice_set passes k after) (set_one passes k pass after (omega (arith, low, all.count)) is (called on whole)) all

  pub each_visits : (before after : List (List LogSight)) → length after ≡ length before
      → ((k : ℕ) (d : List LogSight) → k < length before → HasVisited disks logs (slice_index_or before k d) (slice_index_or after k d)) → AllZip (HasVisited disks logs) before after
  each_visits [] [] count each = tt
  each_visits [] (y ∷ after) count each = absurd (omega (arith, count))
  each_visits (x ∷ before) [] count each = absurd (omega (arith, count))
  each_visits (x ∷ before) (y ∷ after) count each = (each zero x (omega arith), each_visits before after (omega (arith, count)) (λ k d low. each (suc k) d (omega (arith, low))))

module _ {T E : Type 0} where
  pub both : (result : Result T E) (P Q : T → Type 0) → IfOk result P → IfOk result Q → IfOk result (λ x. P x × Q x)
  both (Ok x) P Q p q = (p, q)
  both (Err e) P Q p q = tt

-- what was written over a whole list
pub whole : {A : Type 0} (n : ℕ) (xs ys : List A) → n ≡ length xs → length ys ≡ length xs → take n (ys ++ drop (length ys) xs) ≡ ys
whole n xs ys all same =
    ap (λ l. take n (ys ++ l)) (drop_all (length ys) xs (omega (arith, same))) ∙ ap (take n) (append-nil ys) ∙ take_all n ys (omega (arith, all, same))
