-- A pass that brings a run knows its places.
use Rattle.std.proofs.Common.{◌≡◌, ℕ, ◌+◌, List, [], ◌∷◌, ◌++◌, length, length-append, Option, None, sym, refl, ap, ◌∙◌, subst, arith, eq-eqb}
use mathlib.Core.List.{IsPrefix}
use Rattle.disk_model.specs.declared.disk.Disk.{Ghosts}
use Rattle.chain_core.specs.declared.chain.Patch.{Patch}
use Rattle.chain_core.specs.Runs.{entries_of}
use Rattle.chain_core.proofs.Runs.{length-run}
use Rattle.turn_cell.specs.declared.view.Known.{Known}
use Rattle.turn_cell.specs.Turns.{places_by, places_from, Adds}
use Rattle.turn_cell.specs.Sights.{Taken}
use Rattle.turn_cell.specs.Sharing.{LeavesTurn}
use Rattle.turn_cell.proofs.Staying.{Finds}
use Rattle.turn_cell.proofs.Views.{places_append}
use Rattle.patch_log.specs.State.{LogView}
use Rattle.shared_log.specs.declared.value.LogFixed.{LogFixed}
use Rattle.shared_log.specs.declared.value.Placed.{Placed}
use Rattle.shared_log.specs.History.{history_of, shared_log, LogSight}
use Rattle.shared_log.specs.Legal.{BroughtRun, places_behind}
use Rattle.shared_log.proofs.Histories.{history_length}

places_run : (n place : ℕ) (run : List Patch) → places_from (place + 1) n (history_of (entries_of run n)) ≡ places_behind place (length run)
places_run n place [] = refl
places_run n place (patch ∷ run) = rw (eq-eqb n n refl) (ap (λ (l : List ℕ). (place + 1) ∷ l) (places_run n (place + 1) run))

run_more : (n : ℕ) (run : List Patch) (front : List (Known Placed)) → places_by n (front ++ history_of (entries_of run n)) ≡ places_by n front ++ places_behind (length front) (length run)
run_more n run front =
    let from : 1 + length front ≡ length front + 1 = omega arith in
    places_append n 1 front (history_of (entries_of run n))
    ∙ ap (λ (l : List ℕ). places_by n front ++ l) (ap (λ (k : ℕ). places_from k n (history_of (entries_of run n))) from ∙ places_run n (length front) run)

-- what a pass found in a turn and left there
abbrev pub taken : {D : Type 0} → LogSight → LogView D → LogView D → Taken Placed (List Patch) LogFixed (LogView D)
taken m was left = record { entered = m; was = was; value = left }

module _ {D : Type 0} (disks : Ghosts D) (p m q : LogSight) (was left : LogView D) (came : Finds (shared_log disks) p was m) (leaves : LeavesTurn (shared_log disks) m (taken m was left) q) where
  abbrev before : List (Known Placed)
  before = history_of was.entries

  -- it brought the run whose entries came as the last ones, if no doubt is left
  pub brought_run : (run : List Patch) (place : ℕ) → history_of left.entries ≡ before ++ history_of (entries_of run p.view.number) → place ≡ length before + length run → left.doubt ≡ None → (b : BroughtRun run place p q) × (b.before ≡ before)
  brought_run run place grew at none =
      let n = p.view.number in
      let e = came.entered in
      let ends : q.view.seen ≡ before ++ history_of (entries_of run n) = leaves.sees ∙ grew in
      let count : length (history_of (entries_of run n)) ≡ length run = history_length (entries_of run n) ∙ length-run run n in
      let failed : q.view.failed ≡ m.view.failed = subst (λ (d : Option (List Patch)). Adds was.doubt d m.view.failed q.view.failed) none leaves.failed in (
        record {
          before = before;
          had_seen = subst (IsPrefix p.view.seen) came.sees e.later;
          sees = ends;
          at_end = omega (arith, at, ap length ends, length-append before (history_of (entries_of run n)), count);
          mine = sym leaves.own ∙ ((λ i. places_by ((leaves.same.0.2 ∙ e.same.2) i) (ends i)) ∙ (run_more n run before ∙ (λ i. ((λ j. places_by (sym e.same.2 j) (sym came.sees j)) ∙ (e.own ∙ e.quiet.0)) i ++ places_behind (length before) (length run))));
          failed = failed ∙ e.quiet.2;
        },
        refl,
      )
