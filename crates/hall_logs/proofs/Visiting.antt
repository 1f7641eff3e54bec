-- Calls on many logs are calls on each.
use Rattle.std.proofs.Common.{◌≡◌, ◌≢◌, ℕ, zero, suc, ◌+◌, eq-eqb, ne_eqb, List, [], ◌∷◌, refl, sym, ap, ◌∙◌, subst, ⊎_elim, inl, inr, arith, Option, Some, None, slice_get}
use Rattle.std.specs.Prelude.{slice_set}
use Rattle.std.specs.List.{AllZip}
use Rattle.std.proofs.lemmas.Slice.Zip.{AllZip-long}
use mathlib.Core.Logic.{dite}
use native.Mathlib.Decide.{ℕ_discrete}
use Rattle.disk_model.specs.declared.disk.Disk.{Ghosts}
use Rattle.patch_log.specs.State.{LogView}
use Rattle.turn_cell.specs.Turns.{IsIn, AllOf}
use Rattle.turn_cell.specs.Sights.{Made}
use Rattle.turn_cell.specs.Knowing.{SeesOn, pass_number}
use Rattle.turn_cell.specs.Sharing.{IsPassOf}
use Rattle.shared_log.specs.History.{LogSight, SeesWhole, shared_log}
use Rattle.chain_core.specs.Replies.{LogCall, LogReply}
use Rattle.turn_cell.specs.Calls.{IsReplied}
use Rattle.shared_log.specs.Stays.{CalledOnLog}
use Rattle.shared_log.specs.Calls.{MayWant, IsCalledOnLog, AreCalledOnLog}
use Rattle.shared_log.proofs.Adding.{each_is_made}
use Rattle.hall_logs.specs.Laws.{EachIsVisit}
use Rattle.hall_logs.specs.Slots.{OnSlot, ArePartsOf, AreAllHallPasses}
use Rattle.hall_logs.specs.Visits.{Visit, asked_at, IsVisit, AreVisits, HasVisited}
use Rattle.hall_logs.proofs.Parts.{zip_at, zip_set, still_pass}

module _ {A : Type 0} where
  pub get_set : (xs : List A) (k : ℕ) (x y : A) → slice_get xs k ≡ Some x → slice_get (slice_set xs k y) k ≡ Some y
  get_set [] k x y is = let c = is in cc
  get_set (z ∷ xs) zero x y is = refl
  get_set (z ∷ xs) (suc k) x y is = get_set xs k x y is

  pub get_other : (xs : List A) (j k : ℕ) (y : A) → j ≢ k → slice_get (slice_set xs j y) k ≡ slice_get xs k
  get_other [] j k y apart = refl
  get_other (z ∷ xs) zero zero y apart = absurd (apart refl)
  get_other (z ∷ xs) zero (suc k) y apart = refl
  get_other (z ∷ xs) (suc j) zero y apart = refl
  get_other (z ∷ xs) (suc j) (suc k) y apart = get_other xs j k y (λ e. apart (ap suc e))

  pub same_some : (x y : A) → Some x ≡ Some y → x ≡ y
  same_some x y e = cc

  all_set : (P : A → Type 0) (xs : List A) (k : ℕ) (x y : A) → AllOf P xs → slice_get xs k ≡ Some x → (P x → P y) → AllOf P (slice_set xs k y)
  all_set P [] k x y all is f = tt
  all_set P (z ∷ xs) zero x y all is f = let same : z ≡ x = cc in (f (subst P same all.0), all.1)
  all_set P (z ∷ xs) (suc k) x y all is f = (all.0, all_set P xs k x y all.1 is f)

module _ {D : Type 0} (disks : Ghosts D) (logs : List (Made (LogView D))) (place : ℕ) (log : Made (LogView D)) (at : slice_get logs place ≡ Some log) where
  -- a visit on this log
  pub here : (p : LogSight) (before next : List LogSight) (visit : Visit) → slice_get before place ≡ Some p → visit.slot ≡ place + 1 → IsVisit disks logs before visit next
      → (q : LogSight) × (slice_get next place ≡ Some q) × IsCalledOnLog disks log.origin p visit.asked q × SeesWhole q
  here p before next visit is slot v =
      let same : v.place ≡ place = omega (arith, v.slot_is, slot) in
      let log_is : v.log ≡ log = same_some v.log log (sym v.log_is ∙ ap (slice_get logs) same ∙ at) in
      let p_is : v.old ≡ p = same_some v.old p (sym v.old_is ∙ ap (slice_get before) same ∙ is) in
      let q_is : slice_get next place ≡ Some v.new = ap (λ l. slice_get l place) (v.others ∙ ap (λ k. slice_set before k v.new) same) ∙ get_set before place p v.new is in
      (v.new, q_is, subst (λ (z : Made (LogView D) × LogSight). IsCalledOnLog disks z.0.origin z.1 visit.asked v.new) (λ i. (log_is i, p_is i)) v.so.0, v.so.1)

  -- a visit on another log
  there : (p : LogSight) (before next : List LogSight) (visit : Visit) → slice_get before place ≡ Some p → visit.slot ≢ place + 1 → IsVisit disks logs before visit next → slice_get next place ≡ Some p
  there p before next visit is apart v = ap (λ l. slice_get l place) v.others ∙ get_other before v.place place v.new (λ e. apart (v.slot_is ∙ ap (λ k. k + 1) e)) ∙ is

  pub asked_here : (p : LogSight) (before after : List LogSight) (visits : List Visit) → slice_get before place ≡ Some p → AreVisits disks logs before visits after
      → (q : LogSight) × (slice_get after place ≡ Some q) × AreCalledOnLog disks log.origin p (asked_at (place + 1) visits) q
  asked_here p before after [] is same = (p, ap (λ l. slice_get l place) same ∙ is, refl)
  asked_here p before after (visit ∷ more) is vs = dite (ℕ_discrete visit.slot (place + 1))
      (λ e.
      let h = here p before vs.0 visit is e vs.1 in
      let r = asked_here h.0 vs.0 after more h.1 vs.2 in
      (r.0, r.1, rw (eq-eqb visit.slot (place + 1) e) (h.0, h.2, r.2)))
      (λ ne.
      let r = asked_here p vs.0 after more (there p before vs.0 visit is ne vs.1) vs.2 in
      (r.0, r.1, rw (ne_eqb visit.slot (place + 1) ne) r.2))

-- what a pass then sees of the log of a slot stands whole, whatever else is said of that log
seen_new : {D : Type 0} (logs : List (Made (LogView D))) (slot : ℕ) (before after : List LogSight) {R : Made (LogView D) → LogSight → LogSight → Type 0} (on : OnSlot slot R logs before after) → OnSlot slot (λ log p q. SeesWhole q) logs before after → SeesWhole on.new
seen_new logs slot before after on whole =
    let same : whole.place ≡ on.place = omega (arith, on.slot_is, whole.slot_is) in
    let one = ap (λ l. slice_get l on.place) on.others ∙ get_set before on.place on.old on.new on.old_is in
    let other = ap (λ l. slice_get l whole.place) whole.others ∙ get_set before whole.place whole.old whole.new whole.old_is in
    subst SeesWhole (same_some whole.new on.new (sym other ∙ ap (slice_get after) same ∙ one)) whole.so

pub each_is_visit : {D : Type 0} (disks : Ghosts D) (logs : List (Made (LogView D))) (slot : ℕ) (call : LogCall) (before after : List LogSight) → EachIsVisit disks logs slot call before after
each_is_visit disks logs slot call before after = record {
  replied = λ reply on whole. let one = (each_is_made disks on.log.origin on.old call on.new).replied reply on.so in (one.0, record { place = on.place; log = on.log; old = on.old; new = on.new; slot_is = on.slot_is; log_is = on.log_is; old_is = on.old_is; others = on.others; so = (one.2, seen_new logs slot before after on whole) });
  wanted = λ may on whole. record { place = on.place; log = on.log; old = on.old; new = on.new; slot_is = on.slot_is; log_is = on.log_is; old_is = on.old_is; others = on.others; so = ((each_is_made disks on.log.origin on.old call on.new).wanted may on.so, seen_new logs slot before after on whole) };
}

-- whether it found memory or not, the pass sees on
pub asked_sees : {D : Type 0} (disks : Ghosts D) (origin : LogView D) (p q : LogSight) (call : LogCall) (reply : Option LogReply) → IsReplied (CalledOnLog disks origin) MayWant p call reply q → SeesOn p q
asked_sees disks origin p q call (Some reply) is = is.legal.0
asked_sees disks origin p q call None is = is.1.0

module _ {D : Type 0} (disks : Ghosts D) (logs : List (Made (LogView D))) where
  module _ (before after : List LogSight) (visit : Visit) (v : IsVisit disks logs before visit after) where
    sees : SeesOn v.old v.new
    sees = asked_sees disks v.log.origin v.old v.new visit.asked.call visit.asked.reply v.so.0.replied

    one_parts : ArePartsOf disks logs before → ArePartsOf disks logs after
    one_parts of = subst (ArePartsOf disks logs) (sym v.others) (zip_set (IsPassOf (shared_log disks)) logs before v.place v.log v.new of v.log_is
        (still_pass disks v.log v.old v.new (zip_at (IsPassOf (shared_log disks)) logs before v.place v.log v.old of v.log_is v.old_is) sees))

    one_number : (n : ℕ) → AllOf (λ (part : LogSight). pass_number part ≡ n) before → AllOf (λ (part : LogSight). pass_number part ≡ n) after
    one_number n all = subst (AllOf (λ (part : LogSight). pass_number part ≡ n)) (sym v.others)
        (all_set (λ (part : LogSight). pass_number part ≡ n) before v.place v.old v.new all v.old_is (λ e. sees.0.2 ∙ e))

  pub parts_stay : (before after : List LogSight) (visits : List Visit) → AreVisits disks logs before visits after → ArePartsOf disks logs before → ArePartsOf disks logs after
  parts_stay before after [] same of = subst (ArePartsOf disks logs) (sym same) of
  parts_stay before after (visit ∷ more) vs of = parts_stay vs.0 after more vs.2 (one_parts before vs.0 visit vs.1 of)

  pub numbers_stay : (n : ℕ) (before after : List LogSight) (visits : List Visit) → AreVisits disks logs before visits after → AllOf (λ (part : LogSight). pass_number part ≡ n) before → AllOf (λ (part : LogSight). pass_number part ≡ n) after
  numbers_stay n before after [] same all = subst (AllOf (λ (part : LogSight). pass_number part ≡ n)) (sym same) all
  numbers_stay n before after (visit ∷ more) vs all = numbers_stay n vs.0 after more vs.2 (one_number before vs.0 visit vs.1 n all)

  all_stay : (before after : List (List LogSight)) → AllZip (HasVisited disks logs) before after → AllOf (ArePartsOf disks logs) before → AllOf (ArePartsOf disks logs) after
  all_stay [] [] visited all = tt
  all_stay [] (y ∷ after) visited all = absurd visited
  all_stay (x ∷ before) [] visited all = absurd visited
  all_stay (x ∷ before) (y ∷ after) visited all = (parts_stay x y visited.0.0 visited.0.1 all.0, all_stay before after visited.1 all.1)

  one_stays : (n : ℕ) (before after : List (List LogSight)) → AllZip (HasVisited disks logs) before after → (parts : List LogSight) → IsIn parts before → AllOf (λ (part : LogSight). pass_number part ≡ n) parts
      → (left : List LogSight) × IsIn left after × AllOf (λ (part : LogSight). pass_number part ≡ n) left
  one_stays n [] after visited parts there all = absurd there
  one_stays n (x ∷ before) [] visited parts there all = absurd visited
  one_stays n (x ∷ before) (y ∷ after) visited parts there all =
      ⊎_elim (λ (e : parts ≡ x). (y, inl refl, numbers_stay n x y visited.0.0 visited.0.1 (subst (AllOf (λ (part : LogSight). pass_number part ≡ n)) e all)))
      (λ (i : IsIn parts before). let more = one_stays n before after visited.1 parts i all in (more.0, inr more.1, more.2)) there

  pub passes_stay : (seats : ℕ) (before after : List (List LogSight)) → AllZip (HasVisited disks logs) before after → AreAllHallPasses disks logs seats before → AreAllHallPasses disks logs seats after
  passes_stay seats before after visited are = record {
    of = all_stay before after visited are.of;
    count = AllZip-long (HasVisited disks logs) before after visited ∙ are.count;
    all = λ n positive high. let one = are.all n positive high in one_stays n before after visited one.0 one.1 one.2;
  }
