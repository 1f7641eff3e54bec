-- A run goes on by one append.
use Rattle.std.proofs.Common.{◌≡◌, ◌≢◌, ℕ, ◌+◌, ◌-◌, ◌^◌, ◌<◌, ◌≤◌, Bool, false, cond, List, [], ◌∷◌, ◌++◌, refl, sym, ap, ◌∙◌, subst, ⊎_elim, inl, inr, arith, append_assoc}
use Rattle.std.specs.Prelude.{count_by}
use Rattle.std.specs.List.{AllByRecursion}
use Rattle.std.proofs.lemmas.List.{append-nil}
use Rattle.std.proofs.lemmas.List.Sums.{sum_by-append}
use Rattle.delta_base.specs.Outside.{Rose, RoseBy}
use Rattle.disk_model.specs.declared.disk.Disk.{Ghosts}
use Rattle.disk_model.specs.Past.{LeavesOnly}
use Rattle.disk_model.proofs.Moments.{starts, joined, weaker}
use Rattle.chain_core.specs.declared.chain.Patch.{Patch}
use Rattle.chain_core.specs.declared.chain.Entry.{Entry}
use Rattle.chain_core.specs.Runs.{entries_of, run_text}
use Rattle.chain_core.specs.declared.answer.LogAnswer.{LogAnswer}
use Rattle.chain_core.specs.declared.answer.LogAnswer.TheVariants.{Accepted, AcceptedRun, Known, Conflict, Full, DiskFault, OutOfMemory}
use Rattle.log_journal.specs.Writing.{HoldsDuring}
use Rattle.patch_log.specs.Log.{payloads_of, run_payload}
use Rattle.patch_log.specs.State.{LogView, runs_in}
use Rattle.patch_log.specs.Run.{AppendedRun, AppendedAll, GrowsBy, HoldsInSeries, is_disk_fault}

module _ {D : Type 0} (disks : Ghosts D) (by : ℕ) where
  -- one append more
  pub run_more : (before : LogView D) (runs : List (List Patch)) (answers : List LogAnswer) (mid : LogView D) (run : List Patch) (answer : LogAnswer) (after : LogView D)
      → AppendedAll disks by before runs answers mid → AppendedRun disks mid after run by answer → AppendedAll disks by before (runs ++ run ∷ []) (answers ++ answer ∷ []) after
  run_more before [] [] mid run answer after all more = (after, subst (λ (log : LogView D). AppendedRun disks log after run by answer) all more, refl)
  run_more before [] (a ∷ answers) mid run answer after all more = absurd all
  run_more before (r ∷ runs) [] mid run answer after all more = absurd all
  run_more before (r ∷ runs) (a ∷ answers) mid run answer after all more =
      (all.0, all.1, run_more all.0 runs answers mid run answer after all.2 more)

  -- before any of them
  pub no_append_yet : (before : LogView D) (runs : List (List Patch)) → LeavesOnly (HoldsInSeries disks by before runs) (disks.past before.disk) (disks.past before.disk)
  no_append_yet before runs = starts (HoldsInSeries disks by before runs) (disks.past before.disk) (λ image left. inl left)

  -- what one append more leaves
  pub moments_more : (before : LogView D) (all done : List (List Patch)) (run : List Patch) (behind : List (List Patch)) (answers : List LogAnswer) (mid after : LogView D)
      → all ≡ done ++ run ∷ behind → mid.number ≡ before.number
      → AppendedAll disks by before done answers mid
      → LeavesOnly (HoldsInSeries disks by before all) (disks.past before.disk) (disks.past mid.disk)
      → LeavesOnly (HoldsDuring mid.number (payloads_of (runs_in mid)) (run_payload mid.doubt) (run_text run)) (disks.past mid.disk) (disks.past after.disk)
      → LeavesOnly (HoldsInSeries disks by before all) (disks.past before.disk) (disks.past after.disk)
  moments_more before all done run behind answers mid after is number appended so_far more =
      let here : (image : List ℕ) → HoldsDuring mid.number (payloads_of (runs_in mid)) (run_payload mid.doubt) (run_text run) image → HoldsInSeries disks by before all image =
      λ image holds. inr (done, run, behind, is, answers, mid, appended, subst (λ (n : ℕ). HoldsDuring n (payloads_of (runs_in mid)) (run_payload mid.doubt) (run_text run) image) number holds) in
      joined (HoldsInSeries disks by before all) (disks.past before.disk) (disks.past mid.disk) (disks.past after.disk) so_far
      (weaker (HoldsDuring mid.number (payloads_of (runs_in mid)) (run_payload mid.doubt) (run_text run)) (HoldsInSeries disks by before all) here (disks.past mid.disk) (disks.past after.disk) more)

both : (P : Entry → Type 0) (xs ys : List Entry) → AllByRecursion P xs → AllByRecursion P ys → AllByRecursion P (xs ++ ys)
both P [] ys p q = q
both P (x ∷ xs) ys p q = (p.0, both P xs ys p.1 q)

module _ (by : ℕ) where
  pub grows_none : (entries : List Entry) → GrowsBy by entries entries
  grows_none entries = ([], sym (append-nil entries), tt)

  by_it : (run : List Patch) → AllByRecursion (λ (entry : Entry). entry.by ≡ by) (entries_of run by)
  by_it [] = tt
  by_it (patch ∷ run) = (refl, by_it run)

  -- one append adds its run or nothing
  grows_once : (run : List Patch) (before after : List Entry) (answer : LogAnswer) → ((version : ℕ) → answer ≡ Accepted version → after ≡ before ++ entries_of run by)
      → (((version : ℕ) → answer ≢ Accepted version) → after ≡ before) → GrowsBy by before after
  grows_once run before after (Accepted version) accepted refused = (entries_of run by, accepted version refl, by_it run)
  grows_once run before after (AcceptedRun first version) accepted refused = subst (GrowsBy by before) (sym (refused (λ v e. cc))) (grows_none before)
  grows_once run before after (Known version same) accepted refused = subst (GrowsBy by before) (sym (refused (λ v e. cc))) (grows_none before)
  grows_once run before after (Conflict version head named) accepted refused = subst (GrowsBy by before) (sym (refused (λ v e. cc))) (grows_none before)
  grows_once run before after (Full what have limit) accepted refused = subst (GrowsBy by before) (sym (refused (λ v e. cc))) (grows_none before)
  grows_once run before after DiskFault accepted refused = subst (GrowsBy by before) (sym (refused (λ v e. cc))) (grows_none before)
  grows_once run before after OutOfMemory accepted refused = subst (GrowsBy by before) (sym (refused (λ v e. cc))) (grows_none before)

  pub grows_more : (run : List Patch) (first before after : List Entry) (answer : LogAnswer) → GrowsBy by first before → ((version : ℕ) → answer ≡ Accepted version → after ≡ before ++ entries_of run by)
      → (((version : ℕ) → answer ≢ Accepted version) → after ≡ before) → GrowsBy by first after
  grows_more run first before after answer so_far accepted refused =
      let once = grows_once run before after answer accepted refused in
      (so_far.0 ++ once.0, once.1 ∙ (ap (λ (entries : List Entry). entries ++ once.0) so_far.1 ∙ append_assoc first so_far.0 once.0), both (λ entry. entry.by ≡ by) so_far.0 once.0 so_far.2 once.2)

-- ---- faults of the disk

fault_more : (answers : List LogAnswer) → count_by is_disk_fault (answers ++ DiskFault ∷ []) ≡ count_by is_disk_fault answers + 1
fault_more answers = sum_by-append (λ (a : LogAnswer). cond (is_disk_fault a) 1 0) answers (DiskFault ∷ [])

other_more : (answers : List LogAnswer) (answer : LogAnswer) → is_disk_fault answer ≡ false → count_by is_disk_fault (answers ++ answer ∷ []) ≡ count_by is_disk_fault answers
other_more answers answer is =
    let one : Bool → ℕ = λ test. cond test 1 0 in
    omega (arith, ap one is, sum_by-append (λ (a : LogAnswer). one (is_disk_fault a)) answers (answer ∷ []))

pub rose_more : (answers : List LogAnswer) (answer : LogAnswer) (first before after : ℕ) → RoseBy (count_by is_disk_fault answers) first before → (answer ≡ DiskFault → Rose before after) → before ≤ after
    → RoseBy (count_by is_disk_fault (answers ++ answer ∷ [])) first after
rose_more answers DiskFault first before after so_far cause more = rw (fault_more answers) (⊎_elim
    (λ (rose : before < after). omega (arith, so_far, rose)) (λ (last : after ≡ 2 ^ 64 - 1). omega (arith, last)) (cause refl))
rose_more answers (Accepted version) first before after so_far cause more = rw (other_more answers (Accepted version) refl) (omega (arith, so_far, more))
rose_more answers (AcceptedRun start version) first before after so_far cause more = rw (other_more answers (AcceptedRun start version) refl) (omega (arith, so_far, more))
rose_more answers (Known version same) first before after so_far cause more = rw (other_more answers (Known version same) refl) (omega (arith, so_far, more))
rose_more answers (Conflict version head named) first before after so_far cause more = rw (other_more answers (Conflict version head named) refl) (omega (arith, so_far, more))
rose_more answers (Full what have limit) first before after so_far cause more = rw (other_more answers (Full what have limit) refl) (omega (arith, so_far, more))
rose_more answers OutOfMemory first before after so_far cause more = rw (other_more answers OutOfMemory refl) (omega (arith, so_far, more))
