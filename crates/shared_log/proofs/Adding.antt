-- From one call on a log to many.
use Rattle.std.proofs.Common.{◌≡◌, ℕ, zero, suc, ◌+◌, ◌-◌, ◌<◌, ◌^◌, List, [], ◌∷◌, ◌++◌, length, length-append, refl, sym, ap, ◌∙◌, subst, ⊎_elim, inl, inr, arith, Option, Some, None}
use Rattle.std.proofs.lemmas.List.{append-nil, append_cancel_left}
use Rattle.delta_base.specs.Outside.{Rose, RoseBy}
use Rattle.disk_model.specs.declared.disk.Disk.{Ghosts}
use Rattle.log_base.specs.declared.limits.LogLimits.{LogLimits}
use Rattle.chain_core.specs.declared.chain.Patch.{Patch}
use Rattle.chain_core.specs.declared.answer.LogAnswer.{LogAnswer}
use Rattle.chain_core.specs.declared.answer.LogAnswer.TheVariants.{Accepted, AcceptedRun, Known, Conflict, Full, DiskFault, OutOfMemory}
use Rattle.chain_core.specs.Runs.{entries_of}
use Rattle.chain_core.proofs.Runs.{length-run}
use Rattle.chain_core.specs.Replies.{LogCall, append, append_run, fetch_version, fetch_id, describe, version, as_run, LogReply, answered, fetched, log_reply}
use Rattle.patch_log.specs.State.{LogView}
use Rattle.turn_cell.specs.Calls.{faults_told, faulted_by, brought_by, doubted_by}
use Rattle.turn_cell.specs.Knowing.{IsQuiet, SeesOn, pass_number, seen_of, mine_of, failed_of, own_faults_of}
use Rattle.turn_cell.proofs.Calling as calling
use Rattle.shared_log.specs.History.{patches_known, history_of, LogSight}
use Rattle.shared_log.specs.Legal.{IsReply, IsAppendAnswer, IsLogTold, BroughtRun, MayLeaveRun, places_behind}
use Rattle.shared_log.specs.Stays.{CalledOnLog}
use Rattle.shared_log.specs.Calls.{CallOnLog, MayWant, IsCalledOnLog, AreCalledOnLog, tells_fault, place_told, run_faulted, places_told, runs_faulted, AreSomeOf, LogAddsUp}
use Rattle.shared_log.specs.Laws.{EachIsMade}
use Rattle.shared_log.proofs.Histories.{history_length}

-- what one call adds
record Adds (p : LogSight) (call : LogCall) (reply : LogReply) (q : LogSight) : Type 0 where
  mine : mine_of q ≡ mine_of p ++ place_told (Some reply)
  failed : (new : List (List Patch)) × (failed_of q ≡ failed_of p ++ new) × AreSomeOf new (run_faulted call (Some reply))
  faults : RoseBy (faults_told tells_fault (Some reply)) (own_faults_of p) (own_faults_of q)
  told : faults_told tells_fault (Some reply) ≡ length (run_faulted call (Some reply))
  quiet : place_told (Some reply) ≡ [] → faults_told tells_fault (Some reply) ≡ 0 → IsQuiet p q

count_behind : (place count : ℕ) → length (places_behind place count) ≡ count
count_behind place zero = refl
count_behind place (suc count) = ap suc (count_behind (place + 1) count)

module _ (p q : LogSight) (sees : SeesOn p q) where
  -- the last place of a run that was brought
  count_seen : (run : List Patch) (place : ℕ) (b : BroughtRun run place p q) → place ≡ length b.before + length run
  count_seen run place b =
      let entries = entries_of run (pass_number p) in
      omega (arith, b.at_end, ap length b.sees, length-append b.before (history_of entries), history_length entries, length-run run (pass_number p))

  -- a call that brought nothing and met no fault
  silent : (call : LogCall) (reply : LogReply) → place_told (Some reply) ≡ [] → run_faulted call (Some reply) ≡ [] → faults_told tells_fault (Some reply) ≡ 0 → IsQuiet p q → Adds p call reply q
  silent call reply no_place no_run no_fault same = record {
    mine = same.0 ∙ sym (append-nil (mine_of p)) ∙ ap (λ l. mine_of p ++ l) (sym no_place);
    failed = ([], same.2 ∙ sym (append-nil (failed_of p)), subst (λ l. AreSomeOf [] l) (sym no_run) refl);
    faults = omega (arith, no_fault, sees.5);
    told = no_fault ∙ sym (ap length no_run);
    quiet = λ none nowhere. same;
  }

  rose : Rose (own_faults_of p) (own_faults_of q) → RoseBy 1 (own_faults_of p) (own_faults_of q)
  rose more = ⊎_elim (λ (l : own_faults_of p < own_faults_of q). omega (arith, l)) (λ (e : own_faults_of q ≡ 2 ^ 64 - 1). omega (arith, e)) more

  -- a call that brought a run
  brings : (call : LogCall) (run : List Patch) (place : ℕ) (reply : LogReply) (b : BroughtRun run place p q) → 0 < length run → place_told (Some reply) ≡ places_behind (length b.before) (length run) → run_faulted call (Some reply) ≡ [] → faults_told tells_fault (Some reply) ≡ 0 → Adds p call reply q
  brings call run place reply b some places no_run no_fault = record {
    mine = b.mine ∙ ap (λ l. mine_of p ++ l) (sym places);
    failed = ([], b.failed ∙ sym (append-nil (failed_of p)), subst (λ l. AreSomeOf [] l) (sym no_run) refl);
    faults = omega (arith, no_fault, sees.5);
    told = no_fault ∙ sym (ap length no_run);
    quiet = λ none nowhere. let no : length run ≡ 0 = sym (count_behind (length b.before) (length run)) ∙ ap length (sym places ∙ none) in absurd (omega (arith, some, no));
  }

  -- a call that met a fault
  faulted : (call : LogCall) (run : List Patch) (reply : LogReply) → place_told (Some reply) ≡ [] → run_faulted call (Some reply) ≡ run ∷ [] → faults_told tells_fault (Some reply) ≡ 1 → Rose (own_faults_of p) (own_faults_of q) → mine_of q ≡ mine_of p → MayLeaveRun run p q → Adds p call reply q
  faulted call run reply no_place one fault more mine left = record {
    mine = mine ∙ sym (append-nil (mine_of p)) ∙ ap (λ l. mine_of p ++ l) (sym no_place);
    failed = ⊎_elim (λ (e : failed_of q ≡ failed_of p). ([], e ∙ sym (append-nil (failed_of p)), subst (λ l. AreSomeOf [] l) (sym one) (inl refl)))
        (λ (e : failed_of q ≡ failed_of p ++ run ∷ []). (run ∷ [], e, subst (λ l. AreSomeOf (run ∷ []) l) (sym one) (inr ([], refl, refl)))) left;
    faults = subst (λ k. RoseBy k (own_faults_of p) (own_faults_of q)) (sym fault) (rose more);
    told = fault ∙ sym (ap length one);
    quiet = λ none nowhere. absurd (omega (arith, fault, nowhere));
  }

  answers : (limits : LogLimits) (patch : Patch) (answer : LogAnswer) → IsAppendAnswer limits (append patch) (patch ∷ []) answer p q → Adds p (append patch) (answered answer) q
  answers limits patch (Accepted place) told =
      let b = told.0 in
      let at : place ≡ length b.before + 1 = omega (arith, b.at_end, count_seen (patch ∷ []) place b) in
      brings (append patch) (patch ∷ []) place (answered (Accepted place)) b (omega arith) (ap (λ k. k ∷ []) at) refl refl
  answers limits patch (AcceptedRun first place) told = absurd told
  answers limits patch (Known place same) told = silent (append patch) (answered (Known place same)) refl refl refl told.1
  answers limits patch (Conflict place head named) told = silent (append patch) (answered (Conflict place head named)) refl refl refl told.1
  answers limits patch (Full what have limit) told = silent (append patch) (answered (Full what have limit)) refl refl refl told.1
  answers limits patch DiskFault told = faulted (append patch) (patch ∷ []) (answered DiskFault) refl refl refl told.1 told.2 told.3
  answers limits patch OutOfMemory told = silent (append patch) (answered OutOfMemory) refl refl refl told.1

  answers_run : (limits : LogLimits) (run : List Patch) (answer : LogAnswer) → IsAppendAnswer limits (append_run run) run answer p q → 0 < length run → Adds p (append_run run) (answered (as_run (length run) answer)) q
  answers_run limits run (Accepted place) told some =
      let b = told.0 in
      let count = count_seen run place b in
      let before : place - (length run - 1) - 1 ≡ length b.before = omega (arith, count, some) in
      let many : place + 1 - (place - (length run - 1)) ≡ length run = omega (arith, count, some) in
      brings (append_run run) run place (answered (as_run (length run) (Accepted place))) b some (λ i. places_behind (before i) (many i)) refl refl
  answers_run limits run (AcceptedRun first place) told some = absurd told
  answers_run limits run (Known place same) told some = silent (append_run run) (answered (Known place same)) refl refl refl told.1
  answers_run limits run (Conflict place head named) told some = silent (append_run run) (answered (Conflict place head named)) refl refl refl told.1
  answers_run limits run (Full what have limit) told some = silent (append_run run) (answered (Full what have limit)) refl refl refl told.1
  answers_run limits run DiskFault told some = faulted (append_run run) run (answered DiskFault) refl refl refl told.1 told.2 told.3
  answers_run limits run OutOfMemory told some = silent (append_run run) (answered OutOfMemory) refl refl refl told.1

  -- a call that only asks has no place and no fault to tell
  abbrev quiet_reply : LogReply → Type 0
  quiet_reply reply = (place_told (Some reply) ≡ []) × (faults_told tells_fault (Some reply) ≡ 0)

  fetched_none : (patch : Option Patch) (count : ℕ) → quiet_reply (fetched patch count)
  fetched_none None count = (refl, refl)
  fetched_none (Some patch) count = (refl, refl)

  asks : (limits : LogLimits) (call : LogCall) (reply : LogReply) → quiet_reply (log_reply limits call (patches_known (seen_of q))) → run_faulted call (Some reply) ≡ [] → IsReply limits call reply p q → Adds p call reply q
  asks limits call reply none no_run told = let here = subst quiet_reply (sym told.0) none in silent call reply here.0 no_run here.1 told.1

  tells : (limits : LogLimits) (call : LogCall) (reply : LogReply) → IsLogTold limits call reply p q → Adds p call reply q
  tells limits (append patch) reply told = subst (λ r. Adds p (append patch) r q) (sym told.1) (answers limits patch told.0 told.2)
  tells limits (append_run run) reply told = subst (λ r. Adds p (append_run run) r q) (sym told.1) (answers_run limits run told.0 told.2 told.3)
  tells limits (fetch_version place) reply told = asks limits (fetch_version place) reply (fetched_none _ _) refl told
  tells limits (fetch_id id) reply told = asks limits (fetch_id id) reply (fetched_none _ _) refl told
  tells limits describe reply told = asks limits describe reply (refl, refl) refl told
  tells limits version reply told = asks limits version reply (refl, refl) refl told

-- a call without a reply meets no fault
no_run : (call : LogCall) → run_faulted call None ≡ []
no_run (append patch) = refl
no_run (append_run run) = refl
no_run (fetch_version place) = refl
no_run (fetch_id id) = refl
no_run describe = refl
no_run version = refl

-- some of the first and some of the others are some of all
some_append : {A : Type 0} (a b xs ys : List A) → AreSomeOf a xs → AreSomeOf b ys → AreSomeOf (a ++ b) (xs ++ ys)
some_append a b [] ys some more = subst (λ l. AreSomeOf (l ++ b) ys) (sym some) more
some_append {A} a b (x ∷ xs) ys some more =
    ⊎_elim (λ (s : AreSomeOf a xs). inl (some_append a b xs ys s more))
    (λ (s : (rest : List A) × (a ≡ x ∷ rest) × AreSomeOf rest xs). inr (s.0 ++ b, ap (λ l. l ++ b) s.1, some_append s.0 b xs ys s.2 more)) some

module _ {D : Type 0} (disks : Ghosts D) (origin : LogView D) where
  adds : (p q : LogSight) (call : LogCall) (reply : LogReply) → CalledOnLog disks origin p call reply q → Adds p call reply q
  adds p q call reply called = tells p q called.legal.0 origin.limits call reply called.legal.1

  pub each_is_made : (p : LogSight) (call : LogCall) (q : LogSight) → EachIsMade disks origin p call q
  each_is_made p call q = record {
    replied = λ reply called. let a = adds p q call reply called in let f = a.failed in (f.0, f.2, record { replied = called; mine = a.mine; failed = f.1 });
    wanted = λ may want. record { replied = (may, want); mine = want.1.0 ∙ sym (append-nil (mine_of p)); failed = want.1.2 ∙ sym (append-nil (failed_of p)) };
  }

  -- what was brought is what was told, and what was left in doubt met a fault
  abbrev Tells : CallOnLog → Type 0
  Tells made = (made.brought ≡ place_told made.reply) × AreSomeOf made.doubted (run_faulted made.call made.reply) × (faults_told tells_fault made.reply ≡ length (run_faulted made.call made.reply))

  one_tells : (p q : LogSight) (call : LogCall) (reply : Option LogReply) (brought : List ℕ) (doubted : List (List Patch)) → IsCalledOnLog disks origin p (record { call = call; reply = reply; brought = brought; doubted = doubted }) q
      → Tells (record { call = call; reply = reply; brought = brought; doubted = doubted })
  one_tells p q call (Some reply) brought doubted is =
      let a = adds p q call reply is.replied in (
        append_cancel_left (mine_of p) brought (place_told (Some reply)) (sym is.mine ∙ a.mine),
        subst (λ l. AreSomeOf l (run_faulted call (Some reply))) (append_cancel_left (failed_of p) a.failed.0 doubted (sym a.failed.1 ∙ is.failed)) a.failed.2,
        a.told,
      )
  one_tells p q call None brought doubted is =
      let quiet = is.replied.1.1 in (
        append_cancel_left (mine_of p) brought [] (sym is.mine ∙ quiet.0 ∙ sym (append-nil (mine_of p))),
        rw (no_run call) (append_cancel_left (failed_of p) doubted [] (sym is.failed ∙ quiet.2 ∙ sym (append-nil (failed_of p)))),
        sym (ap length (no_run call)),
      )

  pub compose : (p mid q : LogSight) (first others : List CallOnLog) → AreCalledOnLog disks origin p first mid → AreCalledOnLog disks origin mid others q → AreCalledOnLog disks origin p (first ++ others) q
  compose = calling.compose (CalledOnLog disks origin) MayWant

  all_tell : (p q : LogSight) (calls : List CallOnLog) → AreCalledOnLog disks origin p calls q
      → (brought_by calls ≡ places_told calls) × AreSomeOf (doubted_by calls) (runs_faulted calls) × (faulted_by tells_fault calls ≡ length (runs_faulted calls))
  all_tell p q [] are = (refl, refl, refl)
  all_tell p q (made ∷ more) are =
      let one = one_tells p are.0 made.call made.reply made.brought made.doubted are.1 in
      let rest = all_tell are.0 q more are.2 in (
        (λ i. one.0 i ++ rest.0 i),
        some_append made.doubted (doubted_by more) (run_faulted made.call made.reply) (runs_faulted more) one.1 rest.1,
        (λ i. one.2 i + rest.2 i) ∙ sym (length-append (run_faulted made.call made.reply) (runs_faulted more)),
      )

  pub add_up : (p q : LogSight) (calls : List CallOnLog) → AreCalledOnLog disks origin p calls q → LogAddsUp p calls q
  add_up p q calls are =
      let told = all_tell p q calls are in record {
        adds = calling.add_up (CalledOnLog disks origin) MayWant tells_fault (λ p q call reply called. called.legal.0) (λ p q call reply called. (adds p q call reply called).faults)
            (λ p q call reply called mine none. let a = adds p q call reply called in a.quiet (append_cancel_left (mine_of p) (place_told (Some reply)) [] (sym a.mine ∙ mine ∙ sym (append-nil (mine_of p)))) none) p q calls are;
        brought = told.0;
        doubted = told.1;
        faulted = told.2;
      }
