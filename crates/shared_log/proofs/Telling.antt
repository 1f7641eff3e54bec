-- From what a stay found and left to what its pass is told.
use Rattle.std.proofs.Common.{◌≡◌, ℕ, ◌+◌, ◌<◌, ◌≤◌, ◌⊎◌, List, [], ◌∷◌, length, sym, refl, ap, ◌∙◌, subst, ⊎_elim, inl, arith, Option, Some, None, false, true}
use Rattle.std.specs.Prelude.{Result, Ok, Err, IfOk, OnErr}
use Rattle.std.proofs.lemmas.List.{length-map}
use Rattle.log_base.specs.declared.limits.LogLimits.{LogLimits}
use Rattle.disk_model.specs.declared.disk.Disk.{Ghosts}
use Rattle.chain_core.specs.declared.chain.Patch.{Patch}
use Rattle.chain_core.specs.declared.chain.Entry.{Entry}
use Rattle.chain_core.specs.declared.answer.Decision.{Decision}
use Rattle.chain_core.specs.declared.answer.Decision.TheVariants.{Accept, Known, Conflict, Full}
use Rattle.chain_core.specs.declared.answer.LogAnswer.{LogAnswer}
use Rattle.chain_core.specs.declared.answer.LogAnswer.TheVariants.{Accepted, AcceptedRun, Known as IsKnown, Conflict as IsConflict, Full as IsFull, DiskFault, OutOfMemory}
use Rattle.chain_core.specs.Decision.{run_decision}
use Rattle.chain_core.specs.Patches.{patches_of}
use Rattle.chain_core.specs.Replies.{LogCall, append, append_run, as_run, LogReply, answered, log_reply}
use Rattle.chain_core.specs.Stay.{answer_of}
use Rattle.chain_core.proofs.Decided.{accepted}
use Rattle.patch_log.specs.State.{LogView}
use Rattle.patch_log.specs.Run.{Appended, AppendedRun}
use Rattle.turn_cell.specs.declared.view.Known.{Known as KnownHere}
use Rattle.turn_cell.specs.Turns.{own_count, Adds}
use Rattle.turn_cell.specs.Sights.{IsGrownBy, Made, Taken}
use Rattle.turn_cell.specs.Knowing.{IsQuiet, SeesOn, Wants}
use Rattle.turn_cell.specs.Sharing.{IsPassOf, LeavesTurn, InTurn}
use Rattle.turn_cell.proofs.Knowing.{adds_same, adds_one, quiet_on}
use Rattle.turn_cell.proofs.Staying as staying
use Rattle.shared_log.specs.declared.value.LogFixed.{LogFixed}
use Rattle.shared_log.specs.declared.value.Placed.{Placed}
use Rattle.shared_log.specs.History.{patches_known, history_of, shared_log, KnowsWhole, LogSight, SeesWhole}
use Rattle.shared_log.specs.Legal.{asks_disk, IsReply, IsAppendAnswer, IsAccepted, WouldTake, MayLeaveRun}
use Rattle.shared_log.specs.Stays.{Asks, DoesOnLog, CalledOnLog}
use Rattle.shared_log.proofs.Bringing.{brought_run, taken}
use Rattle.shared_log.proofs.Table.{Stays}
use Rattle.shared_log.proofs.Stays.{stays_of, grows_of, counted}
use Rattle.shared_log.proofs.Histories.{known_chain, history_length, history_push, whole_known}

-- what a call replies that appends this run, where the chain doesn't accept it
abbrev Tells : LogLimits → LogCall → List Patch → Type 0
Tells limits call run = (chain : List Patch) (made : Decision) → run_decision chain run limits ≡ made → ((version : ℕ) → made ≡ Accept version → ⊥) → log_reply limits call chain ≡ answered (answer_of made)

append_tells : (limits : LogLimits) (patch : Patch) → Tells limits (append patch) (patch ∷ [])
append_tells limits patch chain made is other = ap (λ (d : Decision). answered (answer_of d)) is

same_told : (count : ℕ) (made : Decision) → ((version : ℕ) → made ≡ Accept version → ⊥) → as_run count (answer_of made) ≡ answer_of made
same_told count (Accept version) other = absurd (other version refl)
same_told count (Known version same) other = refl
same_told count (Conflict version head named) other = refl
same_told count (Full what have limit) other = refl

run_tells : (limits : LogLimits) (run : List Patch) → Tells limits (append_run run) run
run_tells limits run chain made is other =
    ap (λ (d : Decision). answered (as_run (length run) (answer_of d))) is ∙ ap answered (same_told (length run) made other)

module _ {D : Type 0} (limits : LogLimits) (p q : LogSight) (was : LogView D) (sees : q.view.seen ≡ history_of was.entries) where
  chain_seen : patches_known q.view.seen ≡ patches_of was.entries
  chain_seen = ap patches_known sees ∙ known_chain was.entries

  -- the decision stands behind the call
  at_point : (run : List Patch) (made : Decision) → run_decision (patches_of was.entries) run limits ≡ made → run_decision (patches_known q.view.seen) run limits ≡ made
  at_point run made e = ap (λ (chain : List Patch). run_decision chain run limits) chain_seen ∙ e

  -- what the log found replies is what the history gives
  pub replied : (call : LogCall) (reply : LogReply) → reply ≡ log_reply limits call (patches_of was.entries) → IsQuiet p q → IsReply limits call reply p q
  replied call reply e quiet = (e ∙ ap (log_reply limits call) (sym chain_seen), quiet)

  pub told_of : (call : LogCall) (run : List Patch) (made : Decision) → Tells limits call run → ((version : ℕ) → made ≡ Accept version → ⊥) → run_decision (patches_of was.entries) run limits ≡ made → IsQuiet p q → IsReply limits call (answered (answer_of made)) p q
  told_of call run made tells other is quiet = (sym (tells (patches_known q.view.seen) made (at_point run made is) other), quiet)

  pub would_take : (run : List Patch) (place : ℕ) → run_decision (patches_of was.entries) run limits ≡ Accept place → WouldTake limits run q
  would_take run place is = (place, at_point run (Accept place) is)

-- the runs of the log that a pass left stand whole
pub sees_whole : {D : Type 0} (disks : Ghosts D) (m q : LogSight) (back : Taken Placed (List Patch) LogFixed (LogView D)) → LeavesTurn (shared_log disks) m back q → SeesWhole q
sees_whole disks m q back leaves = let stands = leaves.stands in subst KnowsWhole (sym leaves.sees) (whole_known back.value.entries stands.whole)

-- a stay of a pass of the log
module _ {D : Type 0} (disks : Ghosts D) (p m q : LogSight) (was left : LogView D) (came : staying.Finds (shared_log disks) p was m) (leaves : LeavesTurn (shared_log disks) m (taken m was left) q)
    (made : Made (LogView D)) (of : IsPassOf (shared_log disks) made p) where
  abbrev back : Taken Placed (List Patch) LogFixed (LogView D)
  back = taken m was left

  limits : was.limits ≡ made.origin.limits
  limits = ap (λ (f : LogFixed). f.limits) (staying.fixed_found (shared_log disks) p m q was back came leaves refl made of)

  -- a call that left the log as it was found
  module _ (kept : left ≡ was) (quiet : IsQuiet m q) where
    pub wants : Wants p q
    wants = staying.wants (shared_log disks) p m q was back came leaves refl (ap (λ (log : LogView D). history_of log.entries) kept) quiet

    module _ (log : LogView D) (at : log ≡ was) (call : LogCall) (reply : LogReply) (gives : reply ≡ log_reply log.limits call (patches_of log.entries)) where
      here : reply ≡ log_reply was.limits call (patches_of was.entries)
      here = gives ∙ ap (λ (l : LogView D). log_reply l.limits call (patches_of l.entries)) at

      pub ask_told : (SeesOn p q × IsReply made.origin.limits call reply p q) × InTurn (shared_log disks) (Asks disks call reply) made.origin p q
      ask_told = (
        (
          wants.0,
          replied made.origin.limits p q was (leaves.sees ∙ ap (λ (log : LogView D). history_of log.entries) kept) call reply (here ∙ ap (λ (l : LogLimits). log_reply l call (patches_of was.entries)) limits) wants.1,
        ),
        staying.stay_told (shared_log disks) p m q was back came leaves refl (Asks disks call reply) made of (kept, here) (ap (λ (log : LogView D). (shared_log disks).fixed log) kept),
      )

  module _ (run : List Patch) where
    failed_by : (left.doubt ≡ was.doubt) ⊎ (left.doubt ≡ None) ⊎ (left.doubt ≡ Some run) → MayLeaveRun run p q
    failed_by is =
        let adds : (d : Option (List Patch)) → left.doubt ≡ d → Adds was.doubt d p.view.failed q.view.failed = λ d is. subst (λ (d : Option (List Patch)). Adds was.doubt d p.view.failed q.view.failed) is (staying.adds (shared_log disks) p m q was back came leaves refl) in
        ⊎_elim (λ (is : left.doubt ≡ was.doubt). inl (adds_same was.doubt p.view.failed q.view.failed (adds was.doubt is)))
        (⊎_elim (λ (is : left.doubt ≡ None). inl (adds None is)) (λ (is : left.doubt ≡ Some run). adds_one was.doubt run p.view.failed q.view.failed (adds (Some run) is))) is

    told_accepted : (place : ℕ) → Stays made.origin.limits p.view.number run was left (Accepted place) → IsAccepted made.origin.limits run place p q
    told_accepted place s =
        let at : place ≡ length (history_of was.entries) + length run = (accepted (patches_of was.entries) run made.origin.limits place s.0).1 ∙ omega (arith, history_length was.entries, length-map was.entries (λ (entry : Entry). entry.patch)) in
        let came = brought_run disks p m q was left came leaves run place (ap history_of s.1 ∙ history_push was.entries run p.view.number) at s.2 in
        (came.0, ap (λ (history : List (KnownHere Placed)). run_decision (patches_known history) run made.origin.limits) came.1 ∙ (ap (λ (chain : List Patch). run_decision chain run made.origin.limits) (known_chain was.entries) ∙ s.0))

    -- an append
    module _ (call : LogCall) (tells : Tells made.origin.limits call run) (answer : LogAnswer) (appended : AppendedRun disks was left run p.view.number answer) (quiet : asks_disk answer ≡ false → IsQuiet m q)
        (counts : asks_disk answer ≡ true → q.view.own_faults ≡ own_count m.view.own_faults (disks.faults was.disk) (disks.faults left.disk)) where
      still : asks_disk answer ≡ false → IsQuiet p q
      still unasked = quiet_on p m q came.entered.quiet (quiet unasked)

      as_found : (decided : Decision) → ((version : ℕ) → decided ≡ Accept version → ⊥) → run_decision (patches_of was.entries) run made.origin.limits ≡ decided → left.entries ≡ was.entries → asks_disk answer ≡ false → IsReply made.origin.limits call (answered (answer_of decided)) p q
      as_found decided other is kept unasked = told_of made.origin.limits p q was (leaves.sees ∙ ap history_of kept) call run decided tells other is (still unasked)

      answer_told : (a : LogAnswer) → answer ≡ a → Stays made.origin.limits p.view.number run was left a → IsAppendAnswer made.origin.limits call run a p q
      answer_told (Accepted place) is s = told_accepted place s
      answer_told (AcceptedRun first place) is s = absurd s
      answer_told (IsKnown place same) is s = as_found (Known place same) (λ v e. cc) s.0 s.1.0 (ap asks_disk is)
      answer_told (IsConflict place head named) is s = as_found (Conflict place head named) (λ v e. cc) s.0 s.1.0 (ap asks_disk is)
      answer_told (IsFull what have limit) is s = as_found (Full what have limit) (λ v e. cc) s.0 s.1.0 (ap asks_disk is)
      answer_told DiskFault is s = (
        would_take made.origin.limits p q was (leaves.sees ∙ ap history_of s.1) run s.0.0 s.0.1,
        staying.rose (shared_log disks) p m q was back came leaves refl (counts (ap asks_disk is)) (appended.went.cause is),
        staying.kept_mine (shared_log disks) p m q was back came leaves refl (ap history_of s.1),
        failed_by s.2,
      )
      answer_told OutOfMemory is s = (would_take made.origin.limits p q was (leaves.sees ∙ ap history_of s.1.0) run s.0.0 s.0.1, still (ap asks_disk is))

      grown : IsGrownBy p.view.number (history_of was.entries) (history_of left.entries)
      grown = grows_of disks was left run p.view.number answer appended

      -- what the pass is told by the log's answer
      pub run_told : SeesOn p q × IsAppendAnswer made.origin.limits call run answer p q
      run_told =
          let here = subst (λ (l : LogLimits). Stays l p.view.number run was left answer) limits (stays_of disks was left run p.view.number answer appended) in
          (staying.sees (shared_log disks) p m q was back came leaves refl (grown.0, sym grown.1), answer_told answer refl here)

      -- the stay, whatever is told of it
      pub run_stayed : (Did : LogView D → LogView D → Type 0) → Did was left → InTurn (shared_log disks) Did made.origin p q
      run_stayed Did did =
          staying.stay_told (shared_log disks) p m q was back came leaves refl Did made of did
          (λ i. record { number = appended.number i; limits = appended.limits i; mark = appended.went.mark i })

  module _ (patch : Patch) (answer : LogAnswer) (appended : Appended disks was left patch p.view.number answer) (quiet : asks_disk answer ≡ false → IsQuiet m q)
      (counts : asks_disk answer ≡ true → q.view.own_faults ≡ own_count m.view.own_faults (disks.faults was.disk) (disks.faults left.disk)) where
    pub append_told : CalledOnLog disks made.origin p (append patch) (answered answer) q
    append_told =
        let tells = append_tells made.origin.limits patch in
        let told = run_told (patch ∷ []) (append patch) tells answer appended quiet counts in
        record {
          legal = (told.0, (answer, refl, told.1));
          stay = run_stayed (patch ∷ []) (append patch) tells answer appended quiet counts (DoesOnLog disks p.view.number (append patch) (answered answer)) (answer, refl, appended);
        }

  module _ (run : List Patch) (answer : LogAnswer) (appended : AppendedRun disks was left run p.view.number answer) (quiet : asks_disk answer ≡ false → IsQuiet m q)
      (counts : asks_disk answer ≡ true → q.view.own_faults ≡ own_count m.view.own_faults (disks.faults was.disk) (disks.faults left.disk)) where
    pub append_run_told : 0 < length run → CalledOnLog disks made.origin p (append_run run) (answered (as_run (length run) answer)) q
    append_run_told some =
        let tells = run_tells made.origin.limits run in
        let told = run_told run (append_run run) tells answer appended quiet counts in
        let reply = answered (as_run (length run) answer) in
        record {
          legal = (told.0, (answer, refl, told.1, some));
          stay = run_stayed run (append_run run) tells answer appended quiet counts (DoesOnLog disks p.view.number (append_run run) reply) (answer, refl, appended);
        }

-- what a pass is told whose run was appended, or not
pub record AppendTold {D : Type 0} (disks : Ghosts D) (made : Made (LogView D)) (p : LogSight) (run : List Patch) (answer : LogAnswer) (q : LogSight) : Type 0 where
  pub of : IsPassOf (shared_log disks) made q
  pub whole : SeesWhole q
  pub called : CalledOnLog disks made.origin p (append_run run) (answered (as_run (length run) answer)) q
  pub alone : (patch : Patch) → run ≡ patch ∷ [] → CalledOnLog disks made.origin p (append patch) (answered answer) q
  pub counted : (version : ℕ) → answer ≡ Accepted version → length run ≤ version

pub all_told : {D : Type 0} (disks : Ghosts D) (p m q : LogSight) (was left : LogView D) (came : staying.Finds (shared_log disks) p was m) (leaves : LeavesTurn (shared_log disks) m (taken m was left) q) (made : Made (LogView D)) → IsPassOf (shared_log disks) made p
    → (run : List Patch) → 0 < length run → (answer : LogAnswer) → AppendedRun disks was left run p.view.number answer → (asks_disk answer ≡ false → IsQuiet m q) → (asks_disk answer ≡ true → q.view.own_faults ≡ own_count m.view.own_faults (disks.faults was.disk) (disks.faults left.disk)) → AppendTold disks made p run answer q
all_told disks p m q was left came leaves made of run some answer appended quiet counts = record {
  of = staying.passes_on (shared_log disks) p m q was (taken m was left) came leaves refl made of;
  whole = sees_whole disks m q (taken m was left) leaves;
  called = append_run_told disks p m q was left came leaves made of run answer appended quiet counts some;
  alone = λ patch is. append_told disks p m q was left came leaves made of patch answer (subst (λ (r : List Patch). AppendedRun disks was left r p.view.number answer) is appended) quiet counts;
  counted = counted disks was left run p.view.number answer appended;
}

module _ {T E : Type 0} where
  pub if_ok : (P Q : T → Type 0) → ((x : T) → P x → Q x) → (result : Result T E) → IfOk result P → IfOk result Q
  if_ok P Q f (Ok x) p = f x p
  if_ok P Q f (Err e) p = tt

  pub on_err : (result : Result T E) {P : Type 0} → P → OnErr result P
  on_err (Ok x) p = tt
  on_err (Err e) p = p
