-- The calls on its log that a pull is.
use Rattle.std.proofs.Common.{◌≡◌, ◌⊎◌, inl, inr, ⊎_elim, ℕ, ◌+◌, ◌≤◌, Bool, true, if◌then◌else◌, List, [], ◌∷◌, ◌++◌, Option, Some, Result, Ok, Err, refl, sym, ◌∙◌, ap, subst, arith}
use Rattle.delta_base.specs.declared.id.Id.{Id}
use Rattle.disk_model.specs.declared.disk.Disk.{Ghosts}
use Rattle.delta_client.specs.Exchanges.{WasSaid}
use Rattle.rpc_answers.specs.declared.answer.Answer.TheVariants as origin_says
use Rattle.chain_core.specs.declared.answer.LogAnswer.{LogAnswer}
use Rattle.chain_core.specs.declared.answer.LogAnswer.TheVariants as answers
use Rattle.chain_core.specs.Replies.{LogCall, append, describe, LogReply, answered, described}
use Rattle.patch_log.specs.State.{LogView}
use Rattle.turn_cell.specs.Calls.{faulted_by}
use Rattle.turn_cell.specs.Turns.{AllOf, IsIn}
use Rattle.shared_log.specs.Calls.{AreCalledOnLog, CallOnLog, call_made, tells_fault}
use Rattle.shared_log.specs.History.{LogSight}
use Rattle.shared_log.specs.Stays.{CalledOnLog}
use Rattle.shared_log.proofs.Adding.{compose, each_is_made}
use Rattle.catch_up.specs.declared.end.RunEnd.{RunEnd}
use Rattle.catch_up.specs.Runs as runs
use Rattle.catch_up.specs.Runs.{FetchEnds, IsRunTo, RestIs, Run, TakenText, TakesAll, said_in, step_texts, texts_said}
use Rattle.mirror.specs.declared.ends.PullEnd.{PullEnd}
use Rattle.mirror.specs.declared.ends.PullEnd.TheVariants as pull
use Rattle.mirror.specs.declared.ends.PullRefusal.{PullRefusal}
use Rattle.mirror.specs.declared.ends.PullRefusal.TheVariants.{Diverged, Full, DiskFault, OutOfMemory}
use Rattle.mirror.specs.Calling.{IsByCalls, IsOfPull}
use Rattle.mirror.specs.Ends.{end_of_pull}
use Rattle.mirror.specs.Pulling.{ComesOf, Pulled, ShowsLog, TakesText, unasked, asked}
use Rattle.mirror.proofs.Answered.{refused_so}
use Rattle.mirror.proofs.Bringing.{all_behind, in_left, in_right, reads_from, steps_said}
use Rattle.mirror.proofs.Ended.{no_disk, refused_by_disk, compared_of_peer, log_of_peer, answered_of_peer, faulty_of_peer, want_of_peer}

-- the calls of both were told of a fault as often as those of each together
faulted_both : (first others : List CallOnLog) → faulted_by tells_fault (first ++ others) ≡ faulted_by tells_fault first + faulted_by tells_fault others
faulted_both [] others = omega arith
faulted_both (made ∷ first) others = omega (arith, faulted_both first others)

module _ {D : Type 0} (disks : Ghosts D) (origin : LogView D) (said : List WasSaid) where
  abbrev Takes : LogSight → ℕ → List ℕ → Result ℕ PullRefusal → LogSight → Type 0
  Takes = TakesText disks origin

  abbrev WasSaidAmong : TakenText → Type 0
  WasSaidAmong step = IsIn (Ok (origin_says.Patch step.text)) said

  -- calls of a pull, which were told of a fault where this holds
  record Calls (p : LogSight) (Faulty : Type 0) (q : LogSight) : Type 0 where
    calls : List CallOnLog
    called : AreCalledOnLog disks origin p calls q
    of_pull : AllOf (IsOfPull said) calls
    faulted : Faulty → 1 ≤ faulted_by tells_fault calls

  none : (p q : LogSight) (Faulty : Type 0) → (Faulty → ⊥) → q ≡ p → Calls p Faulty q
  none p q Faulty never same = record { calls = []; called = same; of_pull = tt; faulted = λ is. absurd (never is) }

  only : (p q : LogSight) (Faulty Other : Type 0) → (Other → Faulty) → Calls p Faulty q → Calls p Other q
  only p q Faulty Other so by = record { calls = by.calls; called = by.called; of_pull = by.of_pull; faulted = λ is. by.faulted (so is) }

  both : (p m q : LogSight) (First Others : Type 0) → Calls p First m → Calls m Others q → Calls p (First ⊎ Others) q
  both p m q First Others first others = record {
    calls = first.calls ++ others.calls;
    called = compose disks origin p m q first.calls others.calls first.called others.called;
    of_pull = all_behind (IsOfPull said) first.calls others.calls first.of_pull others.of_pull;
    faulted = λ is. let sum = faulted_both first.calls others.calls in ⊎_elim
        (λ (a : First). let one = first.faulted a in omega (arith, sum, one))
        (λ (b : Others). let one = others.faulted b in omega (arith, sum, one)) is;
  }

  -- the first of which were told of none
  behind : (p m q : LogSight) (Faulty : Type 0) → Calls p ⊥ m → Calls m Faulty q → Calls p Faulty q
  behind p m q Faulty first others = only p q (⊥ ⊎ Faulty) Faulty (λ is. inr is) (both p m q ⊥ Faulty first others)

  one : (p q : LogSight) (call : LogCall) (reply : LogReply) → ((made : CallOnLog) → made.call ≡ call → IsOfPull said made) → CalledOnLog disks origin p call reply q → Calls p (tells_fault reply ≡ true) q
  one p q call reply of called =
      let made = (each_is_made disks origin p call q).replied reply called in
      let it : CallOnLog = call_made call (Some reply) made.0 in record {
        calls = it ∷ [];
        called = (q, made.2, refl);
        of_pull = (of it refl, tt);
        faulted = λ is. subst (λ (b : Bool). 1 ≤ (if b then 1 else 0) + 0) (sym is) (omega arith);
      }

  shown : (p q : LogSight) (version : ℕ) (head : Option Id) → ShowsLog disks origin p version head q → Calls p ⊥ q
  shown p q version head is = only p q (tells_fault (described version head) ≡ true) ⊥ (λ no. absurd no) (one p q describe (described version head) (λ made same. inl same) is.0)

  comes : (version : ℕ) (theirs : Option Id) (answer : LogAnswer) (p q : LogSight) (result : Result ℕ PullRefusal) → ComesOf disks origin version theirs answer p result q → Calls p ⊥ q
  comes version theirs (answers.Accepted at) p q result is = none p q ⊥ (λ no. no) is.1
  comes version theirs (answers.AcceptedRun first last) p q result is = absurd is
  comes version theirs (answers.Known at same) p q result (inl is) = none p q ⊥ (λ no. no) is.2
  comes version theirs (answers.Known at same) p q result (inr is) = shown p q is.1.0 is.1.1 is.1.3
  comes version theirs (answers.Conflict has head named) p q result is = none p q ⊥ (λ no. no) is.1
  comes version theirs (answers.Full what have limit) p q result is = none p q ⊥ (λ no. no) is.1
  comes version theirs answers.DiskFault p q result is = none p q ⊥ (λ no. no) is.1
  comes version theirs answers.OutOfMemory p q result is = none p q ⊥ (λ no. no) is.1

  -- only the answer that the disk failed comes to that
  by_answer : (version : ℕ) (theirs : Option Id) (answer : LogAnswer) (p q : LogSight) → ComesOf disks origin version theirs answer p (Err DiskFault) q → tells_fault (answered answer) ≡ true
  by_answer version theirs (answers.Accepted at) p q is = let result : Err DiskFault ≡ Ok version = is.0 in absurd (cc)
  by_answer version theirs (answers.AcceptedRun first last) p q is = absurd is
  by_answer version theirs (answers.Known at same) p q (inl is) = let result : Err DiskFault ≡ Ok version = is.1 in absurd (cc)
  by_answer version theirs (answers.Known at same) p q (inr is) = let result : ◌≡◌ {A = Result ℕ PullRefusal} (Err DiskFault) (Err (Diverged is.1.0 is.1.1 theirs)) = is.1.2 in absurd (cc)
  by_answer version theirs (answers.Conflict has head named) p q is = let result : ◌≡◌ {A = Result ℕ PullRefusal} (Err DiskFault) (Err (Diverged has head theirs)) = is.0 in absurd (cc)
  by_answer version theirs (answers.Full what have limit) p q is = let result : ◌≡◌ {A = Result ℕ PullRefusal} (Err DiskFault) (Err (Full what have limit)) = is.0 in absurd (cc)
  by_answer version theirs answers.DiskFault p q is = refl
  by_answer version theirs answers.OutOfMemory p q is = let result : ◌≡◌ {A = Result ℕ PullRefusal} (Err DiskFault) (Err OutOfMemory) = is.0 in absurd (cc)

  takes : (p q : LogSight) (version : ℕ) (text : List ℕ) (result : Result ℕ PullRefusal) → IsIn (Ok (origin_says.Patch text)) said → TakesText disks origin p version text result q → Calls p (result ≡ Err DiskFault) q
  takes p q version text result was (unasked refusal is ends same) =
      none p q (result ≡ Err DiskFault) (λ failed. refused_so disks origin text version refusal is (let one : ◌≡◌ {A = Result ℕ PullRefusal} (Err refusal) (Err DiskFault) = sym ends ∙ failed in cc)) same
  takes p q version text result was (asked a) =
      let call = append a.patch in
      let theirs = Some a.patch.id in
      let told = tells_fault (answered a.answer) ≡ true in
      let appended = one p a.mid call (answered a.answer) (λ made same. inr (a.patch, same, reads_from said text was a.patch a.read)) a.appended.0 in
      only p q (told ⊎ ⊥) (result ≡ Err DiskFault)
      (λ failed. inl (by_answer version theirs a.answer a.mid q (subst (λ (r : Result ℕ PullRefusal). ComesOf disks origin version theirs a.answer a.mid r q) failed a.comes)))
      (both p a.mid q told ⊥ appended (comes version theirs a.answer a.mid q result a.comes))

  all : (theirs from : ℕ) (before : LogSight) (steps : List TakenText) (reached : ℕ) (after : LogSight) → AllOf WasSaidAmong steps → TakesAll Takes theirs from before steps reached after → Calls before ⊥ after
  all theirs from before [] reached after texts taken = none before after ⊥ (λ no. no) taken.1
  all theirs from before (step ∷ steps) reached after texts taken =
      behind before taken.0 after ⊥
      (only before taken.0 (◌≡◌ {A = Result ℕ PullRefusal} (Ok step.reached) (Err DiskFault)) ⊥ (λ no. absurd no) (takes before taken.0 step.version step.text (Ok step.reached) texts.0 taken.3))
      (all theirs step.reached taken.0 steps reached after texts.1 taken.4)

  abbrev Fails : RunEnd PullRefusal → Type 0
  Fails end = end_of_pull end ≡ pull.DiskFault

  ended : (version : ℕ) (before : LogSight) (last : List WasSaid) (end : RunEnd PullRefusal) (after : LogSight) → ((x : WasSaid) → IsIn x last → IsIn x said) → FetchEnds Takes version before last end after → Calls before (Fails end) after
  ended version before last end after within (runs.refused text refusal is took ends) =
      only before after (◌≡◌ {A = Result ℕ PullRefusal} (Err refusal) (Err DiskFault)) (Fails end)
      (λ failed. ap (λ (r : PullRefusal). Err r) (refused_by_disk refusal (ap end_of_pull (sym ends) ∙ failed)))
      (takes before after version text (Err refusal) (within (Ok (origin_says.Patch text)) (subst (λ (l : List WasSaid). IsIn (Ok (origin_says.Patch text)) l) (sym is) (inl refl))) took)
  ended version before last end after within (runs.answered a is refuses same) = none before after (Fails end) (no_disk end (answered_of_peer version a end refuses)) same
  ended version before last end after within (runs.faulty fault is ends same) = none before after (Fails end) (no_disk end (faulty_of_peer fault end ends)) same
  ended version before last end after within (runs.not_asked is ends same) = none before after (Fails end) (no_disk end (want_of_peer end ends)) same

  rest : (theirs from : ℕ) (before : LogSight) (steps : List TakenText) (last : List WasSaid) (end : RunEnd PullRefusal) (after : LogSight) → AllOf WasSaidAmong steps → ((x : WasSaid) → IsIn x last → IsIn x said)
      → RestIs Takes theirs from before steps last end after → Calls before (Fails end) after
  rest theirs from before steps last end after texts within (runs.stopped reached between taken less ends) =
      behind before between after (Fails end) (all theirs from before steps reached between texts taken) (ended (reached + 1) between last end after within ends)
  rest theirs from before steps last end after texts within (runs.caught_up reached taken done nothing ends) =
      only before after ⊥ (Fails end) (λ failed. let other : pull.CaughtUp theirs ≡ pull.DiskFault = ap end_of_pull (sym ends) ∙ failed in cc)
      (all theirs from before steps reached after texts taken)

  whole : (p q : LogSight) (it : Run) (end : RunEnd PullRefusal) → AllOf WasSaidAmong it.steps → ((x : WasSaid) → IsIn x it.last → IsIn x said) → IsRunTo Takes (ShowsLog disks origin) p it end q → Calls p (Fails end) q
  whole p q it end texts within (runs.unanswered shows steps last ends) = only p q ⊥ (Fails end) (no_disk end (log_of_peer it.log end ends)) (shown p q it.mine it.have shows)
  whole p q it end texts within (runs.compared theirs head shows log steps last ends) = only p q ⊥ (Fails end) (no_disk end (compared_of_peer it.mine it.have theirs head end ends)) (shown p q it.mine it.have shows)
  whole p q it end texts within (runs.followed theirs head between shows log before follows) =
      behind p between q (Fails end) (shown p between it.mine it.have shows) (rest theirs it.mine between it.steps it.last end q texts within follows)

pub pull_called : {D : Type 0} (disks : Ghosts D) (origin : LogView D) (p q : LogSight) (it : Run) (end : PullEnd) → Pulled disks origin p it end q → IsByCalls disks origin p it end q
pull_called disks origin p q it end pulled =
    let texts = texts_said (step_texts it.steps) in
    let by = whole disks origin (said_in it) p q it pulled.run_end
    (steps_said (said_in it) it.steps (λ x is. in_right x it.log (texts ++ it.last) (in_left x texts it.last is)))
    (λ x is. in_right x it.log (texts ++ it.last) (in_right x texts it.last is)) pulled.taken in
    record { calls = by.calls; called = by.called; of_pull = by.of_pull; faulted = λ is. by.faulted (sym pulled.ended ∙ is) }
