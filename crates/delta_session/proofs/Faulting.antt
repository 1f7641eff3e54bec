-- How many replies tell a fault of a disk, and how the pass's own count rose.
use Rattle.std.proofs.Common.{◌≡◌, ℕ, zero, suc, ◌+◌, ◌≤◌, ◌==◌, min, false, List, [], ◌∷◌, ◌++◌, Option, Some, None, Ok, Err, refl, sym, ap, ◌∙◌, subst, ⊎_elim, arith, slice_get}
use Rattle.std.specs.Prelude.{slice_set, sum_by}
use Rattle.std.proofs.lemmas.List.Sums.{sum_by-cons}
use Rattle.delta_base.specs.Outside.{RoseBy}
use Rattle.disk_model.specs.declared.disk.Disk.{Ghosts}
use Rattle.chain_core.specs.Replies.{LogCall}
use Rattle.http_session.specs.Output.{Exchange}
use Rattle.http_session.specs.declared.answerer.Said.{Said}
use Rattle.registry_core.specs.Replies as registry
use Rattle.registry_core.specs.declared.answer.CreateAnswer.TheVariants as created
use Rattle.registry_core.specs.declared.answer.ChangeAnswer.TheVariants as changed
use Rattle.rpc_answers.specs.Answers.{status_of}
use Rattle.rpc_answers.specs.declared.answer.Answer.{Answer}
use Rattle.rpc_answers.specs.declared.answer.Answer.TheVariants.{NoSource, Pong}
use Rattle.rpc_calls.specs.Calls.{call_of}
use Rattle.rpc_calls.specs.Outcomes.{CallOutcome}
use Rattle.rpc_calls.specs.declared.call.Call.{Call}
use Rattle.rpc_calls.specs.declared.call.Call.TheVariants as call
use Rattle.turn_cell.specs.Calls.{faults_told}
use Rattle.turn_cell.specs.Turns.{last_count}
use Rattle.turn_cell.specs.Knowing.{own_faults_of}
use Rattle.shared_log.specs.History.{LogSight}
use Rattle.shared_log.specs.Calls.{tells_fault}
use Rattle.shared_log.proofs.Adding as of_logs
use Rattle.shared_registry.specs.History.{RegistrySight}
use Rattle.shared_registry.specs.Lookups.{is_registry_fault}
use Rattle.shared_registry.proofs.Adding as of_registries
use Rattle.call_replies.specs.Faults.{is_fault_said, faults_said}
use Rattle.call_replies.specs.Says.{SaysOf}
use Rattle.call_replies.specs.Telling.{patch_answer, run_answer, refusal_answer}
use Rattle.call_replies.proofs.Faulting.{one_if, no_patch_fault, no_run_fault, no_refusal_fault, said_as, nothing_told, said_of_log}
use Rattle.delta_session.specs.Answered.{BehindLookup, ByRegistry, BySource, BySlot, ByLog, ByText, ComesTo, IsSaidTo}
use Rattle.delta_session.specs.Asking.{asking_of}
use Rattle.delta_session.specs.declared.logs.SlotCall.{SlotCall}
use Rattle.delta_session.specs.declared.logs.SlotCall.TheVariants.{Describe, Version, Append, AppendRun, FetchVersion, FetchId}
use Rattle.delta_session.specs.Faults.{faults_of_step, faults_of}
use Rattle.delta_session.specs.Halls.{all_hall_faults}
use Rattle.delta_session.specs.Sessions.{AreSaid, all_of}
use Rattle.delta_session.specs.Steps.{HallView, Lists, Step, of_registry, of_log, IsStep, AreSteps}
use Rattle.delta_session.specs.Telling.{registry_answer}
use Rattle.delta_session.proofs.Stepping.{lookups_taken}

-- ---- which answers have the status of a fault

registry_fault : (reply : registry.RegistryReply) → (status_of (registry_answer reply) == 500) ≡ is_registry_fault reply
registry_fault (registry.answered (created.Made source)) = refl
registry_fault (registry.answered (created.BadName at)) = refl
registry_fault (registry.answered (created.BadUri at)) = refl
registry_fault (registry.answered (created.NameTaken id)) = refl
registry_fault (registry.answered (created.IdTaken name)) = refl
registry_fault (registry.answered (created.Full what have limit)) = refl
registry_fault (registry.answered created.OutOfMemory) = refl
registry_fault (registry.answered created.DiskFault) = refl
registry_fault (registry.changed (changed.Done source)) = refl
registry_fault (registry.changed changed.NoSuchName) = refl
registry_fault (registry.changed (changed.BadName at)) = refl
registry_fault (registry.changed (changed.NameTaken id)) = refl
registry_fault (registry.changed (changed.Full what have limit)) = refl
registry_fault (registry.changed changed.OutOfMemory) = refl
registry_fault (registry.changed changed.DiskFault) = refl
registry_fault (registry.found None) = refl
registry_fault (registry.found (Some source)) = refl
registry_fault (registry.listed sources) = refl

-- ---- what is said of one request

said_of_registry : (reply : Option registry.RegistryReply) (said : Said) → SaysOf registry_answer reply said → one_if (is_fault_said said) ≤ faults_told is_registry_fault reply
said_of_registry (Some reply) said says = said_as (registry_answer reply) None said (is_registry_fault reply) says (registry_fault reply)
said_of_registry None said says = nothing_told said says

by_log : (slot : ℕ) (call : LogCall) (steps : List Step) (said : Said) → ByLog slot call steps said → one_if (is_fault_said said) ≤ faults_of steps
by_log slot call steps said by = subst (λ (l : List Step). one_if (is_fault_said said) ≤ faults_of l) (sym by.2) (let s = said_of_log by.0.reply said by.3 in omega (arith, s))

by_text : {A F : Type 0} (Is : A → Type 0) (call : A → LogCall) (Has : F → Type 0) (answer : F → Answer) → ((f : F) → (status_of (answer f) == 500) ≡ false) → (slot : ℕ) (steps : List Step) (said : Said) → ByText Is call Has answer slot steps said → one_if (is_fault_said said) ≤ faults_of steps
by_text Is call Has answer none slot steps said by = ⊎_elim
    (λ z. by_log slot _ steps said z.2)
    (λ z. ⊎_elim (λ f. let s = said_as (answer f.0) None said false f.3 (none f.0) in omega (arith, s)) (λ w. let s = nothing_told said w.1 in omega (arith, s)) z) by

by_slot : (call : SlotCall) (slot : ℕ) (steps : List Step) (said : Said) → BySlot call slot steps said → one_if (is_fault_said said) ≤ faults_of steps
by_slot Describe slot steps said by = by_log slot _ steps said by
by_slot Version slot steps said by = by_log slot _ steps said by
by_slot (FetchVersion place) slot steps said by = by_log slot _ steps said by
by_slot (FetchId id) slot steps said by = by_log slot _ steps said by
by_slot (Append text) slot steps said by = by_text _ _ _ patch_answer no_patch_fault slot steps said by
by_slot (AppendRun text) slot steps said by = by_text _ _ _ run_answer no_run_fault slot steps said by

behind : (call : SlotCall) (reply : Option registry.RegistryReply) (rest : List Step) (said : Said) → BehindLookup (BySlot call) reply rest said → one_if (is_fault_said said) ≤ faults_of rest
behind call (Some (registry.found (Some source))) rest said by = by_slot call source.slot rest said by
behind call (Some (registry.found None)) rest said by = let s = said_as NoSource None said false by.1 refl in omega (arith, s)
behind call (Some (registry.answered made)) rest said by = absurd by
behind call (Some (registry.changed done)) rest said by = absurd by
behind call (Some (registry.listed sources)) rest said by = absurd by
behind call None rest said by = let s = nothing_told said by.1 in omega (arith, s)

by_registry : (call : registry.RegistryCall) (steps : List Step) (said : Said) → ByRegistry call steps said → one_if (is_fault_said said) ≤ faults_of steps
by_registry call steps said by = subst (λ (l : List Step). one_if (is_fault_said said) ≤ faults_of l) (sym by.2) (let s = said_of_registry by.0.reply said by.3 in omega (arith, s))

by_source : (name : List ℕ) (call : SlotCall) (steps : List Step) (said : Said) → BySource name (BySlot call) steps said → one_if (is_fault_said said) ≤ faults_of steps
by_source name call steps said by = subst (λ (l : List Step). one_if (is_fault_said said) ≤ faults_of l) (sym by.3) (let s = behind call by.0.reply by.2 said by.4 in omega (arith, s))

comes : (dice : ℕ) (call : Call) (steps : List Step) (said : Said) → ComesTo (asking_of dice call) steps said → one_if (is_fault_said said) ≤ faults_of steps
comes dice call.Ping steps said by = let s = said_as Pong None said false by.1 refl in omega (arith, s)
comes dice call.List steps said by = by_registry _ steps said by
comes dice (call.Source name) steps said by = by_registry _ steps said by
comes dice (call.SourceById id) steps said by = by_registry _ steps said by
comes dice (call.SourceByUri uri) steps said by = by_registry _ steps said by
comes dice (call.Create name uri id) steps said by = by_registry _ steps said by
comes dice (call.Rename name new_name) steps said by = by_registry _ steps said by
comes dice (call.Remove name) steps said by = by_registry _ steps said by
comes dice (call.Log name) steps said by = by_source name Describe steps said by
comes dice (call.Version name) steps said by = by_source name Version steps said by
comes dice (call.FetchVersion name place) steps said by = by_source name (FetchVersion place) steps said by
comes dice (call.FetchId name id) steps said by = by_source name (FetchId id) steps said by
comes dice (call.Append name text) steps said by = by_source name (Append text) steps said by
comes dice (call.AppendRun name text) steps said by = by_source name (AppendRun text) steps said by

one_said : (dice : ℕ) (outcome : CallOutcome) (steps : List Step) (said : Said) (next : ℕ) → IsSaidTo dice outcome steps said next → one_if (is_fault_said said) ≤ faults_of steps
one_said dice (Err refusal) steps said next is = let s = said_as (refusal_answer refusal) _ said false is.1 (no_refusal_fault refusal) in omega (arith, s)
one_said dice (Ok call) steps said next is = ⊎_elim (λ z. comes dice call steps said z.0) (λ z. let s = nothing_told said z.1 in omega (arith, s)) is

faults_append : (a b : List Step) → faults_of (a ++ b) ≡ faults_of a + faults_of b
faults_append [] b = omega arith
faults_append (step ∷ a) b = omega (arith, faults_append a b)

-- of all replies
pub all_said : (dice : ℕ) (exchanges : List Exchange) (steps : List (List Step)) (last : ℕ) → AreSaid dice exchanges steps last → faults_said exchanges ≤ faults_of (all_of steps)
all_said dice [] [] last said = omega arith
all_said dice [] (s ∷ steps) last said = absurd said
all_said dice (e ∷ exchanges) [] last said = absurd said
all_said dice (e ∷ exchanges) (s ∷ steps) last said =
    let one = one_said dice (call_of e.request) s e.said said.0 said.1 in
    let rest = all_said said.0 exchanges steps last said.2 in
    omega (arith, one, rest, faults_append s (all_of steps))

-- ---- how the pass's own count rose

abbrev own : LogSight → ℕ
own part = own_faults_of part

sum_set : (xs : List LogSight) (k : ℕ) (x y : LogSight) → slice_get xs k ≡ Some x → sum_by own (slice_set xs k y) + own x ≡ sum_by own xs + own y
sum_set [] k x y is = let c = is in cc
sum_set (z ∷ xs) zero x y is = let same : z ≡ x = cc in omega (arith, sum_by-cons own y xs, sum_by-cons own z xs, ap own same)
sum_set (z ∷ xs) (suc k) x y is = omega (arith, sum_by-cons own z (slice_set xs k y), sum_by-cons own z xs, sum_set xs k x y is)

part_within : (xs : List LogSight) (k : ℕ) (x : LogSight) → slice_get xs k ≡ Some x → own x ≤ sum_by own xs
part_within [] k x is = let c = is in cc
part_within (z ∷ xs) zero x is = let same : z ≡ x = cc in omega (arith, sum_by-cons own z xs, ap own same)
part_within (z ∷ xs) (suc k) x is = omega (arith, sum_by-cons own z xs, part_within xs k x is)

by_own : (a b s k : ℕ) → RoseBy (k + 0) a b → RoseBy k (min (a + s) last_count) (min (b + s) last_count)
by_own a b s k rose = omega (arith, rose)

by_part : (a s t old new k : ℕ) → RoseBy (k + 0) old new → old ≤ new → old ≤ s → t + old ≡ s + new → RoseBy k (min (a + s) last_count) (min (a + t) last_count)
by_part a s t old new k rose no_fewer within same = omega (arith, rose, no_fewer, within, same)

module _ {D : Type 0} (disks : Ghosts D) (hall : HallView D) where
  one_rose : (p q : Lists) (step : Step) → IsStep disks hall p step q → RoseBy (faults_of_step step) (all_hall_faults p) (all_hall_faults q)
  one_rose p q (of_registry made) is =
      let added = of_registries.add_up hall.registry.origin.slots p.registry q.registry (made ∷ []) (lookups_taken disks hall p q (of_registry made ∷ []) (q, is, refl)) in
      subst (λ (parts : List LogSight). RoseBy (faults_told is_registry_fault made.reply) (all_hall_faults p) (min (own_faults_of q.registry + sum_by own parts) last_count)) (sym is.1)
      (by_own (own_faults_of p.registry) (own_faults_of q.registry) (sum_by own p.logs) (faults_told is_registry_fault made.reply) added.faults)
  one_rose p q (of_log visit) is =
      let v = is.0 in
      let added = (of_logs.add_up disks v.log.origin v.old v.new (visit.asked ∷ []) (v.new, v.so.0, refl)).adds in
      subst (λ (z : RegistrySight × List LogSight). RoseBy (faults_told tells_fault visit.asked.reply) (all_hall_faults p) (min (own_faults_of z.0 + sum_by own z.1) last_count)) (λ i. (sym is.1 i, sym v.others i))
      (by_part (own_faults_of p.registry) (sum_by own p.logs) (sum_by own (slice_set p.logs v.place v.new)) (own v.old) (own v.new) (faults_told tells_fault visit.asked.reply) added.faults added.never_fall (part_within p.logs v.place v.old v.old_is) (sum_set p.logs v.place v.old v.new v.old_is))

  next_rose : (a b c n m : ℕ) → RoseBy n a b → RoseBy m b c → RoseBy (n + m) a c
  next_rose a b c n m first second = omega (arith, first, second)

  pub all_rose : (p q : Lists) (steps : List Step) → AreSteps disks hall p steps q → RoseBy (faults_of steps) (all_hall_faults p) (all_hall_faults q)
  all_rose p q [] same = omega (arith, ap all_hall_faults same)
  all_rose p q (step ∷ more) are = next_rose (all_hall_faults p) (all_hall_faults are.0) (all_hall_faults q) (faults_of_step step) (faults_of more) (one_rose p are.0 step are.1) (all_rose are.0 q more are.2)
