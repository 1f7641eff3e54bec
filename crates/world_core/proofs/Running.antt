-- The calls of a log keep up with the events.
use Rattle.std.proofs.Common.{◌≡◌, inl, inr, ⊎_elim, ℕ, zero, suc, ◌≤◌, Bool, true, false, cond, List, [], ◌∷◌, ◌++◌, length, Option, Some, None, Result, Ok, Err, refl, sym, ◌∙◌, ap, subst, arith}
use Rattle.std.specs.Prelude.{IfOk, slice_get}
use Rattle.std.specs.List.{AllByRecursion}
use Rattle.disk_model.specs.Past.{Past, reads, MayLeave}
use Rattle.disk_model.specs.Plan.{plan_past, plan_reads_left}
use Rattle.disk_model.specs.declared.plan.PlanDisk.{PlanDisk}
use Rattle.log_journal.specs.File.{Holds}
use Rattle.log_journal.specs.Writing.{LeavesEither}
use Rattle.log_base.specs.declared.phase.Phase.TheVariants.{Settling, Body, Gate}
use Rattle.log_base.specs.declared.limits.LogLimits.{LogLimits}
use Rattle.log_base.specs.declared.limits.TheConstants.{LOG_LIMITS}
use Rattle.log_base.specs.OneMore.{with_one_more}
use Rattle.delta_base.specs.declared.fault.OutOfMemory.{OutOfMemory}
use Rattle.delta_base.specs.declared.id.Id.{Id}
use Rattle.chain_core.specs.declared.chain.Patch.{Patch}
use Rattle.chain_core.specs.declared.chain.Entry.{Entry}
use Rattle.chain_core.specs.declared.fate.Fate.{Fate}
use Rattle.chain_core.specs.declared.fate.Fate.TheVariants.{Done, Fails, Stops}
use Rattle.chain_core.specs.declared.answer.LogAnswer.{LogAnswer}
use Rattle.chain_core.specs.declared.answer.LogAnswer.TheVariants.{Accepted, Known as IsKnown, Conflict as IsConflict, Full as IsFull, DiskFault}
use Rattle.chain_core.specs.declared.answer.Decision.{Decision}
use Rattle.chain_core.specs.declared.answer.Decision.TheVariants.{Accept, Known, Conflict, Full}
use Rattle.chain_core.specs.Log.{LogPoint, up, down, stopped}
use Rattle.chain_core.specs.Patches.{patches_of, patch_at, last_id}
use Rattle.chain_core.specs.Runs.{patches_in, run_text, run_texts, runs_of}
use Rattle.chain_core.specs.Stay.{Outcome, accepted_by, decided_by, run_stay, RunStay, fate_by_plan}
use Rattle.chain_core.specs.Decision.{run_decision}
use Rattle.chain_core.proofs.Decided.{accepted}
use Rattle.chain_core.proofs.Runs.{patches_in-runs}
use Rattle.patch_meaning.proofs.Joined.{checked_by_itself}
use Rattle.patch_log.specs.Log.{IsSound, IsSoundRun, IsSoundLog, StandsForLog, run_payload}
use Rattle.patch_log.specs.Run.{AppendsRun}
use Rattle.patch_log.specs.State.{LogView, runs_in, point_of}
use Rattle.patch_log.proofs.Reopened.{found_again}
use Rattle.zone_state.proofs.Sound.{sound_checked}
use Rattle.world_core.specs.declared.log.TheConstants.{LOG_NUMBER}
use Rattle.world_core.specs.declared.event.WorldEvent.{WorldEvent}
use Rattle.world_core.specs.declared.event.WorldEvent.TheVariants.{Open}
use Rattle.world_core.specs.declared.message.Message.{Message}
use Rattle.world_core.specs.declared.message.Message.TheVariants.{Info}
use Rattle.world_core.specs.declared.log.LogPart.{LogPart}
use Rattle.world_core.specs.declared.log.LogPart.TheVariants.{Up, Down}
use Rattle.world_core.specs.Parts.{run_as, stop_by, MayHold, CarriesPart, KeepsPayloads, Runs, KeepsRuns, IsPartOf, EveryImageOf, HoldsRuns}
use Rattle.world_core.specs.World.{MayBeFound, KeepsPromises, served, world, while_up, sending}
use Rattle.world_core.proofs.Growing.{AreChained, AreChains, found_each}
use Rattle.world_core.proofs.Worlds.{promises}
use Rattle.world_core.proofs.Carried.{carried_images, kept_images, kept_texts}

pub if_ok-map : {T E : Type 0} (P Q : T → Type 0) (result : Result T E) → ((value : T) → P value → Q value) → IfOk result P → IfOk result Q
if_ok-map P Q (Ok value) implies holds = implies value holds
if_ok-map P Q (Err error) implies holds = holds

-- ---- disks

each_held : (past : Past) (number : ℕ) (limits : LogLimits) (runs : List (List Patch)) (doubt : Option (List Patch)) (image : List ℕ) → StandsForLog past number limits runs doubt → MayLeave past image → MayHold number (run_texts runs) (run_payload doubt) image
each_held past number limits runs None image stands left = stands.each image left
each_held past number limits runs (Some run) image stands left = stands.each image left

-- the disk of a log that runs
pub log_carries : (log : LogView PlanDisk) (runs : List (List Patch)) (doubt : Option (List Patch)) → Runs log runs doubt → CarriesPart LOG_NUMBER log.disk (run_texts runs) (run_payload doubt)
log_carries log runs doubt is = record { each = λ image left. each_held (plan_past log.disk) LOG_NUMBER LOG_LIMITS runs doubt image is.stands left; leaves = is.leaves }

keeps_log : (disk : PlanDisk) (runs : List (List Patch)) → KeepsPayloads LOG_NUMBER disk (run_texts runs) → IsSoundLog LOG_LIMITS runs → KeepsRuns disk runs
keeps_log disk runs keeps log = record { each = keeps; without = log; having = log }

-- what is left of it is one of the two logs
left_log : (runs : List (List Patch)) (doubt : Option (List Patch)) (opened : Bool) → IsSoundLog LOG_LIMITS runs → IsSoundLog LOG_LIMITS (with_one_more runs doubt) → IsSoundLog LOG_LIMITS (cond opened (with_one_more runs doubt) runs)
left_log runs doubt true without having = having
left_log runs doubt false without having = without

pub stopped_log : (log : LogView PlanDisk) (runs : List (List Patch)) (doubt : Option (List Patch)) (opened : Bool) (disk : PlanDisk) → Runs log runs doubt
    → KeepsPayloads LOG_NUMBER disk (cond opened (with_one_more (run_texts runs) (run_payload doubt)) (run_texts runs)) → KeepsRuns disk (cond opened (with_one_more runs doubt) runs)
stopped_log log runs doubt opened disk is keeps =
    keeps_log disk (cond opened (with_one_more runs doubt) runs) (kept_texts run_text LOG_NUMBER disk opened runs doubt keeps) (left_log runs doubt opened is.stands.without is.stands.having)

pub new_log : (disk : PlanDisk) → KeepsPayloads LOG_NUMBER disk [] → KeepsRuns disk []
new_log disk keeps = keeps_log disk [] keeps (record { log = record { chain = record { follow = tt; differ = tt }; few = omega arith; room = omega arith; short = tt }; sound = tt })

-- ---- opening

stands_along : (past : Past) (n m : ℕ) (k l : LogLimits) (c e : List (List Patch)) (d f : Option (List Patch)) → n ≡ m → k ≡ l → c ≡ e → d ≡ f → StandsForLog past n k c d → StandsForLog past m l e f
stands_along past n m k l c e d f same_number same_limits same_runs same_doubt stands =
    subst (λ (z : ℕ × LogLimits × List (List Patch) × Option (List Patch)). StandsForLog past z.0 z.1 z.2 z.3) (λ i. (same_number i, same_limits i, same_runs i, same_doubt i)) stands

pub opened_runs : (disk : PlanDisk) (log : LogView PlanDisk) (runs : List (List Patch)) → KeepsRuns disk runs → Holds (reads (plan_past disk)) LOG_NUMBER (run_texts (runs_in log)) → IsSoundLog LOG_LIMITS (runs_in log)
    → (log.doubt ≡ None) × (log.number ≡ LOG_NUMBER) × (log.limits ≡ LOG_LIMITS) → StandsForLog (plan_past log.disk) log.number log.limits (runs_in log) log.doubt → Runs log runs None
opened_runs disk log runs keeps holds sound settled stands =
    let found = found_again (plan_past disk) LOG_NUMBER LOG_LIMITS runs (runs_in log) None (reads (plan_past disk)) keeps (plan_reads_left disk) holds sound.sound in
    let same : runs_in log ≡ runs = ⊎_elim (λ (is : runs_in log ≡ runs). is) (λ (is : runs_in log ≡ runs). is) found in
    record {
      runs_are = same;
      doubt_is = settled.0;
      number_is = settled.1;
      limits_is = settled.2;
      stands = stands_along (plan_past log.disk) log.number LOG_NUMBER log.limits LOG_LIMITS (runs_in log) runs log.doubt None settled.1 settled.2 same settled.0 stands;
      leaves = tt;
    }

-- ---- appends

-- an append that was run as a failure, and behind which the log is stopped where it is to stop
abbrev pub AsRun : {T : Type 0} → Fate → LogAnswer → List T → Option T → Outcome T → Type 0
AsRun fate answer after left outcome = ((opened : Bool) → stop_by fate answer ≡ Some opened → outcome ≡ (stopped (up after left) opened, None)) × (stop_by fate answer ≡ None → outcome ≡ (up after left, Some answer))

module _ {T : Type 0} where
  same_outcome : (c e : List T) (d f : Option T) (a b : LogAnswer) → ◌≡◌ {A = Outcome T} (up c d, Some a) (up e f, Some b) → (c ≡ e) × (d ≡ f) × (a ≡ b)
  same_outcome c e d f a b same =
      let points : up c d ≡ up e f = ap (λ (o : Outcome T). o.0) same in
      let answers : Some a ≡ Some b = ap (λ (o : Outcome T). o.1) same in
      (cc, cc, cc)

  unpacked : (fate : Fate) (outcome : Outcome T) (c e : List T) (d f : Option T) (a b : LogAnswer) → AsRun fate a c d outcome → ◌≡◌ {A = Outcome T} (up c d, Some a) (up e f, Some b) → AsRun fate b e f outcome
  unpacked fate outcome c e d f a b run same =
      let parts = same_outcome c e d f a b same in
      subst (λ (x : LogAnswer). AsRun fate x e f outcome) parts.2 (subst (λ (x : Option T). AsRun fate a e x outcome) parts.1 (subst (λ (x : List T). AsRun fate a x d outcome) parts.0 run))

  -- an answer behind which nothing is stopped
  goes_on : (fate : Fate) (answer : LogAnswer) (after : List T) (left : Option T) → stop_by fate answer ≡ None → AsRun fate answer after left (up after left, Some answer)
  goes_on fate answer after left none = ((λ opened is. absurd (let wrong : ◌≡◌ {A = Option Bool} None (Some opened) = sym none ∙ is in cc)), λ is. refl)

  stops : (fate : Fate) (answer : LogAnswer) (after : List T) (left : Option T) (opened : Bool) → stop_by fate answer ≡ Some opened → AsRun fate answer after left (stopped (up after left) opened, None)
  stops fate answer after left opened some = (
    (λ other is. let same : opened ≡ other = (let both : ◌≡◌ {A = Option Bool} (Some opened) (Some other) = sym some ∙ is in cc) in ap (λ (b : Bool). let o : Outcome T = (stopped (up after left) b, None) in o) same),
    λ is. absurd (let wrong : ◌≡◌ {A = Option Bool} (Some opened) None = sym some ∙ is in cc),
  )

module _ {T : Type 0} (taken : List T) (one : T) where
  body_stops : (opened : Bool) → AsRun (Stops Body opened) DiskFault taken None (down taken, None)
  body_stops true = stops (Stops Body true) DiskFault taken None true refl
  body_stops false = stops (Stops Body false) DiskFault taken None false refl

  -- what it comes to, and what it came to as it was run
  pub accepted_as_run : (version : ℕ) (fate : Fate) (doubt : Option T) (after : List T) (left : Option T) (answer : LogAnswer) → accepted_by version (run_as doubt fate) taken doubt one ≡ (up after left, Some answer) → AsRun fate answer after left (accepted_by version fate taken doubt one)
  accepted_as_run version Done doubt after left answer is = unpacked Done _ _ after _ left _ answer (goes_on Done (Accepted version) (taken ++ one ∷ []) None refl) is
  accepted_as_run version (Fails Settling) None after left answer is = unpacked (Fails Settling) _ _ after _ left _ answer (goes_on (Fails Settling) (Accepted version) (taken ++ one ∷ []) None refl) is
  accepted_as_run version (Fails Settling) (Some doubtful) after left answer is = unpacked (Fails Settling) _ _ after _ left _ answer (goes_on (Fails Settling) DiskFault taken (Some doubtful) refl) is
  accepted_as_run version (Fails Body) doubt after left answer is = unpacked (Fails Body) _ _ after _ left _ answer (goes_on (Fails Body) DiskFault taken None refl) is
  accepted_as_run version (Fails Gate) doubt after left answer is = unpacked (Fails Gate) _ _ after _ left _ answer (goes_on (Fails Gate) DiskFault taken (Some one) refl) is
  accepted_as_run version (Stops Settling opened) None after left answer is = unpacked (Stops Settling opened) _ _ after _ left _ answer (goes_on (Stops Settling opened) (Accepted version) (taken ++ one ∷ []) None refl) is
  accepted_as_run version (Stops Settling opened) (Some doubtful) after left answer is = unpacked (Stops Settling opened) _ _ after _ left _ answer (stops (Stops Settling opened) DiskFault taken (Some doubtful) opened refl) is
  accepted_as_run version (Stops Body opened) doubt after left answer is = unpacked (Stops Body opened) _ _ after _ left _ answer (body_stops opened) is
  accepted_as_run version (Stops Gate opened) doubt after left answer is = unpacked (Stops Gate opened) _ _ after _ left _ answer (stops (Stops Gate opened) DiskFault taken (Some one) opened refl) is

  pub decided_as_run : (made : Decision) (fate : Fate) (doubt : Option T) (after : List T) (left : Option T) (answer : LogAnswer) → decided_by made (run_as doubt fate) taken doubt one ≡ (up after left, Some answer) → AsRun fate answer after left (decided_by made fate taken doubt one)
  decided_as_run (Accept version) fate doubt after left answer is = accepted_as_run version fate doubt after left answer is
  decided_as_run (Known version same) fate doubt after left answer is = unpacked fate _ _ after _ left _ answer (goes_on fate (IsKnown version same) taken doubt refl) is
  decided_as_run (Conflict version head named) fate doubt after left answer is = unpacked fate _ _ after _ left _ answer (goes_on fate (IsConflict version head named) taken doubt refl) is
  decided_as_run (Full what have limit) fate doubt after left answer is = unpacked fate _ _ after _ left _ answer (goes_on fate (IsFull what have limit) taken doubt refl) is

-- ---- an append by a plan

-- the plan changes nothing but the disk's next failure
pub planned_runs : (log planned : LogView PlanDisk) (runs : List (List Patch)) (doubt : Option (List Patch)) → Runs log runs doubt → planned ≡ record log { disk = planned.disk } → plan_past planned.disk ≡ plan_past log.disk → Runs planned runs doubt
planned_runs log planned runs doubt is same past = subst (λ (l : LogView PlanDisk). Runs l runs doubt) (sym same) (record {
  runs_are = is.runs_are;
  doubt_is = is.doubt_is;
  number_is = is.number_is;
  limits_is = is.limits_is;
  stands = subst (λ (p : Past). StandsForLog p LOG_NUMBER LOG_LIMITS runs doubt) (sym past) is.stands;
  leaves = subst (λ (p : Past). LeavesEither p LOG_NUMBER (run_texts runs) (run_payload doubt)) (sym past) is.leaves;
})

pub log_leaves : (log : LogView PlanDisk) (runs : List (List Patch)) (doubt : Option (List Patch)) → Runs log runs doubt → LeavesEither (plan_past log.disk) log.number (run_texts (runs_in log)) (run_payload log.doubt)
log_leaves log runs doubt is =
    subst (λ (z : ℕ × List (List Patch) × Option (List Patch)). LeavesEither (plan_past log.disk) z.0 (run_texts z.1) (run_payload z.2)) (λ i. (sym is.number_is i, sym is.runs_are i, sym is.doubt_is i)) is.leaves

-- the log runs on, as the fate that was planned makes it
abbrev pub Ran : LogView PlanDisk → List (List Patch) → Option (List Patch) → List Patch → Fate → LogAnswer → Type 0
Ran new runs doubt run fate answer = (after : List (List Patch)) × (left : Option (List Patch)) × Runs new after left × (run_stay LOG_LIMITS (up runs doubt) run fate ≡ (up after left, Some answer))

pub append_ran : (log new : LogView PlanDisk) (run : List Patch) (fate : Fate) (plan : Option ℕ) (answer : LogAnswer) (runs : List (List Patch)) (doubt : Option (List Patch)) → Runs log runs doubt
    → RunStay log.limits (point_of log) run (fate_by_plan log.doubt plan) (point_of new) answer → fate_by_plan doubt plan ≡ run_as doubt fate → new.number ≡ log.number → new.limits ≡ log.limits
    → StandsForLog (plan_past new.disk) new.number new.limits (runs_in new) new.doubt → LeavesEither (plan_past new.disk) new.number (run_texts (runs_in new)) (run_payload new.doubt)
    → Ran new runs doubt run (run_as doubt fate) answer
append_ran log new run fate plan answer runs doubt is stay planned number limits stands leaves =
    let its_number : new.number ≡ LOG_NUMBER = number ∙ is.number_is in
    let its_limits : new.limits ≡ LOG_LIMITS = limits ∙ is.limits_is in
    let after : Runs new (runs_in new) new.doubt = record {
      runs_are = refl;
      doubt_is = refl;
      number_is = its_number;
      limits_is = its_limits;
      stands = stands_along (plan_past new.disk) new.number LOG_NUMBER new.limits LOG_LIMITS (runs_in new) (runs_in new) new.doubt new.doubt its_number its_limits refl refl stands;
      leaves = subst (λ (n : ℕ). LeavesEither (plan_past new.disk) n (run_texts (runs_in new)) (run_payload new.doubt)) its_number leaves;
    } in
    let stayed : RunStay LOG_LIMITS (up runs doubt) run (fate_by_plan doubt plan) (point_of new) answer =
    subst (λ (z : LogLimits × List (List Patch) × Option (List Patch)). RunStay z.0 (up z.1 z.2) run (fate_by_plan z.2 plan) (point_of new) answer) (λ i. (is.limits_is i, is.runs_are i, is.doubt_is i)) stay in
    (runs_in new, new.doubt, after, subst (λ (f : Fate). RunStay LOG_LIMITS (up runs doubt) run f (point_of new) answer) planned stayed)

module _ {T : Type 0} (taken : List T) (doubt : Option T) (one : T) (version : ℕ) where
  abbrev Tells : Outcome T → Type 0
  Tells outcome = outcome.1 ≡ Some (Accepted version)

  -- what is told to be accepted was decided so
  accepted_at : (at : ℕ) (fate : Fate) → Tells (accepted_by at fate taken doubt one) → at ≡ version
  accepted_at at Done is = cc
  accepted_at at (Fails Settling) is = settling doubt is
    where
      settling : (d : Option T) → Tells (accepted_by at (Fails Settling) taken d one) → at ≡ version
      settling None told = cc
      settling (Some doubtful) told = absurd (cc)
  accepted_at at (Fails Body) is = absurd (cc)
  accepted_at at (Fails Gate) is = absurd (cc)
  accepted_at at (Stops Settling opened) is = settling doubt is
    where
      settling : (d : Option T) → Tells (accepted_by at (Stops Settling opened) taken d one) → at ≡ version
      settling None told = cc
      settling (Some doubtful) told = absurd (cc)
  accepted_at at (Stops Body opened) is = absurd (cc)
  accepted_at at (Stops Gate opened) is = absurd (cc)

  decided_at : (made : Decision) (fate : Fate) → Tells (decided_by made fate taken doubt one) → made ≡ Accept version
  decided_at (Accept at) fate is = ap (λ (v : ℕ). Accept v) (accepted_at at fate is)
  decided_at (Known at same) fate is = absurd (cc)
  decided_at (Conflict at head named) fate is = absurd (cc)
  decided_at (Full what have limit) fate is = absurd (cc)

-- the version of a run's last patch counts its patches too
pub counted : (limits : LogLimits) (runs : List (List Patch)) (doubt : Option (List Patch)) (run : List Patch) (after : LogPoint (List Patch)) (answer : LogAnswer) → AppendsRun limits runs doubt run after answer → (version : ℕ) → answer ≡ Accepted version → length run ≤ version
counted limits runs doubt run after answer (inl stayed) version is =
    let made = run_decision (patches_in runs) run limits in
    let told : (decided_by made stayed.0 runs doubt run).1 ≡ Some (Accepted version) = ap (λ (o : Outcome (List Patch)). o.1) stayed.1 ∙ ap (λ (a : LogAnswer). Some a) is in
    let last = (accepted (patches_in runs) run limits version (decided_at runs doubt run version made stayed.0 told)).1 in
    omega (arith, last)
counted limits runs doubt run after answer (inr wants) version is = absurd (let wrong = sym wants.told ∙ is in cc)

-- ---- one event of a log

-- a log that is up is one of a point that is up
pub run_up_part : (part : LogPart) (log : LogView PlanDisk) (event : WorldEvent) (result : Result (LogPart × Option Message) OutOfMemory) → part ≡ Up log
    → IfOk result (λ sent. (runs : List (List Patch)) → (doubt : Option (List Patch)) → Runs log runs doubt → IsPartOf sent.0 (while_up LOG_LIMITS runs doubt event).0 × (sent.1 ≡ (while_up LOG_LIMITS runs doubt event).1))
    → IfOk result (λ sent. (point : LogPoint (List Patch)) → IsPartOf part point → IsPartOf sent.0 (sending LOG_LIMITS point event).0 × (sent.1 ≡ (sending LOG_LIMITS point event).1))
run_up_part part log event result same part_of = if_ok-map
    (λ sent. (runs : List (List Patch)) → (doubt : Option (List Patch)) → Runs log runs doubt → IsPartOf sent.0 (while_up LOG_LIMITS runs doubt event).0 × (sent.1 ≡ (while_up LOG_LIMITS runs doubt event).1))
    (λ sent. (point : LogPoint (List Patch)) → IsPartOf part point → IsPartOf sent.0 (sending LOG_LIMITS point event).0 × (sent.1 ≡ (sending LOG_LIMITS point event).1))
    result (λ sent ran point is. by_point sent ran point (subst (λ (p : LogPart). IsPartOf p point) same is)) part_of
  where
    by_point : (sent : LogPart × Option Message) → ((runs : List (List Patch)) → (doubt : Option (List Patch)) → Runs log runs doubt → IsPartOf sent.0 (while_up LOG_LIMITS runs doubt event).0 × (sent.1 ≡ (while_up LOG_LIMITS runs doubt event).1))
        → (point : LogPoint (List Patch)) → IsPartOf (Up log) point → IsPartOf sent.0 (sending LOG_LIMITS point event).0 × (sent.1 ≡ (sending LOG_LIMITS point event).1)
    by_point sent ran (up runs doubt) is = ran runs doubt is
    by_point sent ran (down runs) is = absurd is

pub open_part : (part : LogPart) (disk : PlanDisk) (event : WorldEvent) (log : LogView PlanDisk) → part ≡ Down disk → event ≡ Open → ((runs : List (List Patch)) → KeepsRuns disk runs → Runs log runs None)
    → (point : LogPoint (List Patch)) → IsPartOf part point → IsPartOf (Up log) (sending LOG_LIMITS point event).0 × (◌≡◌ {A = Option Message} None (sending LOG_LIMITS point event).1)
open_part part disk event log same opens opened point is =
    subst (λ (e : WorldEvent). IsPartOf (Up log) (sending LOG_LIMITS point e).0 × (◌≡◌ {A = Option Message} None (sending LOG_LIMITS point e).1)) (sym opens) (by_point point (subst (λ (p : LogPart). IsPartOf p point) same is))
  where
    by_point : (p : LogPoint (List Patch)) → IsPartOf (Down disk) p → IsPartOf (Up log) (sending LOG_LIMITS p Open).0 × (◌≡◌ {A = Option Message} None (sending LOG_LIMITS p Open).1)
    by_point (up runs doubt) keeps = absurd keeps
    by_point (down runs) keeps = (opened runs keeps, refl)

-- ---- what is asked

pub served_is : (entries : List Entry) (runs : List (List Patch)) (version : ℕ) (got : Option Patch) → runs_of entries ≡ runs → got ≡ patch_at (patches_of entries) version → served version got ≡ served version (patch_at (patches_in runs) version)
served_is entries runs version got same is = ap (served version) (is ∙ ap (λ (patches : List Patch). patch_at patches version) (sym (patches_in-runs entries) ∙ ap patches_in same))

pub described_is : (entries : List Entry) (runs : List (List Patch)) (count : ℕ) (head : Option Id) → runs_of entries ≡ runs → count ≡ length (patches_of entries) → head ≡ last_id (patches_of entries)
    → Some (Info count head) ≡ Some (Info (length (patches_in runs)) (last_id (patches_in runs)))
described_is entries runs count head same counts heads =
    let patches : patches_of entries ≡ patches_in runs = sym (patches_in-runs entries) ∙ ap patches_in same in
    ap (λ (z : ℕ × Option Id). Some (Info z.0 z.1)) (λ i. ((counts ∙ ap length patches) i, (heads ∙ ap last_id patches) i))

-- ---- images

-- each image of a log's disk holds what may be found
pub images_found : (part : LogPart) (point : LogPoint (List Patch)) → IsPartOf part point → EveryImageOf part (HoldsRuns (MayBeFound point))
images_found (Up log) (up runs doubt) is = carried_images run_text LOG_NUMBER log.disk runs doubt (log_carries log runs doubt is)
images_found (Up log) (down runs) is = absurd is
images_found (Down disk) (up runs doubt) keeps = absurd keeps
images_found (Down disk) (down runs) keeps = kept_images run_text LOG_NUMBER disk runs keeps.each

-- and all of that is a chain
part_chains : (part : LogPart) (point : LogPoint (List Patch)) → IsPartOf part point → AreChains point
part_chains (Up log) (up runs doubt) is = (is.stands.without.log.chain, is.stands.having.log.chain)
part_chains (Up log) (down runs) is = absurd is
part_chains (Down disk) (up runs doubt) keeps = absurd keeps
part_chains (Down disk) (down runs) keeps = keeps.without.log.chain

pub weaker_images : (part : LogPart) (P Q : List ℕ → Type 0) → ((image : List ℕ) → P image → Q image) → EveryImageOf part P → EveryImageOf part Q
weaker_images (Up log) P Q implies each = λ image left. implies image (each image left)
weaker_images (Down disk) P Q implies each = λ image left. implies image (each image left)

pub log_promises : (limits : LogLimits) (events : List WorldEvent) (part : LogPart) → IsPartOf part (world limits events).log → EveryImageOf part (HoldsRuns (KeepsPromises limits events))
log_promises limits events part is =
    let point = (world limits events).log in
    let chains = part_chains part point is in
    weaker_images part (HoldsRuns (MayBeFound point)) (HoldsRuns (KeepsPromises limits events)) (λ image holds. (holds.0, promises limits events holds.0 holds.1 (found_each AreChained point holds.0 chains holds.1), holds.2)) (images_found part point is)

-- ---- what is sent is sound

run_sound : (run : List Patch) → IsSoundRun run → AllByRecursion IsSound run
run_sound run sound = subst (λ (patches : List Patch). AllByRecursion IsSound patches) sound.bare_is (sound_checked sound.patches (checked_by_itself (run_text run) sound.patches sound.read.split))

all_sound : (patches more : List Patch) → AllByRecursion IsSound patches → AllByRecursion IsSound more → AllByRecursion IsSound (patches ++ more)
all_sound [] more sound rest = rest
all_sound (patch ∷ patches) more sound rest = (sound.0, all_sound patches more sound.1 rest)

patches_sound : (runs : List (List Patch)) → AllByRecursion IsSoundRun runs → AllByRecursion IsSound (patches_in runs)
patches_sound [] sound = tt
patches_sound (run ∷ runs) sound = all_sound run (patches_in runs) (run_sound run sound.0) (patches_sound runs sound.1)

got_sound : (patches : List Patch) (place : ℕ) (patch : Patch) → AllByRecursion IsSound patches → slice_get patches place ≡ Some patch → IsSound patch
got_sound [] place patch sound is = absurd (cc)
got_sound (first ∷ patches) zero patch sound is = let same : first ≡ patch = cc in subst IsSound same sound.0
got_sound (first ∷ patches) (suc place) patch sound is = got_sound patches place patch sound.1 is

at_sound : (patches : List Patch) (version : ℕ) (patch : Patch) → AllByRecursion IsSound patches → patch_at patches version ≡ Some patch → IsSound patch
at_sound patches zero patch sound is = absurd (cc)
at_sound patches (suc place) patch sound is = got_sound patches place patch sound is

-- a patch of a log is one that its text is
pub entry_sound : (entries : List Entry) (version : ℕ) (patch : Patch) → AllByRecursion IsSoundRun (runs_of entries) → patch_at (patches_of entries) version ≡ Some patch → IsSound patch
entry_sound entries version patch sound is = at_sound (patches_of entries) version patch (subst (λ (patches : List Patch). AllByRecursion IsSound patches) (patches_in-runs entries) (patches_sound (runs_of entries) sound)) is
