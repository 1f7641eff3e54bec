-- What the calls of a hall on its lists come to.
use Rattle.std.proofs.Common.{◌≡◌, ℕ, refl, sym, ◌∙◌, subst, inl, List, [], ◌∷◌, Option, Some, None, Result, Ok, Err, IfOk, OnErr, IsErr}
use Rattle.disk_model.specs.declared.disk.Disk.{Ghosts}
use Rattle.chain_core.specs.Replies.{LogCall, LogReply}
use Rattle.chain_core.specs.Replies as asked
use Rattle.chain_core.specs.declared.answer.LogAnswer.{LogAnswer}
use Rattle.log_base.specs.declared.source_info.SourceInfo.{SourceInfo}
use Rattle.http_session.specs.declared.answerer.Said.{Said}
use Rattle.http_session.specs.declared.answerer.Said.TheVariants.{OutOfMemory}
use Rattle.patch_log.specs.State.{LogView}
use Rattle.registry_core.specs.Replies.{RegistryCall, RegistryReply, resolve, found, answered, changed, listed}
use Rattle.turn_cell.specs.Sights.{Made}
use Rattle.turn_cell.specs.Knowing.{Wants}
use Rattle.turn_cell.specs.Calls.{IsReplied}
use Rattle.shared_log.specs.History.{LogSight, SeesWhole}
use Rattle.shared_log.specs.Stays.{CalledOnLog}
use Rattle.shared_log.specs.Calls.{CallOnLog, MayWant, call_made}
use Rattle.shared_registry.specs.History.{RegistrySight}
use Rattle.shared_registry.specs.Stays.{CalledOnRegistry}
use Rattle.shared_registry.specs.Lookups.{RegistryLookup, IsLookupReply, MayWantNames}
use Rattle.shared_registry.proofs.Adding.{gives}
use Rattle.hall_logs.specs.Slots.{OnSlot}
use Rattle.hall_logs.specs.Visits.{IsVisit}
use Rattle.hall_logs.proofs.Visiting.{each_is_visit}
use Rattle.call_replies.specs.Says.{Says, SaysOf}
use Rattle.call_replies.specs.Telling.{append_answer, log_answer}
use Rattle.delta_session.specs.Answered.{BehindLookup, ByLog, ByRegistry, BySource, ByText, IsLookedUp, LooksUp, SaysNone, TakesNoNumber, reply_found}
use Rattle.delta_session.specs.Halls.{IsHallPass}
use Rattle.delta_session.specs.Steps.{HallView, HallSight, Step, of_registry, of_log, AreSteps}
use Rattle.rpc_answers.specs.declared.answer.Answer.{Answer}
use Rattle.delta_session.specs.Telling.{registry_answer}
use Rattle.delta_session.proofs.Passing.{still_ready}
use Rattle.delta_session.proofs.Stepping.{compose_steps}

-- a pass that came to know this of the registry, or of the logs
abbrev pub knows_registry : HallSight → RegistrySight → HallSight
knows_registry p q = record { lists = record { registry = q; logs = p.lists.logs }; dice = p.dice }

abbrev pub knows_logs : HallSight → List LogSight → HallSight
knows_logs p q = record { lists = record { registry = p.lists.registry; logs = q }; dice = p.dice }

module _ {D : Type 0} (disks : Ghosts D) (hall : HallView D) (p : HallSight) where
  -- ---- the registry

  module _ (q : RegistrySight) where
    abbrev Replied : RegistryCall → Option RegistryReply → Type 0
    Replied call reply = IsReplied (CalledOnRegistry disks hall.registry.origin) MayWantNames p.lists.registry call reply q

    legal : (call : RegistryCall) (reply : Option RegistryReply) → Replied call reply → IsLookupReply hall.registry.origin.slots p.lists.registry call reply q
    legal call (Some reply) is = is.legal
    legal call None is = is

    -- the step of a call
    pub looked : (call : RegistryCall) (reply : Option RegistryReply) → Replied call reply
        → (made : RegistryLookup) × (made.call ≡ call) × (made.reply ≡ reply) × AreSteps disks hall p.lists (of_registry made ∷ []) (knows_registry p q).lists
    looked call reply is =
        let g = gives hall.registry.origin.slots p.lists.registry q call reply (legal call reply is) in (
          g.asked,
          g.call_is,
          g.reply_is,
          (
            (knows_registry p q).lists,
            (
              record {
                replied = subst (λ (z : RegistryCall × Option RegistryReply). Replied z.0 z.1) (λ i. (sym g.call_is i, sym g.reply_is i)) is;
                mine = g.is.mine;
                failed = g.is.failed;
              },
              refl,
            ),
            refl,
          ),
        )

    pub takes_lookup : (call : RegistryCall) (reply : Option RegistryReply) (said : Said) → Replied call reply → SaysOf registry_answer reply said → TakesNoNumber disks hall (ByRegistry call) p said (knows_registry p q)
    takes_lookup call reply said is says =
        let l = looked call reply is in
        (of_registry l.0 ∷ [], l.3, (l.0, l.1, refl, subst (λ (r : Option RegistryReply). SaysOf registry_answer r said) (sym l.2) says), refl)

    -- of a call that may find no memory
    pub takes_found : {A E : Type 0} (f : A → RegistryReply) (call : RegistryCall) (r : Result A E) (said : Said) → MayWantNames call
        → IfOk r (λ a. CalledOnRegistry disks hall.registry.origin p.lists.registry call (f a) q) → OnErr r (Wants p.lists.registry q)
        → IfOk r (λ a. Says (registry_answer (f a)) None said) → (IsErr r → said ≡ OutOfMemory) → TakesNoNumber disks hall (ByRegistry call) p said (knows_registry p q)
    takes_found f call (Ok a) said may called want says none = takes_lookup call (Some (f a)) said called says
    takes_found f call (Err e) said may called want says none = takes_lookup call None said (may, want) (none refl)

    -- a look-up that found a source, found none, or found no memory
    pub looks : {E : Type 0} (name : List ℕ) (r : Result (Option SourceInfo) E) (result : Result ℕ Said) → IfOk r (λ source. CalledOnRegistry disks hall.registry.origin p.lists.registry (resolve name) (found source) q)
        → OnErr r (Wants p.lists.registry q) → IsLookedUp (reply_found r) result → LooksUp disks hall name p result (knows_registry p q)
    looks name r result called want is =
        let l = looked (resolve name) (reply_found r) (replied name r called want) in
        (l.0, l.1, l.3, refl, subst (λ (reply : Option RegistryReply). IsLookedUp reply result) (sym l.2) is)
      where
        replied : {E : Type 0} (name : List ℕ) (r : Result (Option SourceInfo) E) → IfOk r (λ source. CalledOnRegistry disks hall.registry.origin p.lists.registry (resolve name) (found source) q) → OnErr r (Wants p.lists.registry q) → Replied (resolve name) (reply_found r)
        replied name (Ok source) called want = called
        replied name (Err fault) called want = (tt, want)

  -- ---- logs

  module _ (q : List LogSight) (slot : ℕ) where
    -- in what the pass then sees of the log of the slot each run stands whole
    abbrev Whole : Type 0
    Whole = OnSlot slot (λ (log : Made (LogView D)) (a b : LogSight). SeesWhole b) hall.logs.logs p.lists.logs q

    -- the call on the log of the slot, as a visit
    visited : (call : LogCall) (reply : LogReply) → OnSlot slot (λ (log : Made (LogView D)) (a b : LogSight). CalledOnLog disks log.origin a call reply b) hall.logs.logs p.lists.logs q → Whole
        → (made : CallOnLog) × (made.call ≡ call) × (made.reply ≡ Some reply) × IsVisit disks hall.logs.logs p.lists.logs (record { slot = slot; asked = made }) q
    visited call reply o whole =
        let e = (each_is_visit disks hall.logs.logs slot call p.lists.logs q).replied reply o whole in (call_made call (Some reply) e.0, refl, refl, e.1)

    pub takes_visit : (call : LogCall) (reply : LogReply) (said : Said) → OnSlot slot (λ (log : Made (LogView D)) (a b : LogSight). CalledOnLog disks log.origin a call reply b) hall.logs.logs p.lists.logs q
        → Whole → Says (log_answer reply) None said → TakesNoNumber disks hall (ByLog slot call) p said (knows_logs p q)
    takes_visit call reply said called whole says =
        let v = visited call reply called whole in
        (of_log (record { slot = slot; asked = v.0 }) ∷ [], ((knows_logs p q).lists, (v.3, refl), refl), (v.0, v.1, refl, subst (λ (r : Option LogReply). SaysOf log_answer r said) (sym v.2) says), refl)

    -- of what a text is
    pub takes_text : {A F : Type 0} (Is : A → Type 0) (call : A → LogCall) (Has : F → Type 0) (answer : F → Answer) (read : A) (told : LogAnswer) (said : Said) → Is read
        → OnSlot slot (λ (log : Made (LogView D)) (a b : LogSight). CalledOnLog disks log.origin a (call read) (asked.answered told) b) hall.logs.logs p.lists.logs q
        → Whole → Says (append_answer told) None said → TakesNoNumber disks hall (ByText Is call Has answer slot) p said (knows_logs p q)
    takes_text Is call Has answer read told said is called whole says =
        let one = takes_visit (call read) (asked.answered told) said called whole says in
        (one.0, one.1, inl (read, is, one.2), one.3)

    takes_want : (call : LogCall) → MayWant call → OnSlot slot (λ (log : Made (LogView D)) (a b : LogSight). Wants a b) hall.logs.logs p.lists.logs q → Whole → TakesNoNumber disks hall (ByLog slot call) p OutOfMemory (knows_logs p q)
    takes_want call may o whole =
        let made : CallOnLog = call_made call None [] in
        let is = (each_is_visit disks hall.logs.logs slot call p.lists.logs q).wanted may o whole in
        (of_log (record { slot = slot; asked = made }) ∷ [], ((knows_logs p q).lists, (is, refl), refl), (made, refl, refl, refl), refl)

    -- of a call that may find no memory
    pub takes_fetched : {A E : Type 0} (f : A → LogReply) (call : LogCall) (r : Result A E) (said : Said) → MayWant call
        → IfOk r (λ a. OnSlot slot (λ (log : Made (LogView D)) (x y : LogSight). CalledOnLog disks log.origin x call (f a) y) hall.logs.logs p.lists.logs q)
        → OnErr r (OnSlot slot (λ (log : Made (LogView D)) (x y : LogSight). Wants x y) hall.logs.logs p.lists.logs q) → Whole
        → IfOk r (λ a. Says (log_answer (f a)) None said) → (IsErr r → said ≡ OutOfMemory) → TakesNoNumber disks hall (ByLog slot call) p said (knows_logs p q)
    takes_fetched f call (Ok a) said may called want whole says none = takes_visit call (f a) said called whole says
    takes_fetched f call (Err e) said may called want whole says none =
        subst (λ (s : Said). TakesNoNumber disks hall (ByLog slot call) p s (knows_logs p q)) (sym (none refl)) (takes_want call may want whole)

  -- ---- a name, and then its log

  module _ (name : List ℕ) (P : ℕ → List Step → Said → Type 0) where
    behind : (slot : ℕ) (reply : Option RegistryReply) (rest : List Step) (said : Said) → IsLookedUp reply (Ok slot) → P slot rest said → BehindLookup P reply rest said
    behind slot reply rest said is so = subst (λ (r : Option RegistryReply). BehindLookup P r rest said) (sym is.1) (subst (λ (n : ℕ). P n rest said) (sym is.2) so)

    pub then_log : (slot : ℕ) (mid q : HallSight) (said : Said) → LooksUp disks hall name p (Ok slot) mid → TakesNoNumber disks hall (P slot) mid said q → TakesNoNumber disks hall (BySource name P) p said q
    then_log slot mid q said looks takes =
        let first = of_registry looks.0 in (
          first ∷ takes.0,
          compose_steps disks hall p.lists mid.lists q.lists (first ∷ []) takes.0 looks.2 takes.1,
          (looks.0, looks.1, takes.0, refl, behind slot looks.0.reply takes.0 said looks.4 takes.2),
          takes.3 ∙ looks.3,
        )

    behind_none : (reply : Option RegistryReply) (said : Said) → SaysNone reply said → BehindLookup P reply [] said
    behind_none (Some (found (Some source))) said says = absurd says
    behind_none (Some (found None)) said says = (refl, says)
    behind_none (Some (answered made)) said says = absurd says
    behind_none (Some (changed done)) said says = absurd says
    behind_none (Some (listed sources)) said says = absurd says
    behind_none None said says = (refl, says)

    pub then_none : (q : HallSight) (said : Said) → LooksUp disks hall name p (Err said) q → TakesNoNumber disks hall (BySource name P) p said q
    then_none q said looks = (of_registry looks.0 ∷ [], looks.2, (looks.0, looks.1, [], refl, behind_none looks.0.reply said looks.4), looks.3)

-- ---- what a call sees as one, and its parts

module _ {D : Type 0} (disks : Ghosts D) (hall inside : HallView D) (hall_is : inside ≡ hall) (p before : HallSight) (p_is : before ≡ p) where
  pub moved : (P : List Step → Said → Type 0) (said : Said) (q : HallSight) → TakesNoNumber disks inside P before said q → TakesNoNumber disks hall P p said q
  moved P said q takes = subst (λ (z : HallView D × HallSight). TakesNoNumber disks z.0 P z.1 said q) (λ i. (hall_is i, p_is i)) takes

  pub moved_looks : (name : List ℕ) (result : Result ℕ Said) (q : HallSight) → LooksUp disks inside name before result q → LooksUp disks hall name p result q
  moved_looks name result q looks = subst (λ (z : HallView D × HallSight). LooksUp disks z.0 name z.1 result q) (λ i. (hall_is i, p_is i)) looks

module _ {D : Type 0} (disks : Ghosts D) (hall : HallView D) (p : HallSight) (is : IsHallPass disks hall p.lists) where
  pub ready_behind : (P : List Step → Said → Type 0) (said : Said) (q : HallSight) → TakesNoNumber disks hall P p said q → IsHallPass disks hall q.lists
  ready_behind P said q takes = still_ready disks hall p.lists q.lists takes.0 is takes.1

  pub ready_found : (name : List ℕ) (result : Result ℕ Said) (q : HallSight) → LooksUp disks hall name p result q → IsHallPass disks hall q.lists
  ready_found name result q looks = still_ready disks hall p.lists q.lists (of_registry looks.0 ∷ []) is looks.2
