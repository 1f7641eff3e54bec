-- A call that reads the log only looks at it, and its reply has no status of an end.
use Rattle.std.proofs.Common.{◌≡◌, ℕ, ◌≤◌, ◌==◌, false, List, [], Option, Some, None, Result, Ok, Err, IfOk, OnErr, IsErr, refl, sym, subst}
use Rattle.disk_model.specs.declared.disk.Disk.{Ghosts}
use Rattle.chain_core.specs.declared.chain.Patch.{Patch}
use Rattle.chain_core.specs.Patches.{patch_at, patch_named, version_of}
use Rattle.chain_core.specs.Replies.{LogCall, LogReply, fetched}
use Rattle.http_session.specs.declared.answerer.Said.{Said}
use Rattle.http_session.specs.declared.answerer.Said.TheVariants.{OutOfMemory}
use Rattle.patch_log.specs.State.{LogView}
use Rattle.rpc_answers.specs.Answers.{status_of}
use Rattle.turn_cell.specs.Calls.{IsReplied}
use Rattle.turn_cell.specs.Knowing.{Wants, seen_of}
use Rattle.shared_log.specs.Calls.{CallOnLog, MayWant, call_made}
use Rattle.shared_log.specs.History.{LogSight, patches_known}
use Rattle.shared_log.specs.Stays.{CalledOnLog}
use Rattle.shared_log.proofs.Adding.{each_is_made}
use Rattle.call_replies.specs.Links.{is_link_said}
use Rattle.call_replies.specs.Says.{Says, SaysOf}
use Rattle.call_replies.specs.Telling.{log_answer, version_within}
use Rattle.call_replies.proofs.Faulting.{one_if}
use Rattle.mirror_session.specs.Answered.{AsksLog, log_call}
use Rattle.mirror_session.specs.declared.logs.LogAsk.{LogAsk}
use Rattle.mirror_session.specs.declared.logs.LogAsk.TheVariants as ask
use Rattle.mirror_session.proofs.Faulting.{link_as, link_of_nothing}

abbrev HasOtherStatus : LogReply → Type 0
HasOtherStatus reply = (status_of (log_answer reply) == 409) ≡ false

of_fetched : (patch : Option Patch) (count : ℕ) → HasOtherStatus (fetched patch count)
of_fetched (Some patch) count = refl
of_fetched None count = refl

module _ {D : Type 0} (disks : Ghosts D) (origin : LogView D) (p q : LogSight) where
  -- what a reply to such a call comes to
  record Reads (reply : LogReply) : Type 0 where
    wants : Wants p q
    status : HasOtherStatus reply

  reads : (asked : LogAsk) (reply : LogReply) → CalledOnLog disks origin p (log_call asked) reply q → Reads reply
  reads ask.Describe reply called = record { wants = (called.legal.0, called.legal.1.1); status = subst HasOtherStatus (sym called.legal.1.0) refl }
  reads ask.Version reply called = record { wants = (called.legal.0, called.legal.1.1); status = subst HasOtherStatus (sym called.legal.1.0) refl }
  reads (ask.FetchVersion place) reply called =
      let chain : List Patch = patches_known (seen_of q) in
      record { wants = (called.legal.0, called.legal.1.1); status = subst HasOtherStatus (sym called.legal.1.0) (of_fetched (patch_at chain (version_within place)) _) }
  reads (ask.FetchId id) reply called =
      let chain : List Patch = patches_known (seen_of q) in
      record { wants = (called.legal.0, called.legal.1.1); status = subst HasOtherStatus (sym called.legal.1.0) (of_fetched (patch_named chain (version_of chain id)) _) }

  abbrev Replied : LogCall → Option LogReply → Type 0
  Replied call reply = IsReplied (CalledOnLog disks origin) MayWant p call reply q

  -- with a reply, or without one
  pub looked : (asked : LogAsk) (reply : Option LogReply) → Replied (log_call asked) reply → Wants p q
  looked asked (Some reply) is = (reads asked reply is).wants
  looked asked None is = is.1

  pub link_of_log : (asked : LogAsk) (reply : Option LogReply) (said : Said) → Replied (log_call asked) reply → SaysOf log_answer reply said → one_if (is_link_said said) ≤ 0
  link_of_log asked (Some reply) said is says = link_as (log_answer reply) None said says (reads asked reply is).status
  link_of_log asked None said is says = link_of_nothing said says

  -- ---- a call as one that is made

  pub asked_so : (asked : LogAsk) (reply : LogReply) (said : Said) → CalledOnLog disks origin p (log_call asked) reply q → Says (log_answer reply) None said → AsksLog disks origin asked p said q
  asked_so asked reply said called says =
      let made = (each_is_made disks origin p (log_call asked) q).replied reply called in
      let it : CallOnLog = call_made (log_call asked) (Some reply) made.0 in
      (it, refl, made.2, says)

  -- of one that may find no memory
  pub asked_fetched : {A E : Type 0} (f : A → LogReply) (asked : LogAsk) (r : Result A E) (said : Said) → MayWant (log_call asked) → IfOk r (λ a. CalledOnLog disks origin p (log_call asked) (f a) q) → OnErr r (Wants p q)
      → IfOk r (λ a. Says (log_answer (f a)) None said) → (IsErr r → said ≡ OutOfMemory) → AsksLog disks origin asked p said q
  asked_fetched f asked (Ok a) said may called want says none = asked_so asked (f a) said called says
  asked_fetched f asked (Err e) said may called want says none =
      let it : CallOnLog = call_made (log_call asked) None [] in
      (it, refl, (each_is_made disks origin p (log_call asked) q).wanted may want, none refl)
