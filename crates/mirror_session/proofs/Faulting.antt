-- Which replies tell a fault of the disk or of a connection.
use Rattle.std.proofs.Common.{◌≡◌, inl, inr, ◌∙◌, ℕ, ◌+◌, ◌≤◌, ◌==◌, ◌&&◌, Bool, true, false, List, Option, None, refl, sym, ap, subst, arith}
use Rattle.std.specs.Str.{bytes_eq}
use Rattle.delta_base.specs.Outside.{Rose, RoseBy}
use Rattle.http_heads.specs.declared.message.RawReply.{RawReply}
use Rattle.http_session.specs.declared.answerer.Said.{Said}
use Rattle.http_session.specs.declared.answerer.Said.TheVariants.{Reply, OutOfMemory}
use Rattle.rpc_answers.specs.Answers.{status_of}
use Rattle.rpc_answers.specs.declared.answer.Answer.{Answer}
use Rattle.rpc_answers.specs.declared.answer.Answer.TheVariants as answer
use Rattle.rpc_calls.specs.Outcomes.{CallRefusal, no_route, media, bad_json, bad_method, bad_call}
use Rattle.mirror.specs.declared.ends.PullEnd.{PullEnd}
use Rattle.mirror.specs.declared.ends.PullEnd.TheVariants as pull
use Rattle.call_replies.specs.Ends.{end_reply}
use Rattle.call_replies.specs.Faults.{is_fault_said}
use Rattle.call_replies.specs.Links.{is_link_said, link_fault}
use Rattle.call_replies.specs.Says.{Says, SaysReply}
use Rattle.call_replies.specs.Telling.{refusal_answer, methods_told}
use Rattle.call_replies.proofs.Faulting.{no_refusal_fault, nothing_told, one_if, said_as, said_of_reply}
use Rattle.mirror_session.specs.Telling.{SaysPull, end_name}

-- ---- counts

pub rose_few : (n a b : ℕ) → n ≤ 0 → a ≤ b → RoseBy n a b
rose_few n a b few no_fewer = omega (arith, few, no_fewer)

rose_if : (told : Bool) (a b : ℕ) → Rose a b → a ≤ b → RoseBy (one_if told) a b
rose_if true a b (inl more) no_fewer = omega (arith, more)
rose_if true a b (inr last) no_fewer = omega (arith, last)
rose_if false a b rose no_fewer = omega (arith, no_fewer)

pub next_rose : (n m a b c : ℕ) → RoseBy n a b → RoseBy m b c → RoseBy (n + m) a c
next_rose n m a b c first second = omega (arith, first, second)

-- ---- ends of connections

pub link_as : (a : Answer) (methods : Option (List ℕ)) (said : Said) → Says a methods said → (status_of a == 409) ≡ false → one_if (is_link_said said) ≤ 0
link_as a methods (Reply reply allow) says is =
    let same = ap (λ (n : ℕ). n == 409) says.0.status ∙ is in subst (λ (b : Bool). one_if (b && bytes_eq reply.body (end_reply link_fault reply.close).body) ≤ 0) (sym same) (omega arith)
link_as a methods OutOfMemory says is = omega arith

pub link_of_nothing : (said : Said) → said ≡ OutOfMemory → one_if (is_link_said said) ≤ 0
link_of_nothing said is = subst (λ (s : Said). one_if (is_link_said s) ≤ 0) (sym is) (omega arith)

link_of_reply : (reply : Bool → RawReply) (said : Said) → ((close : Bool) → is_link_said (Reply (reply close) None) ≡ false) → SaysReply reply said → one_if (is_link_said said) ≤ 0
link_of_reply reply (Reply made allow) other says =
    let same : is_link_said (Reply made None) ≡ false = ap (λ (r : RawReply). is_link_said (Reply r None)) says.0 ∙ other made.close in
    subst (λ (b : Bool). one_if b ≤ 0) (sym same) (omega arith)
link_of_reply reply OutOfMemory other says = omega arith

-- ---- replies that tell no fault of either kind

pub record TellsNone (said : Said) : Type 0 where
  pub fault : one_if (is_fault_said said) ≤ 0
  pub link : one_if (is_link_said said) ≤ 0

no_refusal_link : (r : CallRefusal) → (status_of (refusal_answer r) == 409) ≡ false
no_refusal_link no_route = refl
no_refusal_link media = refl
no_refusal_link bad_json = refl
no_refusal_link (bad_method methods) = refl
no_refusal_link (bad_call member) = refl

pub none_at_refusal : (r : CallRefusal) (said : Said) → Says (refusal_answer r) (methods_told r) said → TellsNone said
none_at_refusal r said says = record { fault = said_as (refusal_answer r) _ said false says (no_refusal_fault r); link = link_as (refusal_answer r) _ said says (no_refusal_link r) }

pub none_at_want : (said : Said) → said ≡ OutOfMemory → TellsNone said
none_at_want said is = record { fault = nothing_told said is; link = link_of_nothing said is }

pub none_at_answer : (a : Answer) (said : Said) → (status_of a == 500) ≡ false → (status_of a == 409) ≡ false → Says a None said → TellsNone said
none_at_answer a said fault link says = record { fault = said_as a None said false says fault; link = link_as a None said says link }

none_at_reply : (reply : Bool → RawReply) (said : Said) → ((close : Bool) → ((reply close).status == 500) ≡ false) → ((close : Bool) → is_link_said (Reply (reply close) None) ≡ false) → SaysReply reply said → TellsNone said
none_at_reply reply said fault link says = record { fault = said_of_reply reply said fault says; link = link_of_reply reply said link says }

-- ---- ends of pulls

-- a reply tells a fault of the disk only where so many calls did, and one of a connection only where
-- the count of the net rose
pub record AsTold (said : Said) (faulted before after : ℕ) : Type 0 where
  pub fault : one_if (is_fault_said said) ≤ faulted
  pub link : RoseBy (one_if (is_link_said said)) before after

module _ (said : Said) (faulted a b : ℕ) (net : a ≤ b) where
  pub as_none : TellsNone said → AsTold said faulted a b
  as_none none = record { fault = let few = none.fault in omega (arith, few); link = rose_few _ a b none.link net }

  by_name : (name : List ℕ) → ((close : Bool) → is_link_said (Reply (end_reply name close) None) ≡ false) → SaysReply (end_reply name) said → AsTold said faulted a b
  by_name name other says = as_none (none_at_reply (end_reply name) said (λ close. refl) other says)

  pub told_at_end : (end : PullEnd) → (end ≡ pull.DiskFault → 1 ≤ faulted) → (end ≡ pull.LinkFault → Rose a b) → SaysPull end said → AsTold said faulted a b
  told_at_end (pull.CaughtUp version) disk link says = as_none (none_at_reply _ said (λ close. refl) (λ close. refl) says)
  told_at_end pull.NoSuchName disk link says = by_name (end_name pull.NoSuchName) (λ close. refl) says
  told_at_end (pull.PeerBehind mine theirs) disk link says = by_name (end_name (pull.PeerBehind mine theirs)) (λ close. refl) says
  told_at_end (pull.NoPatch version) disk link says = by_name (end_name (pull.NoPatch version)) (λ close. refl) says
  told_at_end (pull.PeerRefused status body) disk link says = by_name (end_name (pull.PeerRefused status body)) (λ close. refl) says
  told_at_end (pull.Diverged version head theirs) disk link says = by_name (end_name (pull.Diverged version head theirs)) (λ close. refl) says
  told_at_end (pull.BadPatch version fault) disk link says = by_name (end_name (pull.BadPatch version fault)) (λ close. refl) says
  told_at_end pull.LinkFault disk link says =
      let none = said_of_reply _ said (λ close. refl) says in record { fault = omega (arith, none); link = rose_if (is_link_said said) a b (link refl) net }
  told_at_end pull.CutShort disk link says = by_name (end_name pull.CutShort) (λ close. refl) says
  told_at_end (pull.NotUnderstood at) disk link says = by_name (end_name (pull.NotUnderstood at)) (λ close. refl) says
  told_at_end (pull.Full what have limit) disk link says = by_name (end_name (pull.Full what have limit)) (λ close. refl) says
  told_at_end pull.DiskFault disk link says =
      let one = said_as answer.DiskFault None said true says refl in
      let some = disk refl in
      record { fault = omega (arith, one, some); link = rose_few _ a b (link_as answer.DiskFault None said says refl) net }
  told_at_end pull.OutOfMemory disk link says = as_none (none_at_want said says)
