-- How many replies tell a fault of a disk or of a connection, and how their counts rose.
use Rattle.std.proofs.Common.{◌≡◌, inl, inr, ◌∙◌, ℕ, ◌+◌, ◌≤◌, ◌==◌, ◌&&◌, Bool, true, false, List, Option, None, refl, sym, ap, subst, arith}
use Rattle.std.specs.Str.{bytes_eq}
use Rattle.delta_base.specs.Outside.{Rose, RoseBy}
use Rattle.http_heads.specs.declared.message.RawReply.{RawReply}
use Rattle.http_session.specs.declared.answerer.Said.{Said}
use Rattle.http_session.specs.declared.answerer.Said.TheVariants.{Reply, OutOfMemory}
use Rattle.rpc_answers.specs.Answers.{status_of}
use Rattle.rpc_answers.specs.declared.answer.Answer.{Answer}
use Rattle.rpc_answers.specs.declared.answer.Answer.TheVariants as answer
use Rattle.rpc_calls.specs.Outcomes.{CallRefusal, no_route, media, bad_json, bad_method, bad_call}
use Rattle.follower.specs.declared.ends.SyncEnd.{SyncEnd}
use Rattle.follower.specs.declared.ends.SyncEnd.TheVariants as sync
use Rattle.call_replies.specs.Ends.{end_reply}
use Rattle.call_replies.specs.Faults.{is_fault_said}
use Rattle.call_replies.specs.Links.{is_link_said, link_fault}
use Rattle.call_replies.specs.Says.{Says, SaysReply}
use Rattle.call_replies.specs.Telling.{refusal_answer, methods_told}
use Rattle.call_replies.proofs.Faulting.{no_refusal_fault, nothing_told, one_if, said_as, said_of_reply}
use Rattle.zone_session.specs.Telling.{SaysSync, end_name}

-- ---- counts

pub rose_few : (n a b : ℕ) → n ≤ 0 → a ≤ b → RoseBy n a b
rose_few n a b few no_fewer = omega (arith, few, no_fewer)

pub rose_if : (told : Bool) (a b : ℕ) → Rose a b → a ≤ b → RoseBy (one_if told) a b
rose_if true a b (inl more) no_fewer = omega (arith, more)
rose_if true a b (inr last) no_fewer = omega (arith, last)
rose_if false a b rose no_fewer = omega (arith, no_fewer)

pub next_rose : (n m a b c : ℕ) → RoseBy n a b → RoseBy m b c → RoseBy (n + m) a c
next_rose n m a b c first second = omega (arith, first, second)

-- ---- ends of connections

link_as : (a : Answer) (methods : Option (List ℕ)) (said : Said) → Says a methods said → (status_of a == 409) ≡ false → one_if (is_link_said said) ≤ 0
link_as a methods (Reply reply allow) says is =
    let same = ap (λ (n : ℕ). n == 409) says.0.status ∙ is in subst (λ (b : Bool). one_if (b && bytes_eq reply.body (end_reply link_fault reply.close).body) ≤ 0) (sym same) (omega arith)
link_as a methods OutOfMemory says is = omega arith

link_of_nothing : (said : Said) → said ≡ OutOfMemory → one_if (is_link_said said) ≤ 0
link_of_nothing said is = subst (λ (s : Said). one_if (is_link_said s) ≤ 0) (sym is) (omega arith)

link_of_reply : (reply : Bool → RawReply) (said : Said) → ((close : Bool) → is_link_said (Reply (reply close) None) ≡ false) → SaysReply reply said → one_if (is_link_said said) ≤ 0
link_of_reply reply (Reply made allow) other says =
    let same : is_link_said (Reply made None) ≡ false = ap (λ (r : RawReply). is_link_said (Reply r None)) says.0 ∙ other made.close in
    subst (λ (b : Bool). one_if b ≤ 0) (sym same) (omega arith)
link_of_reply reply OutOfMemory other says = omega arith

-- ---- refusals

no_refusal_link : (r : CallRefusal) → (status_of (refusal_answer r) == 409) ≡ false
no_refusal_link no_route = refl
no_refusal_link media = refl
no_refusal_link bad_json = refl
no_refusal_link (bad_method methods) = refl
no_refusal_link (bad_call member) = refl

-- a reply tells no fault of either kind
pub record TellsNone (said : Said) : Type 0 where
  pub fault : one_if (is_fault_said said) ≤ 0
  pub link : one_if (is_link_said said) ≤ 0

pub none_at_refusal : (r : CallRefusal) (said : Said) → Says (refusal_answer r) (methods_told r) said → TellsNone said
none_at_refusal r said says = record { fault = said_as (refusal_answer r) _ said false says (no_refusal_fault r); link = link_as (refusal_answer r) _ said says (no_refusal_link r) }

pub none_at_want : (said : Said) → said ≡ OutOfMemory → TellsNone said
none_at_want said is = record { fault = nothing_told said is; link = link_of_nothing said is }

pub none_at_answer : (a : Answer) (said : Said) → (status_of a == 500) ≡ false → (status_of a == 409) ≡ false → Says a None said → TellsNone said
none_at_answer a said fault link says = record { fault = said_as a None said false says fault; link = link_as a None said says link }

pub none_at_reply : (reply : Bool → RawReply) (said : Said) → ((close : Bool) → ((reply close).status == 500) ≡ false) → ((close : Bool) → is_link_said (Reply (reply close) None) ≡ false) → SaysReply reply said → TellsNone said
none_at_reply reply said fault link says = record { fault = said_of_reply reply said fault says; link = link_of_reply reply said link says }

-- ---- ends of catching up

-- A reply tells a fault of a kind only where the count of that kind rose.
pub record RoseAsTold (said : Said) (own_before own_after net_before net_after : ℕ) : Type 0 where
  pub faults : RoseBy (one_if (is_fault_said said)) own_before own_after
  pub links : RoseBy (one_if (is_link_said said)) net_before net_after

pub rose_as_none : (said : Said) (a b c d : ℕ) → TellsNone said → a ≤ b → c ≤ d → RoseAsTold said a b c d
rose_as_none said a b c d none own net = record { faults = rose_few _ a b none.fault own; links = rose_few _ c d none.link net }

module _ (said : Said) (a b c d : ℕ) (own : a ≤ b) (net : c ≤ d) where
  by_name : (end : SyncEnd) → ((close : Bool) → is_link_said (Reply (end_reply (end_name end) close) None) ≡ false) → SaysReply (end_reply (end_name end)) said → RoseAsTold said a b c d
  by_name end other says = rose_as_none said a b c d (none_at_reply (end_reply (end_name end)) said (λ close. refl) other says) own net

  pub rose_at_end : (end : SyncEnd) → (end ≡ sync.DiskFault → Rose a b) → (end ≡ sync.LinkFault → Rose c d) → SaysSync end said → RoseAsTold said a b c d
  rose_at_end (sync.CaughtUp version) disk link says = rose_as_none said a b c d (none_at_reply _ said (λ close. refl) (λ close. refl) says) own net
  rose_at_end sync.NoSuchName disk link says = by_name sync.NoSuchName (λ close. refl) says
  rose_at_end (sync.PeerBehind mine theirs) disk link says = by_name (sync.PeerBehind mine theirs) (λ close. refl) says
  rose_at_end (sync.NoPatch version) disk link says = by_name (sync.NoPatch version) (λ close. refl) says
  rose_at_end (sync.PeerRefused status body) disk link says = by_name (sync.PeerRefused status body) (λ close. refl) says
  rose_at_end (sync.Diverged version have theirs) disk link says = by_name (sync.Diverged version have theirs) (λ close. refl) says
  rose_at_end (sync.Repeated version id) disk link says = by_name (sync.Repeated version id) (λ close. refl) says
  rose_at_end (sync.BadPatch version fault) disk link says = by_name (sync.BadPatch version fault) (λ close. refl) says
  rose_at_end sync.LinkFault disk link says = record { faults = rose_few _ a b (said_of_reply _ said (λ close. refl) says) own; links = rose_if (is_link_said said) c d (link refl) net }
  rose_at_end sync.CutShort disk link says = by_name sync.CutShort (λ close. refl) says
  rose_at_end (sync.NotUnderstood at) disk link says = by_name (sync.NotUnderstood at) (λ close. refl) says
  rose_at_end (sync.Full what have limit) disk link says = by_name (sync.Full what have limit) (λ close. refl) says
  rose_at_end sync.TermsFull disk link says = by_name sync.TermsFull (λ close. refl) says
  rose_at_end sync.DiskFault disk link says = record { faults = rose_if (is_fault_said said) a b (disk refl) own; links = rose_few _ c d (link_as answer.DiskFault None said says refl) net }
  rose_at_end sync.OutOfMemory disk link says = rose_as_none said a b c d (none_at_want said says) own net
