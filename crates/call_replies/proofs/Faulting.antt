-- Which answers and ends have the status of a fault.
use Rattle.std.proofs.Common.{◌≡◌, ℕ, ◌≤◌, ◌==◌, Bool, false, true, if◌then◌else◌, List, Option, Some, None, Ok, Err, refl, sym, ap, ◌∙◌, subst, arith}
use Rattle.chain_core.specs.Replies.{LogReply, answered, found, missing, described, counted}
use Rattle.chain_core.specs.declared.answer.LogAnswer.TheVariants as appended
use Rattle.http_session.specs.declared.answerer.Said.{Said}
use Rattle.http_session.specs.declared.answerer.Said.TheVariants.{Reply, OutOfMemory}
use Rattle.patch_meaning.specs.declared.fault.PatchFault.{PatchFault}
use Rattle.patch_meaning.specs.declared.fault.PatchFault.TheVariants as fault
use Rattle.patch_log.specs.declared.run.RunFault.{RunFault}
use Rattle.patch_log.specs.declared.run.RunFault.TheVariants as run
use Rattle.http_heads.specs.declared.message.RawReply.{RawReply}
use Rattle.rpc_answers.specs.Answers.{status_of}
use Rattle.rpc_answers.specs.declared.answer.Answer.{Answer}
use Rattle.rpc_answers.specs.declared.answer.Answer.TheVariants as answer
use Rattle.rpc_calls.specs.Outcomes.{CallOutcome, CallRefusal, no_route, media, bad_json, bad_method, bad_call}
use Rattle.turn_cell.specs.Calls.{faults_told}
use Rattle.shared_log.specs.Calls.{tells_fault}
use Rattle.call_replies.specs.Ends.{SaysEnd}
use Rattle.call_replies.specs.Faults.{is_fault_said, is_fault_told}
use Rattle.call_replies.specs.Says.{Says, SaysOf, SaysRefusal, SaysReply}
use Rattle.call_replies.specs.Telling.{log_answer, patch_answer, run_answer, refusal_answer}
use Rattle.call_replies.specs.declared.ends.EndTold.{EndTold}
use Rattle.call_replies.specs.declared.ends.EndTold.TheVariants as ends

abbrev pub one_if : Bool → ℕ
one_if b = if b then 1 else 0

-- ---- answers

pub log_fault : (reply : LogReply) → (status_of (log_answer reply) == 500) ≡ tells_fault reply
log_fault (answered (appended.Accepted version)) = refl
log_fault (answered (appended.AcceptedRun first version)) = refl
log_fault (answered (appended.Known version same)) = refl
log_fault (answered (appended.Conflict version head named)) = refl
log_fault (answered (appended.Full what have limit)) = refl
log_fault (answered appended.DiskFault) = refl
log_fault (answered appended.OutOfMemory) = refl
log_fault (found patch) = refl
log_fault (missing version) = refl
log_fault (described version head) = refl
log_fault (counted version) = refl

pub no_patch_fault : (f : PatchFault) → (status_of (patch_answer f) == 500) ≡ false
no_patch_fault (fault.At at kind) = refl
no_patch_fault (fault.TooLong long limit) = refl
no_patch_fault fault.OutOfMemory = refl

pub no_run_fault : (f : RunFault) → (status_of (run_answer f) == 500) ≡ false
no_run_fault (run.TooLong long limit) = refl
no_run_fault (run.Patch why) = no_patch_fault why
no_run_fault (run.BadRun at) = refl
no_run_fault run.OutOfMemory = refl

pub no_refusal_fault : (r : CallRefusal) → (status_of (refusal_answer r) == 500) ≡ false
no_refusal_fault no_route = refl
no_refusal_fault media = refl
no_refusal_fault bad_json = refl
no_refusal_fault (bad_method methods) = refl
no_refusal_fault (bad_call member) = refl

-- ---- what is said

pub said_as : (answer : Answer) (methods : Option (List ℕ)) (said : Said) (b : Bool) → Says answer methods said → (status_of answer == 500) ≡ b → one_if (is_fault_said said) ≤ one_if b
said_as answer methods (Reply reply allow) b says is = let same = ap (λ (n : ℕ). n == 500) says.0.status ∙ is in subst (λ (c : Bool). one_if c ≤ one_if b) (sym same) (omega arith)
said_as answer methods OutOfMemory b says is = omega arith

pub nothing_told : (said : Said) → said ≡ OutOfMemory → one_if (is_fault_said said) ≤ 0
nothing_told said is = subst (λ (s : Said). one_if (is_fault_said s) ≤ 0) (sym is) (omega arith)

pub said_of_log : (reply : Option LogReply) (said : Said) → SaysOf log_answer reply said → one_if (is_fault_said said) ≤ faults_told tells_fault reply
said_of_log (Some reply) said says = said_as (log_answer reply) None said (tells_fault reply) says (log_fault reply)
said_of_log None said says = nothing_told said says

pub said_of_refusal : (outcome : CallOutcome) (said : Said) → SaysRefusal outcome said → one_if (is_fault_said said) ≤ 0
said_of_refusal (Err refusal) said says = said_as (refusal_answer refusal) _ said false says (no_refusal_fault refusal)
said_of_refusal (Ok call) said says = nothing_told said says

pub said_of_reply : (reply : Bool → RawReply) (said : Said) → ((close : Bool) → ((reply close).status == 500) ≡ false) → SaysReply reply said → one_if (is_fault_said said) ≤ 0
said_of_reply reply (Reply made allow) other says =
    let same = ap (λ (r : RawReply). r.status == 500) says.0 ∙ other made.close in subst (λ (c : Bool). one_if c ≤ 0) (sym same) (omega arith)
said_of_reply reply OutOfMemory other says = omega arith

pub said_of_end : (told : EndTold) (said : Said) → SaysEnd told said → one_if (is_fault_said said) ≤ one_if (is_fault_told told)
said_of_end (ends.CaughtUp version) said says = said_of_reply _ said (λ close. refl) says
said_of_end ends.DiskFault said says = said_as answer.DiskFault None said true says refl
said_of_end ends.OutOfMemory said says = nothing_told said says
said_of_end (ends.Named name) said says = said_of_reply _ said (λ close. refl) says
