-- What is said to what is no call, no patch and no run.
use Rattle.std.proofs.Common.{◌≡◌, ◌⊎◌, ℕ, refl, ⊎_elim, inl, inr, List, [], None, Ok, Err}
use Rattle.http_session.specs.declared.answerer.Said.{Said}
use Rattle.http_session.specs.declared.answerer.Said.TheVariants.{OutOfMemory}
use Rattle.chain_core.specs.Replies.{LogCall}
use Rattle.patch_log.specs.RunFaults.{HasRunFault}
use Rattle.patch_log.specs.declared.run.RunFault.{RunFault}
use Rattle.patch_log.specs.declared.run.RunFault.TheVariants as run
use Rattle.rpc_answers.specs.declared.answer.Answer.{Answer}
use Rattle.rpc_calls.specs.Outcomes.{CallOutcome}
use Rattle.call_replies.specs.Says.{Says, SaysRefusal}
use Rattle.delta_session.specs.Answered.{ByText, IsRunFault, IsSaidTo}

-- it is refused without a step, and takes no number
pub refused_said : (dice : ℕ) (outcome : CallOutcome) (said : Said) → SaysRefusal outcome said → IsSaidTo dice outcome [] said dice
refused_said dice (Ok call) said is = inr (refl, is, refl)
refused_said dice (Err refusal) said says = (refl, says, refl)

-- the first fault of a text, or want of memory
pub fault_said : {A F : Type 0} (Is : A → Type 0) (call : A → LogCall) (Has : F → Type 0) (answer : F → Answer) (slot : ℕ) (wanting why : F) (said : Said) → (why ≡ wanting → said ≡ OutOfMemory) → Says (answer why) None said → (why ≡ wanting) ⊎ Has why
    → ByText Is call Has answer slot [] said
fault_said Is call Has answer slot wanting why said want says refused =
    ⊎_elim (λ (e : why ≡ wanting). inr (inr (refl, want e))) (λ (is : Has why). inr (inl (why, is, refl, says))) refused

pub run_refused : (text : List ℕ) (why : RunFault) → HasRunFault text why → (why ≡ run.OutOfMemory) ⊎ IsRunFault text why
run_refused text (run.TooLong long limit) has = inr (λ e. cc, has)
run_refused text (run.Patch fault) has = inr (λ e. cc, has)
run_refused text (run.BadRun at) has = inr (λ e. cc, has)
run_refused text run.OutOfMemory has = inl refl
