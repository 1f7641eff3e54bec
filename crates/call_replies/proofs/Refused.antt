-- What is said to what is no call.
use Rattle.std.proofs.Common.{◌≡◌, refl, sym, subst, Ok, Err}
use Rattle.http_session.specs.declared.answerer.Said.{Said}
use Rattle.http_session.specs.declared.answerer.Said.TheVariants.{OutOfMemory}
use Rattle.rpc_calls.specs.Outcomes.{CallOutcome, CallRefusal}
use Rattle.call_replies.specs.Says.{Says, SaysRefusal}
use Rattle.call_replies.specs.Telling.{refusal_answer, methods_told}

-- memory ran out before the request was read
pub nothing_said : (outcome : CallOutcome) → SaysRefusal outcome OutOfMemory
nothing_said (Ok call) = refl
nothing_said (Err refusal) = tt

pub refusal_said : (outcome : CallOutcome) (refusal : CallRefusal) (said : Said) → outcome ≡ Err refusal → Says (refusal_answer refusal) (methods_told refusal) said → SaysRefusal outcome said
refusal_said outcome refusal said is says = subst (λ (o : CallOutcome). SaysRefusal o said) (sym is) says
