-- What is said to a call.
use Rattle.std.specs.Prelude.{◌≡◌, ℕ, Bool, List, Option, Some, None, Result, Ok, Err}
use Rattle.std.specs.Option.{option_copied}
use Rattle.http_heads.specs.declared.message.RawReply.{RawReply}
use Rattle.http_session.specs.declared.answerer.Said.{Said}
use Rattle.http_session.specs.declared.answerer.Said.TheVariants.{Reply, OutOfMemory}
use Rattle.rpc_answers.specs.Prints.{IsCompactPrintOf}
use Rattle.rpc_answers.specs.declared.answer.Answer.{Answer}
use Rattle.rpc_calls.specs.Outcomes.{CallOutcome}
use Rattle.call_replies.specs.Telling.{methods_told, refusal_answer}

-- the answer's print, beside which these methods are told; or memory ran out in printing
abbrev pub Says : Answer → Option (List ℕ) → Said → Type 0
Says answer methods (Reply reply allow) =
    IsCompactPrintOf reply answer reply.close × (option_copied allow ≡ methods)
Says answer methods OutOfMemory = Unit {0}

-- the answer to a reply; without one memory ran out
abbrev pub SaysOf : {R : Type 0} → (R → Answer) → Option R → Said → Type 0
SaysOf answer (Some reply) said = Says (answer reply) None said
SaysOf answer None said = said ≡ OutOfMemory

-- why a request is no call, with the methods of its route; at a call memory ran out before it
-- was known
abbrev pub SaysRefusal : CallOutcome → Said → Type 0
SaysRefusal (Err refusal) said = Says (refusal_answer refusal) (methods_told refusal) said
SaysRefusal (Ok call) said = said ≡ OutOfMemory

-- this reply, whether or not the connection ends behind it; or memory ran out in making it
abbrev pub SaysReply : (Bool → RawReply) → Said → Type 0
SaysReply reply (Reply made allow) = (made ≡ reply made.close) × (allow ≡ None)
SaysReply reply OutOfMemory = Unit {0}
