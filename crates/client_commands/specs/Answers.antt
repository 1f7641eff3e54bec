-- What a command prints of the answer to its call, or why it prints nothing.
use Rattle.std.specs.Prelude.{◌≡◌, ◌≢◌, ℕ, List, [], ◌∷◌, ◌++◌, Result, Ok, Err}
use Rattle.serde_json.specs.Written.{compact_text}
use Rattle.rpc_answers.specs.declared.answer.Answer.{Answer}
use Rattle.rpc_answers.specs.Answers.{Body, json, patch, status_of, body_of}
use Rattle.rpc_answers.specs.Prints.{compact}
use Rattle.delta_client.specs.Exchanges.{WasSaid}
use Rattle.delta_client.specs.declared.fault.AskFault.{AskFault}
use Rattle.delta_client.specs.declared.fault.AskFault.TheVariants as asks
use Rattle.client_commands.specs.declared.fault.ClientFault.{ClientFault}
use Rattle.client_commands.specs.declared.fault.ClientFault.TheVariants as faults

-- JSON and a line feed, or the patch's text
abbrev pub printed_body : Body → List ℕ
printed_body (json value) = compact_text value ++ 10 ∷ []
printed_body (patch text) = text

-- what is printed of an answer
abbrev pub printed : Answer → List ℕ
printed a = printed_body (body_of a)

-- a call that has no answer, as the end of its command
abbrev pub client_fault : AskFault → ClientFault
client_fault asks.LinkFault = faults.LinkFailed
client_fault asks.CutShort = faults.CutShort
client_fault (asks.NotUnderstood at) = faults.NotUnderstood at
client_fault asks.OutOfMemory = faults.OutOfMemory

-- the end of a call that was answered: what is printed, or the refusal that the answer is. Want of
-- memory is free
abbrev pub EndsAnswered : Answer → Result (List ℕ) ClientFault → Type 0
EndsAnswered a (Ok text) = (status_of a ≡ 200) × (text ≡ printed a)
EndsAnswered a (Err (faults.Refused status body)) =
    (status_of a ≢ 200) × (status ≡ status_of a) × (body ≡ compact (body_of a))
EndsAnswered a (Err faults.OutOfMemory) = Unit {0}
EndsAnswered a (Err other) = ⊥

-- the end of a call, by what was said to it; a fault of asking is handed on
abbrev pub EndsCall : WasSaid → Result (List ℕ) ClientFault → Type 0
EndsCall (Ok a) result = EndsAnswered a result
EndsCall (Err fault) result = result ≡ Err (client_fault fault)
