-- The kinds of answers, and which one a call takes.
use Rattle.std.specs.Prelude.{◌≡◌, Option, Some, None}
use Rattle.rpc_answers.specs.declared.answer.Answer.{Answer}
use Rattle.rpc_answers.specs.declared.answer.Answer.TheVariants as answer
use Rattle.rpc_answers.specs.Answers.{status_of}
use Rattle.rpc_calls.specs.declared.call.Call.{Call}
use Rattle.rpc_calls.specs.declared.call.Call.TheVariants as call
use Rattle.delta_client.specs.declared.kind.Kind.{Kind}
use Rattle.delta_client.specs.declared.kind.Kind.TheVariants as kinds

-- the kind of answer that a call takes
abbrev pub kind_asked : Call → Kind
kind_asked call.Ping = kinds.Pong
kind_asked call.List = kinds.Sources
kind_asked (call.Source name) = kinds.Source
kind_asked (call.SourceById id) = kinds.Source
kind_asked (call.SourceByUri uri) = kinds.Source
kind_asked (call.Log name) = kinds.Info
kind_asked (call.Version name) = kinds.Version
kind_asked (call.Remove name) = kinds.Source
kind_asked (call.Create name uri id) = kinds.Source
kind_asked (call.Rename name new_name) = kinds.Source
kind_asked (call.Append name patch) = kinds.Version
kind_asked (call.AppendRun name patches) = kinds.Run
kind_asked (call.FetchVersion name version) = kinds.Patch
kind_asked (call.FetchId name id) = kinds.Patch

-- the kind of an answer, where it is no refusal
abbrev pub kind_said : Answer → Option Kind
kind_said answer.Pong = Some kinds.Pong
kind_said (answer.Sources sources) = Some kinds.Sources
kind_said (answer.Source source) = Some kinds.Source
kind_said (answer.Info version head) = Some kinds.Info
kind_said (answer.Version version) = Some kinds.Version
kind_said (answer.Run first version) = Some kinds.Run
kind_said (answer.Patch text) = Some kinds.Patch
kind_said other = None

-- the answer is of the call's kind
abbrev pub IsAnswerTo : Call → Answer → Type 0
IsAnswerTo c a = kind_said a ≡ Some (kind_asked c)

-- the call takes the answer: it is of the call's kind, or a refusal
abbrev pub MayAnswer : Call → Answer → Type 0
MayAnswer c a = status_of a ≡ 200 → IsAnswerTo c a
