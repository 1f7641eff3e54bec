-- Where a session stands between two steps, and what a step comes to.
use Rattle.std.specs.Prelude.{◌≡◌, ◌≢◌, ◌⊎◌, ℕ, ◌+◌, ◌<◌, ◌≤◌, ◌||◌, Bool, true, false}
use Rattle.std.specs.Prelude.{IsTrue, List, [], ◌++◌, length, Option, Some, Result, Ok, Err}
use Rattle.std.specs.Io.KnownBytes.{Appends, Consumes}
use Rattle.delta_base.specs.Outside.{Rose}
use Rattle.sink_writing.specs.Writing.{AppendsFront}
use Rattle.http_text.specs.Readers.{waiting, was_told, fault_of}
use Rattle.http_text.specs.Taken.{request_messages, GaveRequests, AsksAtFront}
use Rattle.http_heads.specs.declared.framing.FrameFault.{FrameFault}
use Rattle.http_heads.specs.declared.framing.FrameFault.TheVariants as faults
use Rattle.http_heads.specs.declared.message.Message.{Message}
use Rattle.http_heads.specs.declared.message.RawRequest.{RawRequest}
use Rattle.http_text.specs.declared.reader.MessageReader.{MessageReader}
use Rattle.http_text.specs.declared.session.SessionEnd.{SessionEnd}
use Rattle.http_text.specs.declared.session.SessionEnd.TheVariants.{Asked, Spent, Refused}
use Rattle.http_text.specs.declared.session.SessionEnd.TheVariants.{LinkFault, OutOfMemory}
use Rattle.http_session.specs.declared.answerer.Said.{Said}
use Rattle.http_heads.specs.Faults.{frame_status}
use Rattle.http_session.specs.Texts.{continue_text, continue_line, refusal_text}
use Rattle.http_session.specs.Said.{said_text}
use Rattle.http_session.specs.Output.{Exchange, requests_of, most_requests}
use Rattle.http_session.specs.Output.{ends_behind, output, AnswerChain}
use Rattle.http_session.specs.Talks.{GoOn, Moment, TalksOn, IsDrained}

-- ---- a step

-- what a reader tells of the head at its front
pub record TookExpect (old new : MessageReader) (asks : Bool) : Type 0 where
  pub stands : (bytes : List ℕ) (taken : List RawRequest) → GaveRequests bytes taken old
      → GaveRequests bytes taken new
  pub told : was_told new ≡ (was_told old || asks)
  pub once : IsTrue asks → was_told old ≡ false
  pub asks_for : IsTrue asks → (bytes : List ℕ) (taken : List RawRequest)
      → GaveRequests bytes taken old → AsksAtFront bytes taken
  pub quiet : asks ≡ false → was_told old ≡ false
      → (bytes : List ℕ) (taken : List RawRequest) → GaveRequests bytes taken old
      → ((waiting old ≡ []) × (fault_of old ≡ Some faults.OutOfMemory))
      ⊎ ¬ (AsksAtFront bytes taken)
  pub waits : waiting new ≡ waiting old
  pub fault : fault_of new ≡ fault_of old

-- the continue line was sent where the head asks for it, or the link failed within it
abbrev pub TellsAs : {T : Type 0} → Bool → Option (List ℕ) → Option (List ℕ)
    → Result T SessionEnd → Type 0
TellsAs asks sent sent' (Ok done) = Appends sent sent' (continue_line asks)
TellsAs asks sent sent' (Err LinkFault) = (asks ≡ true) × AppendsFront sent sent' continue_text
TellsAs asks sent sent' (Err end) = ⊥

-- why a text was not sent whole: the link failed within it, or memory ran out before it
abbrev pub StopsSending : Option (List ℕ) → Option (List ℕ) → List ℕ → SessionEnd → Type 0
StopsSending sent sent' text LinkFault = AppendsFront sent sent' text
StopsSending sent sent' text OutOfMemory = sent' ≡ sent
StopsSending sent sent' text end = ⊥

-- how a request was answered before which so many were, and whether the session goes on
abbrev pub AnswersAs : {T : Type 0} → ℕ → RawRequest → Said → Option (List ℕ)
    → Option (List ℕ) → Result T SessionEnd → Type 0
AnswersAs before request said sent sent' (Ok done) =
    Appends sent sent' (said_text said (ends_behind before request))
    × (request.close ≡ false) × (before + 1 < most_requests)
AnswersAs before request said sent sent' (Err Asked) =
    Appends sent sent' (said_text said (ends_behind before request)) × (request.close ≡ true)
AnswersAs before request said sent sent' (Err Spent) =
    Appends sent sent' (said_text said (ends_behind before request))
    × (request.close ≡ false) × (before + 1 ≡ most_requests)
AnswersAs before request said sent sent' (Err end) =
    StopsSending sent sent' (said_text said (ends_behind before request)) end

-- what the refusal of a fault comes to
abbrev pub RefusesAs : FrameFault → Option (List ℕ) → Option (List ℕ) → SessionEnd → Type 0
RefusesAs fault sent sent' (Refused status) = (fault ≢ faults.OutOfMemory)
    × (status ≡ frame_status fault) × Appends sent sent' (refusal_text fault)
RefusesAs fault sent sent' LinkFault =
    (fault ≢ faults.OutOfMemory) × AppendsFront sent sent' (refusal_text fault)
RefusesAs fault sent sent' OutOfMemory = (fault ≡ faults.OutOfMemory) × (sent' ≡ sent)
RefusesAs fault sent sent' end = ⊥

-- ---- between two steps

-- Since a moment these bytes were read, which are these messages and a rest. The first of them are
-- requests that were answered and let the session go on; the others wait. What was sent is the
-- replies, and the continue line, where the head behind them asks for it and that was told.
pub record SessionStands {S : Type 0} (answers : S → RawRequest → Said → S → Type 0)
    (from to : Moment S)
    (read : List ℕ) (messages : List Message) (reader : MessageReader) (count : ℕ) : Type 0 where
  pub exchanges : List Exchange
  pub answered : AnswerChain answers from.state exchanges to.state
  pub consumed : Consumes from.left to.left read
  pub gave : GaveRequests read (requests_of exchanges) reader
  pub messages_are : messages ≡ request_messages (requests_of exchanges) ++ waiting reader
  pub goes_on : GoOn (requests_of exchanges)
  pub count_is : count ≡ length exchanges
  pub sent_are : Appends from.sent to.sent (output exchanges ++ continue_line (was_told reader))
  pub told : was_told reader ≡ true → AsksAtFront read (requests_of exchanges)
  pub faults : from.faults ≤ to.faults

-- And nothing waits, and what asks for a continue line was told, unless memory ran out.
pub record StandsStill {S : Type 0} (answers : S → RawRequest → Said → S → Type 0)
    (from to : Moment S) (read : List ℕ) (messages : List Message)
    (reader : MessageReader) (count : ℕ) : Type 0 where
  pub stands : SessionStands answers from to read messages reader count
  pub none_waits : waiting reader ≡ []
  pub quiet : was_told reader ≡ false → (fault_of reader ≡ Some faults.OutOfMemory)
      ⊎ ¬ (AsksAtFront read (requests_of stands.exchanges))

-- the session has ended so
pub record Ended {S : Type 0} (answers : S → RawRequest → Said → S → Type 0)
    (from to : Moment S) (end : SessionEnd) : Type 0 where
  pub talks : TalksOn answers from to end
  pub drained : IsDrained to.left end
  pub cause : end ≡ LinkFault → Rose from.faults to.faults
  pub faults : from.faults ≤ to.faults

-- the requests that waited were answered, or the session has ended
abbrev pub AnsweredAll : {S T : Type 0} → (S → RawRequest → Said → S → Type 0) → Moment S
    → Moment S → List ℕ → List Message → MessageReader → ℕ → Result T SessionEnd → Type 0
AnsweredAll answers from to read messages reader count (Ok done) =
    StandsStill answers from to read messages reader count
AnsweredAll answers from to read messages reader count (Err end) = Ended answers from to end
