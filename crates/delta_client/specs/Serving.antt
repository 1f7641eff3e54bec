-- Connections that answer calls, and what is said to these then.
use Rattle.std.specs.Prelude.{◌≡◌, ℕ, List, [], ◌∷◌, ◌++◌, Option, Some, None}
use Rattle.std.specs.Prelude.{Ok, Err, if◌then◌else◌}
use Rattle.http_heads.specs.declared.message.RawReply.{RawReply}
use Rattle.rpc_answers.specs.declared.answer.Answer.{Answer}
use Rattle.rpc_answers.specs.Prints.{IsPrintOf}
use Rattle.rpc_calls.specs.declared.call.Call.{Call}
use Rattle.delta_client.specs.Asking.{BeginWith}
use Rattle.delta_client.specs.Exchanges.{WasSaid}
use Rattle.delta_client.specs.Lines.{Connection}
use Rattle.delta_client.specs.declared.fault.AskFault.TheVariants as ask

-- a connection as it came, and the replies that were read of it
pub record Talk (L : Type 0) : Type 0 where
  pub came : L
  pub replies : List RawReply

-- a connection of which nothing was read yet
abbrev pub begun : {L : Type 0} → L → Talk L
begun came = record { came = came; replies = [] }

-- how far the connection that stands was read, where one does
abbrev pub talk_of : {L : Type 0} → Option (Connection L) → Option (Talk L)
talk_of None = None
talk_of (Some standing) = Some (record { came = standing.came; replies = standing.replies })

-- the talk goes on behind a reply, unless that closes it
abbrev pub talks_on : {L : Type 0} → Talk L → RawReply → Option (Talk L)
talks_on talk reply = if reply.close then None
    else Some (record { came = talk.came; replies = talk.replies ++ reply ∷ [] })

module _ {L : Type 0} (left : L → Option (List ℕ)) (IsAnswerOf : Call → Answer → Type 0) where
  -- The bytes of the connection, from its first one on, begin with the replies that were read and
  -- with this one, which prints an answer of the call.
  pub record RepliesTo (call : Call) (talk : Talk L) (reply : RawReply) : Type 0 where
    pub bytes : List ℕ
    pub all : left talk.came ≡ Some bytes
    pub begins : BeginWith bytes (talk.replies ++ reply ∷ [])
    pub answer_ : Answer
    pub prints : IsPrintOf reply answer_
    pub answers : IsAnswerOf call answer_

  -- Each of the calls has such a reply: on the connection that stands, or on the next one to come.
  abbrev pub Serves : List Call → Option (Talk L) → List L → Type 0
  Serves [] talk to_come = Unit {0}
  Serves (call ∷ calls) (Some talk) to_come =
      (reply : RawReply) × RepliesTo call talk reply × Serves calls (talks_on talk reply) to_come
  Serves (call ∷ calls) None (came ∷ to_come) =
      (reply : RawReply) × RepliesTo call (begun came) reply
      × Serves calls (talks_on (begun came) reply) to_come
  Serves (call ∷ calls) None [] = ⊥

-- such an answer was said to the call, or its link failed, or memory was wanting
abbrev pub IsSaidBy : (Call → Answer → Type 0) → Call → WasSaid → Type 0
IsSaidBy IsAnswerOf call (Ok a) = IsAnswerOf call a
IsSaidBy IsAnswerOf call (Err ask.LinkFault) = Unit {0}
IsSaidBy IsAnswerOf call (Err ask.OutOfMemory) = Unit {0}
IsSaidBy IsAnswerOf call (Err fault) = ⊥

-- so it is for each of these calls and what was said to it
abbrev pub AllSaid : (Call → WasSaid → Type 0) → List Call → List WasSaid → Type 0
AllSaid P (call ∷ calls) (one ∷ said) = P call one × AllSaid P calls said
AllSaid P calls said = Unit {0}

-- nothing was said behind a call without an answer
abbrev pub EndsAtFault : List WasSaid → Type 0
EndsAtFault [] = Unit {0}
EndsAtFault (Ok a ∷ said) = EndsAtFault said
EndsAtFault (Err fault ∷ said) = said ≡ []
