-- Calls one after another, over as many connections as it takes.
use Rattle.std.specs.Prelude.{◌≡◌, ◌⊎◌, ℕ, List, [], ◌∷◌, ◌++◌, Option}
use Rattle.std.specs.Prelude.{Some, None, Result, Ok, Err, MatchBool}
use Rattle.std.specs.Io.KnownBytes.{Appends, Consumes}
use Rattle.http_text.specs.Taken.{GaveReplies}
use Rattle.http_heads.specs.declared.message.RawReply.{RawReply}
use Rattle.rpc_answers.specs.declared.answer.Answer.{Answer}
use Rattle.rpc_answers.specs.Prints.{IsPrintOf}
use Rattle.rpc_calls.specs.declared.call.Call.{Call}
use Rattle.delta_client.specs.declared.fault.AskFault.{AskFault}
use Rattle.delta_client.specs.declared.fault.AskFault.TheVariants.{LinkFault, OutOfMemory}
use Rattle.delta_client.specs.declared.line.Open.{Open}
use Rattle.delta_client.specs.Asking.{BeginWith, NoAnswer, SendsFirst, SentFor, call_text}
use Rattle.delta_client.specs.Kinds.{MayAnswer}

-- a connection: as it came, as it is, and the replies that were read of it
pub record Connection (L : Type 0) : Type 0 where
  pub came : L
  pub now : L
  pub replies : List RawReply

-- what is told of a dial: the connections to come, the addresses of those made, and those hung up
pub record Links (L : Type 0) : Type 0 where
  pub to_come : List L
  pub addresses : List (List ℕ)
  pub back : List L

abbrev pub told_of : {L : Type 0} → List L → List (List ℕ) → List L → Links L
told_of to_come addresses back = record { to_come = to_come; addresses = addresses; back = back }

-- a connection that was just made
abbrev pub fresh : {L : Type 0} → L → Connection L
fresh link = record { came = link; now = link; replies = [] }

-- a connection behind one reply more, as it is then
abbrev pub behind_reply : {L : Type 0} → Connection L → L → RawReply → Connection L
behind_reply connection link reply = record {
  came = connection.came;
  now = link;
  replies = connection.replies ++ reply ∷ [];
}

-- the link of what is open, where something is
abbrev pub links_in : {L : Type 0} → Option (Open L) → List L
links_in None = []
links_in (Some talk) = talk.link ∷ []

-- how many connections are open
abbrev pub opens : {L : Type 0} → Option (Open L) → ℕ
opens None = 0
opens (Some talk) = 1

-- the connection was hung up as it was then, and nothing is open
abbrev pub IsHungUp : {L : Type 0} → L → Links L → Links L → Option (Open L) → Type 0
IsHungUp link made after line =
    (after ≡ record made { back = made.back ++ link ∷ [] }) × (line ≡ None)

-- a call goes over the connection that stands, or over the first of those to come
abbrev pub GoesOver : {L : Type 0} → List ℕ → Option (Connection L) → Links L → Connection L
    → Links L → Type 0
GoesOver address (Some standing) before over made = (over ≡ standing) × (made ≡ before)
GoesOver {L} address None before over made =
    (link : L) × (rest : List L) × (before.to_come ≡ link ∷ rest) × (over ≡ fresh link)
    × (made ≡ told_of rest (before.addresses ++ address ∷ []) before.back)

-- no connection stood, and none could be made
abbrev pub IsNotMade : {L : Type 0} → Option (Connection L) → Links L → Links L → Option (Open L)
    → Result Answer AskFault → Type 0
IsNotMade standing before after line result =
    (standing ≡ None) × (after ≡ before) × (line ≡ None)
    × ((result ≡ Err LinkFault) ⊎ (result ≡ Err OutOfMemory))

module _ {L : Type 0} (left : L → Option (List ℕ)) where
  -- the reader of what is open was given what was consumed of the connection
  abbrev pub ConnectionStands : Connection L → Open L → Type 0
  ConnectionStands connection talk =
      (talk.link ≡ connection.now)
      × ((given : List ℕ) × Consumes (left connection.came) (left connection.now) given
      × GaveReplies given connection.replies talk.reader)

  -- this connection is open, or none
  abbrev pub IsOpen : Option (Connection L) → Option (Open L) → Type 0
  IsOpen None None = Unit {0}
  IsOpen (Some connection) (Some talk) = ConnectionStands connection talk
  IsOpen None (Some talk) = ⊥
  IsOpen (Some connection) None = ⊥

  -- no connection stood, and the next one was made and is open
  abbrev pub IsBegun : List ℕ → Links L → Links L → Option (Open L) → Type 0
  IsBegun address before made line =
      (over : Connection L) × GoesOver address None before over made × IsOpen (Some over) line

  -- a connection behind a reply: it stays open, or it is hung up where the reply closes
  abbrev pub IsBehindReply : Connection L → L → RawReply → Links L → Links L
      → Option (Open L) → Type 0
  IsBehindReply over link reply made after line =
      MatchBool reply.close
      (IsHungUp link made after line)
      ((after ≡ made) × IsOpen (Some (behind_reply over link reply)) line)

module _ {L : Type 0} (left sent : L → Option (List ℕ)) where
  -- A call's text was sent over the connection, whose link then is this one, and the answer is what
  -- the next reply prints; or there is no answer, so much was sent as that fault leaves, and the
  -- connection is hung up.
  abbrev pub AnswersOver : List ℕ → Call → Connection L → L → Links L → Links L → Option (Open L)
      → Result Answer AskFault → Type 0
  AnswersOver host call over link made after line (Ok answer) =
      (read : List ℕ) × (reply : RawReply) × Consumes (left over.came) (left link) read
      × BeginWith read (over.replies ++ reply ∷ []) × IsPrintOf reply answer
      × MayAnswer call answer × Appends (sent over.now) (sent link) (call_text host call)
      × IsBehindReply left over link reply made after line
  AnswersOver host call over link made after line (Err fault) =
      (read : List ℕ) × Consumes (left over.came) (left link) read
      × NoAnswer call read over.replies (left link) fault
      × SentFor fault (sent over.now) (sent link) (call_text host call)
      × SendsFirst (left over.now) (left link) (sent over.now) (sent link) (call_text host call)
      × IsHungUp link made after line

  -- the call went over a connection and was answered so, or no connection could be made
  abbrev pub Over : List ℕ → Call → Option (Connection L) → Links L → Links L → Option (Open L)
      → Result Answer AskFault → Type 0
  Over address call standing before after line result =
      ((over : Connection L) × (made : Links L) × (link : L)
      × GoesOver address standing before over made
      × AnswersOver address call over link made after line result)
      ⊎ IsNotMade standing before after line result
