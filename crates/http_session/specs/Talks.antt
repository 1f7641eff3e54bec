-- What a session has read and written when it ends, and why it ends.
use Rattle.std.specs.Prelude.{◌≡◌, ◌≢◌, ◌⊎◌, ℕ, ◌<◌, ◌≤◌, true, false, List}
use Rattle.std.specs.Prelude.{[], ◌∷◌, ◌++◌, length, Option, All}
use Rattle.std.specs.Io.KnownBytes.{Appends, Consumes, IsAtEnd}
use Rattle.delta_base.specs.Outside.{Rose}
use mathlib.Core.List.{IsPrefix}
use Rattle.http_messages.specs.Messages.{AreMessages, BeginsWithGoodHead}
use Rattle.http_messages.specs.Messages.{EndsAs, IsFrameFault, between, inside}
use Rattle.http_text.specs.Taken.{request_messages}
use Rattle.http_heads.specs.declared.framing.FrameFault.{FrameFault}
use Rattle.http_heads.specs.declared.message.Kind.TheVariants.{Requests}
use Rattle.http_heads.specs.declared.message.RawRequest.{RawRequest}
use Rattle.http_text.specs.declared.session.SessionEnd.{SessionEnd}
use Rattle.http_text.specs.declared.session.SessionEnd.TheVariants.{Closed, Asked, Spent}
use Rattle.http_text.specs.declared.session.SessionEnd.TheVariants.{Refused, CutShort}
use Rattle.http_text.specs.declared.session.SessionEnd.TheVariants.{LinkFault, OutOfMemory}
use Rattle.http_session.specs.declared.answerer.Said.{Said}
use Rattle.http_heads.specs.Faults.{frame_status}
use Rattle.http_session.specs.Texts.{continue_text, continue_line, refusal_text}
use Rattle.http_session.specs.Output.{Exchange, requests_of, most_requests, output, AnswerChain}

-- ---- why it ends

-- none of the requests closes, and another one may come
pub record GoOn (requests : List RawRequest) : Type 0 where
  pub stays : All (λ r. r.close ≡ false) requests
  pub few : length requests < most_requests

-- the last request is such a one, and those before it let the session go on
abbrev pub LastIs : (RawRequest → Type 0) → List RawRequest → Type 0
LastIs P requests = (front : List RawRequest) × (last : RawRequest)
    × (requests ≡ front ++ last ∷ []) × GoOn front × P last

-- the session ends so behind these requests, the first of those that were read, and this rest
abbrev pub EndsBehind : List RawRequest → List ℕ → SessionEnd → Type 0
EndsBehind requests rest Closed = GoOn requests × EndsAs Requests rest between
EndsBehind requests rest CutShort = GoOn requests × EndsAs Requests rest inside
EndsBehind requests rest (Refused status) = GoOn requests
    × ((fault : FrameFault) × IsFrameFault Requests rest fault × (status ≡ frame_status fault))
EndsBehind requests rest Asked = LastIs (λ last. last.close ≡ true) requests
EndsBehind requests rest Spent =
    LastIs (λ last. last.close ≡ false) requests × (length requests ≡ most_requests)
EndsBehind requests rest LinkFault = GoOn requests ⊎ LastIs (λ last. Unit {0}) requests
EndsBehind requests rest OutOfMemory = GoOn requests ⊎ LastIs (λ last. Unit {0}) requests

-- ---- what was written

-- the continue line, where a head at the front of the rest asks for it
abbrev pub IsContinue : List ℕ → List ℕ → Type 0
IsContinue rest line = ((line ≡ continue_text) × BeginsWithGoodHead Requests rest true)
    ⊎ ((line ≡ []) × ¬ (BeginsWithGoodHead Requests rest true))

-- what follows the replies where no request ended the session: the continue line of the rest, and
-- the refusal of its fault
abbrev pub FollowsReplies : List ℕ → List ℕ → Type 0
FollowsReplies rest text =
    IsContinue rest text
    ⊎ ((line : List ℕ) × (fault : FrameFault) × IsContinue rest line
    × IsFrameFault Requests rest fault × (text ≡ line ++ refusal_text fault))

-- what was written where the session ends so
abbrev pub Writes : List Exchange → List ℕ → List ℕ → SessionEnd → Type 0
Writes exchanges rest written Closed = written ≡ output exchanges
Writes exchanges rest written Asked = written ≡ output exchanges
Writes exchanges rest written Spent = written ≡ output exchanges
Writes exchanges rest written CutShort =
    (line : List ℕ) × IsContinue rest line × (written ≡ output exchanges ++ line)
Writes exchanges rest written (Refused status) =
    (line : List ℕ) × (fault : FrameFault) × IsContinue rest line × IsFrameFault Requests rest fault
    × (written ≡ output exchanges ++ (line ++ refusal_text fault))
-- A front of all that would be written.
Writes exchanges rest written LinkFault =
    IsPrefix written (output exchanges)
    ⊎ (GoOn (requests_of exchanges)
    × ((text : List ℕ) × FollowsReplies rest text × IsPrefix written (output exchanges ++ text)))
-- All replies, and the continue line of the rest may follow; or all but the last reply.
Writes exchanges rest written OutOfMemory =
    (written ≡ output exchanges)
    ⊎ ((GoOn (requests_of exchanges) × BeginsWithGoodHead Requests rest true
    × (written ≡ output exchanges ++ continue_text))
    ⊎ ((front : List Exchange) × (last : Exchange) × (exchanges ≡ front ++ last ∷ [])
    × (written ≡ output front ++ continue_line last.request.expects)))

-- ---- the whole

-- what the answerer said to the first of the requests read, from one state to the other, and what
-- was written of it
pub record Talks {S : Type 0} (answers : S → RawRequest → Said → S → Type 0)
    (before after : S) (read written : List ℕ) (end : SessionEnd) : Type 0 where
  pub exchanges : List Exchange
  pub answered : AnswerChain answers before exchanges after
  pub rest : List ℕ
  pub requests : AreMessages Requests read (request_messages (requests_of exchanges)) rest
  pub ends : EndsBehind (requests_of exchanges) rest end
  pub writes : Writes exchanges rest written end

-- what there is at a moment: the answerer's state, what the link has left to be read, what was sent
-- on it, and its count of faults
pub record Moment (S : Type 0) : Type 0 where
  pub state : S
  pub left : Option (List ℕ)
  pub sent : Option (List ℕ)
  pub faults : ℕ

abbrev pub moment_of : {S : Type 0} → S → Option (List ℕ) → Option (List ℕ) → ℕ → Moment S
moment_of state left sent faults =
    record { state = state; left = left; sent = sent; faults = faults }

-- from one moment to the other: what the link had to be read and hasn't now, and what
-- was sent since
abbrev pub TalksOn : {S : Type 0} → (S → RawRequest → Said → S → Type 0)
    → Moment S → Moment S → SessionEnd → Type 0
TalksOn answers from to end =
    (read : List ℕ) × (written : List ℕ) × Consumes from.left to.left read
    × Appends from.sent to.sent written × Talks answers from.state to.state read written end

-- at these ends no byte is left
abbrev pub IsDrained : Option (List ℕ) → SessionEnd → Type 0
IsDrained left Closed = IsAtEnd left
IsDrained left CutShort = IsAtEnd left
IsDrained left end = Unit {0}

-- all replies were written, and what may follow them
abbrev pub AnswersAll : List Exchange → List ℕ → Type 0
AnswersAll exchanges written = (tail : List ℕ) × (written ≡ output exchanges ++ tail)

-- A connection was served: what was read and what was written of it, and why it ended. It has no
-- byte left where it was closed or cut short, and its link failed where that is told. So unless its
-- link failed or memory ran out, each request that was read was answered.
pub record Conversed {S : Type 0} (answers : S → RawRequest → Said → S → Type 0)
    (from to : Moment S) (end : SessionEnd) : Type 0 where
  pub talks : TalksOn answers from to end
  pub drained : IsDrained to.left end
  pub failed : end ≡ LinkFault → Rose from.faults to.faults
  pub complete :
      (Rose from.faults to.faults → ⊥) → end ≢ OutOfMemory → AnswersAll talks.4.exchanges talks.1
  pub never_falls : from.faults ≤ to.faults
