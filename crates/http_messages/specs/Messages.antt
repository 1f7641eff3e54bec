-- The messages of a stream, requests or replies, and how it ends.
use Rattle.std.specs.Prelude.{◌≡◌, ◌≢◌, ◌⊎◌, ◌≤◌, ◌==◌, ℕ, Bool, false, List, [], ◌∷◌, ◌++◌}
use Rattle.std.specs.Prelude.{length, take, drop, Result, Ok, Err, codes, nat_eq, if◌then◌else◌}
use Rattle.std.specs.List.{starts_with}
use Rattle.httparse.specs.Grammar.{RequestHead, ResponseHead, status_code}
use Rattle.http_heads.specs.Heads.{Head, request, reply, print_head, fields_of, minor_of}
use Rattle.http_heads.specs.Heads.{most_fields, ReadsHead, HasNoHead, HasTooManyFields}
use Rattle.http_heads.specs.Heads.{IsBadHead, is_interim, PassesOver, room_behind}
use Rattle.http_heads.specs.Fields.{rows_of, values_of, first_of, closes}
use Rattle.http_heads.specs.Framing.{framing_of, expects}
use Rattle.http_messages.specs.Chunks.{ChunkedBody, IsChunkedBody}
use Rattle.http_messages.specs.Chunks.{print_chunked, data_of, IsChunkedFault}
use Rattle.http_heads.specs.declared.framing.FrameFault.{FrameFault}
use Rattle.http_heads.specs.declared.framing.FrameFault.TheVariants.{BadHead, TooManyFields}
use Rattle.http_heads.specs.declared.framing.FrameFault.TheVariants.{HeadTooLong, OutOfMemory}
use Rattle.http_heads.specs.declared.framing.Framing.{Framing}
use Rattle.http_heads.specs.declared.framing.Framing.TheVariants.{Sized, Chunked}
use Rattle.http_heads.specs.declared.message.Kind.{Kind}
use Rattle.http_heads.specs.declared.message.Kind.TheVariants.{Requests, Replies}
use Rattle.http_heads.specs.declared.message.Message.{Message}
use Rattle.http_heads.specs.declared.message.Message.TheVariants as forms
use Rattle.http_heads.specs.declared.message.RawRequest.{RawRequest}
use Rattle.http_heads.specs.declared.message.RawReply.{RawReply}

-- ---- one message

-- the target up to its query
abbrev pub before_query : List ℕ → List ℕ
before_query [] = []
before_query (byte ∷ target) = if byte == 63 then [] else byte ∷ before_query target

-- from the first slash on, or a slash where there is none
abbrev pub from_slash : List ℕ → List ℕ
from_slash [] = codes "/"
from_slash (byte ∷ target) = if byte == 47 then byte ∷ target else from_slash target

-- the target up to its query; of an absolute one what follows its authority
abbrev pub path_of : List ℕ → List ℕ
path_of target =
    let whole = before_query target in
    if starts_with nat_eq whole (codes "http://") then from_slash (drop 7 whole) else whole

-- the request that a head and a body make
abbrev pub request_of : RequestHead → List ℕ → RawRequest
request_of head body = record {
  method = head.method;
  path = path_of head.target;
  http10 = head.minor == 0;
  close = closes head.minor (rows_of head.fields);
  expects = expects head.minor (rows_of head.fields);
  content_type = first_of (values_of (codes "content-type") (rows_of head.fields));
  encoding = first_of (values_of (codes "content-encoding") (rows_of head.fields));
  body = body;
}

-- and the reply
abbrev pub reply_of : ResponseHead → List ℕ → RawReply
reply_of head body = record {
  status = status_code head;
  close = closes head.minor (rows_of head.fields);
  content_type = first_of (values_of (codes "content-type") (rows_of head.fields));
  body = body;
}

abbrev pub message_of : Head → List ℕ → Message
message_of (request head) body = forms.Request (request_of head body)
message_of (reply head) body = forms.Reply (reply_of head body)

-- whether a head asks for 100 Continue
abbrev pub head_expects : Head → Bool
head_expects (request head) = expects head.minor (rows_of head.fields)
head_expects (reply head) = false

-- the kind of a head
abbrev pub kind_of_head : Head → Kind
kind_of_head (request head) = Requests
kind_of_head (reply head) = Replies

-- the framing of the body behind a head, or the head's first fault
abbrev pub framing_behind : Head → Result Framing FrameFault
framing_behind head = framing_of (kind_of_head head) (minor_of head) (rows_of (fields_of head))

-- the text begins with a head within the limits, of which so many bytes are left
pub record BeginsWithHead (kind : Kind) (room : ℕ) (text : List ℕ)
    (head : Head) (behind : List ℕ) : Type 0 where
  pub reads : ReadsHead kind text head behind
  pub short : length (print_head head) ≤ room
  pub few : length (fields_of head) ≤ most_fields
  pub final : is_interim head ≡ false

-- the text begins with what is passed over and a whole head without a fault, which asks for 100
-- Continue or doesn't
pub record BeginsWithGoodHead (kind : Kind) (text : List ℕ) (asks : Bool) : Type 0 where
  pub passed : List Head
  pub from : List ℕ
  pub passes : PassesOver kind text passed from
  pub head : Head
  pub behind : List ℕ
  pub begins : BeginsWithHead kind (room_behind passed) from head behind
  pub framing : Framing
  pub faultless : framing_behind head ≡ Ok framing
  pub asks_is : head_expects head ≡ asks

-- the text is that body, by its framing
abbrev pub IsBody : Framing → List ℕ → List ℕ → Type 0
IsBody (Sized size) text body = (length text ≡ size) × (body ≡ text)
IsBody Chunked text body =
    (b : ChunkedBody) × IsChunkedBody b × (text ≡ print_chunked b) × (body ≡ data_of b.chunks)

-- the text is that message: what is passed over, a head without a fault, and the body behind it
pub record IsMessage (kind : Kind) (text : List ℕ) (message : Message) : Type 0 where
  pub passed : List Head
  pub from : List ℕ
  pub passes : PassesOver kind text passed from
  pub head : Head
  pub behind : List ℕ
  pub begins : BeginsWithHead kind (room_behind passed) from head behind
  pub framing : Framing
  pub faultless : framing_behind head ≡ Ok framing
  pub body : List ℕ
  pub is_body : IsBody framing behind body
  pub is_message : message ≡ message_of head body

-- ---- faults

-- the fault of what stands behind a head, by the framing
abbrev pub IsBodyFault : Framing → List ℕ → FrameFault → Type 0
IsBodyFault (Sized size) text fault = ⊥
IsBodyFault Chunked text fault = IsChunkedFault text fault

-- the text begins with a head, and this is the head's first fault, or else the body's
abbrev pub IsFaultOfHead : Kind → ℕ → List ℕ → FrameFault → Type 0
IsFaultOfHead kind room text fault =
    (head : Head) × (behind : List ℕ) × BeginsWithHead kind room text head behind
    × ((framing_behind head ≡ Err fault)
    ⊎ ((framing : Framing) × (framing_behind head ≡ Ok framing) × IsBodyFault framing behind fault))

-- the fault of a text whose head may have so many bytes
abbrev pub IsFaultAt : Kind → ℕ → List ℕ → FrameFault → Type 0
IsFaultAt kind room text TooManyFields = HasTooManyFields kind (take room text)
IsFaultAt kind room text BadHead = IsBadHead kind (take room text)
IsFaultAt kind room text HeadTooLong =
    (room ≤ length text) × HasNoHead kind (take room text) × ¬ (IsBadHead kind (take room text))
IsFaultAt kind room text OutOfMemory = ⊥
IsFaultAt kind room text fault = IsFaultOfHead kind room text fault

-- the fault of the rest behind the last whole message
abbrev pub IsFrameFault : Kind → List ℕ → FrameFault → Type 0
IsFrameFault kind rest fault =
    (passed : List Head) × (text : List ℕ) × PassesOver kind rest passed text
    × IsFaultAt kind (room_behind passed) text fault

-- ---- streams

-- the bytes are these messages, one behind the other, and then the rest
abbrev pub AreMessages : Kind → List ℕ → List Message → List ℕ → Type 0
AreMessages kind bytes [] rest = bytes ≡ rest
AreMessages kind bytes (message ∷ messages) rest =
    (text : List ℕ) × (more : List ℕ) × (bytes ≡ text ++ more) × IsMessage kind text message
    × AreMessages kind more messages rest

-- no message stands at the front
abbrev pub BeginsNoMessage : Kind → List ℕ → Type 0
BeginsNoMessage kind rest =
    (text more : List ℕ) (message : Message) → IsMessage kind text message → rest ≡ text ++ more → ⊥

-- how a stream ends
pub data End : Type 0 where
  between inside : End
  faulty : FrameFault → End

abbrev pub EndsAs : Kind → List ℕ → End → Type 0
EndsAs kind rest between = rest ≡ []
EndsAs kind rest (faulty fault) = IsFrameFault kind rest fault
EndsAs kind rest inside = (rest ≢ []) × BeginsNoMessage kind rest
    × ((fault : FrameFault) → ¬ (IsFrameFault kind rest fault))

-- the bytes are these messages, and what is behind them ends so
abbrev pub ReadsMessages : Kind → List ℕ → List Message → End → Type 0
ReadsMessages kind bytes messages end =
    (rest : List ℕ) × AreMessages kind bytes messages rest × EndsAs kind rest end
