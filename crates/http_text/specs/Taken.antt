-- What callers have taken of a reader.
use Rattle.std.specs.Prelude.{ℕ, true, List, [], ◌∷◌, ◌++◌, map, Option, Some, None}
use Rattle.http_messages.specs.Messages.{AreMessages, BeginsWithGoodHead}
use Rattle.http_text.specs.Readers.{ReaderStandsFor}
use Rattle.http_heads.specs.declared.message.Kind.{Kind}
use Rattle.http_heads.specs.declared.message.Kind.TheVariants.{Requests, Replies}
use Rattle.http_heads.specs.declared.message.Message.{Message}
use Rattle.http_heads.specs.declared.message.Message.TheVariants as forms
use Rattle.http_heads.specs.declared.message.RawRequest.{RawRequest}
use Rattle.http_heads.specs.declared.message.RawReply.{RawReply}
use Rattle.http_text.specs.declared.reader.MessageReader.{MessageReader}

-- requests and replies as messages
abbrev pub request_messages : List RawRequest → List Message
request_messages requests = map forms.Request requests

abbrev pub reply_messages : List RawReply → List Message
reply_messages replies = map forms.Reply replies

-- the reader was given these bytes, and of their requests these were taken
abbrev pub GaveRequests : List ℕ → List RawRequest → MessageReader → Type 0
GaveRequests bytes taken reader = ReaderStandsFor Requests bytes (request_messages taken) reader

-- and the same of replies
abbrev pub GaveReplies : List ℕ → List RawReply → MessageReader → Type 0
GaveReplies bytes taken reader = ReaderStandsFor Replies bytes (reply_messages taken) reader

-- behind the messages taken stand what is passed over and a whole head without a fault, which asks
-- for 100 Continue
abbrev pub AsksBehind : Kind → List ℕ → List Message → Type 0
AsksBehind kind bytes taken =
    (rest : List ℕ) × AreMessages kind bytes taken rest × BeginsWithGoodHead kind rest true

abbrev pub AsksAtFront : List ℕ → List RawRequest → Type 0
AsksAtFront bytes taken = AsksBehind Requests bytes (request_messages taken)

-- what was taken after a call of take
abbrev pub taken_after : {T : Type 0} → List T → Option T → List T
taken_after taken None = taken
taken_after taken (Some one) = taken ++ one ∷ []
