-- What one call says of the bytes of its connection.
use Rattle.std.specs.Prelude.{◌≡◌, ◌⊎◌, ℕ, List, [], ◌∷◌, ◌++◌, Option, Result, Ok, Err}
use Rattle.std.specs.Io.KnownBytes.{Appends, IsAtEnd}
use Rattle.http_messages.specs.Messages.{ReadsMessages, AreMessages, between, inside, faulty}
use Rattle.http_text.specs.Print.{request_text}
use Rattle.http_text.specs.Taken.{GaveReplies, reply_messages}
use Rattle.http_heads.specs.declared.framing.FrameFault.{FrameFault}
use Rattle.http_heads.specs.declared.framing.FrameFault.TheVariants as frame
use Rattle.http_heads.specs.declared.message.Kind.TheVariants.{Replies}
use Rattle.http_heads.specs.declared.message.RawReply.{RawReply}
use Rattle.http_text.specs.declared.reader.MessageReader.{MessageReader}
use Rattle.rpc_answers.specs.declared.answer.Answer.{Answer}
use Rattle.rpc_answers.specs.declared.fault.AnswerFault.{AnswerFault}
use Rattle.rpc_answers.specs.declared.fault.AnswerFault.TheVariants as answers
use Rattle.rpc_answers.specs.Answers.{status_of}
use Rattle.rpc_answers.specs.Prints.{IsPrintOf, IsNoAnswer}
use Rattle.rpc_calls.specs.declared.call.Call.{Call}
use Rattle.rpc_calls.specs.Requests.{request_for}
use Rattle.sink_writing.specs.Writing.{AppendsFront}
use Rattle.delta_client.specs.declared.fault.AskFault.{AskFault}
use Rattle.delta_client.specs.declared.fault.AskFault.TheVariants.{LinkFault, CutShort}
use Rattle.delta_client.specs.declared.fault.AskFault.TheVariants.{NotUnderstood, OutOfMemory}
use Rattle.delta_client.specs.declared.asking.Asked.{Asked}
use Rattle.delta_client.specs.Kinds.{IsAnswerTo, MayAnswer}

-- the text of a call's request to a host
abbrev pub call_text : List ℕ → Call → List ℕ
call_text host call = request_text (request_for call) host

-- ---- what was sent

-- nothing was read, or the whole text was sent
abbrev pub SendsFirst : Option (List ℕ) → Option (List ℕ) → Option (List ℕ) → Option (List ℕ)
    → List ℕ → Type 0
SendsFirst left left' sent sent' text = (left' ≡ left) ⊎ Appends sent sent' text

-- what was sent of the text of a call without an answer: all of it, unless the link failed or
-- memory was wanting
abbrev pub SentFor : AskFault → Option (List ℕ) → Option (List ℕ) → List ℕ → Type 0
SentFor LinkFault old new text = AppendsFront old new text
SentFor CutShort old new text = Appends old new text
SentFor (NotUnderstood at) old new text = Appends old new text
SentFor OutOfMemory old new text = AppendsFront old new text

-- ---- faults

abbrev pub of_answer : AnswerFault → AskFault
of_answer (answers.NotUnderstood at) = NotUnderstood at
of_answer answers.OutOfMemory = OutOfMemory

abbrev pub of_frame : FrameFault → AskFault
of_frame frame.OutOfMemory = OutOfMemory
of_frame other = NotUnderstood 0

-- ---- the next reply

-- the bytes begin with these replies
abbrev pub BeginWith : List ℕ → List RawReply → Type 0
BeginWith bytes replies = (rest : List ℕ) × AreMessages Replies bytes (reply_messages replies) rest

-- behind the replies taken the bytes end between two replies or inside one, and the connection has
-- no byte left
abbrev pub EndShort : List ℕ → List RawReply → Option (List ℕ) → Type 0
EndShort bytes taken left =
    (ReadsMessages Replies bytes (reply_messages taken) between
    ⊎ ReadsMessages Replies bytes (reply_messages taken) inside) × IsAtEnd left

-- behind the replies taken the bytes begin no reply
abbrev pub BeginNone : List ℕ → List RawReply → Type 0
BeginNone bytes taken =
    (fault : FrameFault) × ReadsMessages Replies bytes (reply_messages taken) (faulty fault)

-- The next reply of the bytes behind those taken, or why there is none. A failing link and want of
-- memory are free.
abbrev pub NextReplyIs : List ℕ → List RawReply → Option (List ℕ) → MessageReader
    → Result RawReply AskFault → Type 0
NextReplyIs bytes taken left reader (Ok reply) =
    BeginWith bytes (taken ++ reply ∷ []) × GaveReplies bytes (taken ++ reply ∷ []) reader
NextReplyIs bytes taken left reader (Err CutShort) = EndShort bytes taken left
NextReplyIs bytes taken left reader (Err (NotUnderstood at)) = BeginNone bytes taken × (at ≡ 0)
NextReplyIs bytes taken left reader (Err LinkFault) = Unit {0}
NextReplyIs bytes taken left reader (Err OutOfMemory) = Unit {0}

-- ---- the answer

-- the next reply prints an answer of status 200 that is not of the call's kind
abbrev pub BeginOther : Call → List ℕ → List RawReply → Type 0
BeginOther call bytes taken =
    (reply : RawReply) × (a : Answer) × BeginWith bytes (taken ++ reply ∷ [])
    × IsPrintOf reply a × (status_of a ≡ 200) × (IsAnswerTo call a → ⊥)

-- The next reply prints no answer, or another one than the call takes, or there is none. A failing
-- link and want of memory are free.
abbrev pub NoAnswer : Call → List ℕ → List RawReply → Option (List ℕ) → AskFault → Type 0
NoAnswer call bytes taken left CutShort = EndShort bytes taken left
NoAnswer call bytes taken left (NotUnderstood at) =
    (BeginNone bytes taken × (at ≡ 0))
    ⊎ ((reply : RawReply) × BeginWith bytes (taken ++ reply ∷ []) × IsNoAnswer reply at)
    ⊎ (BeginOther call bytes taken × (at ≡ 0))
NoAnswer call bytes taken left LinkFault = Unit {0}
NoAnswer call bytes taken left OutOfMemory = Unit {0}

-- the answer that the next reply prints, which the call takes, or why there is none
abbrev pub AnswerIs : Call → List ℕ → List RawReply → Option (List ℕ) → MessageReader
    → Result Asked AskFault → Type 0
AnswerIs call bytes taken left reader (Ok asked) =
    (reply : RawReply) × BeginWith bytes (taken ++ reply ∷ [])
    × GaveReplies bytes (taken ++ reply ∷ []) reader
    × IsPrintOf reply asked.answer × (asked.close ≡ reply.close)
    × MayAnswer call asked.answer
AnswerIs call bytes taken left reader (Err fault) = NoAnswer call bytes taken left fault
