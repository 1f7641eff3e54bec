-- What the replies of a connection are, read in pieces.
use Rattle.std.proofs.Common.{◌≡◌, ◌⊎◌, inl, inr, ⊎_elim, ℕ, List, [], ◌∷◌, ◌++◌, map, Option, None, Some, Result, Ok, Err, refl, sym, ◌∙◌, ap, subst, append_assoc}
use Rattle.std.proofs.lemmas.List.{append-nil}
use Rattle.std.specs.Io.KnownBytes.{Consumes, IsAtEnd}
use Rattle.std.proofs.KnownBytes.{Consumes-trans, Consumes-nil}
use Rattle.http_messages.specs.Messages.{AreMessages}
use Rattle.http_text.specs.Readers.{Decides, waiting}
use Rattle.http_text.specs.Taken.{GaveReplies, reply_messages}
use Rattle.http_heads.specs.declared.framing.FrameFault.{FrameFault}
use Rattle.http_heads.specs.declared.framing.FrameFault.TheVariants as frame
use Rattle.http_heads.specs.declared.message.Kind.TheVariants.{Replies}
use Rattle.http_heads.specs.declared.message.Message.{Message}
use Rattle.http_heads.specs.declared.message.RawReply.{RawReply}
use Rattle.http_text.specs.declared.reader.MessageReader.{MessageReader}
use Rattle.rpc_calls.specs.declared.call.Call.{Call}
use Rattle.delta_client.specs.declared.fault.AskFault.{AskFault}
use Rattle.delta_client.specs.declared.fault.AskFault.TheVariants as ask
use Rattle.rpc_answers.specs.declared.fault.AnswerFault.{AnswerFault}
use Rattle.rpc_answers.specs.declared.fault.AnswerFault.TheVariants as answers
use Rattle.rpc_answers.specs.Prints.{IsRefusedReply}
use Rattle.delta_client.specs.Asking.{BeginWith, EndShort, NextReplyIs, NoAnswer, of_answer, of_frame}

front_of : (xs ys : List Message) (bytes rest : List ℕ) → AreMessages Replies bytes (xs ++ ys) rest → (mid : List ℕ) × AreMessages Replies bytes xs mid
front_of [] ys bytes rest are = (bytes, refl)
front_of (x ∷ xs) ys bytes rest are = let more = front_of xs ys are.1 rest are.4 in (more.0, (are.0, are.1, are.2, are.3, more.1))

-- a reader that took replies was given bytes that begin with them
pub begin_with : (bytes : List ℕ) (taken : List RawReply) (reader : MessageReader) → GaveReplies bytes taken reader → BeginWith bytes taken
begin_with bytes taken reader gave = front_of (reply_messages taken) (waiting reader) bytes gave.0 gave.1

-- so far a connection was read
pub record HasRead (left now : Option (List ℕ)) (given : List ℕ) (taken : List RawReply) (reader : MessageReader) (fed : Result Unit FrameFault) : Type 0 where
  pub read : List ℕ
  pub consumed : Consumes left now read
  pub gave : GaveReplies (given ++ read) taken reader
  pub decides : Decides Replies (given ++ read) (reply_messages taken ++ waiting reader) fed

pub read_none : (left : Option (List ℕ)) (given : List ℕ) (taken : List RawReply) (reader : MessageReader) (fed : Result Unit FrameFault) → GaveReplies (given ++ []) taken reader → Decides Replies (given ++ []) (reply_messages taken ++ waiting reader) fed
    → HasRead left left given taken reader fed
read_none left given taken reader fed gave decides = record { read = []; consumed = Consumes-nil left; gave = gave; decides = decides }

pub read_more : (left now after : Option (List ℕ)) (given piece : List ℕ) (taken : List RawReply) (old new : MessageReader) (was fed : Result Unit FrameFault) → (has : HasRead left now given taken old was) → Consumes now after piece
    → GaveReplies ((given ++ has.read) ++ piece) taken new → Decides Replies ((given ++ has.read) ++ piece) (reply_messages taken ++ waiting new) fed → HasRead left after given taken new fed
read_more left now after given piece taken old new was fed has consumed gave decides =
    let same = append_assoc given has.read piece in
    record {
      read = has.read ++ piece;
      consumed = Consumes-trans left now after has.read piece has.consumed consumed;
      gave = subst (λ (bytes : List ℕ). GaveReplies bytes taken new) same gave;
      decides = subst (λ (bytes : List ℕ). Decides Replies bytes (reply_messages taken ++ waiting new) fed) same decides;
    }

none_wait : (taken : List RawReply) (reader : MessageReader) → waiting reader ≡ [] → reply_messages taken ++ waiting reader ≡ reply_messages taken
none_wait taken reader none = ap (λ (ms : List Message). reply_messages taken ++ ms) none ∙ append-nil (reply_messages taken)

-- ---- the ends

pub is_cut : (bytes : List ℕ) (taken : List RawReply) (reader : MessageReader) (fed : Result Unit FrameFault) (left : Option (List ℕ)) → waiting reader ≡ [] → fed ≡ Ok tt → Decides Replies bytes (reply_messages taken ++ waiting reader) fed → IsAtEnd left → EndShort bytes taken left
is_cut bytes taken reader fed left none well decides ends =
    let here : Decides {T = Unit} Replies bytes (reply_messages taken) (Ok tt) = subst (λ (r : Result Unit FrameFault). Decides Replies bytes (reply_messages taken) r) well (subst (λ (ms : List Message). Decides Replies bytes ms fed) (none_wait taken reader none) decides) in
    (here, ends)

pub is_faulty : (bytes : List ℕ) (taken : List RawReply) (left : Option (List ℕ)) (reader new : MessageReader) (fault : FrameFault) → waiting reader ≡ [] → Decides {T = Unit} Replies bytes (reply_messages taken ++ waiting reader) (Err fault) → NextReplyIs bytes taken left new (Err (of_frame fault))
is_faulty bytes taken left reader new fault none decides =
    by_kind fault (subst (λ (ms : List Message). Decides {T = Unit} Replies bytes ms (Err fault)) (none_wait taken reader none) decides)
  where
    by_kind : (fault : FrameFault) → Decides {T = Unit} Replies bytes (reply_messages taken) (Err fault) → NextReplyIs bytes taken left new (Err (of_frame fault))
    by_kind frame.OutOfMemory decides = tt
    by_kind frame.BadHead decides = ((frame.BadHead, decides), refl)
    by_kind frame.TooManyFields decides = ((frame.TooManyFields, decides), refl)
    by_kind frame.HeadTooLong decides = ((frame.HeadTooLong, decides), refl)
    by_kind frame.BadHost decides = ((frame.BadHost, decides), refl)
    by_kind frame.TwoLengths decides = ((frame.TwoLengths, decides), refl)
    by_kind frame.BadLength decides = ((frame.BadLength, decides), refl)
    by_kind (frame.BodyTooLong length limit) decides = ((frame.BodyTooLong length limit, decides), refl)
    by_kind frame.BadChunk decides = ((frame.BadChunk, decides), refl)

-- a read that gave nothing
pub consumed_none : (a b c : Option (List ℕ)) (read piece : List ℕ) (count : ℕ) → Consumes a b read → Consumes b c (Rattle.std.proofs.Common.take count piece) → count ≡ 0 → Consumes a c read
consumed_none a b c read piece count one other none =
    let nothing : Consumes b c [] = subst (λ (n : ℕ). Consumes b c (Rattle.std.proofs.Common.take n piece)) none other in
    subst (λ (bytes : List ℕ). Consumes a c bytes) (append-nil read) (Consumes-trans a b c read [] one nothing)

-- ---- the answers of replies

pub no_answer : (call : Call) (bytes : List ℕ) (taken : List RawReply) (left : Option (List ℕ)) (reader : MessageReader) (fault : AskFault) → NextReplyIs bytes taken left reader (Err fault) → NoAnswer call bytes taken left fault
no_answer call bytes taken left reader ask.LinkFault is = tt
no_answer call bytes taken left reader ask.CutShort is = is
no_answer call bytes taken left reader (ask.NotUnderstood at) is = inl is
no_answer call bytes taken left reader ask.OutOfMemory is = tt

pub refused : (call : Call) (bytes : List ℕ) (taken : List RawReply) (left : Option (List ℕ)) (reply : RawReply) (fault : AnswerFault) → BeginWith bytes (taken ++ reply ∷ []) → IsRefusedReply reply fault
    → NoAnswer call bytes taken left (of_answer fault)
refused call bytes taken left reply (answers.NotUnderstood at) begin is = inr (inl (reply, begin, is))
refused call bytes taken left reply answers.OutOfMemory begin is = tt
