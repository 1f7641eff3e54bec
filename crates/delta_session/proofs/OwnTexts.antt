-- What a session writes by itself, as prints of answers.
use Rattle.std.proofs.Common.{◌≡◌, ◌≢◌, ◌∙◌, ℕ, ◌++◌, List, Bool, true, None, codes, refl, ap, sym}
use Rattle.serde_json.proofs.OnLiterals.{serde_json_on_literals}
use Rattle.http_heads.specs.Faults.{frame_name, frame_status}
use Rattle.http_text.specs.Print.{reply_text}
use Rattle.http_heads.specs.declared.framing.FrameFault.{FrameFault}
use Rattle.http_heads.specs.declared.framing.FrameFault.TheVariants as frame
use Rattle.http_heads.specs.declared.message.RawReply.{RawReply}
use Rattle.http_session.specs.Texts.{json_reply, memory_text, refusal_text}
use Rattle.rpc_answers.specs.declared.answer.Answer.TheVariants as answer
use Rattle.rpc_answers.specs.Answers.{body_of, status_of}
use Rattle.rpc_answers.specs.Prints.{IsCompactPrintOf, compact}

is_memory : (reply : RawReply) (close : Bool) → IsCompactPrintOf reply answer.OutOfMemory close
    → reply ≡ json_reply 503 close (codes "{\"error\":\"out_of_memory\"}")
unfolding serde_json_on_literals
is_memory reply close is = λ i. record { status = is.status i; close = is.closes i; content_type = is.media i; body = is.body i }

pub memory_said : (reply : RawReply) (close : Bool) → IsCompactPrintOf reply answer.OutOfMemory close
    → memory_text close ≡ reply_text reply None
memory_said reply close is = ap (λ (r : RawReply). reply_text r None) (sym (is_memory reply close is))

abbrev refusal_body : FrameFault → List ℕ
refusal_body fault = codes "{\"error\":\"bad_request\",\"kind\":\"" ++ (frame_name fault ++ codes "\"}")

its_body : (fault : FrameFault) → compact (body_of (answer.BadRequest (frame_name fault))) ≡ refusal_body fault
unfolding serde_json_on_literals
its_body frame.BadHead = refl
its_body frame.TooManyFields = refl
its_body frame.HeadTooLong = refl
its_body frame.BadHost = refl
its_body frame.TwoLengths = refl
its_body frame.BadLength = refl
its_body (frame.BodyTooLong length limit) = refl
its_body frame.BadChunk = refl
its_body frame.OutOfMemory = refl

its_status : (fault : FrameFault) → fault ≢ frame.OutOfMemory → status_of (answer.BadRequest (frame_name fault)) ≡ frame_status fault
its_status frame.BadHead other = refl
its_status frame.TooManyFields other = refl
its_status frame.HeadTooLong other = refl
its_status frame.BadHost other = refl
its_status frame.TwoLengths other = refl
its_status frame.BadLength other = refl
its_status (frame.BodyTooLong length limit) other = refl
its_status frame.BadChunk other = refl
its_status frame.OutOfMemory other = absurd (other refl)

is_refusal : (reply : RawReply) (fault : FrameFault) → fault ≢ frame.OutOfMemory
    → IsCompactPrintOf reply (answer.BadRequest (frame_name fault)) true
    → reply ≡ json_reply (frame_status fault) true (refusal_body fault)
is_refusal reply fault other is =
    let status = is.status ∙ its_status fault other in
    let body = is.body ∙ its_body fault in
    λ i. record { status = status i; close = is.closes i; content_type = is.media i; body = body i }

pub refusal_said : (reply : RawReply) (fault : FrameFault) → fault ≢ frame.OutOfMemory
    → IsCompactPrintOf reply (answer.BadRequest (frame_name fault)) true → refusal_text fault ≡ reply_text reply None
refusal_said reply fault other is = ap (λ (r : RawReply). reply_text r None) (sym (is_refusal reply fault other is))
