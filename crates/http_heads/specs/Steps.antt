-- What a read of a head answers.
use Rattle.std.specs.Prelude.{◌≤◌, List, ℕ}
use Rattle.httparse.specs.Spans.{IsRequestOf, IsRequestWithin, IsResponseOf, IsResponseWithin}
use Rattle.httparse.specs.declared.spans.HeaderSpan.{HeaderSpan}
use Rattle.httparse.specs.declared.spans.RequestSpans.{RequestSpans}
use Rattle.httparse.specs.declared.spans.ResponseSpans.{ResponseSpans}
use Rattle.http_heads.specs.declared.heads.HeadStep.{HeadStep}
use Rattle.http_heads.specs.declared.heads.HeadStep.TheVariants.{Whole, TooManyFields}
use Rattle.http_heads.specs.declared.heads.HeadStep.TheVariants.{BadHead, Open}
use Rattle.http_heads.specs.declared.message.Kind.TheVariants.{Requests, Replies}
use Rattle.http_heads.specs.Heads.{most_fields, HasNoHead, HasTooManyFields, IsBadHead}

-- the answer is the one of the text
abbrev pub AnswersRequest : List ℕ → List HeaderSpan → HeadStep RequestSpans → Type 0
AnswersRequest text headers (Whole head) =
    IsRequestWithin text headers head × IsRequestOf text headers head × (head.headers ≤ most_fields)
AnswersRequest text headers TooManyFields = HasTooManyFields Requests text
AnswersRequest text headers BadHead = IsBadHead Requests text
AnswersRequest text headers Open = HasNoHead Requests text × ¬ (IsBadHead Requests text)

abbrev pub AnswersReply : List ℕ → List HeaderSpan → HeadStep ResponseSpans → Type 0
AnswersReply text headers (Whole head) = IsResponseWithin text headers head
    × IsResponseOf text headers head × (head.headers ≤ most_fields)
AnswersReply text headers TooManyFields = HasTooManyFields Replies text
AnswersReply text headers BadHead = IsBadHead Replies text
AnswersReply text headers Open = HasNoHead Replies text × ¬ (IsBadHead Replies text)
