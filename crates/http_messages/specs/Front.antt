-- What stands at the front of a text.
use Rattle.std.specs.Prelude.{◌≡◌, ◌==◌, ◌≤◌, ℕ, List, [], length, drop, codes, Result, Ok, Err}
use Rattle.httparse.specs.Spans.{span_bytes}
use Rattle.httparse.specs.declared.spans.RequestSpans.{RequestSpans}
use Rattle.httparse.specs.declared.spans.ResponseSpans.{ResponseSpans}
use Rattle.http_heads.specs.Heads.{Head, print_head, ReadsHead, HasNoHead, IsBadHead, IsInterim}
use Rattle.http_heads.specs.Fields.{FieldRow, values_of, first_of, closes}
use Rattle.http_heads.specs.Framing.{expects}
use Rattle.http_messages.specs.Messages.{message_of, path_of, BeginsWithHead}
use Rattle.http_messages.specs.Messages.{framing_behind, IsFaultAt}
use Rattle.http_heads.specs.declared.message.Kind.{Kind}
use Rattle.http_heads.specs.declared.message.RawRequest.{RawRequest}
use Rattle.http_heads.specs.declared.message.RawReply.{RawReply}
use Rattle.http_heads.specs.declared.framing.FrameFault.{FrameFault}
use Rattle.http_heads.specs.declared.framing.FrameFault.TheVariants.{BadHead, TooManyFields}
use Rattle.http_heads.specs.declared.framing.FrameFault.TheVariants.{HeadTooLong, OutOfMemory}
use Rattle.http_messages.specs.declared.front.Front.{Front}
use Rattle.http_messages.specs.declared.front.Front.TheVariants.{Whole, Interim, Open}

-- the request of a head with these parts and fields, still without a body
abbrev pub request_at : List ℕ → RequestSpans → List FieldRow → RawRequest
request_at text head rows = record {
  method = span_bytes text head.method;
  path = path_of (span_bytes text head.path);
  http10 = head.version == 0;
  close = closes head.version rows;
  expects = expects head.version rows;
  content_type = first_of (values_of (codes "content-type") rows);
  encoding = first_of (values_of (codes "content-encoding") rows);
  body = [];
}

-- and the reply
abbrev pub reply_at : ResponseSpans → List FieldRow → RawReply
reply_at head rows = record {
  status = head.code;
  close = closes head.version rows;
  content_type = first_of (values_of (codes "content-type") rows);
  body = [];
}

-- the text begins with a head, and this is its first fault
abbrev pub IsOwnFault : Kind → ℕ → List ℕ → FrameFault → Type 0
IsOwnFault kind room text fault = (head : Head) × (behind : List ℕ)
    × BeginsWithHead kind room text head behind × (framing_behind head ≡ Err fault)

-- the fault is that of the text's head, unless memory ran out
abbrev pub TellsFaultAt : Kind → ℕ → List ℕ → FrameFault → Type 0
TellsFaultAt kind room text OutOfMemory = Unit {0}
TellsFaultAt kind room text BadHead = IsFaultAt kind room text BadHead
TellsFaultAt kind room text TooManyFields = IsFaultAt kind room text TooManyFields
TellsFaultAt kind room text HeadTooLong = IsFaultAt kind room text HeadTooLong
TellsFaultAt kind room text fault = IsOwnFault kind room text fault

-- what was read is what stands at the front
abbrev pub FrontIs : Kind → ℕ → List ℕ → Result Front FrameFault → Type 0
FrontIs kind room text (Ok (Whole message framing len)) =
    (head : Head) × BeginsWithHead kind room text head (drop len text)
    × (len ≡ length (print_head head))
    × (framing_behind head ≡ Ok framing) × (message ≡ message_of head [])
FrontIs kind room text (Ok (Interim len)) =
    (head : Head) × IsInterim kind head × ReadsHead kind text head (drop len text)
    × (len ≡ length (print_head head)) × (len ≤ room)
FrontIs kind room text (Ok Open) = HasNoHead kind text × ¬ (IsBadHead kind text)
FrontIs kind room text (Err fault) = TellsFaultAt kind room text fault
