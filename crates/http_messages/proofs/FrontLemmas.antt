-- Facts about a whole head and the faults that a head can have.
use Rattle.std.proofs.Common.{◌≡◌, ℕ, ◌≤◌, ◌==◌, List, [], ◌∷◌, length, take, drop, map, Bool, true, false, cond, Option, Some, None, Result, Ok, Err, refl, sym, ap, ◌∙◌, subst, arith, nat_le}
use Rattle.std.specs.Prelude.{IfErr, codes}
use Rattle.httparse.specs.Grammar.{RequestHead, ResponseHead}
use Rattle.httparse.specs.Spans.{header_bytes, IsRequestWithin, IsRequestAt, IsResponseWithin, IsResponseAt}
use Rattle.httparse.specs.declared.spans.HeaderSpan.{HeaderSpan}
use Rattle.httparse.specs.declared.spans.RequestSpans.{RequestSpans}
use Rattle.httparse.specs.declared.spans.ResponseSpans.{ResponseSpans}
use Rattle.http_heads.specs.Heads.{Head, request, reply, fields_of, minor_of, IsInterim}
use Rattle.http_heads.specs.Fields.{FieldRow, rows_of, values_of, first_of, closes}
use Rattle.http_heads.specs.Framing.{most_body, sized, length_value, framing_by_length, framing_by_coding, framing_by, framing_of, expects}
use Rattle.http_messages.specs.Messages.{request_of, reply_of, path_of, BeginsWithHead, framing_behind, kind_of_head}
use Rattle.http_messages.specs.Front.{request_at, reply_at, TellsFaultAt, IsOwnFault}
use Rattle.http_heads.specs.declared.message.Kind.{Kind}
use Rattle.http_heads.specs.declared.message.Kind.TheVariants.{Requests, Replies}
use Rattle.http_heads.specs.declared.framing.FrameFault.{FrameFault}
use Rattle.http_heads.specs.declared.framing.FrameFault.TheVariants.{BadHead, TooManyFields, HeadTooLong, BadHost, TwoLengths, BadLength, BodyTooLong, BadChunk, OutOfMemory}
use Rattle.http_heads.specs.declared.framing.Framing.{Framing}
use Rattle.http_heads.specs.declared.framing.Framing.TheVariants.{Sized, Chunked}
use Rattle.http_heads.proofs.WholeHeads.{fields_count}

module _ (text : List ℕ) (headers : List HeaderSpan) (room : ℕ) (short : length text ≤ room) where
  -- the spans of a head give a head within the limits
  pub request_begins : (spans : RequestSpans) (head : RequestHead)
      → IsRequestWithin text headers spans → IsRequestAt text headers spans head → spans.headers ≤ 64
      → BeginsWithHead Requests room text (request head) (drop spans.len text)
  request_begins spans head within at few =
      let count = fields_count text headers spans.headers head.fields at.fields within.section.count_fits in
      record {
        reads = at.reads;
        short = omega (arith, at.len, within.section.len_fits);
        few = omega arith;
        final = refl;
      }

  reply_few : (spans : ResponseSpans) (head : ResponseHead)
      → IsResponseWithin text headers spans → IsResponseAt text headers spans head → spans.headers ≤ 64 → length head.fields ≤ 64
  reply_few spans head within at few =
      let count = fields_count text headers spans.headers head.fields at.fields within.section.count_fits in
      omega arith

  pub reply_begins : (spans : ResponseSpans) (head : ResponseHead)
      → IsResponseWithin text headers spans → IsResponseAt text headers spans head → spans.headers ≤ 64 → (spans.code == 100) ≡ false
      → BeginsWithHead Replies room text (reply head) (drop spans.len text)
  reply_begins spans head within at few other = record {
    reads = at.reads;
    short = omega (arith, at.len, within.section.len_fits);
    few = reply_few spans head within at few;
    final = ap (λ n. n == 100) (sym at.code) ∙ other;
  }

  pub reply_interim : (spans : ResponseSpans) (head : ResponseHead)
      → IsResponseWithin text headers spans → IsResponseAt text headers spans head → spans.headers ≤ 64 → (spans.code == 100) ≡ true
      → IsInterim Replies (reply head)
  reply_interim spans head within at few is = record {
    head_of = at.reads.0;
    interim = ap (λ n. n == 100) (sym at.code) ∙ is;
    few = reply_few spans head within at few;
  }

-- the faults that a whole head can have
abbrev pub IsHeadsOwn : FrameFault → Type 0
IsHeadsOwn BadHost = Unit {0}
IsHeadsOwn TwoLengths = Unit {0}
IsHeadsOwn BadLength = Unit {0}
IsHeadsOwn (BodyTooLong size limit) = Unit {0}
IsHeadsOwn fault = ⊥

sized_own : (size : Option ℕ) → IfErr (sized size) IsHeadsOwn
sized_own None = tt
sized_own (Some n) = elim (nat_le n most_body) as (λ b. IfErr (cond b (Ok (Sized n)) (Err (BodyTooLong n most_body))) IsHeadsOwn) [ true ↦ tt | false ↦ tt ]

length_own : (kind : Kind) (values : List (List ℕ)) → IfErr (framing_by_length kind values) IsHeadsOwn
length_own Requests [] = tt
length_own Replies [] = tt
length_own kind (value ∷ []) = sized_own (length_value value)
length_own kind (value ∷ other ∷ values) = tt

chunked_own : (b : Bool) → IfErr (cond b (Ok Chunked) (Err BadLength)) IsHeadsOwn
chunked_own true = tt
chunked_own false = tt

coding_own : (minor : ℕ) (values : List (List ℕ)) → IfErr (framing_by_coding minor values) IsHeadsOwn
coding_own minor [] = tt
coding_own minor (value ∷ []) = chunked_own _
coding_own minor (value ∷ other ∷ values) = tt

both_own : (kind : Kind) (minor : ℕ) (lengths codings : List (List ℕ)) → IfErr (framing_by kind minor lengths codings) IsHeadsOwn
both_own kind minor lengths [] = length_own kind lengths
both_own kind minor [] (coding ∷ codings) = coding_own minor (coding ∷ codings)
both_own kind minor (value ∷ lengths) (coding ∷ codings) = tt

cond_own : (b : Bool) (r : Result Framing FrameFault) → IfErr r IsHeadsOwn → IfErr (cond b (Err BadHost) r) IsHeadsOwn
cond_own true r own = tt
cond_own false r own = own

framing_own : (kind : Kind) (minor : ℕ) (rows : List FieldRow) → IfErr (framing_of kind minor rows) IsHeadsOwn
framing_own kind minor rows = cond_own _ _ (both_own kind minor (values_of (codes "content-length") rows) (values_of (codes "transfer-encoding") rows))

own_fault : (kind : Kind) (room : ℕ) (text : List ℕ) (fault : FrameFault) → IsHeadsOwn fault → IsOwnFault kind room text fault → TellsFaultAt kind room text fault
own_fault kind room text BadHost own is = is
own_fault kind room text TwoLengths own is = is
own_fault kind room text BadLength own is = is
own_fault kind room text (BodyTooLong size limit) own is = is
own_fault kind room text BadHead own is = absurd own
own_fault kind room text TooManyFields own is = absurd own
own_fault kind room text HeadTooLong own is = absurd own
own_fault kind room text BadChunk own is = absurd own
own_fault kind room text OutOfMemory own is = absurd own

-- the head's own fault is the fault of the text
pub head_fault : (kind : Kind) (room : ℕ) (text behind : List ℕ) (head : Head) (fault : FrameFault) → BeginsWithHead kind room text head behind
    → framing_behind head ≡ Err fault → TellsFaultAt kind room text fault
head_fault kind room text behind head fault begins is =
    let own : IsHeadsOwn fault = subst (λ (r : Result Framing FrameFault). IfErr r IsHeadsOwn) is (framing_own (kind_of_head head) (minor_of head) (rows_of (fields_of head))) in
    own_fault kind room text fault own (head, behind, begins, is)

-- the parts that the spans cover are those of the request
pub request_same : (text : List ℕ) (headers : List HeaderSpan) (spans : RequestSpans) (head : RequestHead)
    → IsRequestAt text headers spans head
    → request_at text spans (map (header_bytes text) (take spans.headers headers)) ≡ request_of head []
request_same text headers spans head at = λ i. record {
  method = at.method i;
  path = path_of (at.path i);
  http10 = at.version i == 0;
  close = closes (at.version i) (at.fields i);
  expects = expects (at.version i) (at.fields i);
  content_type = first_of (values_of (codes "content-type") (at.fields i));
  encoding = first_of (values_of (codes "content-encoding") (at.fields i));
  body = [];
}

pub reply_same : (text : List ℕ) (headers : List HeaderSpan) (spans : ResponseSpans) (head : ResponseHead)
    → IsResponseAt text headers spans head
    → reply_at spans (map (header_bytes text) (take spans.headers headers)) ≡ reply_of head []
reply_same text headers spans head at = λ i. record {
  status = at.code i;
  close = closes (at.version i) (at.fields i);
  content_type = first_of (values_of (codes "content-type") (at.fields i));
  body = [];
}

-- the framing that was read is the head's
pub request_framing : (text : List ℕ) (headers : List HeaderSpan) (spans : RequestSpans) (head : RequestHead) (r : Result Framing FrameFault)
    → IsRequestAt text headers spans head
    → r ≡ framing_of Requests spans.version (map (header_bytes text) (take spans.headers headers)) → framing_behind (request head) ≡ r
request_framing text headers spans head r at is = (λ i. framing_of Requests (sym at.version i) (sym at.fields i)) ∙ sym is

pub reply_framing : (text : List ℕ) (headers : List HeaderSpan) (spans : ResponseSpans) (head : ResponseHead) (r : Result Framing FrameFault)
    → IsResponseAt text headers spans head
    → r ≡ framing_of Replies spans.version (map (header_bytes text) (take spans.headers headers)) → framing_behind (reply head) ≡ r
reply_framing text headers spans head r at is = (λ i. framing_of Replies (sym at.version i) (sym at.fields i)) ∙ sym is
