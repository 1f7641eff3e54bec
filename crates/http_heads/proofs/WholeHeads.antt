-- Heads that spans give: how many fields they have, and when they are whole.
use Rattle.std.proofs.Common.{◌≡◌, ℕ, ◌<◌, ◌≤◌, List, [], ◌∷◌, length, take, drop, map, refl, ap, subst, ◌∙◌, arith}
use Rattle.std.proofs.lemmas.List.{length-map, length-take-le}
use Rattle.httparse.specs.Grammar.{Field}
use Rattle.httparse.specs.Spans.{header_bytes, IsRequestWithin, IsRequestOf, IsResponseOf, IsResponseWithin, AreFieldsAt, name_and_value}
use Rattle.httparse.specs.declared.spans.HeaderSpan.{HeaderSpan}
use Rattle.httparse.specs.declared.spans.RequestSpans.{RequestSpans}
use Rattle.httparse.specs.declared.spans.ResponseSpans.{ResponseSpans}
use Rattle.http_heads.specs.Heads.{Head, request, reply, ReadsHead, HasTooManyFields}
use Rattle.http_heads.specs.declared.message.Kind.TheVariants.{Requests, Replies}

-- the spans are as many as the fields
pub fields_count : (text : List ℕ) (headers : List HeaderSpan) (count : ℕ) (fields : List Field) → AreFieldsAt text headers count fields → count ≤ length headers
    → length fields ≡ count
fields_count text headers count fields at fits =
    let same : length (map (header_bytes text) (take count headers)) ≡ length fields = ap length at ∙ length-map fields name_and_value in
    let taken : length (take count headers) ≡ count = length-take-le count headers fits in
    let mapped = length-map (take count headers) (header_bytes text) in
    omega arith

drop_all : (text : List ℕ) → drop (length text) text ≡ []
drop_all [] = refl
drop_all (b ∷ text) = drop_all text

-- more spans than a head may have fields
pub many_request : (text : List ℕ) (headers : List HeaderSpan) (spans : RequestSpans) → IsRequestWithin text headers spans → IsRequestOf text headers spans → 64 < spans.headers
    → HasTooManyFields Requests text
many_request text headers spans within (head, at) over =
    let count = fields_count text headers spans.headers head.fields at.fields within.section.count_fits in
    (request head, drop spans.len text, at.reads, omega arith)

pub many_reply : (text : List ℕ) (headers : List HeaderSpan) (spans : ResponseSpans) → IsResponseWithin text headers spans → IsResponseOf text headers spans → 64 < spans.headers
    → HasTooManyFields Replies text
many_reply text headers spans within (head, at) over =
    let count = fields_count text headers spans.headers head.fields at.fields within.section.count_fits in
    (reply head, drop spans.len text, at.reads, omega arith)

-- a head that is as long as the text is the whole of it
pub whole_request : (text : List ℕ) (headers : List HeaderSpan) (spans : RequestSpans) → IsRequestOf text headers spans → spans.len ≡ length text
    → (head : Head) × ReadsHead Requests text head []
whole_request text headers spans (head, at) is =
    (request head, subst (λ (t : List ℕ). ReadsHead Requests text (request head) t) (ap (λ n. drop n text) is ∙ drop_all text) at.reads)

pub whole_reply : (text : List ℕ) (headers : List HeaderSpan) (spans : ResponseSpans) → IsResponseOf text headers spans → spans.len ≡ length text
    → (head : Head) × ReadsHead Replies text head []
whole_reply text headers spans (head, at) is =
    (reply head, subst (λ (t : List ℕ). ReadsHead Replies text (reply head) t) (ap (λ n. drop n text) is ∙ drop_all text) at.reads)
