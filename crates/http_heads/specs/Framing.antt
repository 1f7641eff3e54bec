-- How the body of a message is framed (RFC 9112, section 6.3), and what is wrong with a whole head.
use Rattle.std.specs.Prelude.{ℕ, Bool, ◌==◌, ◌&&◌, not, nat_le, true, false, List, [], ◌∷◌}
use Rattle.std.specs.Prelude.{length, Option, Some, None, Result, Ok, Err, if◌then◌else◌, codes}
use Rattle.std.specs.List.{list_all}
use Rattle.std.specs.Char.{is_ascii_digit}
use Rattle.std.specs.Str.{str_eq_ignore_ascii_case}
use Rattle.std.specs.Str.Parse.{digits_value}
use Rattle.http_heads.specs.Fields.{FieldRow, values_of, first_of}
use Rattle.http_heads.specs.declared.framing.FrameFault.{FrameFault}
use Rattle.http_heads.specs.declared.framing.FrameFault.TheVariants.{BadHost, TwoLengths}
use Rattle.http_heads.specs.declared.framing.FrameFault.TheVariants.{BadLength, BodyTooLong}
use Rattle.http_heads.specs.declared.framing.Framing.{Framing}
use Rattle.http_heads.specs.declared.framing.Framing.TheVariants.{Sized, Chunked}
use Rattle.http_heads.specs.declared.message.Kind.{Kind}
use Rattle.http_heads.specs.declared.message.Kind.TheVariants.{Requests, Replies}

-- the most bytes of a body
abbrev pub most_body : ℕ
most_body = 4194304

-- Content-Length = 1*DIGIT, of at most 18 digits
abbrev pub is_length : List ℕ → Bool
is_length value =
    nat_le 1 (length value) && (nat_le (length value) 18 && list_all is_ascii_digit value)

-- the number that the value has
abbrev pub length_value : List ℕ → Option ℕ
length_value value = if is_length value then Some (digits_value 10 value) else None

-- a body of that length, unless it is too long
abbrev pub sized : Option ℕ → Result Framing FrameFault
sized None = Err BadLength
sized (Some size) =
    if nat_le size most_body then Ok (Sized size) else Err (BodyTooLong size most_body)

-- with neither length the body of a request is empty, and a reply is refused
abbrev pub without_length : Kind → Result Framing FrameFault
without_length Requests = Ok (Sized 0)
without_length Replies = Err BadLength

-- by the values of Content-Length
abbrev pub framing_by_length : Kind → List (List ℕ) → Result Framing FrameFault
framing_by_length kind [] = without_length kind
framing_by_length kind (value ∷ []) = sized (length_value value)
framing_by_length kind (value ∷ other ∷ values) = Err BadLength

-- by the values of Transfer-Encoding: it is the one coding chunked, of HTTP/1.1
abbrev pub framing_by_coding : ℕ → List (List ℕ) → Result Framing FrameFault
framing_by_coding minor [] = Err BadLength
framing_by_coding minor (coding ∷ []) =
    if minor == 1 && str_eq_ignore_ascii_case coding (codes "chunked")
    then Ok Chunked
    else Err BadLength
framing_by_coding minor (coding ∷ other ∷ codings) = Err BadLength

-- by both
abbrev pub framing_by : Kind → ℕ → List (List ℕ) → List (List ℕ) → Result Framing FrameFault
framing_by kind minor lengths [] = framing_by_length kind lengths
framing_by kind minor [] (coding ∷ codings) = framing_by_coding minor (coding ∷ codings)
framing_by kind minor (value ∷ lengths) (coding ∷ codings) = Err TwoLengths

-- a request of HTTP/1.1 has one Host
abbrev pub lacks_host : Kind → ℕ → List FieldRow → Bool
lacks_host Requests minor rows = minor == 1 && not (length (values_of (codes "host") rows) == 1)
lacks_host Replies minor rows = false

-- the framing of the body behind a head with these fields, or the head's first fault
abbrev pub framing_of : Kind → ℕ → List FieldRow → Result Framing FrameFault
framing_of kind minor rows =
    if lacks_host kind minor rows then Err BadHost
    else framing_by kind minor (values_of (codes "content-length") rows)
    (values_of (codes "transfer-encoding") rows)

-- a body is to come
abbrev pub has_body : Result Framing FrameFault → Bool
has_body (Ok (Sized size)) = not (size == 0)
has_body (Ok Chunked) = true
has_body (Err fault) = false

-- the value of Expect is 100-continue, without case
abbrev pub is_continue : Option (List ℕ) → Bool
is_continue (Some value) = str_eq_ignore_ascii_case value (codes "100-continue")
is_continue None = false

-- a request asks for 100 Continue before its body (RFC 9110, section 10.1.1): it is of HTTP/1.1,
-- its first Expect field says so, and a body is to come
abbrev pub expects : ℕ → List FieldRow → Bool
expects minor rows = minor == 1 && (is_continue (first_of (values_of (codes "expect") rows))
    && has_body (framing_of Requests minor rows))
