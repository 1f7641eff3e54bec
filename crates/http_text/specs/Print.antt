-- The requests that a client writes, and the replies of a server.
use Rattle.std.specs.Prelude.{◌≡◌, ◌≤◌, ◌++◌, ℕ, Bool, ◌&&◌, not, ◌==◌, nat_le, false, true}
use Rattle.std.specs.Prelude.{List, [], ◌∷◌, length, Option, Some, None, codes, unwrap_or}
use Rattle.std.specs.Fmt.{decimal}
use Rattle.std.specs.List.{list_all, list_any}
use Rattle.http.specs.StatusCode.{code_digits, reason_phrase}
use Rattle.httparse.specs.Ascii.{crlf_bytes}
use Rattle.httparse.specs.Grammar.{is_value_byte, Field, crlf, RequestHead, print_request}
use Rattle.httparse.specs.Grammar.{ResponseHead, print_response, print_version}
use Rattle.http_heads.specs.Heads.{most_head}
use Rattle.http_heads.specs.Framing.{most_body}
use Rattle.http_heads.specs.declared.message.RawRequest.{RawRequest}
use Rattle.http_heads.specs.declared.message.RawReply.{RawReply}

-- name ":" SP value CRLF
abbrev pub field : List ℕ → List ℕ → Field
field name value = record { name = name; raw = 32 ∷ value; end = crlf }

-- the fields of the body, where its type is given
abbrev pub body_fields : Option (List ℕ) → ℕ → List Field
body_fields None size = []
body_fields (Some kind) size =
    field (codes "Content-Type") kind ∷ (field (codes "Content-Length") (decimal size) ∷ [])

-- the request line, Host, the fields of the body, and an empty line
abbrev pub head_for : RawRequest → List ℕ → RequestHead
head_for request host = record {
  blank = [];
  method = request.method;
  target = request.path;
  minor = 1;
  line_end = crlf;
  fields = field (codes "Host") host ∷ body_fields request.content_type (length request.body);
  last = crlf;
}

-- the head, and the body behind it
abbrev pub request_text : RawRequest → List ℕ → List ℕ
request_text request host = print_request (head_for request host) ++ request.body

-- a byte from '!' to '~'
abbrev pub is_visible : ℕ → Bool
is_visible byte = nat_le 33 byte && nat_le byte 126

-- a byte of a path
abbrev pub is_path_byte : ℕ → Bool
is_path_byte byte = is_visible byte && not (byte == 63)

-- GET without a body, or POST with a body of a type that is given
abbrev pub HasMethod : RawRequest → Option (List ℕ) → Type 0
HasMethod request None = (request.method ≡ codes "GET") × (request.body ≡ [])
HasMethod request (Some kind) = (request.method ≡ codes "POST") × (list_all is_visible kind ≡ true)

-- what a client may write
pub record IsPrintable (request : RawRequest) (host : List ℕ) : Type 0 where
  pub method : HasMethod request request.content_type
  pub path : (rest : List ℕ) × (request.path ≡ 47 ∷ rest)
      × (list_all is_path_byte request.path ≡ true)
  pub host_bytes : list_all is_visible host ≡ true
  pub http11 : request.http10 ≡ false
  pub stays : request.close ≡ false
  pub asks_nothing : request.expects ≡ false
  pub encoding : request.encoding ≡ None

-- a head and a body within the limits of a reader
pub record FitsReader (head body : List ℕ) : Type 0 where
  pub head_fits : length head ≤ most_head
  pub body_fits : length body ≤ most_body

-- ---- replies

-- the statuses that a server answers with
abbrev pub statuses : List ℕ
statuses = 200 ∷ 400 ∷ 404 ∷ 405 ∷ 409 ∷ 413 ∷ 415 ∷ 431 ∷ 500 ∷ 503 ∷ 507 ∷ []

-- the phrase of a status, as the library `http` names it (RFC 9110, section 15)
unfoldable pub phrase_of : ℕ → List ℕ
phrase_of status = unwrap_or (reason_phrase status) []

-- the status line
abbrev pub status_line : ℕ → List ℕ
status_line status =
    print_version 1 ++ 32 ∷ (code_digits status ++ (32 ∷ phrase_of status ++ crlf_bytes))

abbrev pub allow_fields : Option (List ℕ) → List Field
allow_fields None = []
allow_fields (Some methods) = field (codes "Allow") methods ∷ []

abbrev pub close_fields : Bool → List Field
close_fields true = field (codes "Connection") (codes "close") ∷ []
close_fields false = []

-- Allow where it is given, Connection where the session ends, and the fields of the body
abbrev pub reply_fields : RawReply → Option (List ℕ) → List Field
reply_fields reply allow = allow_fields allow
    ++ (close_fields reply.close ++ body_fields reply.content_type (length reply.body))

abbrev pub reply_head : RawReply → Option (List ℕ) → ResponseHead
reply_head reply allow = record {
  blank = [];
  minor = 1;
  digits = code_digits reply.status;
  reason = Some (phrase_of reply.status);
  line_end = crlf;
  fields = reply_fields reply allow;
  last = crlf;
}

abbrev pub reply_text : RawReply → Option (List ℕ) → List ℕ
reply_text reply allow = print_response (reply_head reply allow) ++ reply.body

-- the type of the body is given
abbrev pub HasContentType : Option (List ℕ) → Type 0
HasContentType None = ⊥
HasContentType (Some kind) = list_all is_visible kind ≡ true

abbrev pub IsAllow : Option (List ℕ) → Type 0
IsAllow None = Unit {0}
IsAllow (Some methods) = list_all is_value_byte methods ≡ true

-- what a server may write
pub record IsPrintableReply (reply : RawReply) (allow : Option (List ℕ)) : Type 0 where
  pub status : list_any (λ status. status == reply.status) statuses ≡ true
  pub kind : HasContentType reply.content_type
  pub allow_bytes : IsAllow allow
