-- The texts that a session writes by itself: the continue line, the reply for want of
-- memory, and refusals.
use Rattle.std.specs.Prelude.{ℕ, Bool, true, false, List, [], ◌++◌, Some, None, codes}
use Rattle.httparse.specs.Ascii.{crlf_bytes}
use Rattle.http_heads.specs.Faults.{frame_name, frame_status}
use Rattle.http_text.specs.Print.{reply_text}
use Rattle.http_heads.specs.declared.framing.FrameFault.{FrameFault}
use Rattle.http_heads.specs.declared.message.RawReply.{RawReply}

-- what asks a client to send the body of its request (RFC 9110, section 15.2.1)
abbrev pub continue_text : List ℕ
continue_text = codes "HTTP/1.1 100 Continue" ++ (crlf_bytes ++ crlf_bytes)

-- the same, where the request asks for it
abbrev pub continue_line : Bool → List ℕ
continue_line true = continue_text
continue_line false = []

-- a reply in JSON
abbrev pub json_reply : ℕ → Bool → List ℕ → RawReply
json_reply status close body = record {
  status = status;
  close = close;
  content_type = Some (codes "application/json");
  body = body;
}

-- the reply for want of memory
abbrev pub memory_text : Bool → List ℕ
memory_text close = reply_text (json_reply 503 close (codes "{\"error\":\"out_of_memory\"}")) None

-- the reply to bytes that are no request
abbrev pub refusal_text : FrameFault → List ℕ
refusal_text fault =
    let body = codes "{\"error\":\"bad_request\",\"kind\":\""
    ++ (frame_name fault ++ codes "\"}") in
    reply_text (json_reply (frame_status fault) true body) None
