-- What other servers than a hall read of a request: the service that its path names, why its
-- method isn't taken there, and the JSON object that its body is.
use Rattle.std.specs.Prelude.{◌≡◌, ℕ, List, [], ◌∷◌, Option, Some, None, Err, codes, ⊤}
use Rattle.std.specs.Prelude.{if◌then◌else◌, option_and_then}
use Rattle.std.specs.Str.{bytes_eq, is_utf8}
use Rattle.serde_json.specs.Data.{Data, object}
use Rattle.serde_json.specs.Read.{read}
use Rattle.http_heads.specs.declared.message.RawRequest.{RawRequest}
use Rattle.rpc_calls.specs.Media.{has_refused_media}
use Rattle.rpc_calls.specs.Outcomes.{CallRefusal, IsFaultOf, media, bad_method}
use Rattle.rpc_calls.specs.Paths.{segments_of, text_of_segment}
use Rattle.rpc_calls.specs.declared.call.CallFault.{CallFault}
use Rattle.rpc_calls.specs.declared.call.CallFault.TheVariants as fault

-- a service is named by the text behind `$`
abbrev pub service_behind : List ℕ → List ℕ → Option (List ℕ)
service_behind second first =
    if bytes_eq first (codes "$") then text_of_segment second else None

abbrev pub service_in : List (List ℕ) → Option (List ℕ)
service_in ([] ∷ (first ∷ (second ∷ []))) =
    option_and_then (service_behind second) (text_of_segment first)
service_in other = None

-- the service that a path names
abbrev pub service_of : List ℕ → Option (List ℕ)
service_of path = service_in (segments_of path)

-- why a request isn't taken by a service that has GET alone
abbrev pub get_refusal : RawRequest → Option CallRefusal
get_refusal request =
    if bytes_eq request.method (codes "GET") then None else Some (bad_method (codes "GET"))

-- why it isn't by one that has POST alone
abbrev pub post_refusal : RawRequest → Option CallRefusal
post_refusal request =
    if bytes_eq request.method (codes "POST")
    then (if has_refused_media request then Some media else None)
    else Some (bad_method (codes "POST"))

-- the fault tells that reason
abbrev pub TellsReason : CallFault → Option CallRefusal → Type 0
TellsReason why (Some reason) = IsFaultOf why (Err reason)
TellsReason why None = ⊥

-- a value that is an object
abbrev pub object_at : Option Data → Option Data
object_at (Some (object members)) = Some (object members)
object_at (Some other) = None
object_at None = None

-- the JSON object that a body is
abbrev pub object_in : List ℕ → Option Data
object_in body = if is_utf8 body then object_at (read body) else None

-- the fault tells that a body is no JSON object, or memory ran out
abbrev pub IsNoObject : CallFault → List ℕ → Type 0
IsNoObject fault.BadJson body = object_in body ≡ None
IsNoObject fault.OutOfMemory body = ⊤
IsNoObject other body = ⊥
