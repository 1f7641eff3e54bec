-- What a request asks of a zone's server.
use Rattle.std.specs.Prelude.{◌≡◌, ℕ, List, Option, Some, None, Result, Ok, Err, codes}
use Rattle.std.specs.Prelude.{if◌then◌else◌}
use Rattle.std.specs.Str.{bytes_eq}
use Rattle.serde_json.specs.Data.{Data}
use Rattle.serde_json.specs.View.{view}
use Rattle.http_heads.specs.declared.message.RawRequest.{RawRequest}
use Rattle.rpc_calls.specs.Outcomes.{CallRefusal, IsFaultOf, no_route, bad_json}
use Rattle.rpc_calls.specs.Services.{get_refusal, object_in, post_refusal, service_of}
use Rattle.rpc_calls.specs.declared.call.CallFault.{CallFault}
use Rattle.rpc_calls.specs.declared.call.CallFault.TheVariants as fault
use Rattle.zone_session.specs.declared.asking.ZoneCall.{ZoneCall}
use Rattle.zone_session.specs.declared.asking.ZoneCall.TheVariants.{Version, Match, Sync}

-- how many patches the zone has taken, and the id of the last one; that it catches up; or the quads
-- that match the pattern of an object
pub data ZoneAsked : Type 0 where
  asks_version asks_sync : ZoneAsked
  asks_match : Data → ZoneAsked

-- what a service is asked, unless it doesn't take the request
abbrev pub unless_refused :
    Option CallRefusal → Result ZoneAsked CallRefusal → Result ZoneAsked CallRefusal
unless_refused (Some reason) asked = Err reason
unless_refused None asked = asked

-- what a match is asked, by the object of its body
abbrev pub matched_by : Option Data → Result ZoneAsked CallRefusal
matched_by (Some value) = Ok (asks_match value)
matched_by None = Err bad_json

abbrev pub version_asked : RawRequest → Result ZoneAsked CallRefusal
version_asked request = unless_refused (get_refusal request) (Ok asks_version)

abbrev pub match_asked : RawRequest → Result ZoneAsked CallRefusal
match_asked request = unless_refused (post_refusal request) (matched_by (object_in request.body))

abbrev pub sync_asked : RawRequest → Result ZoneAsked CallRefusal
sync_asked request = unless_refused (post_refusal request) (Ok asks_sync)

-- the services are `version`, `match` and `sync`
abbrev pub asked_of_service : List ℕ → RawRequest → Result ZoneAsked CallRefusal
asked_of_service service request =
    if bytes_eq service (codes "version") then version_asked request
    else (if bytes_eq service (codes "match") then match_asked request
    else (if bytes_eq service (codes "sync") then sync_asked request else Err no_route))

abbrev pub asked_at : Option (List ℕ) → RawRequest → Result ZoneAsked CallRefusal
asked_at (Some service) request = asked_of_service service request
asked_at None request = Err no_route

-- what a request asks, or the first reason why it asks nothing: no service, a method that it has
-- not, a body that isn't taken, no JSON object
abbrev pub zone_asked : RawRequest → Result ZoneAsked CallRefusal
zone_asked request = asked_at (service_of request.path) request

-- ---- as it is read

abbrev pub asked_by_call : ZoneCall → ZoneAsked
asked_by_call Version = asks_version
asked_by_call (Match value) = asks_match (view value)
asked_by_call Sync = asks_sync

-- the fault tells the reason; where there is none, memory ran out
abbrev pub IsRefusedSo : CallFault → Result ZoneAsked CallRefusal → Type 0
IsRefusedSo why (Err reason) = IsFaultOf why (Err reason)
IsRefusedSo why (Ok asked) = why ≡ fault.OutOfMemory

-- this is what is asked, or why nothing is
abbrev pub AnswersAsked : Result ZoneCall CallFault → Result ZoneAsked CallRefusal → Type 0
AnswersAsked (Ok call) asked = asked ≡ Ok (asked_by_call call)
AnswersAsked (Err why) asked = IsRefusedSo why asked
