-- What a request asks of a mirror's server.
use Rattle.std.specs.Prelude.{◌≡◌, ℕ, Bool, false, List, Option, Some, None, Result, Ok, Err, codes}
use Rattle.std.specs.Prelude.{if◌then◌else◌, ⊤}
use Rattle.std.specs.Str.{bytes_eq}
use Rattle.http_heads.specs.declared.message.RawRequest.{RawRequest}
use Rattle.rpc_calls.specs.Calls.{call_on}
use Rattle.rpc_calls.specs.Outcomes.{CallOutcome, CallRefusal, IsFaultOf}
use Rattle.rpc_calls.specs.Services.{post_refusal, service_of}
use Rattle.rpc_calls.specs.Surfaces.{IsMirrorCall}
use Rattle.rpc_calls.specs.declared.call.CallFault.{CallFault}
use Rattle.rpc_calls.specs.declared.call.CallFault.TheVariants as fault
use Rattle.rpc_calls.specs.declared.surface.Surface.TheVariants.{Mirror}
use Rattle.mirror_session.specs.declared.asking.MirrorAsked.{MirrorAsked}
use Rattle.mirror_session.specs.declared.asking.MirrorAsked.TheVariants.{Ask, Pull}

-- whether a service is that of pulls
abbrev pub is_pull : Option (List ℕ) → Bool
is_pull (Some service) = bytes_eq service (codes "pull")
is_pull None = false

-- a pull is asked, unless its service doesn't take the request
abbrev pub pull_asked : Option CallRefusal → Result MirrorAsked CallRefusal
pull_asked (Some reason) = Err reason
pull_asked None = Ok Pull

-- a call is asked, where there is one
abbrev pub call_asked : CallOutcome → Result MirrorAsked CallRefusal
call_asked (Ok call) = Ok (Ask call)
call_asked (Err reason) = Err reason

-- what a request asks, or the first reason why it asks nothing
abbrev pub mirror_asked : RawRequest → Result MirrorAsked CallRefusal
mirror_asked request =
    if is_pull (service_of request.path) then pull_asked (post_refusal request)
    else call_asked (call_on Mirror request)

-- ---- as it is read

-- a mirror takes it
abbrev pub IsTaken : MirrorAsked → Type 0
IsTaken (Ask call) = IsMirrorCall call
IsTaken Pull = ⊤

-- the fault tells the reason; where there is none, memory ran out
abbrev pub IsRefusedSo : CallFault → Result MirrorAsked CallRefusal → Type 0
IsRefusedSo why (Err reason) = IsFaultOf why (Err reason)
IsRefusedSo why (Ok asked) = why ≡ fault.OutOfMemory

-- this is what is asked, or why nothing is
abbrev pub AnswersAsked : Result MirrorAsked CallFault → Result MirrorAsked CallRefusal → Type 0
AnswersAsked (Ok read) asked = asked ≡ Ok read
AnswersAsked (Err why) asked = IsRefusedSo why asked
