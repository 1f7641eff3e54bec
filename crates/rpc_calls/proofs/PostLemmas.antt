-- What a POST asks whose body is taken.
use Rattle.std.proofs.Common.{◌≡◌, ◌∙◌, true, false, Option, Some, None, Err, Result, codes, refl, sym, ap, subst, if◌then◌else◌}
use Rattle.std.specs.Str.{bytes_eq}
use Rattle.http_heads.specs.declared.message.RawRequest.{RawRequest}
use Rattle.rpc_calls.specs.Calls.{asked_by_route, or_bad_method, posted, unless_refused}
use Rattle.rpc_calls.specs.Media.{has_refused_media}
use Rattle.rpc_calls.specs.Outcomes.{AnswersCall, CallOutcome, media}
use Rattle.rpc_calls.specs.declared.call.Call.{Call}
use Rattle.rpc_calls.specs.declared.call.CallFault.{CallFault}
use Rattle.rpc_calls.specs.declared.route.Route.{Route}
use Rattle.rpc_calls.specs.declared.surface.Surface.{Surface}

taken : (request : RawRequest) (outcome : Option CallOutcome) → has_refused_media request ≡ false → unless_refused request outcome ≡ outcome
taken request None free = refl
taken request (Some outcome) free = ap (λ b. Some (if b then Err media else outcome)) free

at_post : (surface : Surface) (at : Route) (request : RawRequest) → bytes_eq request.method (codes "GET") ≡ false → bytes_eq request.method (codes "POST") ≡ true
    → asked_by_route surface at request ≡ or_bad_method surface at (unless_refused request (posted surface at request.body))
at_post surface at request get post = rw (get, post) refl

pub posted_at : (r : Result Call CallFault) (surface : Surface) (at : Route) (request : RawRequest) → bytes_eq request.method (codes "GET") ≡ false → bytes_eq request.method (codes "POST") ≡ true
    → has_refused_media request ≡ false → AnswersCall r (or_bad_method surface at (posted surface at request.body)) → AnswersCall r (asked_by_route surface at request)
posted_at r surface at request get post free is =
    subst (AnswersCall r) (sym (at_post surface at request get post ∙ ap (or_bad_method surface at) (taken request (posted surface at request.body) free))) is
