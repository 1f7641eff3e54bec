-- The methods that a refusal tells may stand in a reply, and a mirror's calls are its own.
use Rattle.std.proofs.Common.{◌≡◌, ℕ, List, [], ◌∷◌, Bool, true, false, ◌||◌, Option, Some, None, Result, Ok, Err, IfErr, IfOk, codes, refl, sym, subst, if◌then◌else◌}
use Rattle.std.specs.Cmp.Lexicographic.{same_text}
use Rattle.std.specs.Str.{bytes_eq, is_utf8}
use Rattle.serde_json.specs.Data.{Data, null, boolean, number, string, array, object}
use Rattle.serde_json.specs.Find.{get}
use Rattle.serde_json.specs.Read.{read}
use Rattle.http_text.specs.Print.{IsAllow}
use Rattle.http_heads.specs.declared.message.RawRequest.{RawRequest}
use Rattle.rpc_calls.specs.Services.{object_in}
use Rattle.rpc_calls.specs.Calls.{asked_by_route, asked_by, asked_in, got, or_bad_method, posted, unless_refused}
use Rattle.rpc_calls.specs.Media.{has_refused_media}
use Rattle.rpc_calls.specs.Operations.{Operation, asked, asked_of, asked_on, id_member, given_id, operations, text_member, version_member, with_member}
use Rattle.rpc_calls.specs.Outcomes.{CallOutcome, no_route, media, bad_json, bad_method, bad_call, AnswersCall, IsFaultOf, TellsMethods}
use Rattle.rpc_calls.specs.Surfaces.{IsMirrorCall}
use Rattle.rpc_calls.specs.declared.call.Call.{Call}
use Rattle.rpc_calls.specs.declared.call.CallFault.{CallFault}
use Rattle.rpc_calls.specs.declared.call.CallFault.TheVariants as fault
use Rattle.rpc_calls.specs.declared.call.Call.TheVariants as call
use Rattle.rpc_calls.specs.declared.route.Route.{Route}
use Rattle.rpc_calls.specs.declared.route.Route.TheVariants as route
use Rattle.rpc_calls.specs.declared.surface.Surface.{Surface}
use Rattle.rpc_calls.specs.declared.surface.Surface.TheVariants.{Hall, Mirror}

-- the surface has the call
abbrev IsCallOn : Surface → Call → Type 0
IsCallOn Hall call = Unit {0}
IsCallOn Mirror call = IsMirrorCall call

-- the surface has the call; or the methods that are told, if any are, may stand in a reply
abbrev IsTold : Surface → CallOutcome → Type 0
IsTold surface (Ok call) = IsCallOn surface call
IsTold surface (Err no_route) = Unit {0}
IsTold surface (Err media) = Unit {0}
IsTold surface (Err bad_json) = Unit {0}
IsTold surface (Err (bad_method methods)) = IsAllow (Some methods)
IsTold surface (Err (bad_call member)) = Unit {0}

abbrev AreToldIn : Surface → Option CallOutcome → Type 0
AreToldIn surface None = Unit {0}
AreToldIn surface (Some outcome) = IsTold surface outcome

member : {A : Type 0} (surface : Surface) (name : List ℕ) (found : Option A) (next : A → CallOutcome) → ((a : A) → IsTold surface (next a))
    → IsTold surface (with_member name found next)
member surface name None next told = tt
member surface name (Some a) next told = told a

-- ---- the operations of a hall

abbrev AreTold : List Operation → Type 0
AreTold [] = Unit {0}
AreTold (row ∷ rows) = ((d : Data) → IsTold Hall (row.1 d)) × AreTold rows

all_told : AreTold operations
all_told = (
  λ d. tt,
  (
    λ d. tt,
    (
      λ d. member Hall (codes "name") (text_member (codes "name") d) (λ name. Ok (call.Source name)) (λ name. tt),
      (
        λ d. member Hall (codes "id") (id_member (codes "id") d) (λ id. Ok (call.SourceById id)) (λ id. tt),
        (
          λ d. member Hall (codes "uri") (text_member (codes "uri") d) (λ uri. Ok (call.SourceByUri uri)) (λ uri. tt),
          (
            λ d. member Hall (codes "name") (text_member (codes "name") d) (λ name. Ok (call.Log name)) (λ name. tt),
            (
              λ d. member Hall (codes "name") (text_member (codes "name") d) (λ name. Ok (call.Version name)) (λ name. tt),
              (
                λ d. member Hall (codes "name") (text_member (codes "name") d) (λ name. Ok (call.Remove name)) (λ name. tt),
                (
                  λ d. member Hall (codes "name") (text_member (codes "name") d) (λ name. with_member (codes "uri") (text_member (codes "uri") d) (λ uri. with_member (codes "id") (given_id (get (codes "id") d)) (λ id. Ok (call.Create name uri id))))
                      (λ name. member Hall (codes "uri") (text_member (codes "uri") d) (λ uri. with_member (codes "id") (given_id (get (codes "id") d)) (λ id. Ok (call.Create name uri id)))
                      (λ uri. member Hall (codes "id") (given_id (get (codes "id") d)) (λ id. Ok (call.Create name uri id)) (λ id. tt))),
                  (
                    λ d. member Hall (codes "name") (text_member (codes "name") d) (λ name. with_member (codes "new_name") (text_member (codes "new_name") d) (λ new_name. Ok (call.Rename name new_name)))
                        (λ name. member Hall (codes "new_name") (text_member (codes "new_name") d) (λ new_name. Ok (call.Rename name new_name)) (λ new_name. tt)),
                    (
                      λ d. member Hall (codes "name") (text_member (codes "name") d) (λ name. with_member (codes "patch") (text_member (codes "patch") d) (λ patch. Ok (call.Append name patch)))
                          (λ name. member Hall (codes "patch") (text_member (codes "patch") d) (λ patch. Ok (call.Append name patch)) (λ patch. tt)),
                      (
                        λ d. member Hall (codes "name") (text_member (codes "name") d) (λ name. with_member (codes "patches") (text_member (codes "patches") d) (λ patches. Ok (call.AppendRun name patches)))
                            (λ name. member Hall (codes "patches") (text_member (codes "patches") d) (λ patches. Ok (call.AppendRun name patches)) (λ patches. tt)),
                        (
                          λ d. member Hall (codes "name") (text_member (codes "name") d) (λ name. with_member (codes "version") (version_member (codes "version") d) (λ version. Ok (call.FetchVersion name version)))
                              (λ name. member Hall (codes "version") (version_member (codes "version") d) (λ version. Ok (call.FetchVersion name version)) (λ version. tt)),
                          (
                            λ d. member Hall (codes "name") (text_member (codes "name") d) (λ name. with_member (codes "id") (id_member (codes "id") d) (λ id. Ok (call.FetchId name id)))
                                (λ name. member Hall (codes "id") (id_member (codes "id") d) (λ id. Ok (call.FetchId name id)) (λ id. tt)),
                            tt,
                          ),
                        ),
                      ),
                    ),
                  ),
                ),
              ),
            ),
          ),
        ),
      ),
    ),
  ),
)

either : (surface : Surface) (test : Bool) (x y : CallOutcome) → IsTold surface x → IsTold surface y → IsTold surface (if test then x else y)
either surface true x y a b = a
either surface false x y a b = b

in_rows : (rows : List Operation) → AreTold rows → (word : List ℕ) (value : Data) → IsTold Hall (asked_of rows word value)
in_rows [] told word value = tt
in_rows (row ∷ rows) told word value = either Hall (bytes_eq row.0 word) (row.1 value) (asked_of rows word value) (told.0 value) (in_rows rows told.1 word value)

-- ---- those of a mirror

-- what a word asks that is this one
as_word : (word is : List ℕ) (value : Data) → bytes_eq word is ≡ true → IsTold Mirror (asked_of operations is value) → IsTold Mirror (asked_of operations word value)
as_word word is value same told = subst (λ (w : List ℕ). IsTold Mirror (asked_of operations w value)) (sym (same_text word is (sym same))) told

log_told : (value : Data) → IsTold Mirror (asked_of operations (codes "log") value)
log_told value = member Mirror (codes "name") (text_member (codes "name") value) (λ name. Ok (call.Log name)) (λ name. tt)

version_told : (value : Data) → IsTold Mirror (asked_of operations (codes "version") value)
version_told value = member Mirror (codes "name") (text_member (codes "name") value) (λ name. Ok (call.Version name)) (λ name. tt)

fetch_version_told : (value : Data) → IsTold Mirror (asked_of operations (codes "fetch_version") value)
fetch_version_told value =
    member Mirror (codes "name") (text_member (codes "name") value) (λ name. with_member (codes "version") (version_member (codes "version") value) (λ version. Ok (call.FetchVersion name version)))
    (λ name. member Mirror (codes "version") (version_member (codes "version") value) (λ version. Ok (call.FetchVersion name version)) (λ version. tt))

fetch_id_told : (value : Data) → IsTold Mirror (asked_of operations (codes "fetch_id") value)
fetch_id_told value =
    member Mirror (codes "name") (text_member (codes "name") value) (λ name. with_member (codes "id") (id_member (codes "id") value) (λ id. Ok (call.FetchId name id)))
    (λ name. member Mirror (codes "id") (id_member (codes "id") value) (λ id. Ok (call.FetchId name id)) (λ id. tt))

by_tests : (word : List ℕ) (value : Data) (a b c d e : Bool) → bytes_eq word (codes "ping") ≡ a → bytes_eq word (codes "log") ≡ b → bytes_eq word (codes "version") ≡ c
    → bytes_eq word (codes "fetch_version") ≡ d → bytes_eq word (codes "fetch_id") ≡ e
    → IsTold Mirror (if a || b || c || d || e then asked_of operations word value else Err (bad_call (codes "operation")))
by_tests word value true b c d e is_a is_b is_c is_d is_e = as_word word (codes "ping") value is_a tt
by_tests word value false true c d e is_a is_b is_c is_d is_e = as_word word (codes "log") value is_b (log_told value)
by_tests word value false false true d e is_a is_b is_c is_d is_e = as_word word (codes "version") value is_c (version_told value)
by_tests word value false false false true e is_a is_b is_c is_d is_e = as_word word (codes "fetch_version") value is_d (fetch_version_told value)
by_tests word value false false false false true is_a is_b is_c is_d is_e = as_word word (codes "fetch_id") value is_e (fetch_id_told value)
by_tests word value false false false false false is_a is_b is_c is_d is_e = tt

by_word : (surface : Surface) (word : List ℕ) (value : Data) → IsTold surface (asked_on surface word value)
by_word Hall word value = in_rows operations all_told word value
by_word Mirror word value =
    by_tests word value (bytes_eq word (codes "ping")) (bytes_eq word (codes "log")) (bytes_eq word (codes "version")) (bytes_eq word (codes "fetch_version")) (bytes_eq word (codes "fetch_id"))
    refl refl refl refl refl

-- ---- bodies

by_value : (surface : Surface) (value : Data) → IsTold surface (asked surface value)
by_value surface value =
    member surface (codes "operation") (text_member (codes "operation") value) (λ word. asked_on surface word value) (λ word. by_word surface word value)

by_object : (surface : Surface) (value : Option Data) → IsTold surface (asked_in surface value)
by_object surface None = tt
by_object surface (Some value) = by_value surface value

by_body : (surface : Surface) (body : List ℕ) → IsTold surface (asked_by surface body)
by_body surface body = by_object surface (object_in body)

-- ---- routes

either_in : (surface : Surface) (test : Bool) (x y : Option CallOutcome) → AreToldIn surface x → AreToldIn surface y → AreToldIn surface (if test then x else y)
either_in surface true x y a b = a
either_in surface false x y a b = b

by_got : (surface : Surface) (r : Route) → AreToldIn surface (got r)
by_got Hall route.Ping = tt
by_got Hall route.Rpc = tt
by_got Hall (route.Log name) = tt
by_got Hall (route.Run name) = tt
by_got Hall (route.Version name version) = tt
by_got Hall (route.Patch name id) = tt
by_got Mirror route.Ping = tt
by_got Mirror route.Rpc = tt
by_got Mirror (route.Log name) = tt
by_got Mirror (route.Run name) = tt
by_got Mirror (route.Version name version) = tt
by_got Mirror (route.Patch name id) = tt

by_posted : (surface : Surface) (r : Route) (body : List ℕ) → AreToldIn surface (posted surface r body)
by_posted Hall route.Ping body = tt
by_posted Mirror route.Ping body = tt
by_posted surface route.Rpc body = by_body surface body
by_posted Hall (route.Log name) body = tt
by_posted Mirror (route.Log name) body = tt
by_posted Hall (route.Run name) body = tt
by_posted Mirror (route.Run name) body = tt
by_posted surface (route.Version name version) body = tt
by_posted surface (route.Patch name id) body = tt

by_media : (surface : Surface) (request : RawRequest) (outcome : Option CallOutcome) → AreToldIn surface outcome → AreToldIn surface (unless_refused request outcome)
by_media surface request None told = tt
by_media surface request (Some outcome) told = either surface (has_refused_media request) (Err media) outcome tt told

by_method : (surface : Surface) (r : Route) (outcome : Option CallOutcome) → AreToldIn surface outcome → IsTold surface (or_bad_method surface r outcome)
by_method surface r (Some outcome) told = told
by_method surface route.Ping None told = refl
by_method surface route.Rpc None told = refl
by_method Hall (route.Log name) None told = refl
by_method Mirror (route.Log name) None told = refl
by_method surface (route.Run name) None told = refl
by_method surface (route.Version name version) None told = refl
by_method surface (route.Patch name id) None told = refl

by_route : (surface : Surface) (r : Route) (request : RawRequest) → IsTold surface (asked_by_route surface r request)
by_route surface r request =
    let posts = if bytes_eq request.method (codes "POST") then unless_refused request (posted surface r request.body) else None in
    by_method surface r (if bytes_eq request.method (codes "GET") then got r else posts)
    (either_in surface (bytes_eq request.method (codes "GET")) (got r) posts (by_got surface r)
    (either_in surface (bytes_eq request.method (codes "POST")) (unless_refused request (posted surface r request.body)) None
    (by_media surface request (posted surface r request.body) (by_posted surface r request.body)) tt))

tells : (why : CallFault) (surface : Surface) (r : Route) (request : RawRequest) → IsFaultOf why (asked_by_route surface r request) → TellsMethods why
tells (fault.BadMethod methods) surface r request is = subst (IsTold surface) is (by_route surface r request)
tells fault.NoRoute surface r request is = tt
tells fault.Media surface r request is = tt
tells fault.BadJson surface r request is = tt
tells (fault.BadCall member) surface r request is = tt
tells fault.OutOfMemory surface r request is = tt

-- what a request to a route is told
pub answer_tells : (result : Result Call CallFault) (surface : Surface) (r : Route) (request : RawRequest) → AnswersCall result (asked_by_route surface r request)
    → IfErr result TellsMethods
answer_tells (Ok call) surface r request is = tt
answer_tells (Err why) surface r request is = tells why surface r request is

-- a call of a mirror
pub answer_mirrors : (result : Result Call CallFault) (surface : Surface) (r : Route) (request : RawRequest) → AnswersCall result (asked_by_route surface r request)
    → surface ≡ Mirror → IfOk result IsMirrorCall
answer_mirrors (Ok call) surface r request is mirror = subst (λ (s : Surface). IsCallOn s call) mirror (subst (IsTold surface) is (by_route surface r request))
answer_mirrors (Err why) surface r request is mirror = tt
