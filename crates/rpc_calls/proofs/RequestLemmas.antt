-- What the requests that are written ask.
use Rattle.std.proofs.Common.{◌≡◌, ◌∙◌, ◌<◌, ◌^◌, ℕ, decimal, List, ◌∷◌, Bool, true, false, IfOk, option_map, Result, subst, Option, Some, None, Ok, Err, codes, IsUtf8, is_some, true≢false, refl, sym, ap, if◌then◌else◌}
use Rattle.std.proofs.lemmas.Str.{is_utf8-from_IsUtf8, IsUtf8-from_is_utf8}
use Rattle.std.proofs.lemmas.Str.{IsUtf8-from_ascii}
use Rattle.std.proofs.lemmas.Fmt.{IsAscii-decimal}
use Rattle.std.specs.List.{list_all}
use Rattle.std.specs.Str.{is_utf8, chars}
use lib.Utf8.{encode}
use Rattle.httparse.specs.Grammar.{trim_ows}
use Rattle.percent_encoding.specs.Percent.{percent_decode}
use Rattle.serde_json.specs.Data.{Data, Members, object, member, no_members, null, boolean, number, string, array}
use Rattle.serde_json.specs.Find.{as_object}
use Rattle.serde_json.specs.Read.{read}
use Rattle.rpc_calls.specs.Calls.{asked_in, call_of, from_route}
use Rattle.rpc_calls.specs.Operations.{asked, asked_of, asked_on, operations, text_member, with_member, numbered_id}
use Rattle.rpc_calls.specs.Outcomes.{bad_call, bad_json}
use Rattle.rpc_calls.specs.Requests.{IsAskable, get_of, post_of, operation_object, one, new_source}
use Rattle.http_text.specs.Print.{IsPrintable, is_path_byte, is_visible}
use Rattle.rpc_calls.specs.Routes.{patch_route, route_of}
use Rattle.rpc_calls.specs.Surfaces.{has_operation}
use Rattle.std.specs.Option.{ForSome}
use Rattle.rpc_calls.proofs.ObjectLemmas.{object_by_text}
use Rattle.delta_base.proofs.IdLemmas.{number_of-text_of}
use Rattle.delta_base.specs.Ids.{IsId, text_of}
use Rattle.delta_base.specs.declared.id.Id.{Id}
use Rattle.http_heads.specs.declared.message.RawRequest.{RawRequest}
use Rattle.rpc_calls.specs.declared.call.Call.{Call}
use Rattle.rpc_calls.specs.declared.call.Call.TheVariants as call
use Rattle.rpc_calls.specs.declared.route.Route.{Route}
use Rattle.rpc_calls.specs.declared.route.Route.TheVariants as route
use Rattle.rpc_calls.specs.declared.surface.Surface.{Surface}
use Rattle.rpc_calls.specs.declared.surface.Surface.TheVariants.{Hall}

-- an object with the word of an operation that the surface has
pub asked_with : (surface : Surface) (value : Data) (word : List ℕ) → text_member (codes "operation") value ≡ Some word → has_operation surface word ≡ true
    → asked surface value ≡ asked_of operations word value
asked_with surface value word is has =
    ap (λ (found : Option (List ℕ)). with_member (codes "operation") found (λ w. asked_on surface w value)) is
    ∙ ap (λ b. if b then asked_of operations word value else Err (bad_call (codes "operation"))) has

-- ---- operations

rpc_route : route_of (codes "/$/rpc") ≡ Some route.Rpc
unfolding percent_decode is_utf8 chars encode
rpc_route = refl

ping_route : route_of (codes "/$/ping") ≡ Some route.Ping
unfolding percent_decode is_utf8 chars encode
ping_route = refl

pub operation_again : (body : List ℕ) (given : Members) → IsUtf8 body → read body ≡ Some (object given)
    → call_of (post_of (codes "/$/rpc") (codes "application/json") body) ≡ asked Hall (object given)
unfolding trim_ows is_utf8
operation_again body given utf8 is =
    let request = post_of (codes "/$/rpc") (codes "application/json") body in
    ap (λ (r : Option Route). from_route Hall r request) rpc_route ∙ ap (asked_in Hall) (object_by_text body (Some (object given)) utf8 is)

pub ping_again : call_of (get_of (codes "/$/ping")) ≡ Ok call.Ping
ping_again = ap (λ (r : Option Route). from_route Hall r (get_of (codes "/$/ping"))) ping_route

pub list_again : asked Hall (operation_object (codes "list") no_members) ≡ Ok call.List
list_again = refl

pub source_again : (name : List ℕ) → asked Hall (operation_object (codes "source") (one (codes "name") name)) ≡ Ok (call.Source name)
source_again name = refl

pub log_again : (name : List ℕ) → asked Hall (operation_object (codes "log") (one (codes "name") name)) ≡ Ok (call.Log name)
log_again name = refl

pub version_again : (name : List ℕ) → asked Hall (operation_object (codes "version") (one (codes "name") name)) ≡ Ok (call.Version name)
version_again name = refl

pub remove_again : (name : List ℕ) → asked Hall (operation_object (codes "remove") (one (codes "name") name)) ≡ Ok (call.Remove name)
remove_again name = refl

pub source_by_uri_again : (uri : List ℕ) → asked Hall (operation_object (codes "source_by_uri") (one (codes "uri") uri)) ≡ Ok (call.SourceByUri uri)
source_by_uri_again uri = refl

pub rename_again : (name new_name : List ℕ)
    → asked Hall (operation_object (codes "rename") (member (codes "name") (string name) (one (codes "new_name") new_name))) ≡ Ok (call.Rename name new_name)
rename_again name new_name = refl

pub source_by_id_again : (id : Id) → IsId id.0
    → asked Hall (operation_object (codes "source_by_id") (one (codes "id") (text_of id.0))) ≡ Ok (call.SourceById id)
source_by_id_again id fits =
    ap (λ (found : Option ℕ). with_member (codes "id") (option_map numbered_id found) (λ found. Ok (call.SourceById found)))
    (number_of-text_of id.0 fits)

pub create_again : (name uri : List ℕ) (id : Option Id) → ForSome id (λ i. IsId i.0)
    → asked Hall (operation_object (codes "create") (new_source name uri id)) ≡ Ok (call.Create name uri id)
create_again name uri None fits = refl
create_again name uri (Some id) fits =
    ap (λ (found : Option ℕ). with_member (codes "id") (option_map (λ number. Some (numbered_id number)) found) (λ found. Ok (call.Create name uri found)))
    (number_of-text_of id.0 (fits id refl))

-- ---- paths

pub append_again : (path name patch : List ℕ) → route_of path ≡ Some (route.Log name)
    → call_of (post_of path (codes "application/rdf-patch") patch) ≡ Ok (call.Append name patch)
unfolding trim_ows
append_again path name patch is = ap (λ (r : Option Route). from_route Hall r (post_of path (codes "application/rdf-patch") patch)) is

pub append_run_again : (path name patches : List ℕ) → route_of path ≡ Some (route.Run name)
    → call_of (post_of path (codes "application/rdf-patch") patches) ≡ Ok (call.AppendRun name patches)
unfolding trim_ows
append_run_again path name patches is = ap (λ (r : Option Route). from_route Hall r (post_of path (codes "application/rdf-patch") patches)) is

pub fetch_version_again : (path name : List ℕ) (version : ℕ) → route_of path ≡ Some (route.Version name version)
    → call_of (get_of path) ≡ Ok (call.FetchVersion name version)
fetch_version_again path name version is = ap (λ (r : Option Route). from_route Hall r (get_of path)) is

pub fetch_id_again : (path name : List ℕ) (n : ℕ) → route_of path ≡ Some (patch_route name n)
    → call_of (get_of path) ≡ Ok (call.FetchId name (numbered_id n))
fetch_id_again path name n is = ap (λ (r : Option Route). from_route Hall r (get_of path)) is

pub get_printable : (path rest host : List ℕ) → path ≡ 47 ∷ rest → list_all is_path_byte path ≡ true → list_all is_visible host ≡ true → IsPrintable (get_of path) host
get_printable path rest host slash bytes host_bytes = record {
  method = (refl, refl);
  path = (rest, slash, bytes);
  host_bytes = host_bytes;
  http11 = refl;
  stays = refl;
  asks_nothing = refl;
  encoding = refl;
}

pub post_printable : (path rest kind body host : List ℕ) → list_all is_visible kind ≡ true → path ≡ 47 ∷ rest → list_all is_path_byte path ≡ true
    → list_all is_visible host ≡ true → IsPrintable (post_of path kind body) host
post_printable path rest kind body host kind_bytes slash bytes host_bytes = record {
  method = (refl, kind_bytes);
  path = (rest, slash, bytes);
  host_bytes = host_bytes;
  http11 = refl;
  stays = refl;
  asks_nothing = refl;
  encoding = refl;
}

pub run_utf8 : IsUtf8 (codes "run")
unfolding is_utf8 chars encode
run_utf8 = IsUtf8-from_is_utf8 (codes "run") refl

-- the text of a version, and that of an id
pub decimal_utf8 : (n : ℕ) → n < 2 ^ 64 → IsUtf8 (decimal n)
decimal_utf8 n small = IsUtf8-from_ascii (decimal n) (IsAscii-decimal n small)

-- ---- what a printed call asks

pub called : {E : Type 0} (result : Result RawRequest E) (value : Data) (given : Members) (a b : Call)
    → IfOk result (λ request. (m : Members) → value ≡ object m → call_of request ≡ asked Hall (object m)) → value ≡ object given → asked Hall (object given) ≡ Ok a → b ≡ a
    → IfOk result (λ request. IsAskable b → call_of request ≡ Ok b)
called (Ok request) value given a b again is asks same = λ fits. again given is ∙ asks ∙ ap (λ (x : Call). Ok x) (sym same)
called (Err e) value given a b again is asks same = tt

pub called_by_path : {E : Type 0} (result : Result RawRequest E) (a b : Call)
    → (IsAskable a → IfOk result (λ request. call_of request ≡ Ok a)) → b ≡ a → IfOk result (λ request. IsAskable b → call_of request ≡ Ok b)
called_by_path (Ok request) a b again same = λ fits. again (subst IsAskable same fits) ∙ ap (λ (x : Call). Ok x) (sym same)
called_by_path (Err e) a b again same = tt

pub called_ping : {E : Type 0} (result : Result RawRequest E) (b : Call) → IfOk result (λ request. request ≡ get_of (codes "/$/ping")) → b ≡ call.Ping
    → IfOk result (λ request. IsAskable b → call_of request ≡ Ok b)
called_ping (Ok request) b is same = λ fits. ap call_of is ∙ ping_again ∙ ap (λ (x : Call). Ok x) (sym same)
called_ping (Err e) b is same = tt
