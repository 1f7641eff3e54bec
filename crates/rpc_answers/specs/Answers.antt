-- The table of answers: the status and the body of each.
use Rattle.std.specs.Prelude.{ℕ, ◌<◌, ◌^◌, List, [], ◌∷◌, Option, Some, None}
use Rattle.std.specs.Prelude.{codes, map, unwrap_or, IsSome, nat_eq, if◌then◌else◌}
use Rattle.std.specs.Option.{ForSome}
use Rattle.std.specs.List.{All}
use lib.Pointwise.{pointwise}
use Rattle.serde_json.specs.Data.{Data, boolean, string}
use Rattle.delta_base.specs.Ids.{IsId}
use Rattle.log_base.specs.declared.source_info.SourceInfo.{SourceInfo}
use Rattle.http_heads.specs.Faults.{frame_name, frame_status}
use Rattle.http_heads.specs.declared.framing.FrameFault.{FrameFault}
use Rattle.http_heads.specs.declared.framing.FrameFault.TheVariants as frame
use Rattle.rpc_answers.specs.declared.answer.Answer.{Answer}
use Rattle.rpc_answers.specs.declared.answer.Answer.TheVariants as answer
use Rattle.rpc_answers.specs.Values.{object_of, word, whole_number, whole_or_null, id_data}
use Rattle.rpc_answers.specs.Values.{id_or_null, limit_name, source_data, sources_data}

-- a value in JSON, or the text of a patch
pub data Body : Type 0 where
  json : Data → Body
  patch : List ℕ → Body

pub record TableRow : Type 0 where
  pub status : ℕ
  pub body : Body

-- a row whose body is an object of these members
abbrev pub says : ℕ → List (List ℕ × Data) → TableRow
says status members = record { status = status; body = json (object_of members) }

-- a refusal that says no more than its name
abbrev pub refuses : ℕ → List ℕ → TableRow
refuses status name = says status ((codes "error", word name) ∷ [])

-- the name of a fault of framing, and its status
abbrev pub named_fault : FrameFault → List ℕ × ℕ
named_fault fault = (frame_name fault, frame_status fault)

-- the faults of framing that refuse a request
abbrev pub frame_faults : List (List ℕ × ℕ)
frame_faults = map named_fault
    (frame.BadHead ∷ frame.TooManyFields ∷ frame.HeadTooLong ∷ frame.BadHost ∷ frame.TwoLengths
    ∷ frame.BadLength ∷ frame.BodyTooLong 0 0 ∷ frame.BadChunk ∷ [])

-- the number beside the first row with that name
abbrev pub found : List (List ℕ × ℕ) → List ℕ → Option ℕ
found [] name = None
found (row ∷ rows) name = if pointwise nat_eq row.0 name then Some row.1 else found rows name

-- the status beside the name of a fault of framing
abbrev pub status_beside : List ℕ → Option ℕ
status_beside kind = found frame_faults kind

-- the status and the body of each answer; a refused request has the status beside its fault
abbrev pub table_row : Answer → TableRow
table_row answer.Pong = says 200 ((codes "ping", word (codes "ok")) ∷ [])
table_row (answer.Sources sources) = says 200 ((codes "sources", sources_data sources.items) ∷ [])
table_row (answer.Source source) = record { status = 200; body = json (source_data source) }
table_row (answer.Info version head) =
    says 200 ((codes "head", id_or_null head) ∷ (codes "version", whole_number version) ∷ [])
table_row (answer.Version version) = says 200 ((codes "version", whole_number version) ∷ [])
table_row (answer.Run first version) =
    says 200 ((codes "first", whole_number first) ∷ (codes "version", whole_number version) ∷ [])
table_row (answer.Patch text) = record { status = 200; body = patch text }
table_row answer.NoRoute = refuses 404 (codes "no_route")
table_row answer.NoSource = refuses 404 (codes "no_source")
table_row (answer.NoPatch version) =
    says 404 ((codes "error", word (codes "no_patch"))
    ∷ (codes "version", whole_number version) ∷ [])
table_row answer.BadMethod = refuses 405 (codes "bad_method")
table_row answer.Media = refuses 415 (codes "media")
table_row answer.BadJson = refuses 400 (codes "bad_json")
table_row (answer.BadCall name) =
    says 400 ((codes "error", word (codes "bad_call")) ∷ (codes "member", string name) ∷ [])
table_row (answer.BadPatch at kind) = says 400 ((codes "at", whole_number at)
    ∷ (codes "error", word (codes "bad_patch")) ∷ (codes "kind", string kind) ∷ [])
table_row (answer.BadRun at) =
    says 400 ((codes "at", whole_number at) ∷ (codes "error", word (codes "bad_run")) ∷ [])
table_row (answer.BadName at) =
    says 400 ((codes "at", whole_number at) ∷ (codes "error", word (codes "bad_name")) ∷ [])
table_row (answer.BadUri at) =
    says 400 ((codes "at", whole_number at) ∷ (codes "error", word (codes "bad_uri")) ∷ [])
table_row (answer.Known version same) = says 409 ((codes "error", word (codes "known"))
    ∷ (codes "same", boolean same) ∷ (codes "version", whole_number version) ∷ [])
table_row (answer.Conflict version head prev_version) = says 409
    ((codes "error", word (codes "conflict")) ∷ (codes "head", id_or_null head)
    ∷ (codes "prev_version", whole_or_null prev_version)
    ∷ (codes "version", whole_number version) ∷ [])
table_row (answer.NameTaken id) =
    says 409 ((codes "error", word (codes "name_taken")) ∷ (codes "id", id_data id) ∷ [])
table_row (answer.IdTaken name) =
    says 409 ((codes "error", word (codes "id_taken")) ∷ (codes "name", string name) ∷ [])
table_row (answer.Full what have limit) = says 507
    ((codes "error", word (codes "full")) ∷ (codes "have", whole_number have)
    ∷ (codes "limit", whole_number limit) ∷ (codes "what", word (limit_name what)) ∷ [])
table_row answer.DiskFault = refuses 500 (codes "disk_fault")
table_row answer.OutOfMemory = refuses 503 (codes "out_of_memory")
table_row (answer.BadRequest kind) = says (unwrap_or (status_beside kind) 0)
    ((codes "error", word (codes "bad_request")) ∷ (codes "kind", string kind) ∷ [])

abbrev pub status_of : Answer → ℕ
status_of a = (table_row a).status

abbrev pub body_of : Answer → Body
body_of a = (table_row a).body

abbrev pub media_type : Body → List ℕ
media_type (json value) = codes "application/json"
media_type (patch text) = codes "application/rdf-patch"

-- a refused request says one of the faults of framing
abbrev pub NamesItsFault : Answer → Type 0
NamesItsFault (answer.BadRequest kind) = IsSome (status_beside kind)
NamesItsFault other = Unit {0}

abbrev pub IsAnsweredSource : SourceInfo → Type 0
IsAnsweredSource source = (source.slot < 2 ^ 32) × IsId source.id.0

-- an answer as it can stand: its numbers are within their types, and a refused request says one
-- of the faults
abbrev pub CanStand : Answer → Type 0
CanStand (answer.Sources sources) = All IsAnsweredSource sources.items
CanStand (answer.Source source) = IsAnsweredSource source
CanStand (answer.Info version head) = (version < 2 ^ 32) × ForSome head (λ id. IsId id.0)
CanStand (answer.Version version) = version < 2 ^ 32
CanStand (answer.Run first version) = (first < 2 ^ 32) × (version < 2 ^ 32)
CanStand (answer.NoPatch version) = version < 2 ^ 32
CanStand (answer.BadPatch at kind) = at < 2 ^ 64
CanStand (answer.BadRun at) = at < 2 ^ 64
CanStand (answer.BadName at) = at < 2 ^ 64
CanStand (answer.BadUri at) = at < 2 ^ 64
CanStand (answer.Known version same) = version < 2 ^ 32
CanStand (answer.Conflict version head prev_version) =
    (version < 2 ^ 32) × ForSome head (λ id. IsId id.0) × ForSome prev_version (λ n. n < 2 ^ 32)
CanStand (answer.NameTaken id) = IsId id.0
CanStand (answer.Full what have limit) = (have < 2 ^ 64) × (limit < 2 ^ 64)
CanStand (answer.BadRequest kind) = IsSome (status_beside kind)
CanStand other = Unit {0}
