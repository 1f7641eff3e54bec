-- The body of an answer tells the answer.
use Rattle.std.proofs.Common.{◌≡◌, ◌∙◌, ℕ, List, [], ◌∷◌, Bool, false, Option, Some, None, map, codes, refl, ap, sym, nat_eq, if◌then◌else◌, unwrap_or, Result, Ok, Err, IfOk, IfErr}
use Rattle.std.specs.Option.{ForSome}
use Rattle.std.specs.List.{All}
use Rattle.std.proofs.lemmas.List.Elements.{All-head, All-tail}
use lib.Pointwise.{pointwise}
use Rattle.serde_json.specs.Data.{Data, null, boolean, number, unsigned, string, array, object, Items, no_items, item, Members, no_members, member}
use Rattle.serde_json.specs.Read.{read}
use Rattle.serde_json.specs.View.{items_of}
use Rattle.delta_base.specs.Ids.{IsId, number_of, text_of}
use Rattle.delta_base.specs.declared.id.Id.{Id}
use Rattle.log_base.specs.declared.limits.FullKind.{FullKind}
use Rattle.log_base.specs.declared.limits.FullKind.TheVariants.{Patches, Bytes, Slots}
use Rattle.http_heads.specs.declared.message.RawReply.{RawReply}
use Rattle.log_base.specs.declared.source_info.SourceInfo.{SourceInfo}
use Rattle.rpc_answers.specs.declared.answer.Answer.{Answer}
use Rattle.rpc_answers.specs.declared.answer.Answer.TheVariants as answer
use Rattle.rpc_answers.specs.Values.{source_data, id_or_null, whole_or_null, limit_name}
use Rattle.rpc_answers.specs.Answers.{Body, json, patch, body_of, media_type, CanStand, IsAnsweredSource}
use Rattle.rpc_answers.specs.declared.fault.AnswerFault.{AnswerFault}
use Rattle.rpc_answers.specs.declared.fault.AnswerFault.TheVariants as fault
use Rattle.rpc_answers.specs.Prints.{IsBodyText, IsPrintOf, IsNoAnswer, at_head, at_body, IsRefusedReply, IsReadBack, without_spare}
use Rattle.delta_base.proofs.IdLemmas.{number_of-text_of}

-- ---- the values of members

abbrev text_in : Data → List ℕ
text_in (string text) = text
text_in other = []

abbrev number_in : Data → ℕ
number_in (number (unsigned n)) = n
number_in other = 0

abbrev flag_in : Data → Bool
flag_in (boolean b) = b
flag_in other = false

abbrev number_or_null_in : Data → Option ℕ
number_or_null_in null = None
number_or_null_in other = Some (number_in other)

abbrev as_id : Option ℕ → Id
as_id read = record { 0 = unwrap_or read 0 }

abbrev id_in : Data → Id
id_in value = as_id (number_of (text_in value))

abbrev id_or_null_in : Data → Option Id
id_or_null_in null = None
id_or_null_in other = Some (id_in other)

abbrev limit_in : List ℕ → FullKind
limit_in name = if pointwise nat_eq name (codes "patches") then Patches else (if pointwise nat_eq name (codes "bytes") then Bytes else Slots)

abbrev source_in : Data → SourceInfo
source_in (object (member a id (member b name (member c slot (member d uri no_members))))) =
    record { slot = number_in slot; id = id_in id; name = text_in name; uri = text_in uri }
source_in other = record { slot = 0; id = id_in other; name = []; uri = [] }

abbrev list_in : Items → List SourceInfo
list_in no_items = []
list_in (item value values) = source_in value ∷ list_in values

abbrev sources_in : Data → List SourceInfo
sources_in (array values) = list_in values
sources_in other = []

-- ---- the answers

abbrev is : List ℕ → List ℕ → Bool
is name word = pointwise nat_eq name word

-- a refusal with a place
abbrev placed : ℕ → List ℕ → Members → Answer
placed at name (member k value more) = answer.BadPatch at (text_in value)
placed at name no_members =
    if is name (codes "bad_run") then answer.BadRun at
    else (if is name (codes "bad_name") then answer.BadName at else answer.BadUri at)

-- a refusal that says no more than its name
abbrev named : List ℕ → Answer
named name =
    if is name (codes "no_route") then answer.NoRoute
    else (if is name (codes "no_source") then answer.NoSource
    else (if is name (codes "bad_method") then answer.BadMethod
    else (if is name (codes "media") then answer.Media
    else (if is name (codes "bad_json") then answer.BadJson
    else (if is name (codes "disk_fault") then answer.DiskFault
    else answer.OutOfMemory)))))

-- one with one member more
abbrev told : List ℕ → Data → Answer
told name value =
    if is name (codes "no_patch") then answer.NoPatch (number_in value)
    else (if is name (codes "bad_call") then answer.BadCall (text_in value)
    else (if is name (codes "name_taken") then answer.NameTaken (id_in value)
    else (if is name (codes "id_taken") then answer.IdTaken (text_in value)
    else answer.BadRequest (text_in value))))

-- with three members more
abbrev told_three : List ℕ → Data → Data → Data → Answer
told_three name a b c =
    if is name (codes "conflict") then answer.Conflict (number_in c) (id_or_null_in a) (number_or_null_in b)
    else answer.Full (limit_in (text_in c)) (number_in a) (number_in b)

abbrev refused : List ℕ → Members → Answer
refused name no_members = named name
refused name (member k a no_members) = told name a
refused name (member k a (member l b no_members)) = answer.Known (number_in b) (flag_in a)
refused name (member k a (member l b (member m c more))) = told_three name a b c

abbrev listed : List SourceInfo → Answer
listed items = answer.Sources (record { items = items; spare = 0 })

abbrev one : List ℕ → Data → Answer
one name value =
    if is name (codes "ping") then answer.Pong
    else (if is name (codes "sources") then listed (sources_in value) else answer.Version (number_in value))

abbrev two : List ℕ → Data → Data → Members → Answer
two name a b more =
    if is name (codes "at") then placed (number_in a) (text_in b) more
    else (if is name (codes "head") then answer.Info (number_in b) (id_or_null_in a)
    else (if is name (codes "first") then answer.Run (number_in a) (number_in b)
    else answer.Source (source_in (object (member name a (member name b more))))))

abbrev first_of : List ℕ → Data → Members → Answer
first_of name a no_members = one name a
first_of name a (member l b more) = two name a b more

abbrev members_in : Members → Answer
members_in no_members = answer.Pong
members_in (member name a more) = if is name (codes "error") then refused (text_in a) more else first_of name a more

abbrev answer_of : Body → Answer
answer_of (json (object members)) = members_in members
answer_of (json other) = answer.Pong
answer_of (patch text) = answer.Patch text

-- ---- they are those of the answer

id_back : (id : Id) → IsId id.0 → id_in (string (text_of id.0)) ≡ id
id_back id fits = ap as_id (number_of-text_of id.0 fits)

id_or_null_back : (id : Option Id) → ForSome id (λ i. IsId i.0) → id_or_null_in (id_or_null id) ≡ id
id_or_null_back None fits = refl
id_or_null_back (Some id) fits = ap (λ (i : Id). Some i) (id_back id (fits id refl))

number_or_null_back : (n : Option ℕ) → number_or_null_in (whole_or_null n) ≡ n
number_or_null_back None = refl
number_or_null_back (Some n) = refl

limit_back : (what : FullKind) → limit_in (limit_name what) ≡ what
limit_back Patches = refl
limit_back Bytes = refl
limit_back Slots = refl

source_back : (source : SourceInfo) → IsAnsweredSource source → source_in (source_data source) ≡ source
source_back source fits = ap (λ (id : Id). let s : SourceInfo = record { slot = source.slot; id = id; name = source.name; uri = source.uri } in s) (id_back source.id fits.1)

sources_back : (sources : List SourceInfo) → All IsAnsweredSource sources → list_in (items_of (map source_data sources)) ≡ sources
sources_back [] fits = refl
sources_back (source ∷ sources) fits =
    ap (λ (s : SourceInfo). s ∷ list_in (items_of (map source_data sources))) (source_back source (All-head IsAnsweredSource source sources fits))
    ∙ ap (λ (rest : List SourceInfo). source ∷ rest) (sources_back sources (All-tail IsAnsweredSource source sources fits))

back : (a : Answer) → CanStand a → answer_of (body_of a) ≡ without_spare a
back answer.Pong fits = refl
back (answer.Sources sources) fits = ap listed (sources_back sources.items fits)
back (answer.Source source) fits = ap (λ (s : SourceInfo). answer.Source s) (source_back source fits)
back (answer.Info version head) fits = ap (λ (h : Option Id). answer.Info version h) (id_or_null_back head fits.1)
back (answer.Version version) fits = refl
back (answer.Run first version) fits = refl
back (answer.Patch text) fits = refl
back answer.NoRoute fits = refl
back answer.NoSource fits = refl
back (answer.NoPatch version) fits = refl
back answer.BadMethod fits = refl
back answer.Media fits = refl
back answer.BadJson fits = refl
back (answer.BadCall name) fits = refl
back (answer.BadPatch at kind) fits = refl
back (answer.BadRun at) fits = refl
back (answer.BadName at) fits = refl
back (answer.BadUri at) fits = refl
back (answer.Known version same) fits = refl
back (answer.Conflict version head prev_version) fits =
    ap (λ (h : Option Id). answer.Conflict version h (number_or_null_in (whole_or_null prev_version))) (id_or_null_back head fits.1)
    ∙ ap (λ (n : Option ℕ). answer.Conflict version head n) (number_or_null_back prev_version)
back (answer.NameTaken id) fits = ap (λ (i : Id). answer.NameTaken i) (id_back id fits)
back (answer.IdTaken name) fits = refl
back (answer.Full what have limit) fits = ap (λ (w : FullKind). answer.Full w have limit) (limit_back what)
back answer.DiskFault fits = refl
back answer.OutOfMemory fits = refl
back (answer.BadRequest kind) fits = refl

-- a text of one type is of one body
same_body : (x y : Body) (text : List ℕ) → media_type x ≡ media_type y → IsBodyText text x → IsBodyText text y → x ≡ y
same_body (json v) (json w) text media one other = let same : Some v ≡ Some w = sym one.1 ∙ other.1 in cc
same_body (json v) (patch w) text media one other = absurd (apart media)
  where
    apart : codes "application/json" ≡ codes "application/rdf-patch" → ⊥
    apart e = cc
same_body (patch v) (json w) text media one other = absurd (apart media)
  where
    apart : codes "application/rdf-patch" ≡ codes "application/json" → ⊥
    apart e = cc
same_body (patch v) (patch w) text media one other = ap (λ (t : List ℕ). patch t) (sym one ∙ other)

-- a reply prints one answer at most
pub one_answer : (reply : RawReply) (a b : Answer) → IsPrintOf reply a → IsPrintOf reply b → without_spare a ≡ without_spare b
one_answer reply a b first second =
    let media : Some (media_type (body_of a)) ≡ Some (media_type (body_of b)) = sym first.media ∙ second.media in
    let types : media_type (body_of a) ≡ media_type (body_of b) = cc in
    let bodies = same_body (body_of a) (body_of b) reply.body types first.body second.body in
    sym (back a first.stands) ∙ ap answer_of bodies ∙ back b second.stands

no_refusal : (reply : RawReply) (a : Answer) (at : ℕ) → IsPrintOf reply a → IsNoAnswer reply at → ⊥
no_refusal reply a at print (at_head none is) = none (a, print.stands, print.status, print.media)
no_refusal reply a at print (at_body head none is) = none a print

-- reading the print of an answer gives that answer
pub read_back : (reply : RawReply) (a : Answer) (read : Result Answer AnswerFault) → IsPrintOf reply a
    → IfOk read (λ b. IsPrintOf reply b) → IfErr read (λ fault. IsRefusedReply reply fault) → IsReadBack a read
read_back reply a (Ok b) print found refused = one_answer reply b a found print
read_back reply a (Err (fault.NotUnderstood at)) print found refused = no_refusal reply a at print refused
read_back reply a (Err fault.OutOfMemory) print found refused = tt
