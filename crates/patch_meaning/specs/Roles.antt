-- What the rows of a patch say.
use Rattle.std.specs.Prelude.{◌≡◌, ℕ, Bool, true, false, ◌||◌, List, [], ◌∷◌, Option, None}
use Rattle.std.specs.Prelude.{Some, take, drop, length, map, codes, nat_eq, if◌then◌else◌}
use Rattle.std.specs.List.{flat_map}
use Rattle.std.specs.Option.{option_map, option_or}
use Rattle.std.specs.Cmp.Lexicographic.{pointwise}
use Rattle.delta_base.specs.declared.id.Id.{Id}
use Rattle.delta_base.specs.Ids.{number_of}
use Rattle.rdf_terms.specs.declared.term.LiteralKind.{LiteralKind}
use Rattle.rdf_terms.specs.declared.term.LiteralKind.TheVariants.{Plain, Typed, Tagged}
use Rattle.rdf_terms.specs.declared.term.Term.{Term}
use Rattle.rdf_terms.specs.declared.term.Term.TheVariants as terms
use Rattle.rdf_terms.specs.declared.change.Change.{Change}
use Rattle.rdf_terms.specs.declared.change.Change.TheVariants as change
use Rattle.patch_rows.specs.declared.row.Row.{Row}
use Rattle.patch_rows.specs.declared.row.Row.TheVariants as rows
use Rattle.patch_meaning.specs.declared.role.Role.{Role}
use Rattle.patch_meaning.specs.declared.role.Role.TheVariants as roles
use Rattle.patch_reader.specs.declared.placed.PlacedRow.{PlacedRow}
use Rattle.rdf_terms.specs.Quad.{Statement}
use Rattle.row_scan.specs.Found.{change_by}
use Rattle.row_scan.specs.declared.row.Says.{Says}
use Rattle.row_scan.specs.declared.row.Says.TheVariants as says

-- ---- ids

abbrev pub as_id : ℕ → Id
as_id number = record { 0 = number }

-- the id that a text is
abbrev pub id_in : List ℕ → Option Id
id_in text = option_map as_id (number_of text)

-- the id behind a word with which the text begins
abbrev pub id_behind : List ℕ → List ℕ → Option Id
id_behind word text = if pointwise nat_eq (take (length word) text) word
    then id_in (drop (length word) text) else None

-- `uuid:` or `urn:uuid:`, and the id
abbrev pub iri_id : List ℕ → Option Id
iri_id iri = option_or (id_behind (codes "uuid:") iri) (id_behind (codes "urn:uuid:") iri)

-- the id of a string without tag and datatype
abbrev pub string_id : List ℕ → LiteralKind → Option Id
string_id string Plain = id_in string
string_id string (Typed datatype) = None
string_id string (Tagged tag) = None

-- the id that the value of a header names
unfoldable pub value_id : Term → Option Id
value_id (terms.Iri iri) = iri_id iri
value_id (terms.Blank label) = None
value_id (terms.Literal literal) = string_id literal.lexical literal.kind

-- ---- what a row says

-- a header with this key: the patch's id, the id of the patch before it, or another thing
unfoldable pub header_role : List ℕ → Term → Role
header_role key value =
    if pointwise nat_eq key (codes "id") then roles.Id (value_id value)
    else (if pointwise nat_eq key (codes "prev") || pointwise nat_eq key (codes "previous")
    then roles.Prev (value_id value) else roles.Other)

abbrev pub role : Row → Role
role (rows.Header key value) = header_role key value
role (rows.Change change) = roles.Change change

-- a row says this, of which a scan found so much
abbrev pub IsFoundRole : Says → Role → Type 0
IsFoundRole (says.Quad adds line) r =
    (quad : Statement) × (r ≡ roles.Change (change_by adds quad))
IsFoundRole says.Begin r = r ≡ roles.Change change.Begin
IsFoundRole says.Commit r = r ≡ roles.Change change.Commit
IsFoundRole says.Abort r = r ≡ roles.Change change.Abort
IsFoundRole (says.Id id) r = r ≡ roles.Id (Some id)
IsFoundRole (says.Prev id) r = r ≡ roles.Prev (Some id)

-- what such a row says, unless it adds or deletes a quad
abbrev pub found_role : Says → Option Role
found_role (says.Quad adds line) = None
found_role says.Begin = Some (roles.Change change.Begin)
found_role says.Commit = Some (roles.Change change.Commit)
found_role says.Abort = Some (roles.Change change.Abort)
found_role (says.Id id) = Some (roles.Id (Some id))
found_role (says.Prev id) = Some (roles.Prev (Some id))

-- what the rows of a text say
abbrev pub said : List PlacedRow → List Role
said rs = map (λ r. role r.row) rs

-- ---- what a list of rows says

abbrev pub id_said : Role → List (Option Id)
id_said (roles.Id id) = id ∷ []
id_said (roles.Prev id) = []
id_said roles.Other = []
id_said (roles.Change change) = []

abbrev pub prev_of : Role → List (Option Id)
prev_of (roles.Id id) = []
prev_of (roles.Prev id) = id ∷ []
prev_of roles.Other = []
prev_of (roles.Change change) = []

abbrev pub change_of : Role → List Change
change_of (roles.Id id) = []
change_of (roles.Prev id) = []
change_of roles.Other = []
change_of (roles.Change change) = change ∷ []

-- the ids that id rows name, in their order; none where the value names no id
abbrev pub ids_of : List Role → List (Option Id)
ids_of rs = flat_map id_said rs

-- the same of prev rows
abbrev pub prevs_of : List Role → List (Option Id)
prevs_of rs = flat_map prev_of rs

-- the changes, in their order
abbrev pub changes_of : List Role → List Change
changes_of rs = flat_map change_of rs

-- whether a block is open behind a change, by what was so before it
abbrev pub open_after : Bool → Change → Bool
open_after inside change.Begin = true
open_after inside change.Commit = false
open_after inside change.Abort = false
open_after inside (change.Add quad) = inside
open_after inside (change.Delete quad) = inside
open_after inside (change.PrefixAdd prefix iri graph) = inside
open_after inside (change.PrefixDelete prefix graph) = inside

-- whether a block is open behind changes: the last of TX, TC and TA among them is TX
abbrev pub open_from : Bool → List Change → Bool
open_from inside [] = inside
open_from inside (change ∷ changes) = open_from (open_after inside change) changes

abbrev pub is_open : List Role → Bool
is_open rs = open_from false (changes_of rs)
