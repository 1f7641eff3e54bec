-- The values in JSON of which the bodies of answers are made.
use Rattle.std.specs.Prelude.{ℕ, List, [], ◌∷◌, Option, Some, None, codes, map}
use Rattle.serde_json.specs.Data.{Data, null, number, unsigned, string}
use Rattle.serde_json.specs.Data.{array, object, Members, member, no_members}
use Rattle.serde_json.specs.View.{items_of}
use Rattle.delta_base.specs.Ids.{text_of}
use Rattle.delta_base.specs.declared.id.Id.{Id}
use Rattle.log_base.specs.declared.limits.FullKind.{FullKind}
use Rattle.log_base.specs.declared.limits.FullKind.TheVariants.{Patches, Bytes, Slots}
use Rattle.log_base.specs.declared.source_info.SourceInfo.{SourceInfo}

abbrev pub members_from : List (List ℕ × Data) → Members
members_from [] = no_members
members_from (row ∷ rows) = member row.0 row.1 (members_from rows)

-- an object of these members; they are listed in the order of their names' bytes
abbrev pub object_of : List (List ℕ × Data) → Data
object_of rows = object (members_from rows)

-- a word of a format
abbrev pub word : List ℕ → Data
word text = string text

abbrev pub whole_number : ℕ → Data
whole_number n = number (unsigned n)

abbrev pub whole_or_null : Option ℕ → Data
whole_or_null None = null
whole_or_null (Some n) = whole_number n

-- an id, hyphenated and in lower case
abbrev pub id_data : Id → Data
id_data id = string (text_of id.0)

abbrev pub id_or_null : Option Id → Data
id_or_null None = null
id_or_null (Some id) = id_data id

abbrev pub limit_name : FullKind → List ℕ
limit_name Patches = codes "patches"
limit_name Bytes = codes "bytes"
limit_name Slots = codes "slots"

-- a source with its own values
abbrev pub source_data : SourceInfo → Data
source_data source = object_of
    ((codes "id", id_data source.id)
    ∷ (codes "name", string source.name)
    ∷ (codes "slot", whole_number source.slot)
    ∷ (codes "uri", string source.uri) ∷ [])

abbrev pub sources_data : List SourceInfo → Data
sources_data sources = array (items_of (map source_data sources))
