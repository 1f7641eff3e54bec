-- What an index of ids has.
use Rattle.std.specs.Prelude.{◌≡◌, ℕ, ◌+◌, List, [], ◌∷◌, ◌++◌, length, None, nat_eq}
use Rattle.std.specs.HashMap.{get}
use Rattle.delta_base.specs.declared.id.Id.{Id}
use Rattle.chain_core.specs.declared.id_index.IdIndex.{IdIndex}
use Rattle.chain_core.specs.Ids.{version_among}

-- the version of each id among these, and no other
abbrev pub IsIndexOf : IdIndex → List Id → Type 0
IsIndexOf index ids = (id : Id) → get nat_eq index.versions id.0 ≡ version_among ids id

-- the ids of one are those of the other
abbrev pub HasSameIds : IdIndex → IdIndex → Type 0
HasSameIds old new = (ids : List Id) → IsIndexOf old ids → IsIndexOf new ids

-- with one id more: if it is new, and the version is its own
abbrev pub HasOneMore : IdIndex → Id → ℕ → IdIndex → Type 0
HasOneMore old id version new = (ids : List Id) → IsIndexOf old ids
    → version_among ids id ≡ None → version ≡ length ids + 1 → IsIndexOf new (ids ++ id ∷ [])
