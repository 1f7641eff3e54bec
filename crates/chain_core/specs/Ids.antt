-- Ids in their order.
use Rattle.std.specs.Prelude.{ℕ, ◌+◌, ◌-◌, ◌==◌, List, [], ◌∷◌, length, slice_get}
use Rattle.std.specs.Prelude.{Option, None, Some, if◌then◌else◌}
use Rattle.std.specs.Option.{option_map}
use Rattle.delta_base.specs.declared.id.Id.{Id}

-- the last one
abbrev pub last_of : List Id → Option Id
last_of ids = slice_get ids (length ids - 1)

-- the version of an id, counted from 1
abbrev pub version_among : List Id → Id → Option ℕ
version_among [] id = None
version_among (first ∷ ids) id =
    if first.0 == id.0 then Some 1 else option_map (λ version. version + 1) (version_among ids id)
