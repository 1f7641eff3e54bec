-- The sources that live after some events.
use Rattle.std.specs.Prelude.{◌≡◌, ℕ, ◌+◌, ◌<◌, ◌≤◌, ◌==◌, not, Bool, List, [], ◌∷◌, ◌++◌}
use Rattle.std.specs.Prelude.{map, filter, fold, sum_by, find, Option, if◌then◌else◌}
use Rattle.std.specs.Str.{bytes_eq}
use Rattle.std.specs.Ordering.{nat_cmp, is_lt}
use Rattle.std.specs.Cmp.Lexicographic.{slice_cmp}
use Rattle.delta_base.specs.declared.id.Id.{Id}
use Rattle.log_base.specs.declared.source_info.SourceInfo.{SourceInfo}
use Rattle.registry_core.specs.declared.event.Event.{Event}
use Rattle.registry_core.specs.declared.event.Event.TheVariants.{Created, Renamed, Removed}

-- it has one of so many slots, which are counted from 1
abbrev pub HasSlot : ℕ → SourceInfo → Type 0
HasSlot slots source = (0 < source.slot) × (source.slot ≤ slots)

-- the same source by another name
abbrev pub named : List ℕ → SourceInfo → SourceInfo
named name source = record source { name = name }

-- the source by another name, if it has the slot
abbrev pub renamed : ℕ → List ℕ → SourceInfo → SourceInfo
renamed slot name source = if source.slot == slot then named name source else source

-- what one more event makes of the living sources
abbrev pub after_event : List SourceInfo → Event → List SourceInfo
after_event living (Created source) = living ++ source ∷ []
after_event living (Renamed slot name) = map (renamed slot name) living
after_event living (Removed slot) = filter (λ source. not (source.slot == slot)) living

-- the living sources, in the order of their slots
unfoldable pub sources : List Event → List SourceInfo
sources events = fold after_event [] events

-- how many sources an event makes
abbrev pub makes : Event → ℕ
makes (Created source) = 1
makes (Renamed slot name) = 0
makes (Removed slot) = 0

-- how many sources were ever created
abbrev pub used : List Event → ℕ
used events = sum_by makes events

-- the source with a name, with an id, and in a slot
abbrev pub source_named : List ℕ → List SourceInfo → Option SourceInfo
source_named name living = find (λ source. bytes_eq source.name name) living

abbrev pub source_with_id : Id → List SourceInfo → Option SourceInfo
source_with_id id living = find (λ source. source.id.0 == id.0) living

abbrev pub source_in : ℕ → List SourceInfo → Option SourceInfo
source_in slot living = find (λ source. source.slot == slot) living

-- the source with a URI; of several the one in the least slot
abbrev pub source_with_uri : List ℕ → List SourceInfo → Option SourceInfo
source_with_uri uri living = find (λ source. bytes_eq source.uri uri) living

-- whether a source's name is before another's
abbrev pub is_before : SourceInfo → SourceInfo → Bool
is_before source other = is_lt (slice_cmp nat_cmp source.name other.name)

-- a source put before the first one whose name is behind its own
abbrev pub put : List SourceInfo → SourceInfo → List SourceInfo
put [] source = source ∷ []
put (first ∷ rest) source = if is_before source first then source ∷ first ∷ rest else first
    ∷ put rest source

-- sources in the order of their names
unfoldable pub by_name : List SourceInfo → List SourceInfo
by_name living = fold put [] living
