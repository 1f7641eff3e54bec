-- Sources that a name, an id and a slot tell apart.
use Rattle.std.specs.Prelude.{◌≡◌, ◌≢◌, ℕ, List, [], ◌∷◌}
use Rattle.std.specs.List.{AllByRecursion}
use Rattle.log_base.specs.declared.source_info.SourceInfo.{SourceInfo}
use Rattle.registry_core.specs.declared.event.Event.{Event}
use Rattle.registry_core.specs.Sources.{sources, used}
use Rattle.registry_core.specs.Tables.{SlotsRise}

-- no two of them have one key
abbrev pub DifferBy : {K : Type 0} → (SourceInfo → K) → List SourceInfo → Type 0
DifferBy key [] = Unit {0}
DifferBy key (source ∷ living) = AllByRecursion (λ other. key other ≢ key source) living
    × DifferBy key living

-- the sources that live after some events
pub record AreApart (events : List Event) : Type 0 where
  pub names : DifferBy (λ source. source.name) (sources events)
  pub ids : DifferBy (λ source. source.id.0) (sources events)
  pub slots : SlotsRise 0 (used events) (sources events)
