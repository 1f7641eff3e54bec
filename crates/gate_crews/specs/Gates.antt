-- Whether gates failed.
use Rattle.std.specs.Prelude.{◌≡◌, ℕ, List, Some, slice_get}
use Rattle.delta_base.specs.Outside.{Rose}

-- the count of one of these gates rose
abbrev pub HaveFailed : {G : Type 0} → (G → ℕ) → List G → List G → Type 0
HaveFailed {G} faults gates after =
    (place : ℕ) × (gate : G) × (left : G)
    × (slice_get gates place ≡ Some gate) × (slice_get after place ≡ Some left)
    × Rose (faults gate) (faults left)
