-- Numbers that passes add.
use Rattle.std.specs.Prelude.{◌≡◌, ◌≢◌, ◌⊎◌, ℕ, ◌+◌, ◌-◌, ◌^◌, ◌++◌, ◌∷◌, [], min}
use Rattle.std.proofs.Common.{inl, refl}
use Rattle.turn_cell.specs.declared.view.Known.{Known}
use Rattle.turn_bench.specs.declared.numbers.Numbers.{Numbers}

abbrev pub added : ℕ → ℕ → Known ℕ
added number by = record { content = number; by = by }

-- the number stands at the end
abbrev pub HasAdded : ℕ → ℕ → Numbers → Numbers → Type 0
HasAdded number by old new =
    (new.entries.items ≡ old.entries.items ++ added number by ∷ []) × (new.faults ≡ old.faults)

-- there was no room: nothing came, and a fault was counted, up to the last value of u64
abbrev pub LacksRoom : Numbers → Numbers → Type 0
LacksRoom old new =
    (new.entries.items ≡ old.entries.items) × (new.faults ≡ min (old.faults + 1) (2 ^ 64 - 1))

-- a number never stands in doubt
pub nothing_apart : (a b : Unit {0}) → (a ≡ b) ⊎ (a ≢ b)
nothing_apart a b = inl refl
