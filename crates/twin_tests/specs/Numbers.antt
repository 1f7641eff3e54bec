-- Numbers that passes bring, and their tally.
use Rattle.std.specs.Prelude.{◌≡◌, ◌≢◌, ◌⊎◌, ℕ, ◌-◌, vec_len, vec_capacity}
use Rattle.std.proofs.Common.{inl, refl}
use Rattle.turn_cell.specs.Sights.{Sight, IsOutside}
use Rattle.twin_cell.specs.Sights.{MadeTwin}
use Rattle.twin_tests.specs.declared.numbers.Numbers.{Numbers}
use Rattle.twin_tests.specs.declared.numbers.Tally.{Tally}

-- how many numbers more there is room for
abbrev pub spare_of_numbers : Numbers → ℕ
spare_of_numbers n = vec_capacity n.entries - vec_len n.entries

abbrev pub NumberSight : Type 0
NumberSight = Sight ℕ (Unit {0}) (Unit {0})

-- a pass of the twin that has neither turn
abbrev pub IsIdle : MadeTwin Tally Numbers → NumberSight → Type 0
IsIdle twin p = (p.cell ≡ twin.cell) × IsOutside p

-- a tally never stands in doubt
pub nothing_apart : (a b : Unit {0}) → (a ≡ b) ⊎ (a ≢ b)
nothing_apart a b = inl refl
