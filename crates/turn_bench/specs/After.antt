-- Passes that were used and hold no turn, and what is left when all are back.
use Rattle.std.specs.Prelude.{◌≡◌, ◌⊎◌, ℕ, ◌+◌, ◌<◌, ◌≤◌, List, [], length, slice_index_or}
use Rattle.atomic_table.specs.Seated.{TableId}
use Rattle.turn_cell.specs.Turns.{places_by, Continues}
use Rattle.turn_cell.specs.Sights.{Sight, IsOutside}
use Rattle.turn_cell.specs.Knowing.{pass_number, mine_of, own_faults_of, looks_of}
use Rattle.turn_bench.specs.declared.numbers.Numbers.{Numbers}

abbrev pub NumberSight : Type 0
NumberSight = Sight ℕ (Unit {0}) (Unit {0})

-- a pass of the cell that has no turn
abbrev pub IsIdle : TableId → NumberSight → Type 0
IsIdle cell p = (p.cell ≡ cell) × IsOutside p

-- each of so many stays has added an entry of the pass, or the pass has faults of its own
abbrev pub StaysAdd : ℕ → NumberSight → NumberSight → Type 0
StaysAdd stays p q = (length (mine_of q) ≡ length (mine_of p) + stays) ⊎ (0 < own_faults_of q)

-- the same pass, idle again, after so many stays: each is one look at the history
pub record IsAfter (stays : ℕ) (p q : NumberSight) : Type 0 where
  pub idle : IsIdle p.cell q
  pub number : pass_number q ≡ pass_number p
  pub looks : looks_of q ≡ looks_of p + stays
  pub adds : StaysAdd stays p q
  pub faults : 0 < own_faults_of p → 0 < own_faults_of q

-- each pass is the one of that place, after so many stays
abbrev pub AreAfter : ℕ → List NumberSight → List NumberSight → Type 0
AreAfter stays ps qs =
    (length qs ≡ length ps)
    × ((k : ℕ) (d : NumberSight) → k < length ps
    → IsAfter stays (slice_index_or ps k d) (slice_index_or qs k d))

-- each of so many passes has added one number a stay
abbrev pub HaveAdded : ℕ → ℕ → Numbers → Type 0
HaveAdded passes stays numbers =
    (number : ℕ) → 0 < number → number ≤ passes
    → length (places_by number numbers.entries.items) ≡ stays

-- Only these passes have added numbers: each one a stay, unless there was no room for some.
pub record AreOfRace (passes stays : ℕ) (numbers : Numbers) : Type 0 where
  pub theirs : Continues [] passes numbers.entries.items
  pub each : HaveAdded passes stays numbers ⊎ (0 < numbers.faults)
