-- How contracts see a gate in memory.
use Rattle.std.specs.Prelude.{◌≡◌, ℕ, ◌+◌, List, [], ◌∷◌}
use Rattle.delta_base.specs.Memory.{CountsCall}
use Rattle.worker_pool.specs.declared.gate.Arrival.{Arrival}

module _ {L : Type 0} where
  -- links in their order, whose dice are numbers from this one on
  abbrev pub arrivals_from : ℕ → List L → List (Arrival L)
  arrivals_from first [] = []
  arrivals_from first (link ∷ links) =
      record { link = link; dice = first } ∷ arrivals_from (first + 1) links

-- the arrivals left, the links put back, how many more can be, which calls of `next` fail, how many
-- were made, and how many failed
pub record GateState (L : Type 0) : Type 0 where
  pub arrivals : List (Arrival L)
  pub back : List L
  pub room : ℕ
  pub failing : List ℕ
  pub calls : ℕ
  pub faults : ℕ

-- after a call of `next`: one call more, and the same calls are to fail
abbrev pub CountsOnGate : {L : Type 0} → GateState L → GateState L → Type 0
CountsOnGate before after =
    CountsCall before.calls after.calls × (after.failing ≡ before.failing)
