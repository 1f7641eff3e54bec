-- What clauses see of a twin and of its passes. A pass shows the same as a pass of a turn.
use Rattle.std.specs.Prelude.{◌≡◌, ℕ, ◌≤◌, ◌⊎◌, List, [], ◌∷◌, ◌++◌, Option, Some}
use Rattle.atomic_table.specs.Seated.{TableId}
use Rattle.turn_cell.specs.declared.view.Known.{Known}
use Rattle.turn_cell.specs.declared.view.Published.{Published}
use Rattle.turn_cell.specs.declared.view.Offered.{Offered}
use Rattle.turn_cell.specs.declared.view.Stage.{Stage}
use Rattle.turn_cell.specs.declared.view.Stage.TheVariants.{Outside, Waiting, Inside}
use Rattle.turn_cell.specs.Sights.{Sight, Taken}
use Rattle.twin_cell.specs.declared.parts.Kept.{Kept}
use Rattle.twin_cell.specs.declared.parts.Kept.TheVariants.{Nothing}

module _ {Y : Type 0} where
  -- the seat has the turn of this lane, and this holds of what it knows as published there
  abbrev pub InLane : Stage Y → (Y → Type 0) → Type 0
  InLane Outside P = ⊥
  InLane (Waiting t) P = ⊥
  InLane (Inside t y) P = P y

  -- between calls a pass doesn't wait
  abbrev pub IsAtRest : Stage Y → Type 0
  IsAtRest Outside = Unit {0}
  IsAtRest (Waiting t) = ⊥
  IsAtRest (Inside t y) = Unit {0}

  -- the slot that is out with a seat in the turn of a lane
  abbrev pub out_of : {W R : Type 0} → ℕ → Stage Y → List (ℕ × Kept W R)
  out_of slot Outside = []
  out_of slot (Waiting t) = []
  out_of slot (Inside t y) = (slot, Nothing) ∷ []

module _ {C X W R : Type 0} where
  abbrev pub CarriesBoth : Stage (Published C X) → Stage (Offered C) → List (ℕ × Kept W R) → Type 0
  CarriesBoth stage list slots =
      IsAtRest stage × IsAtRest list × (slots ≡ out_of 1 list ++ out_of 0 stage)

module _ {C X F : Type 0} where
  -- the pass has the turn of the work
  abbrev pub HasWork : Sight C X F → Type 0
  HasWork p = InLane p.view.stage (λ y. Unit {0})

  -- the spare that the list has at least, while the pass has the turn of the work
  abbrev pub spare_of : Sight C X F → ℕ
  spare_of p = p.view.spare

  -- Of the spare of a list as a pass found it and as it leaves it: a pass that has the work leaves
  -- what it needs, and any other leaves what was there and needs nothing.
  abbrev pub LeavesSpare : Sight C X F → ℕ → ℕ → ℕ → Type 0
  LeavesSpare p need found left =
      (HasWork p × (need ≤ left))
      ⊎ ((p.view.stage ≡ Outside) × (need ≡ 0) × (left ≡ found))

-- a cell: which one it is, the work and the list that it was made of, and for how many passes
pub record MadeTwin (W R : Type 0) : Type 0 where
  pub cell : TableId
  pub work : W
  pub list : R
  pub seats : ℕ

module _ {C X F W : Type 0} (fault_count : W → ℕ) (doubt_of : W → Option X) (fixed : W → F) where
  -- the work came from this pass's last entering
  abbrev pub IsWorkFrom : Sight C X F → Taken C X F W → Type 0
  IsWorkFrom p h =
      (h.entered.cell ≡ p.cell) × (h.entered.place ≡ p.place)
      × (p.view.fixed ≡ Some (fixed h.was))
      × InLane p.view.stage (λ y. (y.faults ≡ fault_count h.was) × (y.doubt ≡ doubt_of h.was))

  -- what the twin publishes of the work is as it was
  abbrev pub IsWorkAsFound : Taken C X F W → Type 0
  IsWorkAsFound h =
      (fault_count h.value ≡ fault_count h.was) × (doubt_of h.value ≡ doubt_of h.was)
      × (fixed h.value ≡ fixed h.was)

module _ {C X F R : Type 0} (entries : R → List (Known C)) (spare : R → ℕ) where
  -- the list came from this pass's last entering
  abbrev pub IsListFrom : Sight C X F → Taken C X F R → Type 0
  IsListFrom p h =
      (h.entered.cell ≡ p.cell) × (h.entered.place ≡ p.place)
      × InLane p.view.list (λ o. (o.entries ≡ entries h.was) × (o.spare ≤ spare h.was))
