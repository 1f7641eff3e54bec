-- A value that passes share in a turn, whatever it is: its passes, one stay of a pass, and what the
-- value has come to when all passes are back.
use Rattle.std.specs.Prelude.{◌≡◌, ◌⊎◌, ℕ, ◌+◌, ◌≤◌, List, [], Some}
use mathlib.Core.List.{IsPrefix}
use Rattle.turn_cell.specs.declared.chained.Chained.{Ghosts}
use Rattle.turn_cell.specs.Turns.{AllOf, Knew, Continues, own_count, Adds}
use Rattle.turn_cell.specs.Sights.{Sight, Made, Taken, IsOutside, IsFrom, AreAll, ComesFrom}
use Rattle.turn_cell.specs.Knowing.{IsSame, IsQuiet, KnowsItsOwn}
use Rattle.turn_cell.specs.Knowing.{pass_number, seen_of, mine_of, failed_of}
use Rattle.turn_cell.specs.Knowing.{own_faults_of, looks_of, turns_of}

module _ {V C X F : Type 0} (chained : Ghosts V C X F) where
  -- a pass of this cell that doesn't have the turn
  abbrev pub IsPassOf : Made V → Sight C X F → Type 0
  IsPassOf made p =
      (p.cell ≡ made.cell) × IsOutside p × (p.view.fixed ≡ Some (chained.fixed made.origin))

  -- a pass as the making gives it: it has seen the entries of then, and has done nothing
  abbrev pub IsNewPassOf : Made V → ℕ → Sight C X F → Type 0
  IsNewPassOf made number p =
      IsPassOf made p × (pass_number p ≡ number) × (seen_of p ≡ chained.entries made.origin)
      × (mine_of p ≡ []) × (own_faults_of p ≡ 0) × (looks_of p ≡ 0) × (failed_of p ≡ [])
      × (turns_of p ≡ 0)

  -- the passes of this cell, of which none has the turn and none is missing
  abbrev pub AreAllPassesOf : Made V → List (Sight C X F) → Type 0
  AreAllPassesOf made passes = AllOf (IsPassOf made) passes × AreAll made.seats passes

  -- what a pass has seen is the beginning of the entries, and the places that it knows are just
  -- those of its own
  abbrev pub HasSeen : V → Sight C X F → Type 0
  HasSeen value p = Knew (chained.entries value) (pass_number p) (seen_of p) (mine_of p)

  -- What the value is when all its passes are back. After the entries of the making, each has the
  -- number of a pass; a doubt was there at the making, or one of the passes left it.
  pub record IsClosedOf (made : Made V) (passes : List (Sight C X F)) (value : V) : Type 0 where
    pub stands : chained.stands value
    pub history : Continues (chained.entries made.origin) made.seats (chained.entries value)
    pub seen : AllOf (HasSeen value) passes
    pub faults : AllOf (λ p. own_faults_of p ≤ chained.fault_count value) passes
    pub doubt : ComesFrom (chained.doubt made.origin) passes (chained.doubt value)
    pub fixed : chained.fixed value ≡ chained.fixed made.origin
    -- where no pass ever drew a ticket, it is the value of the making, untouched
    pub untouched : AllOf (λ p. turns_of p ≡ 0) passes → value ≡ made.origin

  -- The pass took the turn: it has looked at the history, and holds the value that stands for it.
  pub record EntersTurn (p : Sight C X F) (held : Taken C X F V) (q : Sight C X F) : Type 0 where
    pub same : IsSame p q
    pub quiet : IsQuiet p q
    pub from : IsFrom chained.entries chained.fault_count chained.doubt chained.fixed q held
    pub value : held.value ≡ held.was
    pub stands : chained.stands held.was
    pub sees : seen_of q ≡ chained.entries held.was
    pub later : IsPrefix (seen_of p) (seen_of q)
    pub own : KnowsItsOwn q
    pub looked : looks_of q ≡ looks_of p + 1
    pub test : chained.fits (chained.fixed held.was) (seen_of q)

  -- The pass gave the turn back: what it shows is that of the value that it left, which stands.
  pub record LeavesTurn (p : Sight C X F) (held : Taken C X F V) (q : Sight C X F) : Type 0 where
    pub same : IsSame p q × IsOutside q
    pub stands : chained.stands held.value
    pub sees : seen_of q ≡ chained.entries held.value
    pub own : KnowsItsOwn q
    pub looks : looks_of q ≡ looks_of p
    pub own_faults :
        IsQuiet p q
        ⊎ (own_faults_of q
        ≡ own_count (own_faults_of p) (chained.fault_count held.was)
        (chained.fault_count held.value))
    pub never_falls : own_faults_of p ≤ own_faults_of q
    pub failed :
        Adds (chained.doubt held.was) (chained.doubt held.value) (failed_of p) (failed_of q)

  -- One stay of a pass: the value that it found in the turn, the value that it left, what it did in
  -- between, and what the pass shows before and behind. A value stands whenever the turn is handed
  -- on; so nothing is published before it stands, and a pass has faults of its own only where the
  -- outside failed in its own stay.
  pub record InTurn (Did : V → V → Type 0) (origin : V) (p q : Sight C X F) : Type 0 where
    pub found : V
    pub left : V
    pub found_stands : chained.stands found
    pub left_stands : chained.stands left
    pub did : Did found left
    pub found_fixed : chained.fixed found ≡ chained.fixed origin
    pub left_fixed : chained.fixed left ≡ chained.fixed origin
    pub had_seen : IsPrefix (seen_of p) (chained.entries found)
    pub sees : seen_of q ≡ chained.entries left
    pub own_faults :
        IsQuiet p q
        ⊎ (own_faults_of q
        ≡ own_count (own_faults_of p) (chained.fault_count found) (chained.fault_count left))
    pub failed : Adds (chained.doubt found) (chained.doubt left) (failed_of p) (failed_of q)

  -- a stay that left the value as it was found
  abbrev pub FoundInTurn : V → Sight C X F → Sight C X F → Type 0
  FoundInTurn origin p q = InTurn (λ found left. left ≡ found) origin p q
