-- What a pass shows, and what it comes to know in a call, over any content, doubt and fixed part.
-- Of two passes p and q, p is the pass before the call and q the pass behind it.
use Rattle.std.specs.Prelude.{◌≡◌, ℕ, ◌<◌, ◌≤◌, List, [], ◌∷◌, ◌++◌, length}
use mathlib.Core.List.{IsPrefix}
use Rattle.turn_cell.specs.declared.view.Known.{Known}
use Rattle.turn_cell.specs.Turns.{places_by}
use Rattle.turn_cell.specs.Sights.{Sight, IsOutside}

module _ {C X F : Type 0} where
  abbrev pub pass_number : Sight C X F → ℕ
  pass_number p = p.view.number

  -- the history that the pass has seen
  abbrev pub seen_of : Sight C X F → List (Known C)
  seen_of p = p.view.seen

  -- the places of the entries that the pass brought, counted from 1
  abbrev pub mine_of : Sight C X F → List ℕ
  mine_of p = p.view.mine

  -- what the pass left as a new doubt
  abbrev pub failed_of : Sight C X F → List X
  failed_of p = p.view.failed

  -- how often the outside failed in the pass's own stays
  abbrev pub own_faults_of : Sight C X F → ℕ
  own_faults_of p = p.view.own_faults

  -- how often the pass looked at the history
  abbrev pub looks_of : Sight C X F → ℕ
  looks_of p = p.view.looks

  -- how often the pass drew a ticket
  abbrev pub turns_of : Sight C X F → ℕ
  turns_of p = p.view.turns

  -- the same pass: of that cell, at that place, with that number and fixed part
  abbrev pub IsSame : Sight C X F → Sight C X F → Type 0
  IsSame p q =
      (q.cell ≡ p.cell) × (q.place ≡ p.place) × (pass_number q ≡ pass_number p)
      × (q.view.fixed ≡ p.view.fixed)

  -- it brought no entry, had no fault and left no doubt
  abbrev pub IsQuiet : Sight C X F → Sight C X F → Type 0
  IsQuiet p q =
      (mine_of q ≡ mine_of p) × (own_faults_of q ≡ own_faults_of p) × (failed_of q ≡ failed_of p)

  -- its places are just those of its own entries among those that it has seen
  abbrev pub KnowsItsOwn : Sight C X F → Type 0
  KnowsItsOwn p = places_by (pass_number p) (seen_of p) ≡ mine_of p

  -- It is the same pass, outside again. It has looked at the history, and has seen all that it had
  -- seen; it knows its own entries, and has no fewer faults.
  abbrev pub SeesOn : Sight C X F → Sight C X F → Type 0
  SeesOn p q =
      IsSame p q × IsOutside q × IsPrefix (seen_of p) (seen_of q) × KnowsItsOwn q
      × (looks_of p < looks_of q) × (own_faults_of p ≤ own_faults_of q)

  -- it has looked at the history, and did nothing else
  abbrev pub Wants : Sight C X F → Sight C X F → Type 0
  Wants p q = SeesOn p q × IsQuiet p q

  -- The last entry has this content and the pass's number. It stands at this place, behind all that
  -- the pass had seen.
  pub record Brought (content : C) (place : ℕ) (p q : Sight C X F) : Type 0 where
    pub before : List (Known C)
    pub had_seen : IsPrefix (seen_of p) before
    pub sees : seen_of q ≡ before ++ record { content = content; by = pass_number p } ∷ []
    pub at_end : place ≡ length (seen_of q)
    pub mine : mine_of q ≡ mine_of p ++ place ∷ []
    pub failed : failed_of q ≡ failed_of p
