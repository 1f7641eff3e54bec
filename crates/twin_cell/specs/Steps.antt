-- What each step of a twin tells its seat: the seat's view before, the word that was found, and
-- the view after.
use Rattle.std.specs.Prelude.{◌≡◌, ◌≢◌, ℕ, ◌+◌, ◌%◌, ◌^◌, ◌≤◌, List, ◌∷◌, length, Option, Some}
use mathlib.Core.List.{IsPrefix}
use Rattle.atomic_table.specs.Table.{Me, Step, rest}
use Rattle.atomic_table.specs.declared.shared.Seat.{Seat}
use Rattle.atomic_table.specs.declared.shared.Shared.{Shared}
use Rattle.turn_cell.specs.declared.view.Known.{Known}
use Rattle.turn_cell.specs.declared.view.Published.{Published}
use Rattle.turn_cell.specs.declared.view.Offered.{Offered}
use Rattle.turn_cell.specs.declared.view.Stage.{Stage}
use Rattle.turn_cell.specs.declared.view.Stage.TheVariants.{Outside, Waiting, Inside}
use Rattle.turn_cell.specs.declared.view.View.{View}
use Rattle.turn_cell.specs.Turns.{places_by, own_count, Adds}
use Rattle.turn_cell.specs.Steps.{at_stage, InTurn}
use Rattle.twin_cell.specs.declared.parts.Kept.{Kept}
use Rattle.twin_cell.specs.declared.parts.Kept.TheVariants.{Work, Items}
use Rattle.twin_cell.specs.declared.rule.Making.{Making}
use Rattle.twin_cell.specs.Twins.{IsListOf, IsWorkOf, IsBacked, as_offered}

module _ {S V : Type 0} where
  -- a seat of a twin's cell, which has six words and at most 16 seats
  abbrev pub IsTwinSeat : {W R P : Type 0} → Shared S V (Making W R) P → Seat S V → Type 0
  IsTwinSeat cell seat =
      (seat.table_id ≡ cell.table_id) × (cell.table_id.words ≡ 6) × (cell.key.seats ≤ 16)

-- what a step tells: the step, the seat before, the word that was found, the seat after
abbrev pub TellsTwin : (C X F W R : Type 0) → Type 1
TellsTwin C X F W R =
    Step (Kept W R) → Me (Kept W R) (View C X F) → ℕ → Me (Kept W R) (View C X F) → Type 0

module _ {C : Type 0} where
  -- in the turn of the list the whole history is what is published
  abbrev pub InList : Stage (Offered C) → List (Known C) → Type 0
  InList Outside log = Unit {0}
  InList (Waiting t) log = Unit {0}
  InList (Inside t o) log = log ≡ o.entries

  module _ {X : Type 0} where
    -- a seat in the turn of the work knows the history that the list has, and its spare
    abbrev pub Agrees : Stage (Published C X) → ℕ → Offered C → Type 0
    Agrees Outside spare o = Unit {0}
    Agrees (Waiting t) spare o = Unit {0}
    Agrees (Inside t y) spare o = (o.entries ≡ y.entries) × (spare ≤ o.spare)

module _ {C X F : Type 0} where
  abbrev pub at_list : View C X F → Stage (Offered C) → View C X F
  at_list v x = record v { list = x }

  -- the seat enters the turn of the work, and is promised no spare
  abbrev pub in_work : View C X F → ℕ → Published C X → View C X F
  in_work v t y = record v { stage = Inside t y; spare = 0 }

  module _ {R : Type 0} (entries : R → List (Known C)) (spare : R → ℕ) where
    -- the list's entries are published
    abbrev pub published : View C X F → R → ℕ → Published C X → ℕ → View C X F
    published v l t y u = record v {
      seen = entries l;
      mine = places_by v.number (entries l);
      stage = Inside t (record y { entries = entries l });
      list = Inside u (as_offered (entries l) (spare l));
      spare = spare l;
    }

  module _ {W : Type 0} (fault_count : W → ℕ) (doubt_of : W → Option X) where
    -- the work's faults and doubt are published
    abbrev pub reported : View C X F → W → ℕ → Published C X → List X → View C X F
    reported v w t y failed = record v {
      own_faults = own_count v.own_faults y.faults (fault_count w);
      failed = failed;
      stage = Inside t (record y { faults = fault_count w; doubt = doubt_of w });
    }

  module _ {W R : Type 0} where
    -- the seat has the ticket whose 64 bits were found
    abbrev pub DrawsWork : TellsTwin C X F W R
    DrawsWork st m found n =
        (t : ℕ) × (t % 2 ^ 64 ≡ found)
        × (n ≡ (record m.0 { stage = Waiting t; turns = m.0.turns + 1 }, m.1))

    abbrev pub DrawsList : TellsTwin C X F W R
    DrawsList st m found n =
        (t : ℕ) × (t % 2 ^ 64 ≡ found)
        × (n ≡ (record m.0 { list = Waiting t; turns = m.0.turns + 1 }, m.1))

    -- the seat has no ticket for the work, and the slot is back
    abbrev pub HandsOnWork : TellsTwin C X F W R
    HandsOnWork st m found n = n ≡ (at_stage m.0 Outside, rest m.1)

    -- the seat has loaded the count, and has seen the history of the length that was found. No
    -- other step raises `looks`.
    abbrev pub CountsList : (List (Known C) → Type 0) → TellsTwin C X F W R
    CountsList fits st m found n =
        (log : List (Known C)) × (n ≡ (record m.0 { seen = log; looks = m.0.looks + 1 }, m.1))
        × (length log ≡ found) × IsPrefix m.0.seen log × (places_by m.0.number log ≡ m.0.mine)
        × InTurn m.0.stage log × InList m.0.list log × fits log × (st.word ≡ 4)

  module _ {W R : Type 0} (stands : W → List (Known C) → Type 0) (fixed : W → F)
      (entries : R → List (Known C)) (spare : R → ℕ) where
    -- The seat's ticket is served, and it has the list, for whose entries a work of the cell's
    -- fixed part stands; or nothing changed.
    abbrev pub LooksList : TellsTwin C X F W R
    LooksList st m found n =
        (t : ℕ) → m.0.list ≡ Waiting t → (found ≢ t % 2 ^ 64 → n ≡ m)
        × (found ≡ t % 2 ^ 64
        → (l : R) × (o : Offered C) × IsListOf {W = W} entries spare o (Items l)
        × Agrees m.0.stage m.0.spare o × (n ≡ (at_list m.0 (Inside t o), (1, Items l) ∷ m.1))
        × IsBacked stands fixed m.0.fixed o.entries)

  module _ {W R : Type 0} (entries : R → List (Known C)) (spare : R → ℕ) where
    abbrev pub PublishesList : TellsTwin C X F W R
    PublishesList st m found n =
        (t u : ℕ) (y : Published C X) (o : Offered C) (l : R) → m.0.stage ≡ Inside t y
        → m.0.list ≡ Inside u o → m.1 ≡ (1, Items l) ∷ rest m.1
        → n ≡ (published entries spare m.0 l t y u, m.1)

    -- the seat has no ticket for the list, the slot is back, and the list has at least this spare
    abbrev pub HandsOnList : TellsTwin C X F W R
    HandsOnList st m found n =
        (l : R) → m.1 ≡ (1, Items l) ∷ rest m.1
        → n ≡ (record m.0 { list = Outside; spare = spare l }, rest m.1)

  module _ {W R : Type 0} (stands : W → List (Known C) → Type 0) (fault_count : W → ℕ)
      (doubt_of : W → Option X) (fixed : W → F) where
    -- the seat's ticket is served, and it has the work; or nothing changed
    abbrev pub LooksWork : TellsTwin C X F W R
    LooksWork st m found n =
        (t : ℕ) → m.0.stage ≡ Waiting t → (found ≢ t % 2 ^ 64 → n ≡ m)
        × (found ≡ t % 2 ^ 64
        → (w : W) × (y : Published C X) × (f : F) × (m.0.fixed ≡ Some f)
        × IsWorkOf {R = R} stands fault_count doubt_of fixed f y (Work w)
        × (n ≡ (in_work m.0 t y, (0, Work w) ∷ m.1)))

    abbrev pub ReportsWork : TellsTwin C X F W R
    ReportsWork st m found n =
        (t : ℕ) (y : Published C X) (w : W) → m.0.stage ≡ Inside t y
        → m.1 ≡ (0, Work w) ∷ rest m.1
        → (found ≡ y.faults) × (m.0.own_faults ≤ found)
        × ((failed : List X) × Adds y.doubt (doubt_of w) m.0.failed failed
        × (n ≡ (reported fault_count doubt_of m.0 w t y failed, m.1)))
