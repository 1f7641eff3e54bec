-- The rule of a twin's cell, which holds between any two atomic steps.
-- It has two lanes, one for the work and one for the list, each with a ticket word, a serving word
-- and a slot. The words are the ticket and the serving of the work, those of the list, the count
-- and the faults; the slots are for the work and for the list.
use Rattle.std.specs.Prelude.{◌≡◌, ℕ, ◌<◌, ◌≤◌, List, [], ◌∷◌, ◌++◌, map, length, Option, Some}
use mathlib.Core.Option as home
use lib.ListN.{get_elem?}
use Rattle.atomic_table.specs.Table.{State}
use Rattle.turn_cell.specs.declared.view.Known.{Known}
use Rattle.turn_cell.specs.declared.view.Published.{Published}
use Rattle.turn_cell.specs.declared.view.Offered.{Offered}
use Rattle.turn_cell.specs.declared.view.Stage.{Stage}
use Rattle.turn_cell.specs.declared.view.Stage.TheVariants.{Inside}
use Rattle.turn_cell.specs.declared.view.View.{View}
use Rattle.turn_cell.specs.Lanes.{Lane}
use Rattle.turn_cell.specs.Turns.{AllOf, as_published, stage_of, FitsRole, IsKnown, AreFresh}
use Rattle.twin_cell.specs.declared.parts.Kept.{Kept}
use Rattle.twin_cell.specs.declared.parts.Kept.TheVariants.{Work, Items, Nothing}

-- the words and the slots of a cell
pub record Cells (S : Type 0) : Type 0 where
  pub ticket : ℕ
  pub serving : ℕ
  pub list_ticket : ℕ
  pub list_serving : ℕ
  pub count : ℕ
  pub faults : ℕ
  pub work_home : home.Option S
  pub list_home : home.Option S

module _ {S : Type 0} where
  abbrev pub words_of : Cells S → List ℕ
  words_of c =
      c.ticket ∷ c.serving ∷ c.list_ticket ∷ c.list_serving ∷ c.count ∷ c.faults ∷ []

  abbrev pub homes_of : Cells S → List (home.Option S)
  homes_of c = c.work_home ∷ c.list_home ∷ []

module _ {C : Type 0} where
  abbrev pub as_offered : List (Known C) → ℕ → Offered C
  as_offered entries spare = record { entries = entries; spare = spare }

module _ {C X F : Type 0} where
  -- where a seat stands in the lane of the list
  abbrev pub list_of : View C X F → Stage (Offered C)
  list_of v = v.list

  -- a seat in the turn of the work was promised no more spare than there is
  abbrev pub IsPromised : ℕ → View C X F → Type 0
  IsPromised spare v = (t : ℕ) (y : Published C X) → v.stage ≡ Inside t y → v.spare ≤ spare

module _ {C R W : Type 0} (entries : R → List (Known C)) (spare : R → ℕ) where
  -- the list is the published history, and has the spare that was promised
  abbrev pub IsListOf : Offered C → Kept W R → Type 0
  IsListOf o (Work w) = ⊥
  IsListOf o (Items l) = (entries l ≡ o.entries) × (o.spare ≤ spare l)
  IsListOf o Nothing = ⊥

module _ {C F W : Type 0} (stands : W → List (Known C) → Type 0) (fixed : W → F) where
  -- a work with this fixed part stands for these entries
  abbrev pub IsBacked : Option F → List (Known C) → Type 0
  IsBacked part es = (w : W) × stands w es × (part ≡ Some (fixed w))

module _ {C X F W R : Type 0} (stands : W → List (Known C) → Type 0) (fault_count : W → ℕ)
    (doubt_of : W → Option X) (fixed : W → F) where
  -- the work stands for the published history, faults and doubt
  abbrev pub IsWorkOf : F → Published C X → Kept W R → Type 0
  IsWorkOf f y (Work w) =
      stands w y.entries × (fault_count w ≡ y.faults) × (doubt_of w ≡ y.doubt) × (fixed w ≡ f)
  IsWorkOf f y (Items l) = ⊥
  IsWorkOf f y Nothing = ⊥

  module _ (entries : R → List (Known C)) (spare : R → ℕ) (fits : List (Known C) → Type 0) where
    pub record RuleOfTwin (work : W) (list : R) (seats : ℕ) (cells : Cells (Kept W R))
        (views : List (View C X F)) : Type 0 where
      pub later : List (Known C)
      pub doubt : Option X
      pub promised : ℕ
      pub work_lane :
          Lane (IsWorkOf (fixed work)) cells.ticket cells.serving cells.work_home
          (map stage_of views) (as_published (entries list ++ later) cells.faults doubt)
      pub list_lane :
          Lane (IsListOf entries spare) cells.list_ticket cells.list_serving cells.list_home
          (map list_of views) (as_offered (entries list ++ later) promised)
      pub count_is : cells.count ≡ length (entries list ++ later)
      pub first_ones : AllOf (λ e. e.by ≡ 0) (entries list)
      pub later_ones : AllOf (λ e. (0 < e.by) × (e.by ≤ length views)) later
      pub each_seat :
          (seat : ℕ) (v : View C X F) → get_elem? views seat ≡ home.some v
          → FitsRole (λ f. fits) (fixed work) views (entries list ++ later) cells.faults seat v
          v.role
      pub each_promise :
          (seat : ℕ) (v : View C X F) → get_elem? views seat ≡ home.some v → IsPromised promised v
      pub known : IsKnown (doubt_of work) views doubt
      pub test : fits (entries list ++ later)
      -- entries are published only once the work stands for them
      pub backed : IsBacked stands fixed (Some (fixed work)) (entries list ++ later)
      pub few : length views ≤ seats
      -- until a ticket is drawn, the work and the list are those of the making
      pub untouched :
          AreFresh views
          → (cells.work_home ≡ home.some (Work work)) × (cells.list_home ≡ home.some (Items list))

    pub record HoldsTwinRule (work : W) (list : R) (seats : ℕ)
        (s : State (Kept W R) (View C X F)) : Type 0 where
      pub cells : Cells (Kept W R)
      pub words_are : s.words ≡ words_of cells
      pub homes_are : s.homes ≡ homes_of cells
      pub rule : RuleOfTwin work list seats cells s.views
