-- A twin at any moment: what its rule says of the work, of the list and of the passes. This is
-- what `close` tells once all passes are back, and it holds between any two steps.
use Rattle.std.specs.Prelude.{◌≡◌, ℕ, ◌≤◌, List, Option, Some}
use mathlib.Core.Option as home
use lib.ListN.{get_elem?}
use Rattle.atomic_table.specs.Table.{State}
use Rattle.turn_cell.specs.declared.view.Known.{Known}
use Rattle.turn_cell.specs.declared.view.Offered.{Offered}
use Rattle.turn_cell.specs.declared.view.Published.{Published}
use Rattle.turn_cell.specs.declared.view.Role.TheVariants.{Pass}
use Rattle.turn_cell.specs.declared.view.Stage.TheVariants.{Inside}
use Rattle.turn_cell.specs.declared.view.View.{View}
use Rattle.turn_cell.specs.Turns.{AreFresh}
use Rattle.turn_cell.specs.Moments.{IsPublishedOrNone, HistoryStandsAt}
use Rattle.twin_cell.specs.declared.parts.Kept.{Kept}
use Rattle.twin_cell.specs.declared.parts.Kept.TheVariants.{Work, Items}
use Rattle.twin_cell.specs.Twins.{HoldsTwinRule}

module _ {C X F W R : Type 0} (stands : W → List (Known C) → Type 0) (fault_count : W → ℕ)
    (doubt_of : W → Option X) (fixed : W → F) where
  -- The work lies in its slot; or a pass has its turn, and the work stands for what is published.
  pub data WorkLiesIn (work : W) (s : State (Kept W R) (View C X F)) : Type 0 where
    work_home : get_elem? s.homes 0 ≡ home.some (home.some (Work work)) → WorkLiesIn work s
    work_inside : (seat t : ℕ) (v : View C X F) (y : Published C X)
        → get_elem? s.views seat ≡ home.some v → v.role ≡ Pass → v.stage ≡ Inside t y
        → stands work y.entries → y.faults ≤ fault_count work
        → IsPublishedOrNone y.doubt (doubt_of work) → v.fixed ≡ Some (fixed work)
        → WorkLiesIn work s

  module _ (entries : R → List (Known C)) where
    -- The list lies in its slot; or a pass has its turn, and it is a list of what is published.
    pub data ListLiesIn (list : R) (s : State (Kept W R) (View C X F)) : Type 0 where
      list_home : get_elem? s.homes 1 ≡ home.some (home.some (Items list)) → ListLiesIn list s
      list_inside : (seat t : ℕ) (v : View C X F) (o : Offered C)
          → get_elem? s.views seat ≡ home.some v → v.role ≡ Pass → v.list ≡ Inside t o
          → entries list ≡ o.entries → ListLiesIn list s

    module _ (spare : R → ℕ) (fits : List (Known C) → Type 0) where
      -- the work and the list of the making, and these
      pub record TwinStandsAt (first_work : W) (first_list : R) (seats : ℕ) (work : W) (list : R)
          (views : List (View C X F)) : Type 0 where
        pub stands_for : stands work (entries list)
        pub history : HistoryStandsAt (entries first_list) (doubt_of first_work) seats
            (entries list) (fault_count work) (doubt_of work) views
        pub same_fixed : fixed work ≡ fixed first_work
        pub test : fits (entries list)
        pub untouched : AreFresh views → (work ≡ first_work) × (list ≡ first_list)

      abbrev pub TwinsStandAtEachMoment : Type 0
      TwinsStandAtEachMoment =
          (first_work work : W) (first_list list : R) (seats : ℕ)
          (s : State (Kept W R) (View C X F))
          → HoldsTwinRule stands fault_count doubt_of fixed entries spare fits first_work
          first_list seats s
          → WorkLiesIn work s → ListLiesIn list s
          → TwinStandsAt first_work first_list seats work list s.views
