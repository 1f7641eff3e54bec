-- A turn at any moment: what its rule says of the value and of the passes. This is what `close`
-- tells once all passes are back, and it holds between any two steps.
use Rattle.std.specs.Prelude.{◌≡◌, ◌⊎◌, ℕ, ◌≤◌, List, [], map, Option, Some, None}
use mathlib.Core.Option as home
use lib.ListN.{get_elem?}
use Rattle.atomic_table.specs.Table.{State}
use Rattle.turn_cell.specs.declared.view.Known.{Known}
use Rattle.turn_cell.specs.declared.view.Published.{Published}
use Rattle.turn_cell.specs.declared.view.Role.TheVariants.{Pass}
use Rattle.turn_cell.specs.declared.view.Stage.TheVariants.{Inside}
use Rattle.turn_cell.specs.declared.view.View.{View}
use Rattle.turn_cell.specs.Turns.{AllOf, AreFresh, IsKnown, Knew, Continues, HoldsRule}
use Rattle.turn_cell.specs.Sights.{Sight}

-- a doubt as it was published, or none: a pass publishes its entries before it publishes that no
-- doubt is left
abbrev pub IsPublishedOrNone : {X : Type 0} → Option X → Option X → Type 0
IsPublishedOrNone published doubt = (doubt ≡ published) ⊎ (doubt ≡ None)

module _ {C X F : Type 0} where
  -- The history goes on from that of the making. Each pass knew a beginning of it and its own
  -- places in it, and had no more faults; a doubt was there at the making, or a pass has it as
  -- failed.
  pub record HistoryStandsAt (first : List (Known C)) (first_doubt : Option X) (seats : ℕ)
      (log : List (Known C)) (faults : ℕ) (doubt : Option X)
      (views : List (View C X F)) : Type 0 where
    pub continues : Continues first seats log
    pub passes : (seat : ℕ) (v : View C X F) → get_elem? views seat ≡ home.some v
        → v.role ≡ Pass → Knew log v.number v.seen v.mine × (v.own_faults ≤ faults)
    pub known : IsKnown first_doubt views doubt

  -- these are the passes of a cell at a moment, and each is still one
  abbrev pub ArePassesAt : List (View C X F) → List (Sight C X F) → Type 0
  ArePassesAt views passes =
      (views ≡ map (λ p. p.view) passes)
      × AllOf (λ (p : Sight C X F). (p.view.role ≡ Pass) × (p.view.past ≡ [])) passes

module _ {C X F V : Type 0} (entries : V → List (Known C)) (fault_count : V → ℕ)
    (doubt_of : V → Option X) (fixed : V → F) where
  -- The value lies in its slot; or a pass has the turn, and it is a value of what is published.
  pub data LiesInTurn (value : V) (s : State (Option V) (View C X F)) : Type 0 where
    lies_home : get_elem? s.homes 0 ≡ home.some (home.some (Some value)) → LiesInTurn value s
    lies_inside : (seat t : ℕ) (v : View C X F) (y : Published C X)
        → get_elem? s.views seat ≡ home.some v → v.role ≡ Pass → v.stage ≡ Inside t y
        → entries value ≡ y.entries → y.faults ≤ fault_count value
        → IsPublishedOrNone y.doubt (doubt_of value) → v.fixed ≡ Some (fixed value)
        → LiesInTurn value s

  module _ (fits : F → List (Known C) → Type 0) where
    -- the value of the making, and this one
    pub record ValueStandsAt (origin : V) (seats : ℕ) (value : V)
        (views : List (View C X F)) : Type 0 where
      pub history : HistoryStandsAt (entries origin) (doubt_of origin) seats (entries value)
          (fault_count value) (doubt_of value) views
      pub same_fixed : fixed value ≡ fixed origin
      pub test : fits (fixed origin) (entries value)
      pub untouched : AreFresh views → value ≡ origin

    abbrev pub TurnsStandAtEachMoment : Type 0
    TurnsStandAtEachMoment =
        (origin value : V) (seats : ℕ) (s : State (Option V) (View C X F))
        → HoldsRule entries fault_count doubt_of fixed fits origin seats s → LiesInTurn value s
        → ValueStandsAt origin seats value s.views
