-- The steps at the end of a stay, one after another, and what a slot has.
use Rattle.std.proofs.Common.{◌≡◌, ◌≢◌, ℕ, ◌+◌, ◌-◌, ◌≤◌, List, [], ◌∷◌, sym, refl, ap, ◌∙◌, subst, eq-eqb, ne_eqb, Option}
use Rattle.atomic_table.specs.Table.{Me, Step, rest}
use Rattle.turn_cell.specs.declared.view.Known.{Known}
use Rattle.turn_cell.specs.declared.view.Published.{Published}
use Rattle.turn_cell.specs.declared.view.Offered.{Offered}
use Rattle.turn_cell.specs.declared.view.Stage.TheVariants.{Outside, Inside}
use Rattle.turn_cell.specs.declared.view.View.{View}
use Rattle.turn_cell.specs.Turns.{Adds, last_count, own_count}
use Rattle.turn_cell.specs.Steps.{at_stage}
use Rattle.twin_cell.specs.declared.parts.Kept.{Kept}
use Rattle.twin_cell.specs.declared.parts.Kept.TheVariants.{Work, Items}
use Rattle.twin_cell.specs.Steps.{published, PublishesList, HandsOnList, reported, ReportsWork}

-- a count of one's own at the end of the common one, and before it
pub own_at_last : (own old new : ℕ) → new ≡ last_count → own_count own old new ≡ new
own_at_last own old new e = rw (eq-eqb new last_count e) (sym e)

pub own_before_last : (own old new : ℕ) → new ≢ last_count → own_count own old new ≡ own + (new - old)
own_before_last own old new ne = rw (ne_eqb new last_count ne) refl

module _ {S : Type 0} where
  abbrev first_value : S → List (ℕ × S) → S
  first_value a [] = a
  first_value a (x ∷ xs) = x.1

  -- a slot that is taken first has one value
  pub same_slot : (k : ℕ) (a b : S) (xs ys slots : List (ℕ × S)) → slots ≡ (k, a) ∷ xs → slots ≡ (k, b) ∷ ys → a ≡ b
  same_slot k a b xs ys slots e f = ap (first_value a) (sym e ∙ f)

module _ {C X F W R : Type 0} where
  module _ (entries : R → List (Known C)) (spare : R → ℕ) where
    pub after_publish : (v : View C X F) (l : R) (t u : ℕ) (y : Published C X) (o : Offered C) (others : List (ℕ × Kept W R)) (m1 m2 : Me (Kept W R) (View C X F)) (st : Step (Kept W R)) (found : ℕ) → m1 ≡ (v, (1, Items l) ∷ others) → v.stage ≡ Inside t y → v.list ≡ Inside u o
        → PublishesList {W = W} entries spare st m1 found m2 → m2 ≡ (published entries spare v l t y u, (1, Items l) ∷ others)
    after_publish v l t u y o others m1 m2 st found is stage list p = subst (λ (m : Me (Kept W R) (View C X F)). PublishesList {W = W} entries spare st m found m2) is p t u y o l stage list refl

    pub after_list : (w : View C X F) (l : R) (others : List (ℕ × Kept W R)) (m2 m3 : Me (Kept W R) (View C X F)) (st : Step (Kept W R)) (found : ℕ) → m2 ≡ (w, (1, Items l) ∷ others) → HandsOnList {W = W} entries spare st m2 found m3
        → m3 ≡ (record w { list = Outside; spare = spare l }, others)
    after_list w l others m2 m3 st found is p = subst (λ (m : Me (Kept W R) (View C X F)). HandsOnList {W = W} entries spare st m found m3) is p l refl

  module _ (stands : W → List (Known C) → Type 0) (fault_count : W → ℕ) (doubt_of : W → Option X) (fixed : W → F) where
    pub after_report : (v : View C X F) (x : W) (t : ℕ) (y : Published C X) (others : List (ℕ × Kept W R)) (m1 m2 : Me (Kept W R) (View C X F)) (st : Step (Kept W R)) (found : ℕ) → m1 ≡ (v, (0, Work x) ∷ others) → v.stage ≡ Inside t y
        → ReportsWork {R = R} stands fault_count doubt_of fixed st m1 found m2
        → (found ≡ y.faults) × (v.own_faults ≤ found) × ((failed : List X) × Adds y.doubt (doubt_of x) v.failed failed
        × (m2 ≡ (reported fault_count doubt_of v x t y failed, (0, Work x) ∷ others)))
    after_report v x t y others m1 m2 st found is stage p = subst (λ (m : Me (Kept W R) (View C X F)). ReportsWork {R = R} stands fault_count doubt_of fixed st m found m2) is p t y x stage refl

    pub after_work : (v : View C X F) (x : W) (t : ℕ) (y : Published C X) (others : List (ℕ × Kept W R)) (m1 m2 m3 : Me (Kept W R) (View C X F)) (st : Step (Kept W R)) (found : ℕ) → m1 ≡ (v, (0, Work x) ∷ others) → v.stage ≡ Inside t y
        → ReportsWork {R = R} stands fault_count doubt_of fixed st m1 found m2 → m3 ≡ (at_stage m2.0 Outside, rest m2.1)
        → (found ≡ y.faults) × (v.own_faults ≤ found) × ((failed : List X) × Adds y.doubt (doubt_of x) v.failed failed
        × (m3 ≡ (record v { own_faults = own_count v.own_faults y.faults (fault_count x); failed = failed; stage = Outside }, others)))
    after_work v x t y others m1 m2 m3 st found is stage p out = let k = after_report v x t y others m1 m2 st found is stage p in
        (k.0, k.1, (k.2.0, k.2.1, out ∙ ap (λ (m : Me (Kept W R) (View C X F)). (at_stage m.0 Outside, rest m.1)) k.2.2))
