-- A call may enter a turn more than once: p is the pass before the call, m the pass in a turn, n the
-- pass in the next one, and q the pass outside again.
use Rattle.std.proofs.Common.{◌≡◌, ℕ, ◌+◌, ◌≤◌, sym, ◌∙◌, subst, arith}
use mathlib.Core.List.{IsPrefix}
use Rattle.delta_base.specs.Outside.{Rose}
use Rattle.turn_cell.specs.Turns.{places_by, own_count}
use Rattle.turn_cell.specs.Sights.{Sight, IsOutside}
use Rattle.turn_cell.specs.Knowing.{IsSame, IsQuiet, KnowsItsOwn, SeesOn}
use Rattle.turn_cell.proofs.Views.{prefix_trans, prefix_refl}
use Rattle.turn_cell.proofs.Knowing.{Entered, same_on, quiet_on, sees_on, rises}

module _ {C X F : Type 0} where
  -- it knows just its own where it knows no other entries
  pub own_still : (m q : Sight C X F) → IsSame m q → q.view.seen ≡ m.view.seen → q.view.mine ≡ m.view.mine → KnowsItsOwn m → KnowsItsOwn q
  own_still m q same seen mine own = (λ i. places_by (same.2 i) (seen i)) ∙ (own ∙ sym mine)

  module _ (p m n : Sight C X F) (came : Entered p m) (same : IsSame m n) (quiet : IsQuiet m n) where
    -- a step or a stay in between that shows the pass nothing new
    pub stays : n.view.seen ≡ m.view.seen → n.view.looks ≡ m.view.looks → Entered p n
    stays seen looks = let l = came.looked in record {
      same = same_on p m n came.same same;
      quiet = quiet_on p m n came.quiet quiet;
      later = subst (IsPrefix p.view.seen) (sym seen) came.later;
      own = own_still m n same seen quiet.0 came.own;
      looked = omega arith;
    }

    -- a turn that is entered behind another
    pub enters_next : IsPrefix m.view.seen n.view.seen → KnowsItsOwn n → n.view.looks ≡ m.view.looks + 1 → Entered p n
    enters_next later own looks = let l = came.looked in record {
      same = same_on p m n came.same same;
      quiet = quiet_on p m n came.quiet quiet;
      later = prefix_trans p.view.seen m.view.seen n.view.seen came.later later;
      own = own;
      looked = omega arith;
    }

  -- the pass has added nothing, and its faults rose
  pub faulted : (p m q : Sight C X F) → Entered p m → (same : IsSame m q × IsOutside q) → q.view.looks ≡ m.view.looks → (old new : ℕ) → q.view.seen ≡ m.view.seen → q.view.mine ≡ m.view.mine → m.view.own_faults ≤ q.view.own_faults
      → q.view.own_faults ≡ own_count m.view.own_faults old new → Rose old new → SeesOn p q × Rose p.view.own_faults q.view.own_faults × (q.view.mine ≡ p.view.mine)
  faulted p m q came same looks old new seen mine never_falls counts rose =
      let rose_here : Rose m.view.own_faults q.view.own_faults = subst (Rose m.view.own_faults) (sym counts) (rises m.view.own_faults old new rose) in (
        sees_on p m q came same looks (own_still m q same.0 seen mine came.own) m.view.seen q.view.seen (λ _. m.view.seen) (λ _. q.view.seen) (subst (IsPrefix m.view.seen) (sym seen) (prefix_refl m.view.seen)) never_falls,
        subst (λ (k : ℕ). Rose k q.view.own_faults) came.quiet.1 rose_here,
        mine ∙ came.quiet.0,
      )
