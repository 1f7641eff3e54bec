-- From the entering and the leaving of a turn to the stay. A pass may come to what it finds by more
-- than one turn: p is the pass before the call, m the one that has found the value, and q the one
-- behind the call.
use Rattle.std.proofs.Common.{◌≡◌, ℕ, ◌+◌, List, [], ◌∷◌, ◌++◌, length, sym, ◌∙◌, arith, subst, ⊎_elim, inl, inr, Option, Some, None}
use mathlib.Core.List.{IsPrefix}
use Rattle.delta_base.specs.Outside.{Rose}
use Rattle.turn_cell.specs.declared.chained.Chained.{Ghosts}
use Rattle.turn_cell.specs.Turns.{own_count, Adds}
use Rattle.turn_cell.specs.Sights.{Sight, Made, Taken}
use Rattle.turn_cell.specs.Knowing.{IsQuiet, Wants, SeesOn, Brought}
use Rattle.turn_cell.specs.Sharing.{IsPassOf, EntersTurn, LeavesTurn, InTurn}
use Rattle.turn_cell.proofs.Knowing.{Entered, asked, sees_on, quiet_on, same_mine, brought, rises}

-- the pass has found a value that stands for what it sees
pub record Finds {V C X F : Type 0} (chained : Ghosts V C X F) (p : Sight C X F) (found : V) (m : Sight C X F) : Type 0 where
  pub entered : Entered p m
  pub fixed : m.view.fixed ≡ Some (chained.fixed found)
  pub stands : chained.stands found
  pub sees : m.view.seen ≡ chained.entries found

pub finds : {V C X F : Type 0} (chained : Ghosts V C X F) (p m : Sight C X F) (held : Taken C X F V) → EntersTurn chained p held m → Finds chained p held.was m
finds chained p m held enters = record {
  entered = record { same = enters.same; quiet = enters.quiet; later = enters.later; own = enters.own; looked = omega (arith, enters.looked) };
  fixed = enters.from.2;
  stands = enters.stands;
  sees = enters.sees;
}

module _ {V C X F : Type 0} (chained : Ghosts V C X F) (p m q : Sight C X F) (found : V) (back : Taken C X F V) (came : Finds chained p found m) (leaves : LeavesTurn chained m back q) (same : back.was ≡ found) where
  -- the value that was found is that of the origin's cell
  pub fixed_found : (made : Made V) → IsPassOf chained made p → chained.fixed found ≡ chained.fixed made.origin
  fixed_found made of = let both : Some (chained.fixed found) ≡ Some (chained.fixed made.origin) = sym came.fixed ∙ (came.entered.same.3 ∙ of.2) in cc

  pub sees : IsPrefix (chained.entries found) (chained.entries back.value) → SeesOn p q
  sees longer = sees_on p m q came.entered leaves.same leaves.looks leaves.own (chained.entries found) (chained.entries back.value) (sym came.sees) leaves.sees longer leaves.never_falls

  pub wants : chained.entries back.value ≡ chained.entries found → IsQuiet m q → Wants p q
  wants kept quiet = asked p m q came.entered leaves.same leaves.looks leaves.own (leaves.sees ∙ (kept ∙ sym came.sees)) quiet

  -- it brought nothing where no entry came
  pub kept_mine : chained.entries back.value ≡ chained.entries found → q.view.mine ≡ p.view.mine
  kept_mine = same_mine p m q came.entered leaves.same leaves.looks leaves.own (chained.entries found) (chained.entries back.value) (sym came.sees) leaves.sees

  -- it brought the entry that came as the last one, if no doubt is left
  pub brings : (content : C) (place : ℕ) → chained.entries back.value ≡ chained.entries found ++ record { content = content; by = p.view.number } ∷ [] → place ≡ length (chained.entries found) + 1 → chained.doubt back.value ≡ None
      → (b : Brought content place p q) × (b.before ≡ chained.entries found)
  brings content place grew at none = brought p m q came.entered leaves.same leaves.looks leaves.own (chained.entries found) (chained.entries back.value) (sym came.sees) leaves.sees content place grew at
      (subst (λ (d : Option X). Adds (chained.doubt back.was) d m.view.failed q.view.failed) none leaves.failed)

  pub rose : q.view.own_faults ≡ own_count m.view.own_faults (chained.fault_count back.was) (chained.fault_count back.value) → Rose (chained.fault_count found) (chained.fault_count back.value) → Rose p.view.own_faults q.view.own_faults
  rose counts more = subst (λ (z : ℕ × ℕ). Rose z.0 z.1) (λ i. (came.entered.quiet.1 i, sym counts i))
      (rises m.view.own_faults (chained.fault_count back.was) (chained.fault_count back.value) (subst (λ (v : V). Rose (chained.fault_count v) (chained.fault_count back.value)) (sym same) more))

  pub adds : Adds (chained.doubt found) (chained.doubt back.value) p.view.failed q.view.failed
  adds = subst (λ (z : V × List X). Adds (chained.doubt z.0) (chained.doubt back.value) z.1 q.view.failed) (λ i. (same i, came.entered.quiet.2 i)) leaves.failed

  pub passes_on : (made : Made V) → IsPassOf chained made p → IsPassOf chained made q
  passes_on made of = (leaves.same.0.0 ∙ (came.entered.same.0 ∙ of.0), leaves.same.1, leaves.same.0.3 ∙ (came.entered.same.3 ∙ of.2))

  -- the stay, whatever was done in it
  pub stay_told : (Did : V → V → Type 0) (made : Made V) → IsPassOf chained made p → Did found back.value → chained.fixed back.value ≡ chained.fixed found → InTurn chained Did made.origin p q
  stay_told Did made of did fixed = record {
    found = found;
    left = back.value;
    found_stands = came.stands;
    left_stands = leaves.stands;
    did = did;
    found_fixed = fixed_found made of;
    left_fixed = fixed ∙ fixed_found made of;
    had_seen = subst (IsPrefix p.view.seen) came.sees came.entered.later;
    sees = leaves.sees;
    own_faults = ⊎_elim (λ (quiet : IsQuiet m q). inl (quiet_on p m q came.entered.quiet quiet))
        (λ (counts : q.view.own_faults ≡ own_count m.view.own_faults (chained.fault_count back.was) (chained.fault_count back.value)).
        inr (counts ∙ (λ i. own_count (came.entered.quiet.1 i) (chained.fault_count (same i)) (chained.fault_count back.value)))) leaves.own_faults;
    failed = adds;
  }
