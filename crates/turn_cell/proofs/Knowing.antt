-- From the steps of one stay to what its pass knows behind it.
use Rattle.std.proofs.Common.{◌≡◌, ◌≢◌, ℕ, ◌+◌, ◌-◌, ◌^◌, ◌<◌, ◌≤◌, ◌⊎◌, List, [], ◌∷◌, ◌++◌, length, length-append, sym, refl, ap, ◌∙◌, subst, ⊎_elim, inl, inr, arith, eq-eqb, ne_eqb, Option, Some, None}
use mathlib.Core.List.{IsPrefix}
use mathlib.Core.Logic.{dite}
use native.Mathlib.Decide.{ℕ_discrete}
use Rattle.delta_base.specs.Outside.{Rose}
use Rattle.turn_cell.specs.declared.view.Known.{Known}
use Rattle.turn_cell.specs.Turns.{places_by, last_count, own_count, Adds}
use Rattle.turn_cell.specs.Sights.{Sight, IsOutside}
use Rattle.turn_cell.specs.Knowing.{IsSame, IsQuiet, KnowsItsOwn, SeesOn, Wants, Brought}
use Rattle.turn_cell.proofs.Views.{places_append, prefix_trans}

-- what is left of a doubt that stays adds nothing
pub adds_same : {X : Type 0} (d : Option X) (a b : List X) → Adds d d a b → b ≡ a
adds_same None a b k = k
adds_same (Some c) a b k = ⊎_elim (λ (z : (Some c ≡ Some c) × (b ≡ a)). z.1) (λ (z : (Some c ≢ Some c) × (b ≡ a ++ c ∷ [])). absurd (z.0 refl)) k

pub stays_same : {X : Type 0} (d : Option X) (a : List X) → Adds d d a a
stays_same None a = refl
stays_same (Some c) a = inl (refl, refl)

pub adds_one : {X : Type 0} (old : Option X) (c : X) (a b : List X) → Adds old (Some c) a b → (b ≡ a) ⊎ (b ≡ a ++ c ∷ [])
adds_one old c a b k = ⊎_elim (λ (z : (Some c ≡ old) × (b ≡ a)). inl z.1) (λ (z : (Some c ≢ old) × (b ≡ a ++ c ∷ [])). inr z.1) k

-- a count of one's own rises where the common one does
pub rises : (own old new : ℕ) → Rose old new → Rose own (own_count own old new)
rises own old new more = dite (ℕ_discrete new last_count)
    (λ e. inr (rw (eq-eqb new last_count e) refl))
    (λ ne. inl (rw (ne_eqb new last_count ne) (⊎_elim (λ (l : old < new). omega arith) (λ (e : new ≡ 2 ^ 64 - 1). absurd (ne e)) more)))

module _ {C : Type 0} where
  one_more : (n : ℕ) (content : C) (front : List (Known C)) → places_by n (front ++ record { content = content; by = n } ∷ []) ≡ places_by n front ++ (length front + 1) ∷ []
  one_more n content front = places_append n 1 front (record { content = content; by = n } ∷ []) ∙ ap (λ (l : List ℕ). places_by n front ++ l) (rw (eq-eqb n n refl) (ap (λ (k : ℕ). k ∷ []) (omega arith)))

module _ {C X F : Type 0} where
  pub same_on : (p m q : Sight C X F) → IsSame p m → IsSame m q → IsSame p q
  same_on p m q a b = (b.0 ∙ a.0, b.1 ∙ a.1, b.2 ∙ a.2, b.3 ∙ a.3)

  pub quiet_on : (p m q : Sight C X F) → IsQuiet p m → IsQuiet m q → IsQuiet p q
  quiet_on p m q a b = (b.0 ∙ a.0, b.1 ∙ a.1, b.2 ∙ a.2)

  -- the pass before a call, and in a turn that it has entered since
  pub record Entered (p m : Sight C X F) : Type 0 where
    pub same : IsSame p m
    pub quiet : IsQuiet p m
    pub later : IsPrefix p.view.seen m.view.seen
    pub own : KnowsItsOwn m
    pub looked : p.view.looks < m.view.looks

  -- the pass has counted
  pub counted : (p q : Sight C X F) → IsOutside p → IsSame p q × (q.view.stage ≡ p.view.stage) × (q.view.list ≡ p.view.list) → IsQuiet p q → IsPrefix p.view.seen q.view.seen → KnowsItsOwn q → q.view.looks ≡ p.view.looks + 1 → Wants p q
  counted p q out same quiet later own looked = let faults = quiet.1 in ((same.0, (same.1 ∙ out.0, same.2 ∙ out.1), later, own, omega arith, omega arith), quiet)

  module _ (p m q : Sight C X F) (e : Entered p m) (same : IsSame m q × IsOutside q) (looks : q.view.looks ≡ m.view.looks) (own : KnowsItsOwn q) where
    -- the pass has left the turn as it was found
    pub asked : q.view.seen ≡ m.view.seen → IsQuiet m q → Wants p q
    asked seen quiet =
        let still = quiet_on p m q e.quiet quiet in let looked = e.looked in let faults = still.1 in
        ((same_on p m q e.same same.0, same.1, subst (IsPrefix p.view.seen) (sym seen) e.later, own, omega arith, omega arith), still)

    module _ (was left : List (Known C)) (found : was ≡ m.view.seen) (sees : q.view.seen ≡ left) where
      -- the pass has left more entries
      pub sees_on : IsPrefix was left → m.view.own_faults ≤ q.view.own_faults → SeesOn p q
      sees_on longer never_falls =
          let behind : IsPrefix m.view.seen q.view.seen = subst (λ (l : List (Known C) × List (Known C)). IsPrefix l.0 l.1) (λ i. (found i, sym sees i)) longer in
          let looked = e.looked in let faults = e.quiet.1 in
          (same_on p m q e.same same.0, same.1, prefix_trans p.view.seen m.view.seen q.view.seen e.later behind, own, omega arith, omega arith)

      pub same_mine : left ≡ was → q.view.mine ≡ p.view.mine
      same_mine is = sym own ∙ ((λ i. places_by (same.0.2 i) ((sees ∙ (is ∙ found)) i)) ∙ (e.own ∙ e.quiet.0))

      pub brought : (content : C) (place : ℕ) → left ≡ was ++ record { content = content; by = p.view.number } ∷ [] → place ≡ length was + 1 → q.view.failed ≡ m.view.failed → (b : Brought content place p q) × (b.before ≡ was)
      brought content place grew at failed =
          let n = p.view.number in
          let ends : q.view.seen ≡ was ++ record { content = content; by = n } ∷ [] = sees ∙ grew in (
            record {
              before = was;
              had_seen = subst (IsPrefix p.view.seen) (sym found) e.later;
              sees = ends;
              at_end = at ∙ sym (ap length ends ∙ length-append was (record { content = content; by = n } ∷ []));
              mine = sym own ∙ ((λ i. places_by ((same.0.2 ∙ e.same.2) i) (ends i)) ∙ (one_more n content was ∙ (λ i. ((λ j. places_by (sym e.same.2 j) (found j)) ∙ (e.own ∙ e.quiet.0)) i ++ (sym at i) ∷ [])));
              failed = failed ∙ e.quiet.2;
            },
            refl,
          )
