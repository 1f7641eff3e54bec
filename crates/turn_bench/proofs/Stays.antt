-- One stay more of a pass.
use Rattle.std.proofs.Common.{◌≡◌, ◌⊎◌, inl, inr, ⊎_elim, ℕ, ◌+◌, ◌-◌, ◌^◌, ◌<◌, List, [], ◌∷◌, ◌++◌, length, length-append, eq-eqb, min, refl, sym, ap, subst, ◌∙◌, arith}
use Rattle.std.proofs.lemmas.Bool.Decides.{nat_tests}
use Rattle.turn_cell.specs.declared.view.Known.{Known}
use Rattle.turn_cell.specs.Turns.{places_by, places_from, own_count}
use Rattle.turn_cell.specs.Knowing.{IsSame, IsQuiet, KnowsItsOwn}
use Rattle.turn_cell.proofs.Views.{places_append}
use Rattle.turn_bench.specs.declared.numbers.Numbers.{Numbers}
use Rattle.turn_bench.specs.Added.{added, HasAdded, LacksRoom}
use Rattle.turn_bench.specs.After.{NumberSight, StaysAdd}

-- faults of its own stay, and one more makes some
own_stays : (own before after : ℕ) → 0 < own → 0 < own_count own before after
own_stays own before after some = grind (arith, nat_tests, some)

own_more : (own before after : ℕ) → after ≡ min (before + 1) (2 ^ 64 - 1) → 0 < own_count own before after
own_more own before after counted = grind (arith, nat_tests, counted)

one_more : (by number : ℕ) (front : List (Known ℕ)) → length (places_by by (front ++ added number by ∷ [])) ≡ length (places_by by front) + 1
one_more by number front =
    let one : length (places_from (1 + length front) by (added number by ∷ [])) ≡ 1 = rw (eq-eqb by by refl) refl in
    let all = ap length (places_append by 1 front (added number by ∷ [])) in
    omega (arith, all, one, length-append (places_by by front) (places_from (1 + length front) by (added number by ∷ [])))

module _ (by number : ℕ) (p mid q : NumberSight) (was value left : Numbers) (is_by : by ≡ p.view.number) (entered : IsSame p mid) (quiet : IsQuiet p mid) (found : value ≡ was)
    (seen : value.entries.items ≡ mid.view.seen) (own : KnowsItsOwn mid) (handed_on : IsSame mid q) (published : q.view.seen ≡ left.entries.items) (still_own : KnowsItsOwn q)
    (counted : q.view.own_faults ≡ own_count mid.view.own_faults was.faults left.faults) where
  mine_before : places_by by value.entries.items ≡ p.view.mine
  mine_before = (λ i. places_by ((is_by ∙ sym entered.2) i) (seen i)) ∙ (own ∙ quiet.0)

  mine_behind : places_by by left.entries.items ≡ q.view.mine
  mine_behind = (λ i. places_by ((is_by ∙ (sym entered.2 ∙ sym handed_on.2)) i) (sym published i)) ∙ still_own

  adds : HasAdded number by value left ⊎ LacksRoom value left → StaysAdd 1 p q
  adds = ⊎_elim
      (λ (came : HasAdded number by value left). inl (omega (arith, ap length mine_behind, ap (λ l. length (places_by by l)) came.0, one_more by number value.entries.items, ap length mine_before)))
      (λ (refused : LacksRoom value left). inr (subst (λ n. 0 < n) (sym counted) (own_more mid.view.own_faults was.faults left.faults (refused.1 ∙ ap (λ (v : Numbers). min (v.faults + 1) (2 ^ 64 - 1)) found))))

  faults_stay : 0 < p.view.own_faults → 0 < q.view.own_faults
  faults_stay some = subst (λ n. 0 < n) (sym counted) (own_stays mid.view.own_faults was.faults left.faults (subst (λ n. 0 < n) (sym quiet.1) some))

  pub stayed : HasAdded number by value left ⊎ LacksRoom value left → StaysAdd 1 p q × (0 < p.view.own_faults → 0 < q.view.own_faults)
  stayed added = (adds added, faults_stay)
