-- From one call of a pass to many.
use Rattle.std.proofs.Common.{◌≡◌, ◌+◌, List, [], ◌∷◌, ◌++◌, refl, sym, ap, ◌∙◌, subst, append_assoc, arith, Option, Some, None, Bool}
use Rattle.std.proofs.lemmas.List.{append-nil}
use Rattle.delta_base.specs.Outside.{RoseBy}
use mathlib.Core.List.{IsPrefix}
use Rattle.turn_cell.specs.Sights.{Sight}
use Rattle.turn_cell.specs.Knowing.{IsQuiet, SeesOn, mine_of, failed_of, own_faults_of, looks_of, seen_of}
use Rattle.turn_cell.specs.Calls.{CallMade, IsReplied, AreCalled, faults_told, faulted_by, brought_by, doubted_by, AddsUp}
use Rattle.turn_cell.proofs.Knowing.{same_on, quiet_on}
use Rattle.turn_cell.proofs.Views.{prefix_trans, prefix_refl}

module _ {C X F Call Reply : Type 0} (Legal : Sight C X F → Call → Reply → Sight C X F → Type 0) (MayWant : Call → Type 0) where
  abbrev Made : Type 0
  Made = CallMade Call Reply X

  -- calls one after another and then others are all of them one after another
  pub compose : (p mid q : Sight C X F) (first others : List Made) → AreCalled Legal MayWant p first mid → AreCalled Legal MayWant mid others q → AreCalled Legal MayWant p (first ++ others) q
  compose p mid q [] others a b = subst (λ (z : Sight C X F). AreCalled Legal MayWant z others q) a b
  compose p mid q (made ∷ more) others a b = (a.0, a.1, compose a.0 mid q more others a.2 b)

  -- what is to be known of a legal call: the pass looked; its faults rose where one is told; and it did nothing else where it brought nothing and none is told
  module _ (is_fault : Reply → Bool) (sees : (p q : Sight C X F) (call : Call) (reply : Reply) → Legal p call reply q → SeesOn p q)
      (faults : (p q : Sight C X F) (call : Call) (reply : Reply) → Legal p call reply q → RoseBy (faults_told is_fault (Some reply)) (own_faults_of p) (own_faults_of q))
      (quiet : (p q : Sight C X F) (call : Call) (reply : Reply) → Legal p call reply q → mine_of q ≡ mine_of p → faults_told is_fault (Some reply) ≡ 0 → IsQuiet p q) where
    on : (p q : Sight C X F) (call : Call) (reply : Option Reply) → IsReplied Legal MayWant p call reply q → SeesOn p q
    on p q call (Some reply) is = sees p q call reply is
    on p q call None is = is.1.0

    rose : (p q : Sight C X F) (call : Call) (reply : Option Reply) → IsReplied Legal MayWant p call reply q → RoseBy (faults_told is_fault reply) (own_faults_of p) (own_faults_of q)
    rose p q call (Some reply) is = faults p q call reply is
    rose p q call None is = let same = is.1.1.1 in omega (arith, same)

    still : (p q : Sight C X F) (call : Call) (reply : Option Reply) → IsReplied Legal MayWant p call reply q → mine_of q ≡ mine_of p → faults_told is_fault reply ≡ 0 → IsQuiet p q
    still p q call (Some reply) is mine none = quiet p q call reply is mine none
    still p q call None is mine none = is.1.1

    no_list : {A : Type 0} (a b : List A) → a ++ b ≡ [] → (a ≡ []) × (b ≡ [])
    no_list [] b e = (refl, e)
    no_list (x ∷ a) b e = absurd (cons e)
      where
        cons : x ∷ (a ++ b) ≡ [] → ⊥
        cons e = cc

    pub add_up : (p q : Sight C X F) (calls : List Made) → AreCalled Legal MayWant p calls q → AddsUp is_fault p calls q
    add_up p q [] a = record {
      same = (ap (λ z. z.cell) a, ap (λ z. z.place) a, ap (λ z. z.view.number) a, ap (λ z. z.view.fixed) a);
      seen = subst (λ z. IsPrefix (seen_of p) (seen_of z)) (sym a) (prefix_refl (seen_of p));
      looks = let e = ap (λ z. looks_of z) a in omega (arith, e);
      mine = ap (λ z. mine_of z) a ∙ sym (append-nil (mine_of p));
      failed = ap (λ z. failed_of z) a ∙ sym (append-nil (failed_of p));
      faults = let e = ap (λ z. own_faults_of z) a in omega (arith, e);
      never_fall = let e = ap (λ z. own_faults_of z) a in omega (arith, e);
      quiet = λ none no. (ap (λ z. mine_of z) a, ap (λ z. own_faults_of z) a, ap (λ z. failed_of z) a);
    }
    add_up p q (made ∷ more) a =
        let mid = a.0 in let is = a.1 in let rest = add_up mid q more a.2 in
        let split : faulted_by is_fault (made ∷ more) ≡ faults_told is_fault made.reply + faulted_by is_fault more = refl in
        let s = on p mid made.call made.reply is.replied in let r = rose p mid made.call made.reply is.replied in
        record {
          same = same_on p mid q s.0 rest.same;
          seen = prefix_trans (seen_of p) (seen_of mid) (seen_of q) s.2 rest.seen;
          looks = let l = rest.looks in let k = s.4 in omega (arith, l, k);
          mine = rest.mine ∙ (ap (λ l. l ++ brought_by more) is.mine ∙ append_assoc (mine_of p) made.brought (brought_by more));
          failed = rest.failed ∙ (ap (λ l. l ++ doubted_by more) is.failed ∙ append_assoc (failed_of p) made.doubted (doubted_by more));
          faults = let f = rest.faults in let n = rest.never_fall in omega (arith, f, r, n, split);
          never_fall = let n = rest.never_fall in let m = s.5 in omega (arith, n, m);
          quiet = λ none no.
              let parts = no_list made.brought (brought_by more) none in
              let first : faults_told is_fault made.reply ≡ 0 = omega (arith, no, split) in
              let others : faulted_by is_fault more ≡ 0 = omega (arith, no, split) in
              quiet_on p mid q (still p mid made.call made.reply is.replied (is.mine ∙ (ap (λ l. mine_of p ++ l) parts.0 ∙ append-nil (mine_of p))) first) (rest.quiet parts.1 others);
        }
