-- An empty body. The borrow is opened, and closed at one more entry.
use Rattle.shared_zone.proofs.Walks.{List, [], ◌∷◌, ◌++◌, refl, proved, named, Val, vunit, vint, via, fst∗, emp, id⊢, ftrue, flft, ‵, ◌⊛◌, ◌$◌, ◌∵◌, !, qed, move, keep, drop, use1, split, join, fsplit, fsplit3, fjoin, fjoin3, feq_i, suffices, frame, done, unit_lit, of_opd, returns, enter, alloc_all, pass_all, free_all, look_at, sets, yes, owns, MutRef, mut_vals, mut_Tells, ShrRef, shr_vals, shr_Tells, uint_vals, uint_Tells, u32, plain, opens, closes, Stays, walk_of, says, stay_ref, stay_none_ref, stay_none, Goes-ref, Goes-none_ref, Goes-none, ends_at}
use Rattle.std.proofs.Common.{w32}
use Rattle.patch_meaning.specs.contracts.checked.Checked.{the_row as P}
use Rattle.shared_zone.specs.declared.past.TakenSince.{TakenSince}
use Rattle.shared_zone.specs.contracts.past.TakenSince.{the_row as R}
use Rattle.shared_zone.specs.contracts.past.TakenSince.push as f
use Rattle.shared_zone.specs.History.{taken_entry}
use Rattle.shared_zone.proofs.past.TakenSince.push.Statement.{statement}
use Rattle.shared_zone.proofs.past.TakenSince.push.Code as code

abbrev stayed : Stays f.ended.signature.params f.ended.kept
stayed = (stay_ref (0 ∷ []) tt (plain (λ _. R)), (stay_none_ref (1 ∷ []) tt (plain (λ _. P)) yes, (stay_none (λ _. u32) yes, tt)))

pub push_spec : {M : Type 1} → statement M
push_spec 𝓤 𝓛 𝓜 𝓡 wired =
    let c = f.clauses 𝓛 𝓜.mem 𝓡.returns in let W = walk_of 𝓛 f.ended stayed c in
    proved 𝓛 f.ended stayed c 𝓜 𝓡 (Goes-ref 𝓛 2 0 tt (plain (λ _. R)), (Goes-none_ref 𝓛 2 (1 ∷ []) tt (plain (λ _. P)) yes, (Goes-none 𝓛 2 (λ _. u32) yes (λ κs x f. refl), tt)))
    f.Key.name code.function (code.unfolded 𝓤 𝓛.H 𝓜 𝓡 wired)
    (λ κs. (mut_vals, (shr_vals, (uint_vals w32, tt)))) (λ κs. (mut_Tells (named 0) κs.0 R, (shr_Tells (named 1) κs.1.0 P, (uint_Tells w32, tt)))) (λ κs qs bounds a _ are.
    let b = a.0.ref_ptr.0 in let o = a.0.ref_ptr.1 in
    let longer : TakenSince = record { history = a.0.now.history ++ taken_entry a.1.0.now a.1.1.0 ∷ [] } in
    let at : List Val × (List Val × (List Val × Unit {0})) = (mut_vals a.0, (shr_vals a.1.0, (vint w32 a.1.1.0 ∷ [], tt))) in
    let y : W.Ghost = ((κs, qs, bounds, a, at), tt) in
    via 𝓤 _ (fst∗ 𝓤 _ (emp 𝓤)) (
    qed 𝓛 ((‵ (flft κs.0 qs.0) ⊛ (‵ (flft κs.1.0 qs.1.0) ⊛ ‵ ftrue)) ∷ ‵ (owns (MutRef (named 0) κs.0 R ∷ ShrRef (named 1) κs.1.0 P ∷ u32 ∷ []) a at) ∷ []) ∵
    split ! $ move ! (2 ∷ []) $ fsplit ! $ fsplit3 ! $ drop ! $ move ! (0 ∷ 1 ∷ 3 ∷ []) $
    enter ! _ _ _ _ _ $ alloc_all ! (λ l. pass_all ! refl ((tt, tt), ((tt, tt), ((tt, record { fits = are.1.1.0.1 }), tt))) $
    move ! (0 ∷ 1 ∷ 2 ∷ []) $ opens ! tt R {h = a.0.now} b o (λ vs.
    sets ! (of_opd ! (unit_lit !)) refl (tt, tt) $
    move ! (1 ∷ []) $ use1 𝓛 (‵ (R.own_val longer vs)) (id⊢ 𝓤 _) $ move ! (1 ∷ 0 ∷ []) $ closes ! tt R longer vs b o $
    returns ! (look_at ! 0 refl) $ free_all ! refl $ keep ! (0 ∷ 1 ∷ 2 ∷ 3 ∷ 4 ∷ []) $
    suffices ! _ (ends_at 𝓛 f.ended stayed c y vunit tt (longer, (tt, (tt, tt))) (tt, (tt, (tt, tt)))) $ says ! refl $ move ! (2 ∷ 4 ∷ []) $ join ! $
    frame ! $ feq_i ! _ (mut_vals a.0) _ refl $ fjoin3 ! $ fjoin ! $ feq_i ! _ (vunit ∷ []) _ refl $ move ! (1 ∷ 0 ∷ []) $ done !))))
