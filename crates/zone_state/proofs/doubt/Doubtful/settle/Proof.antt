-- An empty body. The borrow is opened, and closed at none.
use Rattle.zone_state.proofs.Walks.{List, [], ◌∷◌, None, refl, proved, named, Val, vunit, via, fst∗, emp, id⊢, ftrue, flft, ‵, ◌⊛◌, ◌$◌, ◌∵◌, !, qed, move, keep, drop, use1, split, join, fsplit, fsplit3, fjoin, fjoin3, feq_i, suffices, frame, done, unit_lit, of_opd, returns, enter, alloc_all, pass_all, free_all, look_at, sets, owns, MutRef, mut_vals, mut_Tells, plain, opens, closes, Stays, walk_of, says, stay_ref, Goes-ref, ends_at}
use Rattle.zone_state.specs.declared.doubt.Doubtful.{Doubtful}
use Rattle.zone_state.specs.contracts.doubt.Doubtful.{the_row as R}
use Rattle.zone_state.specs.contracts.doubt.Doubtful.settle as f
use Rattle.zone_state.proofs.doubt.Doubtful.settle.Statement.{statement}
use Rattle.zone_state.proofs.doubt.Doubtful.settle.Code as code

abbrev stayed : Stays f.ended.signature.params f.ended.kept
stayed = (stay_ref (0 ∷ []) tt (plain (λ _. R)), tt)

pub settle_spec : {M : Type 1} → statement M
settle_spec 𝓤 𝓛 𝓜 𝓡 wired =
    let c = f.clauses 𝓛 𝓜.mem 𝓡.returns in let W = walk_of 𝓛 f.ended stayed c in
    proved 𝓛 f.ended stayed c 𝓜 𝓡 (Goes-ref 𝓛 1 0 tt (plain (λ _. R)), tt)
    f.Key.name code.function (code.unfolded 𝓤 𝓛.H 𝓜 𝓡 wired)
    (λ κs. (mut_vals, tt)) (λ κs. (mut_Tells (named 0) κs.0 R, tt)) (λ κs qs bounds a _ are.
    let b = a.0.ref_ptr.0 in let o = a.0.ref_ptr.1 in
    let none : Doubtful = record { patch = None } in
    let at : List Val × Unit {0} = (mut_vals a.0, tt) in
    let y : W.Ghost = ((κs, qs, bounds, a, at), tt) in
    via 𝓤 _ (fst∗ 𝓤 _ (emp 𝓤)) (
    qed 𝓛 ((‵ (flft κs.0 qs.0) ⊛ ‵ ftrue) ∷ ‵ (owns (MutRef (named 0) κs.0 R ∷ []) a at) ∷ []) ∵
    split ! $ move ! (2 ∷ []) $ fsplit ! $ fsplit3 ! $ drop ! $ move ! (0 ∷ 1 ∷ 3 ∷ []) $
    enter ! _ _ _ _ _ $ alloc_all ! (λ l. pass_all ! refl ((tt, tt), tt) $
    move ! (0 ∷ 1 ∷ 2 ∷ []) $ opens ! tt R {h = a.0.now} b o (λ vs.
    sets ! (of_opd ! (unit_lit !)) refl (tt, tt) $
    move ! (1 ∷ []) $ use1 𝓛 (‵ (R.own_val none vs)) (id⊢ 𝓤 _) $ move ! (1 ∷ 0 ∷ []) $ closes ! tt R none vs b o $
    returns ! (look_at ! 0 refl) $ free_all ! refl $ keep ! (0 ∷ 1 ∷ 2 ∷ 3 ∷ 4 ∷ []) $
    suffices ! _ (ends_at 𝓛 f.ended stayed c y vunit tt (none, tt) (tt, tt)) $ says ! refl $ move ! (2 ∷ 4 ∷ []) $ join ! $
    frame ! $ feq_i ! _ (mut_vals a.0) _ refl $ fjoin3 ! $ fjoin ! $ feq_i ! _ (vunit ∷ []) _ refl $ move ! (1 ∷ 0 ∷ []) $ done !))))
