-- `none` makes a value of no bytes, with none in doubt.
use Rattle.zone_state.proofs.Walks.{[], ◌∷◌, None, refl, proved, Val, vstruct, vnil, raw, ◌$◌, ◌∵◌, !, qed, keep, join, suffices, done, no_more, returns, enter, agg, alloc_all, pass_all, free_all, look_at, sets, pure_i, nothing, on_entry, says, ends_at}
use Rattle.zone_state.specs.declared.doubt.Doubtful.{Doubtful}
use Rattle.zone_state.specs.contracts.doubt.Doubtful.{the_row as R}
use Rattle.zone_state.specs.contracts.doubt.Doubtful.none as f
use Rattle.zone_state.proofs.doubt.Doubtful.none.Statement.{statement}
use Rattle.zone_state.proofs.doubt.Doubtful.none.Code as code

pub none_spec : {M : Type 1} → statement M
none_spec 𝓤 𝓛 𝓜 𝓡 wired =
    let c = f.clauses 𝓛 𝓜.mem 𝓡.returns in
    let v : Val = vstruct vnil in let r : Doubtful = record { patch = None } in
    proved 𝓛 f.ended tt c 𝓜 𝓡 tt f.Key.name code.function (code.unfolded 𝓤 𝓛.H 𝓜 𝓡 wired) (λ κs. tt) (λ κs. tt) (λ κs qs bounds a g _.
    qed 𝓛 (raw (on_entry 𝓛 f.signature κs qs a tt) ∷ raw ((c κs a).requires g) ∷ []) ∵ keep ! [] $
    enter ! _ _ _ _ _ $ alloc_all ! (λ l. pass_all ! refl tt $
    sets ! (agg ! (no_more !)) refl (tt, tt) $
    returns ! (look_at ! 0 refl) $ free_all ! refl $
    pure_i ! (R.own_val r (v ∷ [])) ((λ vss. (tt, tt)), tt) ((tt, (refl, tt)), tt) $
    suffices ! _ (ends_at 𝓛 f.ended tt c ((κs, qs, bounds, a, tt), g) v r tt tt) $ says ! refl $
    nothing ! $ join ! $ nothing ! $ done !))
