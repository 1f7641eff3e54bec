-- `nothing` makes a value of no bytes, with no history.
use Rattle.shared_zone.proofs.Walks.{[], ◌∷◌, refl, proved, Val, vstruct, vnil, raw, ◌$◌, ◌∵◌, !, qed, keep, join, suffices, done, no_more, returns, enter, agg, alloc_all, pass_all, free_all, look_at, sets, pure_i, nothing, on_entry, says, ends_at}
use Rattle.shared_zone.specs.declared.past.TakenSince.{TakenSince}
use Rattle.shared_zone.specs.contracts.past.TakenSince.{the_row as R}
use Rattle.shared_zone.specs.contracts.past.TakenSince.nothing as f
use Rattle.shared_zone.proofs.past.TakenSince.nothing.Statement.{statement}
use Rattle.shared_zone.proofs.past.TakenSince.nothing.Code as code

pub nothing_spec : {M : Type 1} → statement M
nothing_spec 𝓤 𝓛 𝓜 𝓡 wired =
    let c = f.clauses 𝓛 𝓜.mem 𝓡.returns in
    let v : Val = vstruct vnil in let r : TakenSince = record { history = [] } in
    proved 𝓛 f.ended tt c 𝓜 𝓡 tt f.Key.name code.function (code.unfolded 𝓤 𝓛.H 𝓜 𝓡 wired) (λ κs. tt) (λ κs. tt) (λ κs qs bounds a g _.
    qed 𝓛 (raw (on_entry 𝓛 f.signature κs qs a tt) ∷ raw ((c κs a).requires g) ∷ []) ∵ keep ! [] $
    enter ! _ _ _ _ _ $ alloc_all ! (λ l. pass_all ! refl tt $
    sets ! (agg ! (no_more !)) refl (tt, tt) $
    returns ! (look_at ! 0 refl) $ free_all ! refl $
    pure_i ! (R.own_val r (v ∷ [])) ((λ vss. (tt, tt)), tt) ((tt, (refl, tt)), tt) $
    suffices ! _ (ends_at 𝓛 f.ended tt c ((κs, qs, bounds, a, tt), g) v r tt tt) $ says ! refl $
    nothing ! $ join ! $ nothing ! $ done !))
