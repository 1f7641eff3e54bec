-- A chain that grows by one.
use Rattle.std.proofs.Common.{◌≡◌, ◌≢◌, List, [], ◌∷◌, ◌++◌, Option, Some, None, sym, ap, subst, ◌∙◌}
use Rattle.std.specs.List.{AllByRecursion}
use Rattle.std.proofs.lemmas.Bool.{eqb-false}
use Rattle.delta_base.specs.declared.id.Id.{Id}
use Rattle.log_base.specs.declared.chain_link.ChainLink.{ChainLink}
use Rattle.chain_core.specs.Ids.{last_of, version_among}
use Rattle.chain_core.specs.Links.{Follow, AllDiffer, IsChain, link_ids}
use Rattle.chain_core.proofs.Versions.{last_or, last_is, none-cons, link_ids-push}

follow-push : (h : Option Id) (xs : List ChainLink) (x : ChainLink) → Follow h xs → x.prev ≡ last_or h (link_ids xs) → Follow h (xs ++ x ∷ [])
follow-push h [] x f e = (e, tt)
follow-push h (y ∷ ys) x f e = (f.0, follow-push (Some y.id) ys x f.1 e)

all-push : (P : Id → Type 0) (ids : List Id) (id : Id) → AllByRecursion P ids → P id → AllByRecursion P (ids ++ id ∷ [])
all-push P [] id all p = (p, tt)
all-push P (first ∷ ids) id all p = (all.0, all-push P ids id all.1 p)

differ-push : (ids : List Id) (id : Id) → AllDiffer ids → version_among ids id ≡ None → AllDiffer (ids ++ id ∷ [])
differ-push [] id differ none = (tt, tt)
differ-push (first ∷ ids) id differ none =
    let parts = none-cons first ids id none in
    (all-push (λ j. j ≢ first) ids id differ.0 (λ same. eqb-false _ _ parts.0 (ap (λ (i : Id). i.0) (sym same))), differ-push ids id differ.1 parts.1)

pub chain-push : (xs : List ChainLink) (x : ChainLink) → IsChain xs → x.prev ≡ last_of (link_ids xs) → version_among (link_ids xs) x.id ≡ None → IsChain (xs ++ x ∷ [])
chain-push xs x c e none = record {
  follow = follow-push None xs x c.follow (e ∙ last_is (link_ids xs));
  differ = subst AllDiffer (sym (link_ids-push xs x)) (differ-push (link_ids xs) x.id c.differ none);
}
