use Rattle.std.proofs.Common.{rules, ◌≡◌, refl, sym, ap, subst, ◌∙◌, map, List, length, ◌<◌, ◌∷◌}
use Rattle.quad_index.specs.Ordered.{OrderedKeys, with_key, without_key}
use Rattle.quad_index.proofs.Same.{out_again}
use Rattle.quad_index.proofs.index.+insert_new.Goals as goal

pub returns-in-Err-clause-err : goal.returns-in-Err-clause-err
returns-in-Err-clause-err t c =
    let whole : c.args.orders.now ≡ c.in-Some.first.now ∷ c.in-Some.rest.now = search rules in
    let q = subst (λ (l : List OrderedKeys). Rattle.std.specs.List.AllByRecursion (λ kept. Rattle.quad_index.specs.Ordered.keeps kept c.args.key.now ≡ Rattle.std.proofs.Common.false) l) whole c.requires in
    ap (λ (l : List OrderedKeys). c.remove.new.self ∷ l) c.in-Err.ensures.err
    ∙ ap (λ (k : OrderedKeys). k ∷ c.in-Some.rest.now) (c.remove.ensures.removed ∙ ap (without_key c.args.key.now) c.in_ok-insert.ensures.ok ∙ out_again c.in-Some.first.now c.args.key.now q.0)
    ∙ sym whole
