use Rattle.std.proofs.Common.{◌≡◌, ap, ◌∙◌, List}
use Rattle.quad_index.specs.declared.key.QuadKey.{QuadKey}
use Rattle.quad_index.specs.Key.{has_key}
use Rattle.quad_index.specs.Ordered.{OrderedKeys, keeps}
use Rattle.quad_index.proofs.Same.{are_matches, keeps_key, same_at}
use Rattle.quad_index.proofs.index.QuadIndex.matching.Goals as goal
use Rattle.quad_index.proofs.index.QuadIndex.matching.Goals.{in-Gspo+in_ok-found-in-Gspo, in_default+in_ok-at-in_default+in_ok-found-in_default}

pub returns-clause-found : goal.returns-clause-found
returns-clause-found g c =
    let first = c.self.inside.first in
    let has : (k : QuadKey) → keeps first k ≡ has_key c.args.self.now k = λ k. keeps_key first k ∙ ap (λ (l : List QuadKey). has_key l k) c.self.view_is in
    elim c.match-order_for.branch [
      | in-Gspo+in_ok-found-in-Gspo w ↦ are_matches c.args.pattern.now c.args.self.now _ first has w.search.ensures.sorted (c.from_vec.ensures ∙ ap (λ v. v.items) w.found-is ∙ w.in_ok-found-in-Gspo.ensures.found)
      | in_default+in_ok-at-in_default+in_ok-found-in_default w ↦
          (let kept = w.index.result.now in
          let others = w.place.new.others.items in
          let same : (k : QuadKey) → keeps kept k ≡ has_key c.args.self.now k =
          λ k. ap (λ (o : OrderedKeys). keeps o k) w.index.ensures ∙ same_at first others w.in_ok-at-in_default.at kept w.place.ensures.same w.in_ok-at-in_default.ensures.within k ∙ has k
          in
          are_matches c.args.pattern.now c.args.self.now _ kept same w.search-in_default.ensures.sorted (c.from_vec.ensures ∙ ap (λ v. v.items) w.found-is ∙ w.in_ok-found-in_default.ensures.found))
    ]
