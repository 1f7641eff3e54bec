use Rattle.std.proofs.Common.{rules, tests, ap, ◌∙◌}
use Rattle.std.specs.BTreeSet.{IsFromIterResult}
use Rattle.std.proofs.lemmas.Iterator.{YieldsList-from_map}
use Rattle.std.proofs.lemmas.Iterator.Consumers.{YieldsList-from_rest, YieldsList-at}
use Rattle.std.proofs.lemmas.Iterator.Adapters.{fact_from_collect}
use Rattle.std.specs.Prelude.{Ok}
use Rattle.quad_index.specs.declared.order.Placed.{Placed}
use Rattle.quad_index.specs.Order.{placed_cmp, arranged, restored}
use Rattle.quad_index.specs.Ordered.{OrderedKeys, keeps}
use Rattle.quad_index.proofs.Same.{keeps_moved}
use Rattle.quad_index.proofs.ordered.Ordered.in_order.Goals as goal

pub returns-clause-same : goal.returns-clause-same
returns-clause-same c key =
    keeps_moved _ c.args.order c.in_ok-keys.keys key
    (fact_from_collect {E = Unit {0}} (IsFromIterResult placed_cmp) (Ok c.in_ok-keys.keys) c.in_ok-keys.ensures.ran
    (YieldsList-from_map _ (λ (x : Placed). arranged c.args.order (restored c.self.inside.order x)) (YieldsList-at c.map.ensures.source (YieldsList-from_rest c.self.inside.keys.keys c.iter.ensures.rest)) c.map.ensures.closure (λ x r q k. search (rules, tests))))
    ∙ ap (λ (kept : OrderedKeys). keeps kept key) c.self.view_is
