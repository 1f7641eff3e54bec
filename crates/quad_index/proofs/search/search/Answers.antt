use Rattle.std.proofs.Common.{rules, ◌≡◌, false, true, ap, ◌∙◌}
use Rattle.quad_index.specs.declared.order.Order.{Order}
use Rattle.quad_index.specs.Order.{arranged, restored}
use Rattle.quad_index.specs.Key.{matches_key}
use Rattle.quad_index.proofs.search.search.Goals as goal
use Rattle.quad_index.proofs.search.search.Goals.{in-Some+then-not-matches, in_default}
use Rattle.quad_index.proofs.Scans.{scan_start, scan_more, scan_stop, scan_end}

pub walk-init : goal.walk-init
walk-init g c = record {
  counted = search rules;
  scanning = scan_start _ _ _ _ _ _ c.requires c.walk-walk.ensures.sorted (ap (arranged c.args.kept.now.order) c.lowest.ensures) c.walk-walk.ensures.left c.new-found.ensures.items;
}

pub walk-preserved : goal.walk-preserved
walk-preserved g c =
    let m : matches_key c.args.pattern.now c.restored-key.result ≡ true = search rules in
    record {
      counted = search rules;
      scanning = scan_more _ _ _ _ _ c.in-Some.placed _ _ _ c.walk.invariant.scanning c.in-Some.ensures.next (c.restored-key.ensures ∙ ap (λ (o : Order). restored o c.in-Some.placed) c.order-order.ensures) m c.in_ok-push.ensures.items;
    }

pub returns-clause-found : goal.returns-clause-found
returns-clause-found g c =
    elim c.match-next.branch [
      | in-Some+then-not-matches w ↦
          (let m : matches_key c.args.pattern.now w.restored-key.result ≡ false = search rules in
          scan_stop _ _ _ _ _ w.in-Some.placed _ _ c.requires c.walk.invariant.scanning w.in-Some.ensures.next (w.restored-key.ensures ∙ ap (λ (o : Order). restored o w.in-Some.placed) c.order-order.ensures) m)
      | in_default w ↦ scan_end _ _ _ _ _ c.walk.invariant.scanning w.in_default.ensures.end
    ]
