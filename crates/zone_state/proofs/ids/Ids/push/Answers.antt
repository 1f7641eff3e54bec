use Rattle.std.proofs.Common.{◌≡◌, ◌+◌, ◌<◌, ◌≤◌, ◌^◌, ◌∷◌, [], length, None, sym, ap, subst, arith, length-append}
use Rattle.std.proofs.lemmas.List.Elements.{All-push}
use Rattle.delta_base.specs.Ids.{IsId}
use Rattle.delta_base.specs.Listed.{Listed}
use Rattle.delta_base.specs.declared.id.Id.{Id}
use Rattle.chain_core.specs.Ids.{version_among}
use Rattle.zone_state.proofs.ids.Ids.push.Goals as goal

pub invariant_of-self : goal.invariant_of-self
invariant_of-self c =
    let ids = c.self.inside.list.items in
    let new = subst (λ (l : Listed Id). version_among l.items c.args.id ≡ None) (sym c.self.view_is) c.requires.new in
    let few = subst (λ (l : Listed Id). length l.items + 1 < 2 ^ 32) (sym c.self.view_is) c.requires.few in
    let ready = subst (λ (l : Listed Id). 1 ≤ l.spare) (sym c.self.view_is) c.requires.ready in
    let count = subst (λ (l : Listed Id). c.len-version.result + 1 ≡ length l.items + 1) (sym c.self.view_is) (ap (λ n. n + 1) c.len-version.ensures.len) in
    rw c.in-Ok-push.ensures.ok (
      omega (arith, few, length-append ids (c.args.id ∷ [])),
      c.in-Ok.ensures.more ids c.self.invariant.1 new count,
      omega (arith, c.push.ensures.spare (omega (arith, ready, c.self.invariant.2)), c.in-Ok.ensures.places, c.self.invariant.2),
      All-push (λ (id : Id). IsId id.0) ids c.args.id c.self.invariant.3 (omega arith),
    )
