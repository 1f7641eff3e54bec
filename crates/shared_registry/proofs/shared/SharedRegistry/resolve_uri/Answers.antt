use Rattle.std.proofs.Common.{◌≡◌, ◌∙◌, ap, refl}
use Rattle.std.proofs.lemmas.Result.{IfOk-weaker}
use Rattle.registry_core.specs.Replies as asked
use Rattle.registry_core.specs.Sources.{source_with_uri}
use Rattle.shared_registry.specs.Stays.{CalledOnRegistry}
use Rattle.shared_registry.proofs.Asking.{looked_up, living_seen}
use Rattle.shared_registry.proofs.shared.SharedRegistry.resolve_uri.Goals as goal

pub returns-clause-called : goal.returns-clause-called
returns-clause-called g c =
    let r = c.in_ok-refresh.ensures in
    let origin = c.args.self.now.origin in
    let q = c.refresh.new.pass in
    let living = living_seen c.refresh.new.names q c.living_in.result.now r.fresh c.living_in.ensures in
    IfOk-weaker c.find_with_uri.result (λ found. found ≡ source_with_uri c.as_bytes.result.now c.living_in.result.now) (λ found. CalledOnRegistry g.D.Disk origin c.args.pass.now (asked.resolve_uri c.args.uri.now) (asked.found found) q)
    (λ found is. rw (← c.pass.view_is) (looked_up g.D.Disk origin c.pass.inside.pass q (asked.resolve_uri c.args.uri.now) (asked.found found) r.looked r.stay refl (ap asked.found (is ∙ (λ i. source_with_uri (c.as_bytes.ensures.value i) (living i)))) (λ found left does. does) (λ s. s))) c.find_with_uri.ensures.value
