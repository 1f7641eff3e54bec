use Rattle.std.proofs.Common.{◌∙◌, ap}
use Rattle.chain_core.specs.Ids.{last_of}
use Rattle.checkpoint_text.specs.Brief.{Brief}
use Rattle.shared_zone.proofs.Standing.{kept, ids_count}
use Rattle.shared_zone.proofs.value.ZoneValue.describe.Goals as goal

pub returns-clause-version : goal.returns-clause-version
returns-clause-version g c = rw (← c.self.view_is) (c.version.ensures.version ∙ ids_count g.D.Disk _ c.self.invariant.1)

pub returns-clause-head : goal.returns-clause-head
returns-clause-head g c = rw (← c.self.view_is) (c.head.ensures ∙ ap (λ (b : Brief). last_of b.ids) (kept g.D.Disk _ c.self.invariant.1))
