use Rattle.std.proofs.Common.{◌∙◌, ap}
use Rattle.std.specs.Option.{option_map}
use Rattle.chain_core.proofs.Patches.{id_in, head-patches}
use Rattle.chain_core.proofs.chain.Chain.head.Goals as goal

pub returns-in-Some : goal.returns-in-Some
returns-in-Some c =
    rw (← c.self.view_is) (rw c.as_slice.ensures at (ap (option_map id_in) c.in-Some.ensures.value) ∙ head-patches c.self.inside.entries.items)
