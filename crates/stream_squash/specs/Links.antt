-- A patch behind a chain, by its ids.
use Rattle.std.specs.Prelude.{◌≡◌, ℕ, List, Some}
use Rattle.chain_core.specs.Ids.{last_of, version_among}
use Rattle.chain_core.specs.Links.{link_ids}
use Rattle.chain_core.specs.declared.testing.ChainFault.TheVariants as faults
use Rattle.chain_core.specs.declared.testing.ChainFault.{ChainFault}
use Rattle.delta_base.specs.declared.id.Id.{Id}
use Rattle.log_base.specs.declared.chain_link.ChainLink.{ChainLink}

-- one of an id that names the last of these patches
abbrev pub next_link : List ChainLink → Id → ChainLink
next_link links id = record { id = id; prev = last_of (link_ids links) }

-- one of these patches has the id, and that is the fault
abbrev pub RepeatsId : List ChainLink → Id → ChainFault → Type 0
RepeatsId links id fault = (version : ℕ) × (fault ≡ faults.Repeated id version)
    × (version_among (link_ids links) id ≡ Some version)
