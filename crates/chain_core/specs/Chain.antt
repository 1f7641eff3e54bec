-- Entries of a chain.
use Rattle.std.specs.Prelude.{◌<◌, ◌≤◌, ◌^◌, List, length, map}
use Rattle.std.specs.List.{AllByRecursion}
use Rattle.log_base.specs.declared.limits.TheConstants.{PATCH_LIMIT}
use Rattle.chain_core.specs.declared.chain.Entry.{Entry}
use Rattle.log_base.specs.declared.chain_link.ChainLink.{ChainLink}
use Rattle.chain_core.specs.Links.{IsChain}

abbrev pub entry_link : Entry → ChainLink
entry_link e = record { id = e.patch.id; prev = e.patch.prev }

-- the entries are a chain of fewer than 2 ^ 32 patches, each within the limit of a patch
pub record IsBoundedChain (es : List Entry) : Type 0 where
  pub chain : IsChain (map entry_link es)
  pub few : length es < 2 ^ 32
  pub short : AllByRecursion (λ e. length e.patch.text ≤ PATCH_LIMIT) es
