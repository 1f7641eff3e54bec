-- Where patches stop being a chain.
use Rattle.std.specs.Prelude.{◌≡◌, ◌≢◌, ℕ, ◌+◌, ◌<◌, ◌≤◌, List, length}
use Rattle.std.specs.Prelude.{Option, Some, take, slice_get}
use Rattle.std.specs.Option.{option_map}
use Rattle.delta_base.specs.declared.id.Id.{Id}
use Rattle.log_base.specs.declared.chain_link.ChainLink.{ChainLink}
use Rattle.chain_core.specs.declared.testing.ChainFault.{ChainFault}
use Rattle.chain_core.specs.declared.testing.ChainFault.TheVariants as faults
use Rattle.chain_core.specs.Ids.{last_of, version_among}
use Rattle.chain_core.specs.Links.{IsChain, link_ids}

-- the least number of first ones that aren't so
pub record BreaksAt {T : Type 0} (IsSo : List T → Type 0) (items : List T)
    (count : ℕ) : Type 0 where
  pub within : count ≤ length items
  pub so_before : (fewer : ℕ) → fewer < count → IsSo (take fewer items)
  pub broken : IsSo (take count items) → ⊥

-- behind so many the chain breaks: these end with one id, and the next names another
pub record DivergesAt (ls : List ChainLink) (version : ℕ) (have found : Option Id) : Type 0 where
  pub breaks : BreaksAt IsChain ls (version + 1)
  pub have_is : have ≡ last_of (link_ids (take version ls))
  pub found_is : option_map (λ l. l.prev) (slice_get ls version) ≡ Some found
  pub differ : found ≢ have

-- behind some the chain breaks: the next names the last of their ids, and one of them has
-- its own id
pub record RepeatsAt (ls : List ChainLink) (id : Id) (version : ℕ) : Type 0 where
  pub taken : ℕ
  pub breaks : BreaksAt IsChain ls (taken + 1)
  pub follows : option_map (λ l. l.prev) (slice_get ls taken)
      ≡ Some (last_of (link_ids (take taken ls)))
  pub id_is : option_map (λ l. l.id) (slice_get ls taken) ≡ Some id
  pub version_is : version_among (link_ids (take taken ls)) id ≡ Some version

-- what a fault says
abbrev pub Breaks : List ChainLink → ChainFault → Type 0
Breaks ls (faults.Diverged version have found) = DivergesAt ls version have found
Breaks ls (faults.Repeated id version) = RepeatsAt ls id version
