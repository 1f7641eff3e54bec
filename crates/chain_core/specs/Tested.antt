-- What is kept of a chain to test the patch behind it.
use Rattle.std.specs.Prelude.{◌≡◌, List, length}
use Rattle.log_base.specs.declared.chain_link.ChainLink.{ChainLink}
use Rattle.chain_core.specs.declared.testing.ChainTest.{ChainTest}
use Rattle.chain_core.specs.Ids.{last_of}
use Rattle.chain_core.specs.Index.{IsIndexOf}
use Rattle.chain_core.specs.Links.{IsChain, link_ids}

-- the patches are a chain, and its length, its last id and its versions are kept
pub record IsTested (ls : List ChainLink) (t : ChainTest) : Type 0 where
  pub chain : IsChain ls
  pub version_is : t.version ≡ length ls
  pub head_is : t.head ≡ last_of (link_ids ls)
  pub index_is : IsIndexOf t.index (link_ids ls)
