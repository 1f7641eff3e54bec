-- What a chain keeps.
use Rattle.std.specs.Prelude.{◌≡◌, ℕ, List}
use Rattle.chain_core.specs.declared.chain.Entry.{Entry}
use Rattle.chain_core.specs.Chain.{IsBoundedChain}
use Rattle.chain_core.specs.Patches.{patches_of, journal_length}

-- a chain, and the length of its journal
pub record IsCounted (entries : List Entry) (bytes : ℕ) : Type 0 where
  pub kept : IsBoundedChain entries
  pub bytes_is : bytes ≡ journal_length (patches_of entries)
