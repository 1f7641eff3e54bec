-- A run for which all memory was taken.
use Rattle.std.specs.Prelude.{◌≡◌, ℕ, List, Result, Ok, Err}
use Rattle.chain_core.specs.declared.chain.Patch.{Patch}
use Rattle.chain_core.specs.Runs.{run_text}
use Rattle.log_journal.specs.declared.block.Block.{Block}
use Rattle.log_journal.specs.Payload.{payload_of}
use Rattle.patch_log.specs.Log.{IsSoundRun}

-- the run, and the pass that brings it
pub record ReadyView : Type 0 where
  pub run : List Patch
  pub by : ℕ

-- it was made of this run for this pass; where no memory was found, it is the run
abbrev pub IsMadeOf : List Patch → ℕ → Result ReadyView (List Patch) → Type 0
IsMadeOf run by (Ok ready) = (ready.run ≡ run) × (ready.by ≡ by)
IsMadeOf run by (Err back) = back ≡ run

-- the block is made of the run's text
pub record IsReady (run : List Patch) (block : Block) : Type 0 where
  pub block_is : payload_of block ≡ run_text run
  pub sound : IsSoundRun run
