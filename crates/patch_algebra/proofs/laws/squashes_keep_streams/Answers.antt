use Rattle.patch_algebra.proofs.Squashing.{squashes_keep_chains, squashes_keep_replays}
use Rattle.patch_algebra.proofs.laws.squashes_keep_streams.Goals as goal

pub returns-clause-replay : goal.returns-clause-replay
returns-clause-replay c = squashes_keep_replays

pub returns-clause-chain : goal.returns-clause-chain
returns-clause-chain c = squashes_keep_chains
