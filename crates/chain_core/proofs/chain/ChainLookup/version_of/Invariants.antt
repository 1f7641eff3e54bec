use Rattle.std.proofs.Common.{◌≡◌, ◌+◌, drop}
use Rattle.std.specs.Option.{option_map}
use Rattle.chain_core.specs.Patches.{patches_of, version_of}
use Rattle.chain_core.proofs.chain.ChainLookup.version_of.Given as goal

abbrev pub invariant-loop-place : goal.invariant-loop-place
invariant-loop-place l = version_of (patches_of l.entry-items) l.id ≡ option_map (λ version. version + l.place) (version_of (patches_of (drop l.place l.entry-items)) l.id)
