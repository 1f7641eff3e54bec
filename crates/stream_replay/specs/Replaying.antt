-- Patches that are applied one after another.
use Rattle.std.specs.Prelude.{◌≡◌, List, ◌++◌, length, Option, None, Some}
use Rattle.std.specs.List.{flat_map}
use Rattle.chain_core.specs.declared.testing.ChainFault.{ChainFault}
use Rattle.chain_core.specs.Breaks.{Breaks}
use Rattle.chain_core.specs.Ids.{last_of}
use Rattle.chain_core.specs.Links.{IsChain, link_ids}
use Rattle.chain_core.specs.Tested.{IsTested}
use Rattle.rdf_terms.specs.Line.{lines}
use Rattle.patch_meaning.specs.Patch.{Meaning}
use Rattle.patch_meaning.specs.Replay.{links_said, replay}
use Rattle.stream_replay.specs.declared.fault.ReplayFault.{ReplayFault}
use Rattle.stream_replay.specs.declared.fault.ReplayFault.TheVariants as ends
use Rattle.stream_replay.specs.declared.replay.Replay.{Replay}
use Rattle.stream_replay.specs.declared.replay.Replayed.{Replayed}

-- a chain so far, or the first fault of the chain
abbrev pub HasTakenPatches : List Meaning → Option ChainFault → Replay → Type 0
HasTakenPatches ms None r = IsTested (links_said ms) r.chain
HasTakenPatches ms (Some fault) r = (more : List Meaning) → Breaks (links_said (ms ++ more)) fault

-- these patches were taken
abbrev pub IsReplay : List Meaning → Replay → Type 0
IsReplay ms r = HasTakenPatches ms r.fault r

-- The patches are a chain. These are the lines of their replay's quads in the order of their bytes,
-- how many patches and quads there are, and the id of the last patch.
pub record AreReplayed (ms : List Meaning) (r : Replayed) : Type 0 where
  pub chain : IsChain (links_said ms)
  pub lines_are : flat_map (λ l. l) r.lines ≡ lines (replay ms).quads
  pub patches_is : r.patches ≡ length ms
  pub quads_is : r.quads ≡ length (replay ms).quads
  pub head_is : r.head ≡ last_of (link_ids (links_said ms))

-- the patches are no chain; want of memory is free
abbrev pub EndsChain : List Meaning → ReplayFault → Type 0
EndsChain ms (ends.Chain fault) = Breaks (links_said ms) fault
EndsChain ms ends.OutOfMemory = Unit {0}
EndsChain ms (ends.Stream line at kind) = ⊥
EndsChain ms (ends.LongPatch size limit) = ⊥
EndsChain ms ends.TooLong = ⊥
EndsChain ms ends.Failed = ⊥
