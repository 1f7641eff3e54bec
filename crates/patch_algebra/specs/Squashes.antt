-- What stands when a net patch takes the place of the patches of a run.
use Rattle.std.specs.Prelude.{◌≡◌, List, ◌∷◌, ◌++◌}
use Rattle.std.specs.List.{AllByRecursion}
use Rattle.chain_core.specs.Links.{IsChain}
use Rattle.patch_meaning.specs.Patch.{Meaning}
use Rattle.patch_meaning.specs.Replay.{links_said, replay}
use Rattle.rdf_terms.specs.Dataset.{Dataset}
use Rattle.net_changes.specs.Net.{in_block}
use Rattle.patch_algebra.specs.Laws.{IsPatchValue}
use Rattle.patch_algebra.specs.Nets.{net, run_changes}
use Rattle.patch_algebra.specs.Patches.{id_of_last}

-- what the net patch of a run says
abbrev pub net_meaning : Dataset → Meaning → List Meaning → Meaning
net_meaning d m ms = record {
  id = id_of_last m ms;
  prev = m.prev;
  changes = in_block (net d (run_changes (m ∷ ms)));
}

-- the patches make the same dataset
abbrev pub SquashesKeepReplays : Type 0
SquashesKeepReplays = (before : List Meaning) (m : Meaning) (ms behind : List Meaning)
    → AllByRecursion IsPatchValue before → AllByRecursion IsPatchValue (m ∷ ms)
    → replay (before ++ net_meaning (replay before) m ms ∷ behind)
    ≡ replay (before ++ ((m ∷ ms) ++ behind))

-- they are a chain again
abbrev pub SquashesKeepChains : Type 0
SquashesKeepChains = (d : Dataset) (before : List Meaning) (m : Meaning) (ms behind : List Meaning)
    → IsChain (links_said (before ++ ((m ∷ ms) ++ behind)))
    → IsChain (links_said (before ++ net_meaning d m ms ∷ behind))
