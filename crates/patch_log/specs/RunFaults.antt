-- Why a text is no run.
use Rattle.std.specs.Prelude.{◌≡◌, ℕ, zero, suc, ◌<◌, ◌≤◌, List, [], length, map, None}
use Rattle.log_base.specs.declared.limits.TheConstants.{PATCH_LIMIT}
use Rattle.chain_core.specs.declared.chain.Patch.{Patch}
use Rattle.log_base.specs.declared.chain_link.ChainLink.{ChainLink}
use Rattle.chain_core.specs.Links.{IsChain}
use Rattle.chain_core.specs.Patches.{links_of}
use Rattle.chain_core.specs.Runs.{headless}
use Rattle.chain_core.specs.Breaks.{BreaksAt}
use Rattle.patch_meaning.specs.Checked.{CheckedPatch}
use Rattle.patch_meaning.specs.Stream.{IsSplit, IsStreamFault}
use Rattle.patch_log.specs.declared.run.RunFault.{RunFault}
use Rattle.patch_log.specs.declared.run.RunFault.TheVariants as faults
use Rattle.patch_log.specs.Log.{bare}

-- a link at a place of a run, counted from 0: the first one counts as naming nothing
abbrev pub link_in_run : ℕ → ChainLink → ChainLink
link_in_run zero l = record { id = l.id; prev = None }
link_in_run (suc place) l = l

-- there is no patch; or so many first ones are no run, and fewer are one
pub data IsBadAt (patches : List Patch) (at : ℕ) : Type 0 where
  none : patches ≡ [] → at ≡ 0 → IsBadAt patches at
  breaks : BreaksAt IsChain (headless (links_of patches)) at → IsBadAt patches at

-- why patches are no run; want of memory is free
abbrev pub HasLinkFault : List Patch → RunFault → Type 0
HasLinkFault patches (faults.BadRun at) = IsBadAt patches at
HasLinkFault patches faults.OutOfMemory = Unit {0}
HasLinkFault patches other = ⊥

-- The first fault of a text that is no run: it is too long; it is no stream of patches; or these
-- are no run. Want of memory is free.
abbrev pub HasRunFault : List ℕ → RunFault → Type 0
HasRunFault text (faults.TooLong have limit) =
    (PATCH_LIMIT < length text) × (have ≡ length text) × (limit ≡ PATCH_LIMIT)
HasRunFault text (faults.Patch fault) = (length text ≤ PATCH_LIMIT) × IsStreamFault text fault
HasRunFault text (faults.BadRun at) =
    (length text ≤ PATCH_LIMIT)
    × ((patches : List CheckedPatch) × IsSplit text patches × IsBadAt (map bare patches) at)
HasRunFault text faults.OutOfMemory = Unit {0}
