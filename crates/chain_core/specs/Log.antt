-- A log: what it took, and what its disk may have beside it. A log takes runs of patches; a zone,
-- which is a log too, takes patches.
use Rattle.std.specs.Prelude.{◌≤◌, List, length}
use Rattle.std.specs.Prelude.{Option, None, Bool, if◌then◌else◌}
use Rattle.std.specs.List.{AllByRecursion}
use Rattle.log_base.specs.OneMore.{with_one_more}
use Rattle.log_base.specs.declared.limits.LogLimits.{LogLimits}
use Rattle.log_base.specs.declared.limits.TheConstants.{PATCH_LIMIT}
use Rattle.chain_core.specs.declared.chain.Patch.{Patch}
use Rattle.chain_core.specs.Links.{IsChain}
use Rattle.chain_core.specs.Patches.{links_of, journal_length}
use Rattle.chain_core.specs.Runs.{patches_in}

-- a log that runs, with what it took and what is in doubt, or one that was stopped, with what
-- its disk holds
pub data LogPoint (T : Type 0) : Type 0 where
  up : List T → Option T → LogPoint T
  down : List T → LogPoint T

-- a chain within the limits, no patch of which is too long
pub record IsLog (limits : LogLimits) (patches : List Patch) : Type 0 where
  pub chain : IsChain (links_of patches)
  pub few : length patches ≤ limits.patches
  pub room : journal_length patches ≤ limits.bytes
  pub short : AllByRecursion (λ patch. length patch.text ≤ PATCH_LIMIT) patches

-- whatever its disk holds is a log
abbrev pub IsPoint : LogLimits → LogPoint (List Patch) → Type 0
IsPoint limits (up runs doubt) =
    IsLog limits (patches_in runs) × IsLog limits (patches_in (with_one_more runs doubt))
IsPoint limits (down runs) = IsLog limits (patches_in runs)

-- a stop between two stays; the gate in doubt may stand open
abbrev pub stopped : {T : Type 0} → LogPoint T → Bool → LogPoint T
stopped (up taken doubt) opened = down (if opened then with_one_more taken doubt else taken)
stopped (down taken) opened = down taken

-- an opening that succeeds
abbrev pub opened_again : {T : Type 0} → LogPoint T → LogPoint T
opened_again (up taken doubt) = up taken doubt
opened_again (down taken) = up taken None
