-- Why `squash` and `invert` make nothing of a text.
use Rattle.std.specs.Prelude.{◌≡◌, ◌⊎◌, ℕ, ◌<◌, List, Some, length}
use Rattle.chain_core.specs.Ids.{version_among}
use Rattle.chain_core.specs.Links.{link_ids}
use Rattle.chain_core.specs.declared.testing.ChainFault.TheVariants as chain
use Rattle.chain_core.specs.declared.testing.ChainFault.{ChainFault}
use Rattle.delta_base.specs.declared.id.Id.{Id}
use Rattle.patch_algebra.specs.Patches.{RefusesWritten}
use Rattle.patch_algebra.specs.declared.fault.NetFault.{NetFault}
use Rattle.patch_algebra.specs.declared.fault.NetFault.TheVariants as nets
use Rattle.patch_meaning.specs.Checked.{CheckedPatch, meanings}
use Rattle.patch_meaning.specs.Replay.{links_said}
use Rattle.stream_replay.specs.Places.{IsFaultyStream, IsLong}
use Rattle.stream_replay.specs.Source.{IsUnchained}
use Rattle.stream_squash.specs.Squashes.{HasNet, IsChained, IsInverse}
use Rattle.stream_squash.specs.declared.fault.SquashFault.{SquashFault}
use Rattle.stream_squash.specs.declared.fault.SquashFault.TheVariants as ends

-- a fault of a net patch, as one of a squash
abbrev pub net_refused : NetFault → SquashFault
net_refused (nets.TooLong length limit) = ends.NetTooLong length limit
net_refused nets.OutOfMemory = ends.OutOfMemory

-- the text is no chain of patches, and this is its first fault; want of memory is free
abbrev pub StopsChain : List ℕ → SquashFault → Type 0
StopsChain text (ends.Stream line at kind) = IsFaultyStream line at kind text
StopsChain text (ends.LongPatch size limit) = IsLong size limit text
StopsChain text (ends.Chain fault) = IsUnchained fault text
StopsChain text (ends.NoPatch version) = ⊥
StopsChain text (ends.NetTooLong size limit) = ⊥
StopsChain text ends.OutOfMemory = Unit {0}

-- the text is a chain of fewer patches
pub record HasFewer (version : ℕ) (text : List ℕ) : Type 0 where
  pub patches : List CheckedPatch
  pub chained : IsChained text patches
  pub fewer : length patches < version

-- the net patch of those from one version to another is too long
pub record IsLongNet (from to size limit : ℕ) (text : List ℕ) : Type 0 where
  pub patches : List CheckedPatch
  pub net : CheckedPatch
  pub has : HasNet from to text patches net
  pub refuses : RefusesWritten net (nets.TooLong size limit)

-- why the patches from one version to another are not squashed; want of memory is free
abbrev pub StopsSquash : ℕ → ℕ → List ℕ → SquashFault → Type 0
StopsSquash from to text (ends.Stream line at kind) = IsFaultyStream line at kind text
StopsSquash from to text (ends.LongPatch size limit) = IsLong size limit text
StopsSquash from to text (ends.Chain fault) = IsUnchained fault text
StopsSquash from to text (ends.NoPatch version) = (version ≡ to) × HasFewer to text
StopsSquash from to text (ends.NetTooLong size limit) = IsLongNet from to size limit text
StopsSquash from to text ends.OutOfMemory = Unit {0}

-- the text is a chain of patches, and the patch of this version has the id
pub record HasId (id : Id) (version : ℕ) (text : List ℕ) : Type 0 where
  pub patches : List CheckedPatch
  pub chained : IsChained text patches
  pub version_is : version_among (link_ids (links_said (meanings patches))) id ≡ Some version

-- the patches are no chain, or one has the id, which the inverse would repeat
abbrev pub BreaksInverse : Id → List ℕ → ChainFault → Type 0
BreaksInverse id text fault = IsUnchained fault text
    ⊎ ((version : ℕ) × (fault ≡ chain.Repeated id version) × HasId id version text)

-- the inverse of the last patch is too long
pub record IsLongInverse (id : Id) (size limit : ℕ) (text : List ℕ) : Type 0 where
  pub patch : CheckedPatch
  pub is : IsInverse id text patch
  pub refuses : RefusesWritten patch (nets.TooLong size limit)

-- why the last patch has no inverse of this id; want of memory is free
abbrev pub StopsInvert : Id → List ℕ → SquashFault → Type 0
StopsInvert id text (ends.Stream line at kind) = IsFaultyStream line at kind text
StopsInvert id text (ends.LongPatch size limit) = IsLong size limit text
StopsInvert id text (ends.Chain fault) = BreaksInverse id text fault
StopsInvert id text (ends.NoPatch version) = (version ≡ 1) × HasFewer 1 text
StopsInvert id text (ends.NetTooLong size limit) = IsLongInverse id size limit text
StopsInvert id text ends.OutOfMemory = Unit {0}
