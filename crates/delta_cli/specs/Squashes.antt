-- What `squash` and `invert` print, or why they print nothing.
use Rattle.std.specs.Prelude.{◌≡◌, ℕ, List}
use Rattle.command_tables.specs.Channels.{Channel, ChannelFailed, IsSilent}
use Rattle.command_tables.specs.declared.refusal.Refusal.{Refusal}
use Rattle.command_tables.specs.declared.refusal.Refusal.TheVariants as refusals
use Rattle.delta_base.specs.declared.id.Id.{Id}
use Rattle.patch_meaning.specs.Checked.{CheckedPatch}
use Rattle.stream_replay.specs.Places.{IsFaultyStream, IsLong}
use Rattle.stream_replay.specs.Source.{IsTooLong, IsUnchained, stream_limit}
use Rattle.stream_squash.specs.Faults.{BreaksInverse, HasFewer, IsLongInverse, IsLongNet}
use Rattle.stream_squash.specs.Squashes.{HasSquashed, IsInverse}
use Rattle.stream_squash.specs.declared.fault.SquashFault.{SquashFault}
use Rattle.stream_squash.specs.declared.fault.SquashFault.TheVariants as squashes
use Rattle.delta_cli.specs.Results.{PrintsFront, ReadsInput}

-- the text of the patch of an id that undoes the last patch of a stream
pub record HasInverted (id : Id) (text result : List ℕ) : Type 0 where
  pub patch : CheckedPatch
  pub inverse : IsInverse id text patch
  pub result_is : result ≡ patch.text

-- the end of a command whose stream isn't squashed
abbrev pub squash_refusal : SquashFault → Refusal
squash_refusal (squashes.Stream line at kind) = refusals.Stream line at kind
squash_refusal (squashes.LongPatch size limit) = refusals.LongPatch size limit
squash_refusal (squashes.Chain fault) = refusals.Chain fault
squash_refusal (squashes.NoPatch version) = refusals.FewPatches version
squash_refusal (squashes.NetTooLong size limit) = refusals.NetTooLong size limit
squash_refusal squashes.OutOfMemory = refusals.OutOfMemory

-- why `squash` prints no stream
abbrev pub StopsSquashing : ℕ → ℕ → Refusal → Channel → Channel → Channel → Channel → Type 0
StopsSquashing from to (refusals.Stream line at kind) input input' out out' =
    ReadsInput input input' (IsFaultyStream line at kind) × IsSilent out out'
StopsSquashing from to (refusals.LongPatch size limit) input input' out out' =
    ReadsInput input input' (IsLong size limit) × IsSilent out out'
StopsSquashing from to (refusals.Chain fault) input input' out out' =
    ReadsInput input input' (IsUnchained fault) × IsSilent out out'
StopsSquashing from to (refusals.FewPatches version) input input' out out' =
    ReadsInput input input' (λ text. (version ≡ to) × HasFewer to text) × IsSilent out out'
StopsSquashing from to (refusals.NetTooLong size limit) input input' out out' =
    ReadsInput input input' (IsLongNet from to size limit) × IsSilent out out'
StopsSquashing from to (refusals.TooLong limit) input input' out out' =
    IsTooLong input.bytes input'.bytes × (limit ≡ stream_limit) × IsSilent out out'
StopsSquashing from to refusals.InputFailed input input' out out' =
    ChannelFailed input input' × IsSilent out out'
StopsSquashing from to refusals.OutputFailed input input' out out' =
    ChannelFailed out out' × ReadsInput input input' (PrintsFront (HasSquashed from to) out out')
StopsSquashing from to refusals.OutOfMemory input input' out out' = IsSilent out out'
StopsSquashing from to other input input' out out' = ⊥

-- why `invert` prints no patch
abbrev pub StopsInverting : Id → Refusal → Channel → Channel → Channel → Channel → Type 0
StopsInverting id (refusals.Stream line at kind) input input' out out' =
    ReadsInput input input' (IsFaultyStream line at kind) × IsSilent out out'
StopsInverting id (refusals.LongPatch size limit) input input' out out' =
    ReadsInput input input' (IsLong size limit) × IsSilent out out'
StopsInverting id (refusals.Chain fault) input input' out out' =
    ReadsInput input input' (λ text. BreaksInverse id text fault) × IsSilent out out'
StopsInverting id (refusals.FewPatches version) input input' out out' =
    ReadsInput input input' (λ text. (version ≡ 1) × HasFewer 1 text) × IsSilent out out'
StopsInverting id (refusals.NetTooLong size limit) input input' out out' =
    ReadsInput input input' (IsLongInverse id size limit) × IsSilent out out'
StopsInverting id (refusals.TooLong limit) input input' out out' =
    IsTooLong input.bytes input'.bytes × (limit ≡ stream_limit) × IsSilent out out'
StopsInverting id refusals.InputFailed input input' out out' =
    ChannelFailed input input' × IsSilent out out'
StopsInverting id refusals.OutputFailed input input' out out' =
    ChannelFailed out out' × ReadsInput input input' (PrintsFront (HasInverted id) out out')
StopsInverting id refusals.OutOfMemory input input' out out' = IsSilent out out'
StopsInverting id other input input' out out' = ⊥
