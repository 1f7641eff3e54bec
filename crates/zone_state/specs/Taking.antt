-- What a zone makes of one more patch, and what taking it may come to.
use Rattle.std.specs.Prelude.{◌≡◌, ◌⊎◌, ℕ, ◌+◌, nat_lt, not, List, [], ◌∷◌}
use Rattle.std.specs.Prelude.{◌++◌, length, Option, Some, None, if◌then◌else◌}
use Rattle.std.specs.Option.{option_map}
use Rattle.delta_base.specs.declared.id.Id.{Id}
use Rattle.log_base.specs.declared.limits.FullKind.TheVariants.{Patches, Bytes}
use Rattle.log_base.specs.declared.limits.LogLimits.{LogLimits}
use Rattle.log_base.specs.declared.limits.TheConstants.{PAYLOAD_FRAME}
use Rattle.chain_core.specs.declared.chain.Patch.{Patch}
use Rattle.chain_core.specs.declared.fate.Fate.{Fate}
use Rattle.chain_core.specs.declared.answer.LogAnswer.{LogAnswer}
use Rattle.chain_core.specs.declared.answer.LogAnswer.TheVariants as log
use Rattle.chain_core.specs.Decision.{same_id}
use Rattle.chain_core.specs.Log.{LogPoint, up}
use Rattle.chain_core.specs.Stay.{accepted_by}
use Rattle.patch_meaning.specs.Checked.{CheckedPatch}
use Rattle.zone_state.specs.declared.answer.TakeAnswer.{TakeAnswer}
use Rattle.zone_state.specs.declared.answer.TakeAnswer.TheVariants.{Applied, Diverged}
use Rattle.zone_state.specs.declared.answer.TakeAnswer.TheVariants.{Repeated, Full, TermsFull}
use Rattle.zone_state.specs.declared.answer.TakeAnswer.TheVariants.{OutOfMemory, DiskFault}
use Rattle.chain_core.specs.Ids.{last_of, version_among}
use Rattle.zone_state.specs.Brief.{file_length}

-- of a patch whose id is new
abbrev pub within_limits : List Id → ℕ → Patch → LogLimits → TakeAnswer
within_limits ids bytes patch limits =
    let longer = file_length ids bytes + (PAYLOAD_FRAME + length patch.text) in
    if nat_lt limits.patches (length ids + 1) then Full Patches (length ids) limits.patches
    else (if nat_lt limits.bytes longer then Full Bytes longer limits.bytes
    else Applied (length ids + 1))

-- of a patch whose id is that of this version, if it was taken
abbrev pub unless_repeated : Option ℕ → List Id → ℕ → Patch → LogLimits → TakeAnswer
unless_repeated (Some version) ids bytes patch limits = Repeated version
unless_repeated None ids bytes patch limits = within_limits ids bytes patch limits

-- the patch is refused, or is the next one: first its previous id, then its own, then the limits
unfoldable pub taking : List Id → ℕ → Patch → LogLimits → TakeAnswer
taking ids bytes patch limits =
    if not (same_id patch.prev (last_of ids)) then Diverged (last_of ids) patch.prev
    else unless_repeated (version_among ids patch.id) ids bytes patch limits

-- what an append answers to the device, as a zone tells it
abbrev pub told_by : LogAnswer → TakeAnswer
told_by (log.Accepted version) = Applied version
told_by other = DiskFault

-- by what the device calls of the next patch come to; what is refused changes nothing
abbrev pub taken_by : TakeAnswer → Fate → List Patch → Option Patch → Patch
    → LogPoint Patch × Option TakeAnswer
taken_by (Applied version) fate taken doubt patch =
    let outcome = accepted_by version fate taken doubt patch in
    (outcome.0, option_map told_by outcome.1)
taken_by refused fate taken doubt patch = (up taken doubt, Some refused)

-- a zone that runs takes a patch with this fate
abbrev pub TakeStay : TakeAnswer → List Patch → Option Patch → Patch → Fate → LogPoint Patch
    → TakeAnswer → Type 0
TakeStay decided taken doubt patch fate after answer =
    taken_by decided fate taken doubt patch ≡ (after, Some answer)

-- the patch is the next one, and what it needs isn't there: numbers for its terms, or memory
abbrev pub WantsForTaking : TakeAnswer → TakeAnswer → Type 0
WantsForTaking decided answer =
    ((version : ℕ) × (decided ≡ Applied version))
    × ((answer ≡ TermsFull) ⊎ (answer ≡ OutOfMemory))

-- the patches taken behind an answer
abbrev pub taken_then : TakeAnswer → List CheckedPatch → CheckedPatch → List CheckedPatch
taken_then (Applied version) taken patch = taken ++ patch ∷ []
taken_then other taken patch = taken

-- the answer is the decision; or the patch is the next one, and what it needs isn't there or
-- the disk failed
abbrev pub IsDecidedBy : TakeAnswer → TakeAnswer → Type 0
IsDecidedBy decided answer =
    (answer ≡ decided)
    ⊎ (((version : ℕ) × (decided ≡ Applied version))
    × ((answer ≡ DiskFault) ⊎ ((answer ≡ TermsFull) ⊎ (answer ≡ OutOfMemory))))
