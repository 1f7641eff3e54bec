-- The line on err and the status of each way in which a command ends without its result.
use Rattle.std.specs.Prelude.{ℕ, Bool, true, false, List, [], ◌∷◌, ◌++◌, codes}
use Rattle.std.specs.Fmt.{decimal}
use Rattle.delta_base.specs.Ids.{text_of}
use Rattle.chain_core.specs.declared.testing.ChainFault.{ChainFault}
use Rattle.chain_core.specs.declared.testing.ChainFault.TheVariants as chains
use Rattle.nquads_text.specs.Names.{text_kind_name}
use Rattle.patch_meaning.specs.Names.{fault_name, patch_kind_name}
use Rattle.patch_meaning.specs.declared.fault.PatchFault.{PatchFault}
use Rattle.patch_meaning.specs.declared.fault.PatchFault.TheVariants as faults
use Rattle.slot_checks.specs.Lines.{fault_line, id_or_none}
use Rattle.command_tables.specs.Names.{usage_text}
use Rattle.command_tables.specs.declared.refusal.Refusal.{Refusal}
use Rattle.command_tables.specs.declared.refusal.Refusal.TheVariants as refusals

-- a fault of the input at a place, whose line is counted from 1
abbrev pub place_line : ℕ → ℕ → List ℕ → List ℕ
place_line line at kind = codes "rdfdelta: input: line "
    ++ (decimal line ++ (codes " byte " ++ (decimal at ++ (codes ": " ++ (kind ++ 10 ∷ [])))))

abbrev pub limit_line : ℕ → List ℕ
limit_line limit = codes "rdfdelta: input: too long: limit " ++ (decimal limit ++ 10 ∷ [])

-- a stream of fewer patches
abbrev pub few_patches_line : ℕ → List ℕ
few_patches_line version = codes "rdfdelta: input: no patch " ++ (decimal version ++ 10 ∷ [])

-- a patch that was to be made, and is too long
abbrev pub net_too_long_line : ℕ → ℕ → List ℕ
net_too_long_line have limit =
    codes "rdfdelta: refused: net patch too long: have "
    ++ (decimal have ++ (codes ", limit " ++ (decimal limit ++ 10 ∷ [])))

abbrev pub out_of_memory_line : List ℕ
out_of_memory_line = codes "rdfdelta: out of memory\n"

-- an answer of another status than 200
abbrev pub refused_line : ℕ → List ℕ → List ℕ
refused_line status body =
    codes "rdfdelta: refused: " ++ (decimal status ++ (codes " " ++ (body ++ 10 ∷ [])))

-- bytes that are no answer, from this place on
abbrev pub not_understood_line : ℕ → List ℕ
not_understood_line at =
    codes "rdfdelta: answer: byte " ++ (decimal at ++ codes ": not understood\n")

-- a zone that takes no patch more
abbrev pub zone_full_line : ℕ → ℕ → List ℕ
zone_full_line have limit =
    codes "rdfdelta: refused: zone full: have "
    ++ (decimal have ++ (codes ", limit " ++ (decimal limit ++ 10 ∷ [])))

-- a checkpoint that was to be written, and is too large
abbrev pub checkpoint_too_large_line : ℕ → ℕ → List ℕ
checkpoint_too_large_line have limit =
    codes "rdfdelta: refused: checkpoint too large: have "
    ++ (decimal have ++ (codes ", limit " ++ (decimal limit ++ 10 ∷ [])))

-- a file that begins as a checkpoint, and holds none
abbrev pub broken_checkpoint_line : ℕ → List ℕ
broken_checkpoint_line file =
    codes "rdfdelta: file " ++ (decimal file ++ codes ": broken checkpoint\n")

-- a text that is no patch; one that is too long is so at the first byte past the limit
abbrev pub fault_at : PatchFault → ℕ
fault_at (faults.At at kind) = at
fault_at (faults.TooLong size limit) = limit
fault_at faults.OutOfMemory = 0

abbrev pub bad_patch_line : ℕ → ℕ → List ℕ → List ℕ
bad_patch_line version at kind =
    codes "rdfdelta: answer: patch "
    ++ (decimal version ++ (codes ": byte " ++ (decimal at ++ (codes ": " ++ (kind ++ 10 ∷ [])))))

-- a log that is shorter than the zone
abbrev pub peer_behind_line : ℕ → ℕ → List ℕ
peer_behind_line mine theirs =
    codes "rdfdelta: peer behind: have "
    ++ (decimal mine ++ (codes ", peer " ++ (decimal theirs ++ 10 ∷ [])))

abbrev pub no_patch_line : ℕ → List ℕ
no_patch_line version = codes "rdfdelta: peer has no patch " ++ (decimal version ++ 10 ∷ [])

abbrev pub chain_line : ChainFault → List ℕ
chain_line (chains.Diverged version have found) =
    codes "rdfdelta: diverged at version " ++ (decimal version ++ (codes ": have "
    ++ (id_or_none have ++ (codes ", found " ++ (id_or_none found ++ 10 ∷ [])))))
chain_line (chains.Repeated id version) = codes "rdfdelta: repeated id "
    ++ (text_of id.0 ++ (codes " at version " ++ (decimal version ++ 10 ∷ [])))

-- the line on err
unfoldable pub refusal_line : Refusal → List ℕ
refusal_line refusals.UnknownCommand = codes "rdfdelta: unknown command\n"
refusal_line (refusals.Usage name) = codes "rdfdelta: usage: " ++ (usage_text name ++ 10 ∷ [])
refusal_line (refusals.Stream line at kind) = place_line line at (patch_kind_name kind)
refusal_line (refusals.LongPatch size limit) = limit_line limit
refusal_line (refusals.Document line at kind) = place_line line at (text_kind_name kind)
refusal_line refusals.BadRun = place_line 1 0 (codes "BadRun")
refusal_line (refusals.TooLong limit) = limit_line limit
refusal_line (refusals.FewPatches version) = few_patches_line version
refusal_line (refusals.NetTooLong have limit) = net_too_long_line have limit
refusal_line refusals.InputFailed = codes "rdfdelta: input failed\n"
refusal_line refusals.OutputFailed = codes "rdfdelta: output failed\n"
refusal_line (refusals.NotEmpty file length) = codes "rdfdelta: refused: file "
    ++ (decimal file ++ (codes " not empty: " ++ (decimal length ++ 10 ∷ [])))
refusal_line refusals.ZoneTermsFull = codes "rdfdelta: refused: zone terms full\n"
refusal_line (refusals.ZoneFull have limit) = zone_full_line have limit
refusal_line (refusals.CheckpointTooLarge have limit) = checkpoint_too_large_line have limit
refusal_line (refusals.File fault) = fault_line fault
refusal_line (refusals.BrokenCheckpoint file) = broken_checkpoint_line file
refusal_line (refusals.WrongCount disks slots) =
    codes "rdfdelta: file 0: wrong count: disks "
    ++ (decimal disks ++ (codes ", slots " ++ (decimal slots ++ 10 ∷ [])))
refusal_line refusals.DiskFailed = codes "rdfdelta: disk failed\n"
refusal_line refusals.LinkFailed = codes "rdfdelta: link failed\n"
refusal_line (refusals.Refused status body) = refused_line status body
refusal_line (refusals.NotUnderstood at) = not_understood_line at
refusal_line refusals.CutShort = codes "rdfdelta: answer cut short\n"
refusal_line (refusals.BadPatch version fault) =
    bad_patch_line version (fault_at fault) (fault_name fault)
refusal_line (refusals.PeerBehind mine theirs) = peer_behind_line mine theirs
refusal_line (refusals.NoPatch version) = no_patch_line version
refusal_line (refusals.Chain fault) = chain_line fault
refusal_line refusals.OutOfMemory = out_of_memory_line

-- the line tells no more than what happened: no number, no id and no word of the command's
abbrev pub has_fixed_line : Refusal → Bool
has_fixed_line refusals.UnknownCommand = true
has_fixed_line refusals.BadRun = true
has_fixed_line refusals.InputFailed = true
has_fixed_line refusals.OutputFailed = true
has_fixed_line refusals.ZoneTermsFull = true
has_fixed_line refusals.DiskFailed = true
has_fixed_line refusals.LinkFailed = true
has_fixed_line refusals.CutShort = true
has_fixed_line refusals.OutOfMemory = true
has_fixed_line other = false

-- the status
abbrev pub exit_status : Refusal → ℕ
exit_status refusals.UnknownCommand = 2
exit_status (refusals.Usage name) = 2
exit_status (refusals.Stream line at kind) = 3
exit_status (refusals.LongPatch size limit) = 3
exit_status (refusals.Document line at kind) = 3
exit_status refusals.BadRun = 3
exit_status (refusals.TooLong limit) = 3
exit_status (refusals.FewPatches version) = 3
exit_status (refusals.NetTooLong have limit) = 1
exit_status refusals.InputFailed = 4
exit_status refusals.OutputFailed = 4
exit_status (refusals.NotEmpty file length) = 1
exit_status refusals.ZoneTermsFull = 1
exit_status (refusals.ZoneFull have limit) = 1
exit_status refusals.DiskFailed = 5
exit_status refusals.LinkFailed = 6
exit_status (refusals.Refused status body) = 1
exit_status (refusals.NotUnderstood at) = 7
exit_status refusals.CutShort = 7
exit_status (refusals.BadPatch version fault) = 7
exit_status (refusals.PeerBehind mine theirs) = 10
exit_status (refusals.NoPatch version) = 10
exit_status (refusals.CheckpointTooLarge have limit) = 1
exit_status (refusals.File fault) = 9
exit_status (refusals.BrokenCheckpoint file) = 9
exit_status (refusals.WrongCount disks slots) = 9
exit_status (refusals.Chain fault) = 10
exit_status refusals.OutOfMemory = 8
