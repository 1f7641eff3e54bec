-- The names of faults of patches, as lines and replies print them.
use Rattle.std.specs.Prelude.{ℕ, List, codes}
use Rattle.patch_rows.specs.Names.{row_kind_name}
use Rattle.patch_meaning.specs.declared.fault.PatchFault.{PatchFault}
use Rattle.patch_meaning.specs.declared.fault.PatchFault.TheVariants as faults
use Rattle.patch_meaning.specs.declared.fault.PatchKind.{PatchKind}
use Rattle.patch_meaning.specs.declared.fault.PatchKind.TheVariants as kinds

-- where no row stands the name of what is wrong with it, else the kind's own
abbrev pub patch_kind_name : PatchKind → List ℕ
patch_kind_name (kinds.Row kind) = row_kind_name kind
patch_kind_name kinds.NoId = codes "NoId"
patch_kind_name kinds.TwoIds = codes "TwoIds"
patch_kind_name kinds.TwoPrevs = codes "TwoPrevs"
patch_kind_name kinds.BadId = codes "BadId"
patch_kind_name kinds.LateHeader = codes "LateHeader"
patch_kind_name kinds.Nested = codes "Nested"
patch_kind_name kinds.NotInBlock = codes "NotInBlock"
patch_kind_name kinds.OpenBlock = codes "OpenBlock"

abbrev pub fault_name : PatchFault → List ℕ
fault_name (faults.At at kind) = patch_kind_name kind
fault_name (faults.TooLong length limit) = codes "TooLong"
fault_name faults.OutOfMemory = codes "OutOfMemory"
