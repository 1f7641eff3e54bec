-- What the file beside the current one stands for.
use Rattle.std.specs.Prelude.{◌≡◌, ℕ, List, Option, is_some}
use Rattle.disk_model.specs.declared.disk.Disk.{Ghosts}
use Rattle.disk_model.specs.Past.{EveryImage}
use Rattle.zone_beside.specs.declared.beside.Beside.{Beside}
use Rattle.zone_beside.specs.Beside.{MayHoldBeside}

-- every image holds what may stand there, and whether a payload is in doubt is known
abbrev pub StandsBehind : {D : Type 0} {disks : Ghosts D} → Beside D disks → Option (List ℕ)
    → Type 0
StandsBehind {D} {disks} beside doubt =
    (beside.doubtful ≡ is_some doubt)
    × (disks.tells → EveryImage (disks.past beside.disk)
    (MayHoldBeside beside.on_second beside.generation doubt))
