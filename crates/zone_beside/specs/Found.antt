-- The disks of the two files, whichever is current.
use Rattle.std.specs.Prelude.{if◌then◌else◌}
use Rattle.disk_model.specs.declared.disk.Disk.{Ghosts}
use Rattle.zone_beside.specs.declared.finding.Found.{Found}

-- that of the first file
abbrev pub first_of : {D : Type 0} {disks : Ghosts D} → Found D disks → D
first_of found = if found.beside.on_second then found.beside.disk else found.current

-- that of the second
abbrev pub second_of : {D : Type 0} {disks : Ghosts D} → Found D disks → D
second_of found = if found.beside.on_second then found.current else found.beside.disk
