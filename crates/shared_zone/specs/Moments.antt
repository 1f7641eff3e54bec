-- A zone and its passes at any moment are as `close` would tell.
use Rattle.std.specs.Prelude.{List, Option}
use Rattle.atomic_table.specs.Table.{State}
use Rattle.disk_model.specs.declared.disk.Disk.{Ghosts}
use Rattle.chain_core.specs.declared.chain.Patch.{Patch}
use Rattle.patch_meaning.specs.Checked.{CheckedPatch}
use Rattle.turn_cell.specs.declared.view.View.{View}
use Rattle.turn_cell.specs.Moments.{ArePassesAt, LiesInTurn}
use Rattle.turn_cell.specs.Turns.{HoldsRule}
use Rattle.turn_cell.specs.Sights.{Made}
use Rattle.turn_cell.specs.Sharing.{IsClosedOf}
use Rattle.shared_zone.specs.declared.fixed.ZoneFixed.{ZoneFixed}
use Rattle.shared_zone.specs.History.{SharedZone, ZoneSight, ZoneStandsInTurn, shared_zone}

module _ {D : Type 0} (disks : Ghosts D) where
  -- the cell of a zone
  abbrev pub ZoneCell : Type 0
  ZoneCell = State (Option (SharedZone D)) (View CheckedPatch Patch ZoneFixed)

  -- The cell of a shared zone at a moment, with this zone and these passes. The zone stands for its
  -- disks, as each value of its type does.
  pub record IsZoneMoment (made : Made (SharedZone D)) (shared : SharedZone D)
      (passes : List ZoneSight) (s : ZoneCell) : Type 0 where
    pub rule : HoldsRule (shared_zone disks).entries (shared_zone disks).fault_count
        (shared_zone disks).doubt (shared_zone disks).fixed (shared_zone disks).fits
        made.origin made.seats s
    pub lies : LiesInTurn (shared_zone disks).entries (shared_zone disks).fault_count
        (shared_zone disks).doubt (shared_zone disks).fixed shared s
    pub stands : ZoneStandsInTurn disks shared
    pub passes_are : ArePassesAt s.views passes

  abbrev pub ZonesAreClosedAtEachMoment : Type 0
  ZonesAreClosedAtEachMoment =
      (made : Made (SharedZone D)) (shared : SharedZone D) (passes : List ZoneSight)
      (s : ZoneCell) → IsZoneMoment made shared passes s
      → IsClosedOf (shared_zone disks) made passes shared
