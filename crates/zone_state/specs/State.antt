-- What a zone keeps.
use Rattle.std.specs.Prelude.{◌≡◌, ◌^◌, ◌<◌, List, Option, None, length, is_none}
use Rattle.disk_model.specs.declared.disk.Disk.{Ghosts}
use Rattle.log_journal.specs.declared.journal.Journal.{Journal}
use Rattle.log_journal.specs.StandsFor.{length_of, limit_of, count_of, is_settled, disk_of}
use Rattle.log_base.specs.declared.limits.LogLimits.{LogLimits}
use Rattle.patch_meaning.specs.Checked.{CheckedPatch}
use Rattle.zone_state.specs.declared.kept.Kept.{Kept}
use Rattle.zone_state.specs.Brief.{Brief, file_length}
use Rattle.zone_state.specs.Zone.{ZoneView, StandsForZone}

abbrev pub brief_in : Kept → Brief
brief_in kept =
    record { ids = kept.ids.items; bytes = kept.bytes; contents = kept.contents.contents }

abbrev pub view_of : {D : Type 0} {disks : Ghosts D} → Journal D disks → Kept → LogLimits
    → Option CheckedPatch → ZoneView D
view_of journal kept limits doubt = record {
  brief = brief_in kept;
  terms = kept.contents.terms;
  doubt = doubt;
  limits = limits;
  disk = disk_of journal;
}

-- the journal's count, length and limit are those of the patches taken, its gate is in doubt where
-- a patch is, nothing is staged, and the zone stands for some patches and that one
pub record IsZoneKept {D : Type 0} {disks : Ghosts D} (journal : Journal D disks) (kept : Kept)
    (limits : LogLimits) (doubt : Option CheckedPatch) : Type 0 where
  pub counted : count_of journal ≡ length kept.ids.items
  pub length_is : length_of journal ≡ file_length kept.ids.items kept.bytes
  pub limit_is : limit_of journal ≡ limits.bytes
  pub settled_is : is_settled journal ≡ is_none doubt
  pub countable : limits.patches < 2 ^ 32
  pub unstaged : kept.contents.staged ≡ None
  pub stands : (taken : List CheckedPatch)
      × StandsForZone disks.tells (disks.past (disk_of journal))
      (view_of journal kept limits doubt) taken doubt
