-- How contracts see a registry on a disk, and what it keeps.
use Rattle.std.specs.Prelude.{◌≡◌, ℕ, List, Option}
use Rattle.disk_model.specs.declared.disk.Disk.{Ghosts}
use Rattle.log_journal.specs.declared.journal.Journal.{Journal}
use Rattle.log_journal.specs.StandsFor.{length_of, limit_of}
use Rattle.log_journal.specs.Writing.{StandsWith}
use Rattle.log_base.specs.declared.limits.TheConstants.{REGISTRY_LIMIT}
use Rattle.registry_core.specs.declared.event.Event.{Event}
use Rattle.registry_core.specs.declared.event.Entry.{Entry}
use Rattle.registry_core.specs.Events.{events_of, IsRegistry}
use Rattle.registry_core.specs.Texts.{registry_payloads, registry_length}
use Rattle.log_registry.specs.Stands.{event_payload}
use Rattle.log_base.specs.OneMore.{with_one_more}

-- the slots, which never change; the entries and the event in doubt; and the disk
pub record StateView (D : Type 0) : Type 0 where
  pub slots : ℕ
  pub entries : List Entry
  pub doubt : Option Event
  pub disk : D

-- its events
abbrev pub events_in : {D : Type 0} → StateView D → List Event
events_in registry = events_of registry.entries

-- the journal stands for the slots, the events and the event in doubt
pub record JournalKeepsEvents {D : Type 0} {disks : Ghosts D} (journal : Journal D disks)
    (slots : ℕ)
    (events : List Event) (doubt : Option Event) : Type 0 where
  pub stands : StandsWith journal 0 (registry_payloads slots events) (event_payload doubt)
  pub without : IsRegistry slots events
  pub having : IsRegistry slots (with_one_more events doubt)
  pub length_is : length_of journal ≡ registry_length slots events
  pub limit_is : limit_of journal ≡ REGISTRY_LIMIT
