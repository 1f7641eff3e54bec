-- From what was written to what a call made of the registry.
use Rattle.std.proofs.Common.{◌≡◌, ◌≢◌, List, [], ◌∷◌, ◌++◌, ℕ, Option, Some, None, Result, Ok, Err, refl, sym, ◌∙◌, subst}
use Rattle.std.specs.Prelude.{IsErr}
use Rattle.log_base.specs.declared.phase.Phase.{Phase}
use Rattle.disk_model.specs.declared.disk.Disk.{Ghosts}
use Rattle.log_journal.specs.declared.journal.Journal.{Journal}
use Rattle.log_journal.specs.StandsFor.{disk_of}
use Rattle.log_journal.specs.Writing.{failing, doubt_left}
use Rattle.log_journal.specs.Written.{DiskWent, Written}
use Rattle.log_journal.proofs.Disks.{went_by, not_asked}
use Rattle.registry_core.specs.declared.event.Event.{Event}
use Rattle.registry_core.specs.declared.event.Entry.{Entry}
use Rattle.registry_core.specs.Answers.{Ending, told, failed, wanting}
use Rattle.registry_core.specs.Events.{events_of}
use Rattle.registry_core.specs.Texts.{event_text, registry_payloads}
use Rattle.log_registry.specs.Stands.{StandsForRegistry, event_payload}
use Rattle.log_registry.specs.State.{StateView, JournalKeepsEvents, events_in}
use Rattle.log_registry.specs.Changes.{ending_by, Stays, WritesEvent, Changed}
use Rattle.log_registry.proofs.States.{stands_for_registry}

-- the entries that are left
abbrev pub entries_left : Option Phase → List Entry → Entry → List Entry
entries_left None entries entry = entries ++ entry ∷ []
entries_left (Some phase) entries entry = entries

-- an event was due, and it was written or some phase failed
module _ {D : Type 0} (disks : Ghosts D) (old new : Journal D disks) (slots : ℕ) (entries : List Entry) (doubt : Option Event) (kept : JournalKeepsEvents old slots (events_of entries) doubt)
    (event : Event) (by : ℕ) (payload : List ℕ) (payload_is : payload ≡ event_text event) where
  abbrev before : StateView D
  before = record { slots = slots; entries = entries; doubt = doubt; disk = disk_of old }

  abbrev after : Option Phase → StateView D
  after end = record { slots = slots; entries = entries_left end entries (record { event = event; by = by }); doubt = doubt_left end doubt event; disk = disk_of new }

  abbrev WrittenAs : List ℕ → Result Unit Phase → Type 0
  WrittenAs text result = Written disks (disk_of old) (disk_of new) 0 (registry_payloads slots (events_of entries)) (event_payload doubt) text (failing result)

  abbrev MadeAs : Result Unit Phase → Type 0
  MadeAs result = Changed disks before (after (failing result)) (Some event) by (ending_by (failing result) event)

  stays_by : (end : Option Phase) → Stays (ending_by end event) (Some event) by before (after end)
  stays_by None = (refl, refl, refl)
  stays_by (Some phase) = (event, refl, refl, (phase, refl))

  went_as : (result : Result Unit Phase) → DiskWent disks (IsErr result) (disk_of old) (disk_of new) → DiskWent disks (ending_by (failing result) event ≡ failed) (disk_of old) (disk_of new)
  went_as (Ok done) went = went_by disks (disk_of old) (disk_of new) _ _ (λ is. absurd (cc)) (λ is. absurd (cc)) went
  went_as (Err phase) went = went_by disks (disk_of old) (disk_of new) _ _ (λ is. refl) (λ is. refl) went

  -- the same of a result that is known
  pub made_as : (result known : Result Unit Phase) → result ≡ known → WrittenAs payload result → DiskWent disks (IsErr result) (disk_of old) (disk_of new) → MadeAs known
  made_as result known is written went = subst MadeAs is (record {
    stood = λ tells. stands_for_registry old slots (events_of entries) doubt kept tells;
    stays = stays_by (failing result);
    writes = λ other due no_want. subst (λ (e : Event). WritesEvent disks before (after (failing result)) e (ending_by (failing result) event)) (let same : event ≡ other = cc in same) (record {
      end = failing result;
      is = (refl, refl);
      written = subst (λ (text : List ℕ). WrittenAs text result) payload_is written;
    });
    went = went_as result went;
    slots = refl;
  })

-- the disk wasn't asked
module _ {D : Type 0} (disks : Ghosts D) (registry : StateView D) (due : Option Event) (by : ℕ) (stands : disks.tells → StandsForRegistry (disks.past registry.disk) registry.slots (events_in registry) registry.doubt) where
  not_written : (ending : Ending) → ending ≢ failed → Stays ending due by registry registry → ((event : Event) → due ≡ Some event → ending ≢ wanting → ⊥) → Changed disks registry registry due by ending
  not_written ending no_fault stays none = record {
    stood = stands;
    stays = stays;
    writes = λ event is no_want. absurd (none event is no_want);
    went = not_asked disks registry.disk (ending ≡ failed) no_fault;
    slots = refl;
  }

  pub unchanged : due ≡ None → Changed disks registry registry due by told
  unchanged none = not_written told (λ is. cc) (none, (refl, refl, refl)) (λ event is no_want. let some : Some event ≡ None = sym is ∙ none in cc)

  -- no memory was found before
  pub wanted : Changed disks registry registry due by wanting
  wanted = not_written wanting (λ is. cc) (refl, refl, refl) (λ event is no_want. no_want refl)
