-- The count of files is that of the registry's own file.
use Rattle.std.proofs.Common.{◌≡◌, ℕ, List, [], ◌∷◌, length, refl, sym, ◌∙◌, subst, arith}
use Rattle.disk_model.specs.Past.{reads}
use Rattle.disk_model.specs.declared.disk.Disk.{Ghosts}
use Rattle.disk_model.specs.declared.shelf.Shelf.{Ghosts as ShelfGhosts}
use Rattle.log_journal.proofs.OneReading.{one_list}
use Rattle.log_journal.specs.declared.form.Form.TheVariants.{New}
use Rattle.log_journal.specs.File.{Holds}
use Rattle.log_registry.specs.State.{events_in}
use Rattle.log_registry.specs.declared.fault.RegistryFault.{RegistryFault}
use Rattle.log_registry.specs.declared.fault.RegistryFault.TheVariants as registry
use Rattle.patch_log.specs.declared.fault.LogFault.{LogFault}
use Rattle.patch_log.specs.declared.fault.LogFault.TheVariants as log
use Rattle.registry_core.proofs.Openings.{one_registry}
use Rattle.registry_core.specs.Texts.{registry_payloads}
use Rattle.slot_checks.specs.Sound.{HoldsRegistry}
use Rattle.slot_files.specs.Files.{Files, bytes_at}
use Rattle.delta_session.specs.Opening.{IsRefusedHall, IsHallRefused, registry_refused, miscounted, log_refused, wanting, hall_fault_of_log, hall_fault_of_registry}
use Rattle.delta_session.specs.declared.fault.HallFault.{HallFault}
use Rattle.delta_session.specs.declared.fault.HallFault.TheVariants as halls
use Rattle.delta_server.specs.Serving.{AreDisksAsked}

-- a file is that of one registry
one_count : (file : List ℕ) (slots slots' : ℕ) (records : ℕ) (events : List Rattle.registry_core.specs.declared.event.Event.Event)
    → HoldsRegistry file slots records → Holds file 0 (registry_payloads slots' events) → Rattle.registry_core.specs.Events.IsRegistry slots' events → slots ≡ slots'
one_count file slots slots' records events holds holds' registry' =
    let payloads = registry_payloads slots' events in
    let same = one_list New file 0 (registry_payloads slots holds.events) payloads holds.holds holds' in
    (one_registry payloads slots slots' holds.events events (same, holds.registry) (refl, registry')).0

registry_counts : (why : RegistryFault) (disks slots : ℕ) → halls.WrongCount disks slots ≡ hall_fault_of_registry why → ⊥
registry_counts registry.Failed disks slots same = cc
registry_counts (registry.Damaged at) disks slots same = cc
registry_counts registry.OldFormat disks slots same = cc
registry_counts (registry.WrongNumber found) disks slots same = cc
registry_counts (registry.OverLimit length limit) disks slots same = cc
registry_counts (registry.BrokenEvent place) disks slots same = cc
registry_counts registry.OutOfMemory disks slots same = cc

log_counts : (file : ℕ) (why : LogFault) (disks slots : ℕ) → halls.WrongCount disks slots ≡ hall_fault_of_log file why → ⊥
log_counts file log.Failed disks slots same = cc
log_counts file (log.Damaged at) disks slots same = cc
log_counts file log.OldFormat disks slots same = cc
log_counts file (log.WrongNumber found) disks slots same = cc
log_counts file (log.OverLimit length limit) disks slots same = cc
log_counts file (log.BrokenChain version) disks slots same = cc
log_counts file log.OutOfMemory disks slots same = cc

wanting_counts : (disks slots : ℕ) → halls.WrongCount disks slots ≡ halls.OutOfMemory → ⊥
wanting_counts disks slots same = cc

module _ {D H : Type 0} (disks : Ghosts D) (shelf : ShelfGhosts H D) (told : shelf.tells) (disks_tell : disks.tells) where
  counted_one : (dir : List ℕ) (files : Files) (slots : ℕ) (records : ℕ) (disk : D) (more : List D) (fault : HallFault) (after : D) (left : List D)
      → length more ≡ slots → reads (disks.past disk) ≡ bytes_at files dir 0 → HoldsRegistry (bytes_at files dir 0) slots records
      → IsHallRefused disks disk more fault after left → (count found : ℕ) → halls.WrongCount count found ≡ fault → ⊥
  counted_one dir files slots records disk more fault after left long read holds (registry_refused why is refused same) count found wrong =
      registry_counts why count found (wrong ∙ is)
  counted_one dir files slots records disk more fault after left long read holds (log_refused file why is other opened refused) count found wrong =
      log_counts file why count found (wrong ∙ is)
  counted_one dir files slots records disk more fault after left long read holds (wanting is opened are_left) count found wrong =
      wanting_counts count found (wrong ∙ is)
  counted_one dir files slots records disk more fault after left long read holds (miscounted others is opened differs same) count found wrong =
      let state = opened.0 in
      let one = one_count (bytes_at files dir 0) slots state.slots records (events_in state) holds
      (subst (λ (file : List ℕ). Holds file 0 (registry_payloads state.slots (events_in state))) read (opened.1.file disks_tell)) opened.1.sound in
      differs (long ∙ one ∙ opened.2)

  -- over a shelf that tells its files the count is right
  pub counted : (dir : List ℕ) (files : Files) (asked : List D) (fault : HallFault) (left : List D) → AreDisksAsked disks shelf dir files asked
      → IsRefusedHall disks asked fault left → (count found : ℕ) → fault ≡ halls.WrongCount count found → ⊥
  counted dir files [] fault left are refused count found wrong = absurd refused
  counted dir files (disk ∷ more) fault [] are refused count found wrong = absurd refused
  counted dir files (disk ∷ more) fault (after ∷ left) are refused count found wrong =
      let said = are.said told in
      counted_one dir files are.slots said.0 disk more fault after left (omega (arith, are.count)) (are.begun told).0.reads_same said.1 refused count found (sym wrong)
