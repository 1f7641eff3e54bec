-- How the upgrade of a set ends, and what it leaves of the files.
use Rattle.std.specs.Prelude.{◌≡◌, ◌⊎◌, ℕ, List, Result, IfOk, IfErr, OnOk}
use Rattle.disk_model.specs.Past.{Past, began, EveryImage, Keeps}
use Rattle.log_journal.specs.Front.{HoldsNothing}
use Rattle.slot_files.specs.Files.{Files, bytes_at}
use Rattle.journal_upgrade.specs.Copies.{AreKept}
use Rattle.journal_upgrade.specs.Safe.{AreSafe}
use Rattle.journal_upgrade.specs.Upgraded.{IsUpgraded, IsFoundBy, IsMarkerFault, IsSetFault}
use Rattle.journal_upgrade.specs.declared.fault.UpgradeFault.{UpgradeFault}
use Rattle.journal_upgrade.specs.declared.upgrade.Upgraded.{Upgraded}
use Rattle.journal_upgrade.specs.declared.upgrade.Upgraded.TheVariants.{Files as Brought}
use Rattle.directory_upgrade.specs.Sets.{itself, opened_over, IsSetBack}

-- What has become of the disks of a set that an upgrade ended so, and of their files. So much is
-- said of what a crash leaves, and not of what is read alone.
pub record IsSetEnd (dir : List ℕ) (marker : ℕ) (numbers : List ℕ) (old new : Files)
    (ended : Result Upgraded UpgradeFault) : Type 0 where
  pub files : List Past
  pub spares : List Past
  pub mark : Past
  -- the marker says which files were read: those of the set or their spares
  pub found : IfOk ended (λ done. IsFoundBy done (bytes_at old dir marker) marker)
  -- then each file holds the payloads that were read, in the new form, and nothing stands in the
  -- marker
  pub upgraded : IfOk ended (IsUpgraded itself numbers (opened_over old dir 0 numbers)
      (opened_over old dir 2000 numbers) files)
  pub nothing : OnOk ended (EveryImage mark (λ image. HoldsNothing image marker))
  -- where each file had the new form, the files and the marker are as they were
  pub none : IfOk ended (λ done. done ≡ Brought 0
      → AreKept itself (opened_over old dir 0 numbers) files
      × Keeps (began (bytes_at old dir marker)) mark)
  -- the first fault of the files that were read
  pub fault : IfErr ended (λ fault. IsMarkerFault (bytes_at old dir marker) marker fault
      ⊎ IsSetFault itself numbers (opened_over old dir 0 numbers)
      (opened_over old dir 2000 numbers) (bytes_at old dir marker) marker fault)
  -- whatever the end, no payload is lost, and the next upgrade finds each where this one did or
  -- under the marker
  pub safe : (payloads : ℕ → List (List ℕ))
      → AreSafe itself numbers (opened_over old dir 0 numbers) (opened_over old dir 2000 numbers)
      (began (bytes_at old dir marker)) marker payloads
      → AreSafe itself numbers files spares mark marker payloads
  pub back : IsSetBack dir marker numbers files spares mark old new
