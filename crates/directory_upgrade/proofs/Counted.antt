-- How many slots a directory has, told of its files.
use Rattle.std.proofs.Common.{◌≡◌, inl, inr, ℕ, List, [], ◌∷◌, length, Ok, Err, subst}
use Rattle.std.specs.Prelude.{Result, IfOk, IfErr, OnOk}
use Rattle.disk_model.specs.Past.{reads}
use Rattle.disk_model.specs.declared.disk.Disk.{Ghosts}
use Rattle.log_journal.specs.Front.{HoldsNothing}
use Rattle.slot_files.specs.Files.{Files, bytes_at}
use Rattle.slot_checks.specs.declared.fault.CheckFault.{CheckFault}
use Rattle.slot_checks.specs.declared.marker.TheConstants.{FILES_MARKER}
use Rattle.journal_upgrade.specs.Copies.{past_at}
use Rattle.journal_upgrade.specs.Marker.{IsMarked}
use Rattle.directory_upgrade.specs.Sets.{IsTaken}
use Rattle.directory_upgrade.specs.Slots.{FileTells, FileStops, SpareTells, SpareStops}
use Rattle.directory_upgrade.specs.Directories.{HasSlots, StopsTaking, at_registry, at_spare}
use Rattle.directory_upgrade.proofs.Sets.{marked_spares, only_file}

pub on_ok_map : {T E : Type 0} (r : Result T E) (P Q : Type 0) → (P → Q) → OnOk r P → OnOk r Q
on_ok_map (Ok x) P Q f h = f h
on_ok_map (Err e) P Q f h = tt

pub on_ok_at : {T E : Type 0} (r : Result T E) (x : T) (P : Type 0) → r ≡ Ok x → OnOk r P → P
on_ok_at (Ok y) x P is h = h
on_ok_at (Err e) x P is h = cc

pub err_map : {T E : Type 0} (r : Result T E) (P Q : E → Type 0) → ((e : E) → P e → Q e) → IfErr r P → IfErr r Q
err_map (Ok x) P Q f h = tt
err_map (Err e) P Q f h = f e h

module _ {D : Type 0} (disks : Ghosts D) (dir : List ℕ) (old : Files) (files spares : List D) (marker : D) (taken : IsTaken disks dir old (0 ∷ []) files spares marker FILES_MARKER) (r : Result ℕ CheckFault) where
  module _ (one : IsMarked (bytes_at old dir FILES_MARKER) FILES_MARKER) where
    spare_is : reads (past_at disks.past spares 0) ≡ bytes_at old dir 2000
    spare_is = only_file disks.past old dir 2000 spares (marked_spares disks dir old (0 ∷ []) files spares marker FILES_MARKER taken one) taken.as_many_spares

    pub has_marked : IfOk r (SpareTells (reads (past_at disks.past spares 0))) → IfOk r (HasSlots old dir)
    has_marked tells = by r tells
      where
        by : (r : Result ℕ CheckFault) → IfOk r (SpareTells (reads (past_at disks.past spares 0))) → IfOk r (HasSlots old dir)
        by (Ok slots) tells = inr (one, subst (λ (b : List ℕ). SpareTells b slots) spare_is tells)
        by (Err fault) tells = tt

    pub stops_marked : IfErr r (SpareStops (reads (past_at disks.past spares 0))) → IfErr r (StopsTaking old dir)
    stops_marked stops = err_map r (SpareStops (reads (past_at disks.past spares 0))) (StopsTaking old dir) (λ fault is. at_spare fault one (subst (λ (b : List ℕ). SpareStops b fault) spare_is is)) stops

  module _ (quiet : HoldsNothing (bytes_at old dir FILES_MARKER) FILES_MARKER) (count : length files ≡ 1) where
    file_is : reads (past_at disks.past files 0) ≡ bytes_at old dir 0
    file_is = only_file disks.past old dir 0 files taken.files_kept count

    pub has_quiet : IfOk r (FileTells (reads (past_at disks.past files 0))) → IfOk r (HasSlots old dir)
    has_quiet tells = by r tells
      where
        by : (r : Result ℕ CheckFault) → IfOk r (FileTells (reads (past_at disks.past files 0))) → IfOk r (HasSlots old dir)
        by (Ok slots) tells = inl (quiet, subst (λ (b : List ℕ). FileTells b slots) file_is tells)
        by (Err fault) tells = tt

    pub stops_quiet : IfErr r (FileStops (reads (past_at disks.past files 0))) → IfErr r (StopsTaking old dir)
    stops_quiet stops = err_map r (FileStops (reads (past_at disks.past files 0))) (StopsTaking old dir) (λ fault is. at_registry fault quiet (subst (λ (b : List ℕ). FileStops b fault) file_is is)) stops
