-- Files of which one was opened: their bytes are the same.
use Rattle.std.proofs.Common.{◌≡◌, inl, inr, ⊎_elim, ℕ, ◌+◌, List, [], ◌∷◌, map, refl, ◌∙◌, ap, subst, Err, arith}
use Rattle.std.specs.Prelude.{Option, Some, unwrap_or, slice_index}
use Rattle.disk_model.specs.Past.{Past, began, Keeps}
use Rattle.disk_model.specs.Shelf.{SameOthers}
use Rattle.disk_model.specs.declared.disk.Disk.{Ghosts}
use Rattle.log_journal.specs.Front.{HoldsNothing, IsFront}
use Rattle.slot_files.specs.Files.{Files, IsKept, bytes_at}
use Rattle.slot_files.proofs.Steps.{at_or_not, other_number, other_dir}
use Rattle.slot_checks.proofs.Steps.{kept_bytes, kept_twice, opened_kept}
use Rattle.disk_model.specs.declared.shelf.ShelfFault.{ShelfFault}
use Rattle.disk_model.specs.declared.shelf.ShelfFault.TheVariants as shelf
use Rattle.slot_checks.specs.Faults.{of_shelf}
use Rattle.slot_checks.specs.declared.fault.CheckFault.{CheckFault}
use Rattle.slot_checks.specs.declared.marker.TheConstants.{FILES_MARKER, ZONE_MARKER}
use Rattle.journal_upgrade.specs.Copies.{past_at, AreKept}
use Rattle.journal_upgrade.specs.Marker.{IsMarked}
use Rattle.directory_upgrade.specs.Sets.{itself, opened_over, IsTaken, IsIdleSpare, AreKeptButSpare, MarkerSays}
use Rattle.directory_upgrade.specs.Slots.{FileTells, SpareTells, FileStops, SpareStops}
use Rattle.directory_upgrade.specs.Directories.{HasSlots, StopsTaking, at_marker, at_registry, at_spare, failed, no_memory}
use Rattle.directory_upgrade.specs.Zones.{IsSeen, StopsTakingZone, at_zone_marker, zone_failed, zone_no_memory}

-- one file was opened
module _ (dir : List ℕ) (number : ℕ) (old mid : Files) (made : mid dir number ≡ Some (unwrap_or (old dir number) [])) (others : SameOthers (Some (dir, number)) old mid) where
  opened_one : IsKept (old dir number) (mid dir number)
  opened_one = opened_kept (old dir number) (mid dir number) made

  pub bytes_same : (n : ℕ) → bytes_at mid dir n ≡ bytes_at old dir n
  bytes_same = at_or_not (λ n. bytes_at mid dir n ≡ bytes_at old dir n) number (kept_bytes (old dir number) (mid dir number) opened_one)
      (λ n differs. ap (λ (f : Option (List ℕ)). unwrap_or f []) (other_number dir number old mid others n differs))

  kept_one : (n : ℕ) → IsKept (old dir n) (mid dir n)
  kept_one = at_or_not (λ n. IsKept (old dir n) (mid dir n)) number opened_one (λ n differs. inl (other_number dir number old mid others n differs))

  -- the marker was opened before the files of its set
  pub left_since : (numbers : List ℕ) (new : Files) → AreKeptButSpare dir number numbers mid new → AreKeptButSpare dir number numbers old new
  left_since numbers new left = record {
    beside = record {
      elsewhere = λ other n apart. left.beside.elsewhere other n apart ∙ other_dir dir number old mid others other n apart;
      here = λ n out. left.beside.here n out ∙ other_number dir number old mid others n (λ same. out (inr (inr same)));
    };
    kept = λ n. ⊎_elim
        (λ now. inl (kept_twice (old dir n) (mid dir n) (new dir n) (kept_one n) now))
        (λ idle. inr (idle.0, subst (λ (b : List ℕ). HoldsNothing b number) (bytes_same number) idle.1))
        (left.kept n);
  }

module _ (dir : List ℕ) (old mid : Files) (same : (n : ℕ) → bytes_at mid dir n ≡ bytes_at old dir n) where
  opened_same : (more : ℕ) (numbers : List ℕ) → opened_over mid dir more numbers ≡ opened_over old dir more numbers
  opened_same more [] = refl
  opened_same more (n ∷ numbers) =
      ap (λ (b : List ℕ). began b ∷ opened_over mid dir more numbers) (same (n + more)) ∙ ap (λ (l : List Past). began (bytes_at old dir (n + more)) ∷ l) (opened_same more numbers)

  idle_back : (marker n : ℕ) → IsIdleSpare mid dir marker n → IsIdleSpare old dir marker n
  idle_back marker n idle = (idle.0, subst (λ (b : List ℕ). HoldsNothing b marker) (same marker) idle.1)

  pub taken_same : {D : Type 0} (disks : Ghosts D) (numbers : List ℕ) (files spares : List D) (marker : D) (number : ℕ) → IsTaken disks dir mid numbers files spares marker number → IsTaken disks dir old numbers files spares marker number
  taken_same disks numbers files spares marker number taken = record {
    file_marks = taken.file_marks;
    spare_marks = taken.spare_marks;
    marker_mark = taken.marker_mark;
    files_kept = subst (λ (l : List Past). AreKept itself l (map disks.past files)) (opened_same 0 numbers) taken.files_kept;
    as_many_spares = taken.as_many_spares;
    spares_kept = λ i within busy. subst (λ (b : List ℕ). Keeps (began b) (past_at disks.past spares i)) (same (slice_index numbers i + 2000))
        (taken.spares_kept i within (λ idle. busy (idle_back number (slice_index numbers i + 2000) idle)));
    marker_kept = subst (λ (b : List ℕ). Keeps (began b) (disks.past marker)) (same number) taken.marker_kept;
    says = λ some. let said = taken.says some in (said.0, subst (λ (b : List ℕ). MarkerSays said.0 b number) (same number) said.1);
  }

  pub slots_same : (slots : ℕ) → HasSlots mid dir slots → HasSlots old dir slots
  slots_same slots (inl quiet) = inl (subst (λ (b : List ℕ). HoldsNothing b FILES_MARKER) (same FILES_MARKER) quiet.0, subst (λ (b : List ℕ). FileTells b slots) (same 0) quiet.1)
  slots_same slots (inr pending) = inr (subst (λ (b : List ℕ). IsMarked b FILES_MARKER) (same FILES_MARKER) pending.0, subst (λ (b : List ℕ). SpareTells b slots) (same 2000) pending.1)

  pub stops_same : (fault : CheckFault) → StopsTaking mid dir fault → StopsTaking old dir fault
  stops_same fault (at_marker why is) = at_marker why (subst (λ (b : List ℕ). IsFront b FILES_MARKER (Err why)) (same FILES_MARKER) is)
  stops_same fault (at_registry _ quiet stops) = at_registry fault (subst (λ (b : List ℕ). HoldsNothing b FILES_MARKER) (same FILES_MARKER) quiet) (subst (λ (b : List ℕ). FileStops b fault) (same 0) stops)
  stops_same fault (at_spare _ pending stops) = at_spare fault (subst (λ (b : List ℕ). IsMarked b FILES_MARKER) (same FILES_MARKER) pending) (subst (λ (b : List ℕ). SpareStops b fault) (same 2000) stops)
  stops_same fault failed = failed
  stops_same fault no_memory = no_memory

  pub zone_stops_same : (fault : CheckFault) → StopsTakingZone mid dir fault → StopsTakingZone old dir fault
  zone_stops_same fault (at_zone_marker why is) = at_zone_marker why (subst (λ (b : List ℕ). IsFront b ZONE_MARKER (Err why)) (same ZONE_MARKER) is)
  zone_stops_same fault zone_failed = zone_failed
  zone_stops_same fault zone_no_memory = zone_no_memory

-- ---- a shelf that gives no disk

pub refused_left : (dir : List ℕ) (number : ℕ) (numbers : List ℕ) (old new : Files) → new dir number ≡ old dir number → SameOthers (Some (dir, number)) old new → AreKeptButSpare dir number numbers old new
refused_left dir number numbers old new same others = record {
  beside = record {
    elsewhere = λ other n apart. other_dir dir number old new others other n apart;
    here = λ n out. other_number dir number old new others n (λ is. out (inr (inr is)));
  };
  kept = λ n. inl (at_or_not (λ k. IsKept (old dir k) (new dir k)) number (inl same) (λ k differs. inl (other_number dir number old new others k differs)) n);
}

pub shelf_stops : (files : Files) (dir : List ℕ) (e : ShelfFault) → StopsTaking files dir (of_shelf e)
shelf_stops files dir shelf.Failed = failed
shelf_stops files dir shelf.OutOfMemory = no_memory

pub zone_shelf_stops : (files : Files) (dir : List ℕ) (e : ShelfFault) → StopsTakingZone files dir (of_shelf e)
zone_shelf_stops files dir shelf.Failed = zone_failed
zone_shelf_stops files dir shelf.OutOfMemory = zone_no_memory

-- ---- the second file of a zone, which was looked at

module _ (dir : List ℕ) (first old : Files) (seen : IsSeen dir first old) where
  seen_kept : (n : ℕ) → IsKept (first dir n) (old dir n)
  seen_kept = at_or_not (λ n. IsKept (first dir n) (old dir n)) 1001 seen.kept (λ n differs. inl (other_number dir 1001 first old seen.others n differs))

  pub seen_bytes : (n : ℕ) → bytes_at old dir n ≡ bytes_at first dir n
  seen_bytes n = kept_bytes (first dir n) (old dir n) (seen_kept n)

  pub seen_left : AreKeptButSpare dir ZONE_MARKER (1000 ∷ 1001 ∷ []) first old
  seen_left = record {
    beside = record {
      elsewhere = λ other n apart. other_dir dir 1001 first old seen.others other n apart;
      here = λ n out. other_number dir 1001 first old seen.others n (λ is. out (inl (1, omega arith, is)));
    };
    kept = λ n. inl (seen_kept n);
  }

  pub seen_none : (new : Files) → AreKeptButSpare dir ZONE_MARKER (1000 ∷ 1001 ∷ []) old new → AreKeptButSpare dir ZONE_MARKER (1000 ∷ 1001 ∷ []) first new
  seen_none new left = record {
    beside = record {
      elsewhere = λ other n apart. left.beside.elsewhere other n apart ∙ other_dir dir 1001 first old seen.others other n apart;
      here = λ n out. left.beside.here n out ∙ other_number dir 1001 first old seen.others n (λ is. out (inl (1, omega arith, is)));
    };
    kept = λ n. ⊎_elim
        (λ now. inl (kept_twice (first dir n) (old dir n) (new dir n) (seen_kept n) now))
        (λ idle. inr (idle.0, subst (λ (b : List ℕ). HoldsNothing b ZONE_MARKER) (seen_bytes ZONE_MARKER) idle.1))
        (left.kept n);
  }
