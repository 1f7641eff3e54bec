-- From an upgrade of disks to what is said of their files.
use Rattle.std.proofs.Common.{◌≡◌, ◌⊎◌, inl, inr, ⊎_elim, ℕ, ◌+◌, ◌<◌, List, length, map, refl, sym, ◌∙◌, subst, arith}
use Rattle.std.specs.Prelude.{Result, Ok, Err, IfOk, IfErr, OnOk, slice_index, slice_index_or}
use Rattle.std.proofs.lemmas.List.{length-map}
use Rattle.disk_model.specs.Past.{Past, began, reads, MayLeave, EveryImage, Keeps}
use Rattle.disk_model.proofs.Moments.{leaves}
use Rattle.log_journal.specs.Front.{HoldsNothing}
use Rattle.log_journal.specs.declared.form.Form.{Form}
use Rattle.log_journal.specs.declared.form.Form.TheVariants.{New}
use Rattle.log_journal.specs.declared.fault.JournalFault.{JournalFault}
use Rattle.slot_files.specs.Files.{Files, bytes_at}
use Rattle.journal_upgrade.specs.Copies.{past_at, AreKept, AreBrought, IsBrought, IsWell}
use Rattle.journal_upgrade.specs.Faults.{HasFirstFault, IsFaulty, IsUpgradeFault}
use Rattle.journal_upgrade.specs.Marker.{IsMarked, IsUnmarked}
use Rattle.journal_upgrade.specs.Safe.{AreHeld, AreSafe}
use Rattle.journal_upgrade.specs.Upgraded.{IsUpgraded, IsFoundBy, IsMarkerFault, IsSetFault}
use Rattle.journal_upgrade.specs.declared.fault.UpgradeFault.{UpgradeFault}
use Rattle.journal_upgrade.specs.declared.fault.UpgradeFault.TheVariants.{Failed, Damaged, WrongNumber, OverLimit, OutOfMemory}
use Rattle.journal_upgrade.specs.declared.upgrade.Upgraded.{Upgraded}
use Rattle.journal_upgrade.specs.declared.upgrade.Upgraded.TheVariants.{Files as Brought, Finished}
use Rattle.journal_upgrade.proofs.Sets.{kept_on}
use Rattle.directory_upgrade.specs.Ends.{IsSetEnd}
use Rattle.directory_upgrade.specs.Sets.{itself, opened_over, IsSetBack, SameBeside}
use Rattle.directory_upgrade.proofs.Lists.{at_itself}

module _ {D : Type 0} (past : D → Past) (numbers : List ℕ) where
  -- ---- disks that were kept since they were opened

  module _ (olds : List Past) (disks : List D) (kept : AreKept itself olds (map past disks)) where
    keeps_at : (i : ℕ) → i < length disks → Keeps (past_at itself olds i) (past_at past disks i)
    keeps_at i within = subst (Keeps (past_at itself olds i)) (at_itself past disks i) (kept.each i (omega (arith, within, kept.as_many, length-map disks past)))

    many : length disks ≡ length olds
    many = sym (length-map disks past) ∙ kept.as_many

    pub reads_at : (i : ℕ) → i < length disks → reads (past_at past disks i) ≡ reads (past_at itself olds i)
    reads_at i within = (keeps_at i within).reads_same

    pub kept_since : (news : List D) → AreKept past disks news → AreKept itself olds (map past news)
    kept_since news later = record {
      as_many = length-map news past ∙ later.as_many ∙ many;
      each = λ i within.
          let here : i < length disks = omega (arith, within, many) in
          subst (Keeps (past_at itself olds i)) (sym (at_itself past news i)) (kept_on (past_at itself olds i) (past_at past disks i) (past_at past news i) (keeps_at i here) (later.each i here));
    }

    module _ (as_many : length disks ≡ length numbers) where
      pub brought_since : (from_more to_more : ℕ) (forms : List Form) (news : List D) → AreBrought past from_more to_more numbers disks forms news → AreBrought itself from_more to_more numbers olds forms (map past news)
      brought_since from_more to_more forms news brought = record {
        as_many = brought.as_many;
        each = λ i within.
            let here : i < length disks = omega (arith, within, as_many) in
            subst (λ (p : Past). IsBrought (slice_index_or forms i New) (slice_index numbers i) (slice_index numbers i + from_more) (slice_index numbers i + to_more) (reads (past_at itself olds i)) p) (sym (at_itself past news i))
            (subst (λ (b : List ℕ). IsBrought (slice_index_or forms i New) (slice_index numbers i) (slice_index numbers i + from_more) (slice_index numbers i + to_more) b (past_at past news i)) (reads_at i here) (brought.each i within));
      }

      first_since : (more file : ℕ) (fault : JournalFault) → HasFirstFault past more numbers disks file fault → HasFirstFault itself more numbers olds file fault
      first_since more file fault first = record {
        place = first.place;
        within = first.within;
        file_is = first.file_is;
        faulty = subst (λ (b : List ℕ). IsFaulty (slice_index numbers first.place) b file fault) (reads_at first.place (omega (arith, first.within, as_many))) first.faulty;
        before = λ i low. (
          (first.before i low).0,
          subst (λ (b : List ℕ). IsWell (first.before i low).0 (slice_index numbers i) b (slice_index numbers i + more)) (reads_at i (omega (arith, low, first.within, as_many))) (first.before i low).1,
        );
      }

      pub fault_since : (more : ℕ) (fault : UpgradeFault) → IsUpgradeFault past more numbers disks fault → IsUpgradeFault itself more numbers olds fault
      fault_since more (Damaged file at) first = first_since more file _ first
      fault_since more (WrongNumber file found) first = first_since more file _ first
      fault_since more (OverLimit file length limit) first = first_since more file _ first
      fault_since more Failed first = tt
      fault_since more OutOfMemory first = tt

      pub held_since : (more : ℕ) (payloads : ℕ → List (List ℕ)) → AreHeld itself more numbers olds payloads → AreHeld past more numbers disks payloads
      held_since more payloads held i within image left = held i within image (leaves (MayLeave (past_at itself olds i)) (past_at itself olds i) (past_at past disks i) (keeps_at i (omega (arith, within, as_many))).images image left)

  pub held_itself : (more : ℕ) (disks : List D) (payloads : ℕ → List (List ℕ)) → AreHeld past more numbers disks payloads → AreHeld itself more numbers (map past disks) payloads
  held_itself more disks payloads held i within image left = held i within image (subst (λ (p : Past). MayLeave p image) (at_itself past disks i) left)

  -- ---- the disks of a set

  module _ (files spares left_files left_spares : List D) (marker left_marker : D) (number : ℕ) (bytes : List ℕ) (old_files old_spares : List Past)
      (many_files : length files ≡ length numbers) (many_spares : length spares ≡ length numbers)
      (files_kept : AreKept itself old_files (map past files)) (spares_kept : IsMarked bytes number → AreKept itself old_spares (map past spares)) (marker_kept : Keeps (began bytes) (past marker)) where
    the_marker : (image : List ℕ) → MayLeave (past marker) image → image ≡ bytes
    the_marker image left = leaves (MayLeave (began bytes)) (began bytes) (past marker) marker_kept.images image left

    pub safe_since : (payloads : ℕ → List (List ℕ)) → AreSafe itself numbers old_files old_spares (began bytes) number payloads → AreSafe past numbers files spares (past marker) number payloads
    safe_since payloads safe = record {
      unmarked = λ image left none. held_since old_files files files_kept many_files 0 payloads (safe.unmarked bytes refl (subst (λ (b : List ℕ). IsUnmarked b number) (the_marker image left) none));
      marked = λ image left one.
          let here : IsMarked bytes number = subst (λ (b : List ℕ). IsMarked b number) (the_marker image left) one in
          held_since old_spares spares (spares_kept here) many_spares 2000 payloads (safe.marked bytes refl here);
    }

    pub safe_itself : (payloads : ℕ → List (List ℕ)) → AreSafe past numbers left_files left_spares (past left_marker) number payloads → AreSafe itself numbers (map past left_files) (map past left_spares) (past left_marker) number payloads
    safe_itself payloads safe = record {
      unmarked = λ image left none. held_itself 0 left_files payloads (safe.unmarked image left none);
      marked = λ image left one. held_itself 2000 left_spares payloads (safe.marked image left one);
    }

    pub found_since : (ended : Result Upgraded UpgradeFault) → IfOk ended (λ done. IsFoundBy done (reads (past marker)) number) → IfOk ended (λ done. IsFoundBy done bytes number)
    found_since (Ok done) found = subst (λ (b : List ℕ). IsFoundBy done b number) marker_kept.reads_same found
    found_since (Err fault) found = tt

    pub upgraded_since : (ended : Result Upgraded UpgradeFault) → IfOk ended (λ done. IsFoundBy done bytes number) → IfOk ended (IsUpgraded past numbers files spares left_files)
        → IfOk ended (IsUpgraded itself numbers old_files old_spares (map past left_files))
    upgraded_since (Ok (Brought count)) found all = (all.0, brought_since old_files files files_kept many_files 0 0 all.0 left_files all.1, all.2)
    upgraded_since (Ok Finished) found all = (all.0, brought_since old_spares spares (spares_kept found) many_spares 2000 0 all.0 left_files all.1)
    upgraded_since (Err fault) found all = tt

    pub none_since : (ended : Result Upgraded UpgradeFault) → IfOk ended (λ done. done ≡ Brought 0 → AreKept past files left_files × Keeps (past marker) (past left_marker))
        → IfOk ended (λ done. done ≡ Brought 0 → AreKept itself old_files (map past left_files) × Keeps (began bytes) (past left_marker))
    none_since (Ok done) all = λ zero. (kept_since old_files files files_kept left_files (all zero).0, kept_on (began bytes) (past marker) (past left_marker) marker_kept (all zero).1)
    none_since (Err fault) all = tt

    set_since : (fault : UpgradeFault) → IsSetFault past numbers files spares bytes number fault → IsSetFault itself numbers old_files old_spares bytes number fault
    set_since fault (inl has) = inl (has.0, fault_since old_files files files_kept many_files 0 fault has.1)
    set_since fault (inr has) = inr (has.0, fault_since old_spares spares (spares_kept has.0) many_spares 2000 fault has.1)

    pub faults_since : (ended : Result Upgraded UpgradeFault)
        → IfErr ended (λ fault. IsMarkerFault (reads (past marker)) number fault ⊎ IsSetFault past numbers files spares (reads (past marker)) number fault)
        → IfErr ended (λ fault. IsMarkerFault bytes number fault ⊎ IsSetFault itself numbers old_files old_spares bytes number fault)
    faults_since (Ok done) has = tt
    faults_since (Err fault) has =
        let here = subst (λ (b : List ℕ). IsMarkerFault b number fault ⊎ IsSetFault past numbers files spares b number fault) marker_kept.reads_same has in
        ⊎_elim (λ of_marker. inl of_marker) (λ of_set. inr (set_since fault of_set)) here

-- all that is said of the end
module _ {D : Type 0} (past : D → Past) (numbers : List ℕ) (files spares left_files left_spares : List D) (marker left_marker : D) (number : ℕ) (dir : List ℕ) (old : Files)
    (many_files : length files ≡ length numbers) (many_spares : length spares ≡ length numbers)
    (files_kept : AreKept itself (opened_over old dir 0 numbers) (map past files)) (spares_kept : IsMarked (bytes_at old dir number) number → AreKept itself (opened_over old dir 2000 numbers) (map past spares))
    (marker_kept : Keeps (began (bytes_at old dir number)) (past marker)) where
  pub set_end : (mid new : Files) (ended : Result Upgraded UpgradeFault)
      → SameBeside dir number numbers old mid → IsSetBack dir number numbers (map past left_files) (map past left_spares) (past left_marker) mid new
      → IfOk ended (λ done. IsFoundBy done (reads (past marker)) number) → IfOk ended (IsUpgraded past numbers files spares left_files) → OnOk ended (EveryImage (past left_marker) (λ image. HoldsNothing image number))
      → ((payloads : ℕ → List (List ℕ)) → AreSafe past numbers files spares (past marker) number payloads → AreSafe past numbers left_files left_spares (past left_marker) number payloads)
      → IfOk ended (λ done. done ≡ Brought 0 → AreKept past files left_files × Keeps (past marker) (past left_marker))
      → IfErr ended (λ fault. IsMarkerFault (reads (past marker)) number fault ⊎ IsSetFault past numbers files spares (reads (past marker)) number fault)
      → IsSetEnd dir number numbers old new ended
  set_end mid new ended beside back found ok nothing safe kept fault =
      let b = bytes_at old dir number in
      let fs = opened_over old dir 0 numbers in
      let ss = opened_over old dir 2000 numbers in
      let was = found_since past numbers files spares left_files left_spares marker left_marker number b fs ss many_files many_spares files_kept spares_kept marker_kept ended found in
      record {
        files = map past left_files;
        spares = map past left_spares;
        mark = past left_marker;
        found = was;
        upgraded = upgraded_since past numbers files spares left_files left_spares marker left_marker number b fs ss many_files many_spares files_kept spares_kept marker_kept ended was ok;
        nothing = nothing;
        none = none_since past numbers files spares left_files left_spares marker left_marker number b fs ss many_files many_spares files_kept spares_kept marker_kept ended kept;
        fault = faults_since past numbers files spares left_files left_spares marker left_marker number b fs ss many_files many_spares files_kept spares_kept marker_kept ended fault;
        safe = λ payloads before. safe_itself past numbers files spares left_files left_spares marker left_marker number b fs ss many_files many_spares files_kept spares_kept marker_kept payloads
            (safe payloads (safe_since past numbers files spares left_files left_spares marker left_marker number b fs ss many_files many_spares files_kept spares_kept marker_kept payloads before));
        back = record {
          files_have = back.files_have;
          spares_have = back.spares_have;
          marker_has = back.marker_has;
          beside = record {
            elsewhere = λ other n apart. back.beside.elsewhere other n apart ∙ beside.elsewhere other n apart;
            here = λ n out. back.beside.here n out ∙ beside.here n out;
          };
        };
      }
