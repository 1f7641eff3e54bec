-- The disks of a set, which are read on the way.
use Rattle.std.proofs.Common.{◌≡◌, ◌≢◌, ◌⊎◌, inl, inr, ⊎_elim, ℕ, zero, suc, ◌+◌, ◌<◌, List, [], ◌∷◌, length, map, get_or, sym, ◌∙◌, ap, subst, arith}
use Rattle.std.specs.Prelude.{Bool, true, false, Option, Some, None, slice_index}
use Rattle.std.proofs.lemmas.Bool.{cases_eq}
use Rattle.std.proofs.lemmas.List.{get_or-map, length-map}
use Rattle.disk_model.specs.Past.{Past, began, synced, reads, MayLeave, EveryImage}
use Rattle.disk_model.specs.declared.disk.Disk.{Ghosts}
use Rattle.disk_model.proofs.Moments.{leaves}
use Rattle.log_journal.specs.Front.{HoldsNothing}
use Rattle.log_journal.proofs.FrontLaws.{never_nothing}
use Rattle.slot_files.specs.Files.{Files, IsKept, bytes_at}
use Rattle.slot_checks.proofs.Steps.{opened_kept}
use Rattle.journal_upgrade.specs.Copies.{past_at, AreKept, SameMarks}
use Rattle.journal_upgrade.specs.Marker.{IsMarked, IsUnmarked}
use Rattle.directory_upgrade.specs.Sets.{itself, opened_over, HaveMarks, IsTaken, IsOneOf, AreKeptButSpare, IsIdleSpare, IsSetBack, MarkerSays}
use Rattle.directory_upgrade.proofs.Ended.{kept_since, reads_at}
use Rattle.journal_upgrade.proofs.Sets.{kept_on}
use Rattle.directory_upgrade.proofs.Lists.{at_itself, itself_all}

module _ {D : Type 0} (disks : Ghosts D) (dir : List ℕ) (old : Files) (numbers : List ℕ) where
  pub same_marks : (more : ℕ) (taken now : List D) → SameMarks disks.mark taken now → HaveMarks disks dir more numbers taken → HaveMarks disks dir more numbers now
  same_marks more taken now same marks i within = ap (λ (l : List (Option (List ℕ × ℕ))). get_or l i None) same ∙ marks i within

  -- what was just opened over a file
  pub at_opened : (more i : ℕ) → i < length numbers → past_at itself (opened_over old dir more numbers) i ≡ began (bytes_at old dir (slice_index numbers i + more))
  at_opened more i within = ap (λ (l : List Past). get_or l i (began [])) (itself_all (opened_over old dir more numbers)) ∙ get_or-map (λ (n : ℕ). began (bytes_at old dir (n + more))) numbers i 0 (began []) within

  module _ (files spares : List D) (marker : D) (number : ℕ) (taken : IsTaken disks dir old numbers files spares marker number) where
    -- under a marker all spares were kept
    pub marked_spares : IsMarked (bytes_at old dir number) number → AreKept itself (opened_over old dir 2000 numbers) (map disks.past spares)
    marked_spares one = record {
      as_many = length-map spares disks.past ∙ taken.as_many_spares ∙ sym (length-map numbers (λ (n : ℕ). began (bytes_at old dir (n + 2000))));
      each = λ i within.
          let here : i < length numbers = omega (arith, within, length-map numbers (λ (n : ℕ). began (bytes_at old dir (n + 2000)))) in
          rw (at_opened 2000 i here, at_itself disks.past spares i)
          (taken.spares_kept i here (λ idle. never_nothing (bytes_at old dir number) number one.0 idle.1 one.1));
    }

    -- the spares were read
    pub spares_went : (spares_now : List D) → AreKept disks.past spares spares_now → SameMarks disks.mark spares spares_now → IsTaken disks dir old numbers files spares_now marker number
    spares_went spares_now kept spare_marks = record {
      file_marks = taken.file_marks;
      spare_marks = same_marks 2000 spares spares_now spare_marks taken.spare_marks;
      marker_mark = taken.marker_mark;
      files_kept = taken.files_kept;
      as_many_spares = kept.as_many ∙ taken.as_many_spares;
      spares_kept = λ i within busy. kept_on (began (bytes_at old dir (slice_index numbers i + 2000))) (past_at disks.past spares i) (past_at disks.past spares_now i)
          (taken.spares_kept i within busy) (kept.each i (omega (arith, within, taken.as_many_spares)));
      marker_kept = taken.marker_kept;
      says = taken.says;
    }

    -- a crash leaves no payload in a marker that has none
    pub quiet_unmarked : HoldsNothing (bytes_at old dir number) number → EveryImage (disks.past marker) (λ image. IsUnmarked image number)
    quiet_unmarked quiet image left payload first =
        let same : image ≡ bytes_at old dir number = leaves (MayLeave (began (bytes_at old dir number))) (began (bytes_at old dir number)) (disks.past marker) taken.marker_kept.images image left in
        never_nothing image number payload (subst (λ (b : List ℕ). HoldsNothing b number) (sym same) quiet) first

-- the files were read and the registry's spare filled, and nothing stands in the marker
pub files_went : {D : Type 0} (disks : Ghosts D) (dir : List ℕ) (old : Files) (files spares : List D) (marker : D) (number : ℕ) → IsTaken disks dir old (0 ∷ []) files spares marker number
    → (files_now spares_now : List D) → HoldsNothing (bytes_at old dir number) number → AreKept disks.past files files_now → length spares_now ≡ 1
    → SameMarks disks.mark files files_now → SameMarks disks.mark spares spares_now → IsTaken disks dir old (0 ∷ []) files_now spares_now marker number
files_went disks dir old files spares marker number taken files_now spares_now quiet kept one file_marks spare_marks = record {
  file_marks = same_marks disks dir old (0 ∷ []) 0 files files_now file_marks taken.file_marks;
  spare_marks = same_marks disks dir old (0 ∷ []) 2000 spares spares_now spare_marks taken.spare_marks;
  marker_mark = taken.marker_mark;
  files_kept = kept_since disks.past (0 ∷ []) (opened_over old dir 0 (0 ∷ [])) files taken.files_kept files_now kept;
  as_many_spares = one;
  spares_kept = λ i within busy. absurd (busy (ap (λ (n : ℕ). slice_index (0 ∷ []) n + 2000) (let here : i ≡ 0 = omega (arith, within) in here), quiet));
  marker_kept = taken.marker_kept;
  says = taken.says;
}

-- a marker that was synced, and in which nothing stands
pub synced_unmarked : (before now : Past) (number : ℕ) → now ≡ synced before → HoldsNothing (reads before) number → EveryImage now (λ image. IsUnmarked image number)
synced_unmarked before now number is nothing image left payload first =
    let same : image ≡ reads before = subst (λ (p : Past). MayLeave p image) is left in
    never_nothing image number payload (subst (λ (b : List ℕ). HoldsNothing b number) (sym same) nothing) first

-- what the only file reads is what it had
pub only_file : {D : Type 0} (past : D → Past) (old : Files) (dir : List ℕ) (more : ℕ) (disks : List D) → AreKept itself (opened_over old dir more (0 ∷ [])) (map past disks) → length disks ≡ 1
    → reads (past_at past disks 0) ≡ bytes_at old dir (0 + more)
only_file past old dir more disks kept one = reads_at past (0 ∷ []) (opened_over old dir more (0 ∷ [])) disks kept 0 (omega (arith, one))

-- ---- put back

-- whether it is the number of one of the files
decide_one : (more : ℕ) (numbers : List ℕ) (n : ℕ) → IsOneOf more numbers n ⊎ (IsOneOf more numbers n → ⊥)
decide_one more [] n = inr (λ one. absurd (omega (arith, one.1)))
decide_one more (x ∷ xs) n = ⊎_elim
    (λ (same : n ≡ x + more). inl (0, omega arith, same))
    (λ (other : n ≢ x + more). ⊎_elim
    (λ one. inl (suc one.0, omega (arith, one.1), one.2))
    (λ none. inr (λ one. apart other none one.0 one.1 one.2))
    (decide_one more xs n))
    (cases_eq n (x + more))
  where
    apart : n ≢ x + more → (IsOneOf more xs n → ⊥) → (i : ℕ) → i < length (x ∷ xs) → n ≡ slice_index (x ∷ xs) i + more → ⊥
    apart other none zero within is = other is
    apart other none (suc i) within is = none (i, omega (arith, within), is)

module _ {D : Type 0} (disks : Ghosts D) (dir : List ℕ) (old mid new : Files) (numbers : List ℕ) (files spares : List D) (marker : D) (number : ℕ) (taken : IsTaken disks dir old numbers files spares marker number)
    (wider : List ℕ) (part : (more n : ℕ) → IsOneOf more numbers n → IsOneOf more wider n) (left : AreKeptButSpare dir number wider old mid) (back : IsSetBack dir number numbers (map disks.past files) (map disks.past spares) (disks.past marker) mid new) where
  many : length (opened_over old dir 0 numbers) ≡ length numbers
  many = length-map numbers (λ (n : ℕ). began (bytes_at old dir (n + 0)))

  file_back : (n : ℕ) → IsOneOf 0 numbers n → IsKept (old dir n) (new dir n)
  file_back n (i, within, is) =
      let same : reads (past_at itself (map disks.past files) i) ≡ bytes_at old dir (slice_index numbers i + 0) =
      (taken.files_kept.each i (omega (arith, within, many))).reads_same ∙ ap reads (at_opened disks dir old numbers 0 i within) in
      rw is (opened_kept (old dir (slice_index numbers i + 0)) (new dir (slice_index numbers i + 0)) (back.files_have i within ∙ ap (λ (b : List ℕ). Some b) same))

  spare_back : (n : ℕ) → IsOneOf 2000 numbers n → IsKept (old dir n) (new dir n) ⊎ IsIdleSpare old dir number n
  spare_back n (i, within, is) = rw is (⊎_elim
      (λ busy.
      let same : reads (past_at itself (map disks.past spares) i) ≡ bytes_at old dir (slice_index numbers i + 2000) =
      ap reads (at_itself disks.past spares i) ∙ (taken.spares_kept i within busy).reads_same in
      inl (opened_kept (old dir (slice_index numbers i + 2000)) (new dir (slice_index numbers i + 2000)) (back.spares_have i within ∙ ap (λ (b : List ℕ). Some b) same)))
      (λ idle. inr idle)
      (idle_or_not (slice_index numbers i + 2000)))
    where
      by : (marked : Bool) → MarkerSays marked (bytes_at old dir number) number → (k : ℕ) → (IsIdleSpare old dir number k → ⊥) ⊎ IsIdleSpare old dir number k
      by true one k = inl (λ idle. never_nothing (bytes_at old dir number) number one.0 idle.1 one.1)
      by false quiet k = ⊎_elim (λ (same : k ≡ 2000). inr (same, quiet)) (λ (other : k ≢ 2000). inl (λ idle. other idle.0)) (cases_eq k 2000)

      idle_or_not : (k : ℕ) → (IsIdleSpare old dir number k → ⊥) ⊎ IsIdleSpare old dir number k
      idle_or_not k = let said = taken.says (omega (arith, within)) in by said.0 said.1 k

  marker_back : IsKept (old dir number) (new dir number)
  marker_back = opened_kept (old dir number) (new dir number) (back.marker_has ∙ ap (λ (b : List ℕ). Some b) taken.marker_kept.reads_same)

  -- each file has what it had
  pub back_kept : AreKeptButSpare dir number wider old new
  back_kept = record {
    beside = record {
      elsewhere = λ other n apart. back.beside.elsewhere other n apart ∙ left.beside.elsewhere other n apart;
      here = λ n out. back.beside.here n (λ is. out (⊎_elim (λ file. inl (part 0 n file)) (λ more. ⊎_elim (λ spare. inr (inl (part 2000 n spare))) (λ mark. inr (inr mark)) more) is)) ∙ left.beside.here n out;
    };
    kept = λ n. ⊎_elim
        (λ file. inl (file_back n file))
        (λ no_file. ⊎_elim
        (λ spare. spare_back n spare)
        (λ no_spare. ⊎_elim
        (λ (same : n ≡ number). inl (rw same marker_back))
        (λ (other : n ≢ number). ⊎_elim
        (λ so_far. inl (subst (IsKept (old dir n)) (sym (back.beside.here n (λ is. ⊎_elim no_file (λ more. ⊎_elim no_spare other more) is))) so_far))
        (λ idle. inr idle)
        (left.kept n))
        (cases_eq n number))
        (decide_one 2000 numbers n))
        (decide_one 0 numbers n);
  }

-- a set is part of a larger one
pub left_wider : (dir : List ℕ) (marker : ℕ) (numbers wider : List ℕ) (old new : Files) → ((more n : ℕ) → IsOneOf more numbers n → IsOneOf more wider n) → AreKeptButSpare dir marker numbers old new → AreKeptButSpare dir marker wider old new
left_wider dir marker numbers wider old new within left = record {
  beside = record {
    elsewhere = left.beside.elsewhere;
    here = λ n out. left.beside.here n (λ is. out (⊎_elim (λ file. inl (within 0 n file)) (λ more. ⊎_elim (λ spare. inr (inl (within 2000 n spare))) (λ mark. inr (inr mark)) more) is));
  };
  kept = left.kept;
}
