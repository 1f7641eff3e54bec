-- Files that are taken from a shelf, one after another.
use Rattle.std.proofs.Common.{◌≡◌, ◌≢◌, ◌⊎◌, inl, inr, ⊎_elim, ℕ, ◌+◌, ◌<◌, ◌≤◌, List, [], ◌∷◌, ◌++◌, length, map, get_or, refl, sym, ◌∙◌, ap, subst, arith, length-append}
use Rattle.std.specs.Prelude.{Bool, Option, Some, None, unwrap_or, slice_index}
use Rattle.std.proofs.lemmas.Bool.{cases_eq, cases_lt}
use Rattle.std.proofs.lemmas.List.{get_or_append_left, length-map, map-append}
use Rattle.std.proofs.Math.Seq.{get_or-append_seam}
use Rattle.disk_model.specs.Past.{Past, began, Keeps}
use Rattle.disk_model.specs.Shelf.{SameOthers}
use Rattle.disk_model.specs.declared.disk.Disk.{Ghosts}
use Rattle.disk_model.proofs.Moments.{kept}
use Rattle.slot_checks.proofs.Steps.{kept_bytes, kept_twice, opened_kept}
use Rattle.slot_files.proofs.Steps.{other_number, other_dir}
use Rattle.slot_files.specs.Files.{Files, IsKept, bytes_at}
use Rattle.journal_upgrade.specs.Copies.{past_at, AreKept}
use Rattle.directory_upgrade.specs.Sets.{itself, opened_over, IsOneOf, IsOfSet, AreKeptButSpare, IsIdleSpare, HaveMarks, IsOpened, IsTaken, MarkerSays}
use Rattle.directory_upgrade.specs.Taking.{AreVisited, IsAdded}
use Rattle.directory_upgrade.proofs.Lists.{itself_all}

-- ---- one file and its spare

module _ (dir : List ℕ) (number : ℕ) (old new : Files) where
  -- the spare was opened
  pub spare_opened : new dir (number + 2000) ≡ Some (unwrap_or (old dir (number + 2000)) []) → SameOthers (Some (dir, number + 2000)) old new → AreVisited dir number old new
  spare_opened made others = record {
    file = inl (other_number dir (number + 2000) old new others number (λ same. omega (arith, same)));
    spare = opened_kept (old dir (number + 2000)) (new dir (number + 2000)) made;
    elsewhere = λ other n apart. other_dir dir (number + 2000) old new others other n apart;
    here = λ n not_file not_spare. other_number dir (number + 2000) old new others n not_spare;
  }

  -- the spare wasn't, and the file was put back
  pub spare_refused : (mid : Files) → mid dir (number + 2000) ≡ old dir (number + 2000) → SameOthers (Some (dir, number + 2000)) old mid
      → new dir number ≡ Some (bytes_at old dir number) → SameOthers (Some (dir, number)) mid new → AreVisited dir number old new
  spare_refused mid same first is second = record {
    file = opened_kept (old dir number) (new dir number) is;
    spare = inl (other_number dir number mid new second (number + 2000) (λ is. omega (arith, is)) ∙ same);
    elsewhere = λ other n apart. other_dir dir number mid new second other n apart ∙ other_dir dir (number + 2000) old mid first other n apart;
    here = λ n not_file not_spare. other_number dir number mid new second n not_file ∙ other_number dir (number + 2000) old mid first n not_spare;
  }

  -- the file was opened before
  pub file_opened : (mid : Files) → mid dir number ≡ Some (unwrap_or (old dir number) []) → SameOthers (Some (dir, number)) old mid → AreVisited dir number mid new → AreVisited dir number old new
  file_opened mid made others visited = record {
    file = kept_twice (old dir number) (mid dir number) (new dir number) (opened_kept (old dir number) (mid dir number) made) visited.file;
    spare = subst (λ (f : Option (List ℕ)). IsKept f (new dir (number + 2000))) (other_number dir number old mid others (number + 2000) (λ is. omega (arith, is))) visited.spare;
    elsewhere = λ other n apart. visited.elsewhere other n apart ∙ other_dir dir number old mid others other n apart;
    here = λ n not_file not_spare. visited.here n not_file not_spare ∙ other_number dir number old mid others n not_file;
  }

  pub file_refused : new dir number ≡ old dir number → SameOthers (Some (dir, number)) old new → AreVisited dir number old new
  file_refused same others = record {
    file = inl same;
    spare = inl (other_number dir number old new others (number + 2000) (λ is. omega (arith, is)));
    elsewhere = λ other n apart. other_dir dir number old new others other n apart;
    here = λ n not_file not_spare. other_number dir number old new others n not_file;
  }

pub none_visited : (dir : List ℕ) (number : ℕ) (files : Files) → AreVisited dir number files files
none_visited dir number files = record { file = inl refl; spare = inl refl; elsewhere = λ other n apart. refl; here = λ n a b. refl }

-- ---- numbers of a set

pub among_more : (more : ℕ) (numbers : List ℕ) (last number : ℕ) → IsOneOf more numbers number → IsOneOf more (numbers ++ last ∷ []) number
among_more more numbers last number (i, within, is) = (
  i,
  omega (arith, within, length-append numbers (last ∷ [])),
  is ∙ ap (λ (n : ℕ). n + more) (sym (get_or_append_left numbers (last ∷ []) 0 i within)),
)

pub the_last : (more : ℕ) (numbers : List ℕ) (last : ℕ) → IsOneOf more (numbers ++ last ∷ []) (last + more)
the_last more numbers last = (length numbers, omega (arith, length-append numbers (last ∷ [])), ap (λ (n : ℕ). n + more) (sym (get_or-append_seam numbers last [] 0)))

pub of_more : (marker : ℕ) (numbers : List ℕ) (last number : ℕ) → IsOfSet marker numbers number → IsOfSet marker (numbers ++ last ∷ []) number
of_more marker numbers last number is = ⊎_elim
    (λ file. inl (among_more 0 numbers last number file))
    (λ other. ⊎_elim (λ spare. inr (inl (among_more 2000 numbers last number spare))) (λ mark. inr (inr mark)) other)
    is

-- ---- the files of a set so far

pub all_left : (dir : List ℕ) (marker : ℕ) (numbers : List ℕ) (files : Files) → AreKeptButSpare dir marker numbers files files
all_left dir marker numbers files = record { beside = record { elsewhere = λ other n apart. refl; here = λ n out. refl }; kept = λ n. inl (inl refl) }

module _ (dir : List ℕ) (marker : ℕ) (numbers : List ℕ) (last : ℕ) (old mid new : Files) (left : AreKeptButSpare dir marker numbers old mid) (visited : AreVisited dir last mid new) where
  kept_then : (number : ℕ) → IsKept (mid dir number) (new dir number) → IsKept (old dir number) (new dir number) ⊎ IsIdleSpare old dir marker number
  kept_then number now = ⊎_elim (λ so_far. inl (kept_twice (old dir number) (mid dir number) (new dir number) so_far now)) (λ idle. inr idle) (left.kept number)

  pub left_more : AreKeptButSpare dir marker (numbers ++ last ∷ []) old new
  left_more = record {
    beside = record {
      elsewhere = λ other n apart. visited.elsewhere other n apart ∙ left.beside.elsewhere other n apart;
      here = λ n out. visited.here n
          (λ same. out (inl (subst (IsOneOf 0 (numbers ++ last ∷ [])) (let at : last + 0 ≡ n = omega (arith, same) in at) (the_last 0 numbers last))))
          (λ same. out (inr (inl (subst (IsOneOf 2000 (numbers ++ last ∷ [])) (sym same) (the_last 2000 numbers last)))))
          ∙ left.beside.here n (λ is. out (of_more marker numbers last n is));
    };
    kept = λ n. ⊎_elim
        (λ (same : n ≡ last). kept_then n (subst (λ (k : ℕ). IsKept (mid dir k) (new dir k)) (sym same) visited.file))
        (λ (other : n ≢ last). ⊎_elim
        (λ (same : n ≡ last + 2000). kept_then n (subst (λ (k : ℕ). IsKept (mid dir k) (new dir k)) (sym same) visited.spare))
        (λ (neither : n ≢ last + 2000). kept_then n (inl (visited.here n other neither)))
        (cases_eq n (last + 2000)))
        (cases_eq n last);
  }

-- the bytes are those that the file had
pub still : (dir : List ℕ) (marker : ℕ) (numbers : List ℕ) (old mid : Files) → AreKeptButSpare dir marker numbers old mid → (number : ℕ) → (IsIdleSpare old dir marker number → ⊥) → bytes_at mid dir number ≡ bytes_at old dir number
still dir marker numbers old mid left number busy = ⊎_elim (λ so_far. kept_bytes (old dir number) (mid dir number) so_far) (λ idle. absurd (busy idle)) (left.kept number)

-- ---- pasts in a list

at_front : (pasts : List Past) (last : Past) (i : ℕ) → i < length pasts → past_at itself (pasts ++ last ∷ []) i ≡ past_at itself pasts i
at_front pasts last i less =
    ap (λ (l : List Past). get_or l i (began [])) (itself_all (pasts ++ last ∷ [])) ∙ get_or_append_left pasts (last ∷ []) (began []) i less ∙ sym (ap (λ (l : List Past). get_or l i (began [])) (itself_all pasts))

at_end : (pasts : List Past) (last : Past) → past_at itself (pasts ++ last ∷ []) (length pasts) ≡ last
at_end pasts last = ap (λ (l : List Past). get_or l (length pasts) (began [])) (itself_all (pasts ++ last ∷ [])) ∙ get_or-append_seam pasts last [] (began [])

pushed : (olds news : List Past) (past : Past) → AreKept itself olds news → AreKept itself (olds ++ past ∷ []) (news ++ past ∷ [])
pushed olds news past all = record {
  as_many = length-append news (past ∷ []) ∙ ap (λ (n : ℕ). n + 1) all.as_many ∙ sym (length-append olds (past ∷ []));
  each = λ i within. ⊎_elim
      (λ (less : i < length olds).
      let one : past_at itself (olds ++ past ∷ []) i ≡ past_at itself olds i = at_front olds past i less in
      let two : past_at itself (news ++ past ∷ []) i ≡ past_at itself news i = at_front news past i (omega (arith, less, all.as_many)) in
      rw (one, two) (all.each i less))
      (λ (far : length olds ≤ i).
      let same : i ≡ length olds = omega (arith, far, within, length-append olds (past ∷ [])) in
      let one : past_at itself (olds ++ past ∷ []) i ≡ past = ap (past_at itself (olds ++ past ∷ [])) same ∙ at_end olds past in
      let two : past_at itself (news ++ past ∷ []) i ≡ past = ap (past_at itself (news ++ past ∷ [])) (same ∙ sym all.as_many) ∙ at_end news past in
      rw (one, two) (kept past))
      (cases_lt i (length olds));
}

-- the past of a disk in a list that has one more
before : {D : Type 0} (past : D → Past) (taken : List D) (last : D) (i : ℕ) → i < length taken → past_at past (taken ++ last ∷ []) i ≡ past_at past taken i
before past taken last i less =
    ap (λ (l : List Past). get_or l i (began [])) (map-append past taken (last ∷ [])) ∙ get_or_append_left (map past taken) (past last ∷ []) (began []) i (omega (arith, less, length-map taken past))

seam : {D : Type 0} (past : D → Past) (taken : List D) (last : D) → past_at past (taken ++ last ∷ []) (length taken) ≡ past last
seam past taken last =
    ap (λ (l : List Past). get_or l (length taken) (began [])) (map-append past taken (last ∷ []))
    ∙ ap (λ (n : ℕ). get_or (map past taken ++ past last ∷ []) n (began [])) (sym (length-map taken past)) ∙ get_or-append_seam (map past taken) (past last) [] (began [])

-- ---- their disks

module _ {D : Type 0} (disks : Ghosts D) (dir : List ℕ) (old : Files) (numbers : List ℕ) (last : ℕ) where
  marks_more : (more : ℕ) (taken : List D) (disk : D) → length taken ≡ length numbers → HaveMarks disks dir more numbers taken → disks.mark disk ≡ Some (dir, last + more)
      → HaveMarks disks dir more (numbers ++ last ∷ []) (taken ++ disk ∷ [])
  marks_more more taken disk many marks is i within = ⊎_elim
      (λ (less : i < length numbers).
      ap (λ (l : List (Option (List ℕ × ℕ))). get_or l i None) (map-append disks.mark taken (disk ∷ []))
      ∙ get_or_append_left (map disks.mark taken) (disks.mark disk ∷ []) None i (omega (arith, less, many, length-map taken disks.mark))
      ∙ marks i less ∙ ap (λ (n : ℕ). Some (dir, n + more)) (sym (get_or_append_left numbers (last ∷ []) 0 i less)))
      (λ (far : length numbers ≤ i).
      let same : i ≡ length numbers = omega (arith, far, within, length-append numbers (last ∷ [])) in
      let here : i ≡ length (map disks.mark taken) = same ∙ sym many ∙ sym (length-map taken disks.mark) in
      ap (λ (l : List (Option (List ℕ × ℕ))). get_or l i None) (map-append disks.mark taken (disk ∷ []))
      ∙ ap (λ (n : ℕ). get_or (map disks.mark taken ++ disks.mark disk ∷ []) n None) here ∙ get_or-append_seam (map disks.mark taken) (disks.mark disk) [] None
      ∙ is ∙ ap (λ (n : ℕ). Some (dir, n + more)) (sym (ap (λ (n : ℕ). get_or (numbers ++ last ∷ []) n 0) same ∙ get_or-append_seam numbers last [] 0)))
      (cases_lt i (length numbers))

  kept_more : (more : ℕ) (taken : List D) (disk : D) → AreKept itself (opened_over old dir more numbers) (map disks.past taken) → disks.past disk ≡ began (bytes_at old dir (last + more))
      → AreKept itself (opened_over old dir more (numbers ++ last ∷ [])) (map disks.past (taken ++ disk ∷ []))
  kept_more more taken disk so_far is =
      let f = λ (n : ℕ). began (bytes_at old dir (n + more)) in
      rw (map-append f numbers (last ∷ []), map-append disks.past taken (disk ∷ []), is)
      (pushed (opened_over old dir more numbers) (map disks.past taken) (f last) so_far)

  -- a file more was taken
  module _ (mid : Files) (marker_number : ℕ) (left : AreKeptButSpare dir marker_number numbers old mid) (small : last ≤ 1001) (files spares new_files new_spares : List D) (marker : D)
      (many_files : length files ≡ length numbers) (many_spares : length spares ≡ length numbers) where
    pub taken_more : (marked : Bool) → MarkerSays marked (bytes_at old dir marker_number) marker_number → IsTaken disks dir old numbers files spares marker marker_number → IsAdded disks dir last mid files new_files → IsAdded disks dir (last + 2000) mid spares new_spares
        → IsTaken disks dir old (numbers ++ last ∷ []) new_files new_spares marker marker_number
    taken_more marked says so_far file spare =
        let of_file : bytes_at mid dir last ≡ bytes_at old dir last = still dir marker_number numbers old mid left last (λ idle. omega (arith, small, idle.0)) in
        rw (file.added, spare.added)
        (record {
          file_marks = marks_more 0 files file.last many_files so_far.file_marks (file.opened.mark ∙ ap (λ (n : ℕ). Some (dir, n)) (let at : last ≡ last + 0 = omega arith in at));
          spare_marks = marks_more 2000 spares spare.last many_spares so_far.spare_marks spare.opened.mark;
          marker_mark = so_far.marker_mark;
          files_kept = kept_more 0 files file.last so_far.files_kept (file.opened.past ∙ ap began of_file ∙ ap (λ (n : ℕ). began (bytes_at old dir n)) (let at : last ≡ last + 0 = omega arith in at));
          as_many_spares = length-append spares (spare.last ∷ []) ∙ ap (λ (n : ℕ). n + 1) many_spares ∙ sym (length-append numbers (last ∷ []));
          spares_kept = λ i within busy. ⊎_elim
              (λ (less : i < length numbers).
              let number_is : slice_index (numbers ++ last ∷ []) i ≡ slice_index numbers i = get_or_append_left numbers (last ∷ []) 0 i less in
              rw (number_is, before disks.past spares spare.last i (omega (arith, less, many_spares))) (so_far.spares_kept i less (subst (λ (n : ℕ). IsIdleSpare old dir marker_number (n + 2000) → ⊥) number_is busy)))
              (λ (far : length numbers ≤ i).
              let same : i ≡ length numbers = omega (arith, far, within, length-append numbers (last ∷ [])) in
              let number_is : slice_index (numbers ++ last ∷ []) i ≡ last = ap (slice_index (numbers ++ last ∷ [])) same ∙ get_or-append_seam numbers last [] 0 in
              let here : past_at disks.past (spares ++ spare.last ∷ []) i ≡ began (bytes_at old dir (last + 2000)) =
              ap (past_at disks.past (spares ++ spare.last ∷ [])) (same ∙ sym many_spares) ∙ seam disks.past spares spare.last ∙ spare.opened.past
              ∙ ap began (still dir marker_number numbers old mid left (last + 2000) (subst (λ (n : ℕ). IsIdleSpare old dir marker_number (n + 2000) → ⊥) number_is busy)) in
              rw (number_is, here) (kept (began (bytes_at old dir (last + 2000)))))
              (cases_lt i (length numbers));
          marker_kept = so_far.marker_kept;
          says = λ some. (marked, says);
        })

-- no file was taken yet
pub taken_none : {D : Type 0} (disks : Ghosts D) (dir : List ℕ) (old : Files) (numbers : List ℕ) (files spares : List D) (marker now : D) (number : ℕ) → numbers ≡ [] → files ≡ [] → spares ≡ []
    → IsOpened disks dir number old marker → Keeps (disks.past marker) (disks.past now) → disks.mark now ≡ disks.mark marker → IsTaken disks dir old numbers files spares now number
taken_none disks dir old numbers files spares marker now number no_numbers no_files no_spares opened went mark = rw (no_numbers, no_files, no_spares) (record {
  file_marks = λ i within. absurd (omega (arith, within));
  spare_marks = λ i within. absurd (omega (arith, within));
  marker_mark = mark ∙ opened.mark;
  files_kept = record { as_many = refl; each = λ i within. absurd (omega (arith, within)) };
  as_many_spares = refl;
  spares_kept = λ i within busy. absurd (omega (arith, within));
  marker_kept = subst (λ (p : Past). Keeps p (disks.past now)) opened.past went;
  says = λ some. absurd (omega (arith, some));
})
