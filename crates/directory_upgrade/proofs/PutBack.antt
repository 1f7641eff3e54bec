-- Disks that are put back, the last one first.
use Rattle.std.proofs.Common.{◌≡◌, inl, inr, ⊎_elim, ℕ, ◌+◌, ◌<◌, ◌≤◌, List, ◌∷◌, ◌++◌, length, map, get_or, refl, sym, ◌∙◌, ap, subst, arith, length-append}
use Rattle.std.specs.Prelude.{Option, Some, None, slice_index}
use Rattle.std.proofs.lemmas.Bool.{cases_lt}
use Rattle.delta_base.specs.Outside.{Rose}
use Rattle.disk_model.specs.Past.{Past, reads}
use Rattle.disk_model.specs.Shelf.{SameOthers}
use Rattle.disk_model.specs.declared.disk.Disk.{Ghosts}
use Rattle.slot_files.specs.Files.{Files}
use Rattle.slot_files.proofs.Steps.{other_number, other_dir}
use Rattle.journal_upgrade.specs.Copies.{past_at}
use Rattle.std.specs.Prelude.{All}
use Rattle.std.proofs.lemmas.List.Elements.{All-get_or}
use Rattle.journal_upgrade.specs.Numbers.{Differ, IsFileNumber}
use Rattle.directory_upgrade.specs.Sets.{itself, HaveMarks, HaveRead, IsMarkerNumber, IsSetBack, SameButThese}
use Rattle.directory_upgrade.proofs.Lists.{at_middle, at_itself}

pub rose_before : (a b c : ℕ) → a ≤ b → Rose b c → Rose a c
rose_before a b c low rose = ⊎_elim (λ more. inl (omega (arith, low, more))) (λ last. inr last) rose

pub rose_behind : (a b c : ℕ) → a ≤ b → Rose a b → b ≤ c → Rose a c
rose_behind a b c low rose high = ⊎_elim
    (λ more. inl (omega (arith, more, high)))
    (λ last. ⊎_elim (λ below. inl below) (λ above. inr (let same : c ≡ b = omega (arith, low, high, above) in same ∙ last)) (cases_lt a c))
    rose

-- those from this place on are in their files
abbrev pub HaveReadFrom : ℕ → Files → List ℕ → ℕ → List ℕ → List Past → Type 0
HaveReadFrom from files dir more numbers pasts = (i : ℕ) → from ≤ i → i < length numbers
    → files dir (slice_index numbers i + more) ≡ Some (reads (past_at itself pasts i))

pub none_touched : (dir : List ℕ) (more : ℕ) (numbers : List ℕ) (files : Files) → SameButThese dir more numbers files files
none_touched dir more numbers files = record { elsewhere = λ other n apart. refl; here = λ n out. refl }

module _ {D : Type 0} (disks : Ghosts D) (dir : List ℕ) (more : ℕ) (numbers : List ℕ) (all front : List D) (disk : D) (back : List D) (whole : all ≡ front ++ disk ∷ back)
    (many : length all ≡ length numbers) (marks : HaveMarks disks dir more numbers all) where
  within : length front < length numbers
  within = omega (arith, many, ap length whole, length-append front (disk ∷ back))

  pub marked : disks.mark disk ≡ Some (dir, slice_index numbers (length front) + more)
  marked = sym (ap (λ (l : List D). get_or (map disks.mark l) (length front) None) whole ∙ at_middle disks.mark front disk back None) ∙ marks (length front) within

  past_is : past_at itself (map disks.past all) (length front) ≡ disks.past disk
  past_is = at_itself disks.past all (length front) ∙ ap (λ (l : List D). past_at disks.past l (length front)) whole ∙ at_middle disks.past front disk back _

  module _ (mid new : Files) (others : SameOthers (disks.mark disk) mid new) where
    theirs : SameOthers (Some (dir, slice_index numbers (length front) + more)) mid new
    theirs = subst (λ (mark : Option (List ℕ × ℕ)). SameOthers mark mid new) marked others

    pub read_more : Differ numbers → ((d : List ℕ) (n : ℕ) → disks.mark disk ≡ Some (d, n) → new d n ≡ Some (reads (disks.past disk)))
        → HaveReadFrom (length front + 1) mid dir more numbers (map disks.past all) → HaveReadFrom (length front) new dir more numbers (map disks.past all)
    read_more differ kept have i from below = ⊎_elim
        (λ (less : i < length front + 1).
        let same : i ≡ length front = omega (arith, from, less) in
        rw same (kept dir (slice_index numbers (length front) + more) marked ∙ ap (λ (p : Past). Some (reads p)) (sym past_is)))
        (λ (past : length front + 1 ≤ i).
        other_number dir (slice_index numbers (length front) + more) mid new theirs (slice_index numbers i + more)
        (λ same. differ (length front) i (omega (arith, past)) below (omega (arith, same)))
        ∙ have i past below)
        (cases_lt i (length front + 1))

    pub same_more : (old : Files) → SameButThese dir more numbers old mid → SameButThese dir more numbers old new
    same_more old same = record {
      elsewhere = λ other n apart. other_dir dir (slice_index numbers (length front) + more) mid new theirs other n apart ∙ same.elsewhere other n apart;
      here = λ n out. other_number dir (slice_index numbers (length front) + more) mid new theirs n (λ is. out (length front, within, is)) ∙ same.here n out;
    }

-- ---- a set

module _ (dir : List ℕ) (numbers : List ℕ) (known : All IsFileNumber numbers) (number : ℕ) (marker : IsMarkerNumber number) where
  known_at : (i : ℕ) → i < length numbers → IsFileNumber (slice_index numbers i)
  known_at i within = All-get_or IsFileNumber numbers i 0 within known

  file_small : (n : ℕ) → IsFileNumber n → n ≤ 1001
  file_small n (inl low) = omega (arith, low)
  file_small n (inr (inl zone)) = omega (arith, zone)
  file_small n (inr (inr zone)) = omega (arith, zone)

  marker_large : (n : ℕ) → IsMarkerNumber n → 2099 ≤ n
  marker_large n (inl is) = omega (arith, is)
  marker_large n (inr is) = omega (arith, is)

  spare_apart : (n m : ℕ) → IsFileNumber n → IsMarkerNumber m → n + 2000 ≡ m → ⊥
  spare_apart n m (inl low) (inl is) same = omega (arith, low, is, same)
  spare_apart n m (inl low) (inr is) same = omega (arith, low, is, same)
  spare_apart n m (inr (inl zone)) (inl is) same = omega (arith, zone, is, same)
  spare_apart n m (inr (inl zone)) (inr is) same = omega (arith, zone, is, same)
  spare_apart n m (inr (inr zone)) (inl is) same = omega (arith, zone, is, same)
  spare_apart n m (inr (inr zone)) (inr is) same = omega (arith, zone, is, same)

  -- the files, the spares and the marker were put back
  pub set_back : (old mid late new : Files) (files spares : List Past) (mark : Past) → HaveRead mid dir 0 numbers files → SameButThese dir 0 numbers old mid
      → HaveRead late dir 2000 numbers spares → SameButThese dir 2000 numbers mid late → new dir number ≡ Some (reads mark) → SameOthers (Some (dir, number)) late new
      → IsSetBack dir number numbers files spares mark old new
  set_back old mid late new files spares mark files_have first spares_have second marker_has others = record {
    files_have = λ i within.
        other_number dir number late new others (slice_index numbers i + 0)
        (λ same. omega (arith, same, file_small (slice_index numbers i) (known_at i within), marker_large number marker))
        ∙ second.here (slice_index numbers i + 0) (λ one. omega (arith, one.2, file_small (slice_index numbers i) (known_at i within)))
        ∙ files_have i within;
    spares_have = λ i within.
        other_number dir number late new others (slice_index numbers i + 2000) (λ same. spare_apart (slice_index numbers i) number (known_at i within) marker same) ∙ spares_have i within;
    marker_has = marker_has;
    beside = record {
      elsewhere = λ other n apart. other_dir dir number late new others other n apart ∙ second.elsewhere other n apart ∙ first.elsewhere other n apart;
      here = λ n out. other_number dir number late new others n (λ same. out (inr (inr same))) ∙ second.here n (λ one. out (inr (inl one))) ∙ first.here n (λ one. out (inl one));
    };
  }
