-- Disks of files, taken one after another and put back.
use Rattle.std.proofs.Common.{◌≡◌, inl, inr, ⊎_elim, ℕ, ◌+◌, ◌<◌, ◌≤◌, List, [], ◌∷◌, ◌++◌, length, refl, ◌∙◌, ap, subst, arith}
use Rattle.std.specs.Prelude.{Option, Some, Result, Ok, Err, IfErr, OnOk}
use Rattle.std.proofs.lemmas.Bool.{cases_lt}
use Rattle.delta_base.specs.Outside.{Rose}
use Rattle.disk_model.specs.Past.{Past, began, reads, Keeps}
use Rattle.disk_model.specs.Shelf.{SameOthers}
use Rattle.disk_model.specs.declared.disk.Disk.{Ghosts}
use Rattle.disk_model.proofs.Moments as moments
use Rattle.slot_checks.proofs.Steps.{all_kept, opened_kept, visit_kept}
use Rattle.slot_checks.specs.Checks.{AreKept}
use Rattle.slot_files.proofs.Steps.{at_or_not, other_dir, other_number, visited}
use Rattle.slot_files.specs.Files.{Files, IsKept, SameBut, bytes_at}
use Rattle.delta_server.specs.Files.{AreMarked, HaveBegun, ArePutBack, HaveRead}

module _ {D : Type 0} (disks : Ghosts D) where
  -- ---- one disk more

  pub marked_more : (dir : List ℕ) (number : ℕ) (taken : List D) (disk : D) → AreMarked disks dir number taken
      → disks.mark disk ≡ Some (dir, number + length taken) → AreMarked disks dir number (taken ++ disk ∷ [])
  marked_more dir number [] disk are is = (subst (λ (n : ℕ). disks.mark disk ≡ Some (dir, n)) (omega arith) is, tt)
  marked_more dir number (first ∷ taken) disk are is =
      (are.0, marked_more dir (number + 1) taken disk are.1 (subst (λ (n : ℕ). disks.mark disk ≡ Some (dir, n)) (omega arith) is))

  pub begun_more : (files : Files) (dir : List ℕ) (number : ℕ) (taken : List D) (disk : D) → HaveBegun disks files dir number taken
      → disks.past disk ≡ began (bytes_at files dir (number + length taken)) → HaveBegun disks files dir number (taken ++ disk ∷ [])
  begun_more files dir number [] disk are is =
      let here : disks.past disk ≡ began (bytes_at files dir number) = subst (λ (n : ℕ). disks.past disk ≡ began (bytes_at files dir n)) (omega arith) is in
      (subst (λ (p : Past). Keeps p (disks.past disk)) here (moments.kept (disks.past disk)), tt)
  begun_more files dir number (first ∷ taken) disk are is =
      (are.0, begun_more files dir (number + 1) taken disk are.1 (subst (λ (n : ℕ). disks.past disk ≡ began (bytes_at files dir n)) (omega arith) is))

  pub marked_split : (dir : List ℕ) (number : ℕ) (rest : List D) (last : D) (back : List D) → AreMarked disks dir number (rest ++ last ∷ back)
      → disks.mark last ≡ Some (dir, number + length rest)
  marked_split dir number [] last back are = subst (λ (n : ℕ). disks.mark last ≡ Some (dir, n)) (omega arith) are.0
  marked_split dir number (first ∷ rest) last back are =
      subst (λ (n : ℕ). disks.mark last ≡ Some (dir, n)) (omega arith) (marked_split dir (number + 1) rest last back are.1)

  -- ---- put back, the last one first

  -- the disks behind the first ones are back in their files
  pub record AreBack (dir : List ℕ) (rest : ℕ) (back : List D) (old new : Files) : Type 0 where
    pub files : HaveRead disks new dir rest back
    pub others : SameBut dir 0 (rest + length back) old new

  pub none_back : (dir : List ℕ) (rest : ℕ) (files : Files) → AreBack dir rest [] files files
  none_back dir rest files = record { files = tt; others = record { elsewhere = λ other n apart. refl; here = λ n out. refl } }

  read_still : (dir : List ℕ) (below from : ℕ) (back : List D) (old new : Files) → below < from → SameOthers (Some (dir, below)) old new
      → HaveRead disks old dir from back → HaveRead disks new dir from back
  read_still dir below from [] old new less others have = tt
  read_still dir below from (disk ∷ back) old new less others have = (
    other_number dir below old new others from (λ same. omega (arith, same, less)) ∙ have.0,
    read_still dir below (from + 1) back old new (omega (arith, less)) others have.1,
  )

  pub back_more : (dir : List ℕ) (rest : ℕ) (disk : D) (back : List D) (old mid new : Files) → disks.mark disk ≡ Some (dir, rest)
      → AreBack dir (rest + 1) back old mid → new dir rest ≡ Some (reads (disks.past disk)) → SameOthers (disks.mark disk) mid new
      → AreBack dir rest (disk ∷ back) old new
  back_more dir rest disk back old mid new marked are here others =
      let other = subst (λ (mark : Option (List ℕ × ℕ)). SameOthers mark mid new) marked others in record {
        files = (here, read_still dir rest (rest + 1) back mid new (omega arith) other are.files);
        others = record {
          elsewhere = λ d n apart. other_dir dir rest mid new other d n apart ∙ are.others.elsewhere d n apart;
          here = λ n out. other_number dir rest mid new other n (λ same. ⊎_elim (λ low. absurd (omega (arith, low))) (λ high. omega (arith, high, same)) out)
              ∙ are.others.here n (⊎_elim (λ low. absurd (omega (arith, low))) (λ high. inr (omega (arith, high))) out);
        };
      }

  pub all_back : (dir : List ℕ) (back : List D) (old new : Files) → AreBack dir 0 back old new → ArePutBack disks dir back old new
  all_back dir back old new are = record {
    files = are.files;
    others = subst (λ (n : ℕ). SameBut dir 0 n old new) (let same : 0 + length back ≡ length back = omega arith in same) are.others;
  }

  -- ---- taken and put back

  -- the files that were opened are kept but for what the disks read
  pub back_over : (dir : List ℕ) (left : List D) (old mid new : Files) → AreKept dir (length left) old mid
      → ArePutBack disks dir left mid new → ArePutBack disks dir left old new
  back_over dir left old mid new kept back = record {
    files = back.files;
    others = record {
      elsewhere = λ d n apart. back.others.elsewhere d n apart ∙ kept.elsewhere d n apart;
      here = λ n out. back.others.here n out ∙ kept.beyond n (⊎_elim (λ low. absurd (omega (arith, low))) (λ high. omega (arith, high)) out);
    };
  }

  kept_at : (dir : List ℕ) (from : ℕ) (left : List D) (old new : Files) → HaveBegun disks old dir from left → HaveRead disks new dir from left
      → (n : ℕ) → from ≤ n → n < from + length left → IsKept (old dir n) (new dir n)
  kept_at dir from [] old new begun have n low high = absurd (omega (arith, low, high))
  kept_at dir from (disk ∷ left) old new begun have n low high =
      at_or_not (λ k. from ≤ k → k < from + length (disk ∷ left) → IsKept (old dir k) (new dir k)) from
      (λ at below. opened_kept (old dir from) (new dir from) (have.0 ∙ ap (λ (b : List ℕ). Some b) begun.0.reads_same))
      (λ k differs at below. kept_at dir (from + 1) left old new begun.1 have.1 k (omega (arith, at, differs)) (omega (arith, below)))
      n low high

  -- disks that began with what the files had leave them
  pub kept_over : (dir : List ℕ) (left : List D) (old mid new : Files) → AreKept dir (length left) old mid → HaveBegun disks old dir 0 left
      → ArePutBack disks dir left mid new → AreKept dir (length left) old new
  kept_over dir left old mid new kept begun back = record {
    elsewhere = λ d n apart. back.others.elsewhere d n apart ∙ kept.elsewhere d n apart;
    here = λ n. ⊎_elim
        (λ below. kept_at dir 0 left old new begun back.files n (omega arith) (omega (arith, below)))
        (λ far. inl (back.others.here n (inr far) ∙ kept.beyond n far))
        (cases_lt n (length left));
    beyond = λ n far. back.others.here n (inr far) ∙ kept.beyond n far;
  }

-- ---- counts

pub rose_before : (a b c : ℕ) → a ≤ b → Rose b c → Rose a c
rose_before a b c low rose = ⊎_elim (λ more. inl (omega (arith, low, more))) (λ last. inr last) rose

pub rose_behind : (a b c : ℕ) → a ≤ b → Rose a b → b ≤ c → Rose a c
rose_behind a b c low rose high = ⊎_elim
    (λ more. inl (omega (arith, more, high)))
    (λ last. ⊎_elim (λ below. inl below) (λ above. inr (let same : c ≡ b = omega (arith, low, high, above) in same ∙ last)) (cases_lt a c))
    rose

-- ---- the same bytes

pub begun_same : {D : Type 0} (disks : Ghosts D) (files other : Files) (dir : List ℕ) (number : ℕ) (taken : List D)
    → ((n : ℕ) → bytes_at files dir n ≡ bytes_at other dir n) → HaveBegun disks files dir number taken → HaveBegun disks other dir number taken
begun_same disks files other dir number [] same are = tt
begun_same disks files other dir number (disk ∷ taken) same are =
    (subst (λ (b : List ℕ). Keeps (began b) (disks.past disk)) (same number) are.0, begun_same disks files other dir (number + 1) taken same are.1)

-- ---- one file

-- a disk that was opened, read and put back leaves its file
pub put_at : {D : Type 0} (disks : Ghosts D) (dir : List ℕ) (old mid new : Files) (first after : D)
    → mid dir 0 ≡ Some (bytes_at old dir 0) → SameOthers (Some (dir, 0)) old mid → disks.past first ≡ began (bytes_at old dir 0)
    → Keeps (disks.past first) (disks.past after) → disks.mark after ≡ Some (dir, 0)
    → new dir 0 ≡ Some (reads (disks.past after)) → SameOthers (disks.mark after) mid new → AreKept dir 1 old new
put_at disks dir old mid new first after made others opened same marked back rest =
    visit_kept dir 0 old old new (all_kept dir 0 old)
    (opened_kept (old dir 0) (new dir 0) (back ∙ ap (λ (b : List ℕ). Some b) (same.reads_same ∙ ap reads opened)))
    (visited dir 0 (disks.mark after) old mid new others marked rest)

-- ---- answers

pub err_at : {T E : Type 0} (P : E → Type 0) (r : Result T E) (fault : E) → r ≡ Err fault → IfErr r P → P fault
err_at P r fault is told = subst (λ (x : Result _ _). IfErr x P) is told

pub on_ok : {T E : Type 0} (P : Type 0) (r : Result T E) (value : T) → r ≡ Ok value → OnOk r P → P
on_ok P r value is told = subst (λ (x : Result _ _). OnOk x P) is told
