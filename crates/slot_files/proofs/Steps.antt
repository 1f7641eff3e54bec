-- Files made one after another.
use Rattle.std.proofs.Common.{◌≡◌, ◌≢◌, ◌⊎◌, inl, inr, ⊎_elim, ℕ, zero, suc, ◌+◌, ◌<◌, ◌≤◌, List, [], ◌∷◌, length, refl, sym, ◌∙◌, ap, subst, arith}
use Rattle.std.specs.Prelude.{Option, Some, None, unwrap_or}
use Rattle.std.proofs.lemmas.Bool.{cases_eq, cases_lt}
use Rattle.disk_model.specs.Shelf.{SameOthers}
use Rattle.log_journal.specs.File.{file_of}
use Rattle.registry_core.specs.Texts.{slots_payload}
use Rattle.slot_files.specs.Files.{Files, bytes_at, AreMade, SameBut, IsInitial, end_before, StopsAt, KeepsFull}

-- a file that has bytes is there
pub there : (file : Option (List ℕ)) → 0 < length (unwrap_or file []) → Some (unwrap_or file []) ≡ file
there None more = absurd (omega arith)
there (Some bytes) more = refl

abbrev marked_dir : Option (List ℕ × ℕ) → List ℕ
marked_dir None = []
marked_dir (Some mark) = mark.0

abbrev marked_number : Option (List ℕ × ℕ) → ℕ
marked_number None = 0
marked_number (Some mark) = mark.1

-- one file was visited
module _ (dir : List ℕ) (number : ℕ) (old new : Files) (others : SameOthers (Some (dir, number)) old new) where
  pub other_number : (n : ℕ) → n ≢ number → new dir n ≡ old dir n
  other_number n differs = others dir n (λ same. differs (sym (ap marked_number same)))

  pub other_dir : (d : List ℕ) (n : ℕ) → (d ≡ dir → ⊥) → new d n ≡ old d n
  other_dir d n differs = others d n (λ same. differs (sym (ap marked_dir same)))

-- a file was opened, and its disk put back
pub visited : (dir : List ℕ) (number : ℕ) (mark : Option (List ℕ × ℕ)) (old mid new : Files) → SameOthers (Some (dir, number)) old mid → mark ≡ Some (dir, number) → SameOthers mark mid new → SameOthers (Some (dir, number)) old new
visited dir number mark old mid new first is second d n differs = second d n (λ same. differs (sym is ∙ same)) ∙ first d n differs

-- what is known of the file that was visited, or of the others
pub at_or_not : (P : ℕ → Type 0) (number : ℕ) → P number → ((n : ℕ) → n ≢ number → P n) → (n : ℕ) → P n
at_or_not P number here others n = ⊎_elim (λ same. subst P (sym same) here) (others n) (cases_eq n number)

-- within some bounds or outside
pub within_or_not : (end n : ℕ) → ((1 ≤ n) × (n < end)) ⊎ ((n < 1) ⊎ (end ≤ n))
within_or_not end n = ⊎_elim (λ low. inr (inl low)) (λ above. ⊎_elim (λ below. inl (above, below)) (λ high. inr (inr high)) (cases_lt n end)) (cases_lt n 1)

pub none_made : (dir : List ℕ) (files : Files) → AreMade dir 1 files files
none_made dir files = record { were_empty = λ n low high. absurd (omega arith); are_journals = λ n low high. absurd (omega arith) }

pub same_all : (dir : List ℕ) (first end : ℕ) (files : Files) → SameBut dir first end files files
same_all dir first end files = record { elsewhere = λ d n differs. refl; here = λ n out. refl }

-- the registry's file may be one of the others
pub same_with_zero : (dir : List ℕ) (end : ℕ) (old new : Files) → SameBut dir 1 end old new → SameBut dir 0 end old new
same_with_zero dir end old new same = record {
  elsewhere = same.elsewhere;
  here = λ n out. ⊎_elim (λ low. absurd (omega (arith, low))) (λ high. same.here n (inr high)) out;
}

pub same_further : (dir : List ℕ) (end more : ℕ) (old new : Files) → end ≤ more → SameBut dir 1 end old new → SameBut dir 1 more old new
same_further dir end more old new no_less same = record {
  elsewhere = same.elsewhere;
  here = λ n out. ⊎_elim (λ low. same.here n (inl low)) (λ high. same.here n (inr (omega (arith, high, no_less)))) out;
}

module _ (dir : List ℕ) (end : ℕ) (old mid : Files) (made : AreMade dir end old mid) (same : SameBut dir 1 end old mid) where
  -- files that were made had no bytes
  pub kept_so_far : KeepsFull dir old mid
  kept_so_far n full = ⊎_elim (λ inside. absurd (omega (arith, full, ap length (made.were_empty n inside.0 inside.1)))) (λ out. same.here n out) (within_or_not end n)

  -- one more file is visited, which isn't one of these
  module _ (number : ℕ) (new : Files) (fresh : (number < 1) ⊎ (end ≤ number)) (others : SameOthers (Some (dir, number)) mid new) where
    pub bytes_same : bytes_at mid dir number ≡ bytes_at old dir number
    bytes_same = ap (λ (file : Option (List ℕ)). unwrap_or file []) (same.here number fresh)

    outside : (n : ℕ) → 1 ≤ n → n < end → n ≢ number
    outside n low high is = ⊎_elim (λ below. absurd (omega (arith, low, is, below))) (λ above. absurd (omega (arith, high, is, above))) fresh

    pub made_still : AreMade dir end old new
    made_still = record {
      were_empty = made.were_empty;
      are_journals = λ n low high. other_number dir number mid new others n (outside n low high) ∙ made.are_journals n low high;
    }

    elsewhere_still : (d : List ℕ) (n : ℕ) → (d ≡ dir → ⊥) → new d n ≡ old d n
    elsewhere_still d n differs = other_dir dir number mid new others d n differs ∙ same.elsewhere d n differs

    -- the file was left
    pub same_left : new dir number ≡ mid dir number → SameBut dir 1 end old new
    same_left left = record {
      elsewhere = elsewhere_still;
      here = λ n out. at_or_not (λ k. new dir k ≡ mid dir k) number left (other_number dir number mid new others) n ∙ same.here n out;
    }

    pub full_kept : (0 < length (bytes_at mid dir number) → new dir number ≡ mid dir number) → KeepsFull dir old new
    full_kept left = at_or_not (λ k. 0 < length (bytes_at old dir k) → new dir k ≡ old dir k) number
        (λ full. left (omega (arith, full, ap length bytes_same)) ∙ same.here number fresh)
        (λ n differs full. other_number dir number mid new others n differs ∙ kept_so_far n full)

    pub stops : (slots size : ℕ) → number ≤ slots → end_before slots number ≡ end → 0 < size → size ≡ length (bytes_at mid dir number) → new dir number ≡ mid dir number → StopsAt dir slots number size old new
    stops slots size within is_end more size_is left = record {
      within = within;
      size_is = size_is ∙ ap length bytes_same;
      has_bytes = more;
      made = subst (λ (e : ℕ). AreMade dir e old new) (sym is_end) made_still;
      others = subst (λ (e : ℕ). SameBut dir 1 e old new) (sym is_end) (same_left left);
    }

-- the next file was visited
module _ (dir : List ℕ) (next : ℕ) (old mid new : Files) (low : 1 ≤ next) (made : AreMade dir next old mid) (same : SameBut dir 1 next old mid) (others : SameOthers (Some (dir, next)) mid new) where
  pub same_next : SameBut dir 1 (next + 1) old new
  same_next = record {
    elsewhere = λ d n differs. other_dir dir next mid new others d n differs ∙ same.elsewhere d n differs;
    here = λ n out. other_number dir next mid new others n (λ is. ⊎_elim (λ below. absurd (omega (arith, is, below, low))) (λ above. absurd (omega (arith, is, above))) out)
        ∙ same.here n (⊎_elim (λ below. inl below) (λ above. inr (omega (arith, above))) out);
  }

  pub made_next : bytes_at mid dir next ≡ [] → new dir next ≡ Some (file_of next []) → AreMade dir (next + 1) old new
  made_next empty is = record {
    were_empty = at_or_not (λ k. 1 ≤ k → k < next + 1 → bytes_at old dir k ≡ []) next
        (λ above below. sym (bytes_same dir next old mid made same next new (inr (omega arith)) others) ∙ empty)
        (λ n differs above below. made.were_empty n above (omega (arith, differs, below)));
    are_journals = at_or_not (λ k. 1 ≤ k → k < next + 1 → new dir k ≡ Some (file_of k [])) next
        (λ above below. is)
        (λ n differs above below. other_number dir next mid new others n differs ∙ made.are_journals n above (omega (arith, differs, below)));
  }

pub end_at : (slots number : ℕ) → 1 ≤ number → end_before slots number ≡ number
end_at slots zero low = absurd (omega arith)
end_at slots (suc number) low = refl

-- the registry's file is visited last
module _ (dir : List ℕ) (slots : ℕ) (old mid new : Files) (made : AreMade dir (slots + 1) old mid) (same : SameBut dir 1 (slots + 1) old mid) (others : SameOthers (Some (dir, 0)) mid new) where
  pub initial : bytes_at mid dir 0 ≡ [] → new dir 0 ≡ Some (file_of 0 (slots_payload slots ∷ [])) → IsInitial dir slots old new
  initial empty is = record {
    logs = made_still dir (slots + 1) old mid made same 0 new (inl (omega arith)) others;
    was_empty = sym (bytes_same dir (slots + 1) old mid made same 0 new (inl (omega arith)) others) ∙ empty;
    registry = is;
  }

  pub same_last : SameBut dir 0 (slots + 1) old new
  same_last = record {
    elsewhere = λ d n differs. other_dir dir 0 mid new others d n differs ∙ same.elsewhere d n differs;
    here = λ n out. ⊎_elim (λ low. absurd (omega (arith, low))) (λ high. other_number dir 0 mid new others n (λ is. absurd (omega (arith, is, high))) ∙ same.here n (inr high)) out;
  }
