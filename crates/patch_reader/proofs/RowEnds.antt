-- What isn't cut ends white space and comments; what is cut begins no row that is decided.
use Rattle.std.proofs.Common.{◌≡◌, ℕ, ◌≤◌, true, false, List, [], ◌∷◌, ◌++◌, length, subst, ⊎_elim, arith}
use Rattle.std.specs.Char.{is_ascii_alphabetic}
use Rattle.nquads_text.specs.declared.fault.TextKind.TheVariants.{BadToken}
use Rattle.patch_rows.specs.declared.fault.RowKind.TheVariants.{Common}
use Rattle.patch_rows.specs.Grammar.{Space, row_limit}
use Rattle.patch_rows.specs.Reading.{skip_space, word_at}
use Rattle.patch_rows.specs.Rows.{live_row, row_of}
use Rattle.patch_rows.proofs.SpaceLaws.{skipped}
use Rattle.patch_rows.specs.Cut.{AtEnd, is_cut}
use Rattle.patch_reader.proofs.Completions.{front_length}
use Rattle.patch_reader.proofs.RowStays.{end_then, cut_stands, no_letter, cut_other, space_stays}

pub space_there : (text : List ℕ) → (is_cut (skip_space text) ≡ true → ⊥) → (more : List ℕ) → Space (text ++ more) (skip_space text ++ more)
space_there text some = λ more. ⊎_elim
    (λ cut. absurd (some cut))
    (λ same. subst (λ (t : List ℕ). Space (text ++ more) t) same (skipped (text ++ more)))
    (space_stays more false 0 text)

cut_word : (from : List ℕ) → is_cut from ≡ true → AtEnd (word_at from)
unfolding word_at
cut_word from e = rw (cut_stands is_ascii_alphabetic from no_letter e) (cut_other (Common BadToken) from e)

pub cut_row : (from : List ℕ) → is_cut from ≡ true → AtEnd (live_row from)
unfolding row_of
cut_row from e = end_then (word_at from) _ (cut_word from e)

pub cut_short : (from : List ℕ) → is_cut from ≡ true → length from ≤ row_limit
cut_short [] e = omega arith
cut_short (b ∷ from) e = let short = front_length (b ∷ from) e in omega (arith, short)
