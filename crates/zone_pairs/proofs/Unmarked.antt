-- A patch doesn't begin as a checkpoint.
use Rattle.std.proofs.Common.{◌≡◌, inl, inr, ℕ, List, [], ◌∷◌, ◌++◌, drop, get_or, Some, sym, ◌∙◌, ap, subst, append_assoc, true≢false, arith}
use Rattle.std.specs.Prelude.{IsTrue}
use Rattle.std.specs.List.{flat_map}
use Rattle.patch_rows.specs.declared.codes.Code.{Code}
use Rattle.patch_rows.specs.declared.codes.Code.TheVariants as code
use Rattle.patch_rows.specs.declared.row.Row.{Row}
use Rattle.patch_rows.specs.Grammar.{is_space, IsGap, AreGaps, letters, code_of, RowAt, IsRowAt}
use Rattle.patch_reader.specs.declared.placed.PlacedRow.{PlacedRow}
use Rattle.patch_reader.specs.Rows.{Gap, RowsUpTo}
use Rattle.patch_meaning.specs.Checked.{CheckedPatch}
use Rattle.patch_meaning.specs.Patch.{Meaning, IsPatch, IsWell}
use Rattle.patch_meaning.specs.Roles.{said}
use Rattle.zone_files.specs.Generation.{IsMarked}

heads : (a b : ℕ) (xs ys : List ℕ) → a ∷ xs ≡ b ∷ ys → a ≡ b
heads a b xs ys same = ap (λ (t : List ℕ). get_or t 0 0) same

-- no code begins with the letter
letters-unmarked : (c : Code) (behind rest : List ℕ) → 90 ∷ 32 ∷ rest ≡ letters c ++ behind → ⊥
letters-unmarked code.Header behind rest same = omega (arith, heads 90 72 (32 ∷ rest) behind same)
letters-unmarked code.Begin behind rest same = omega (arith, heads 90 84 (32 ∷ rest) (88 ∷ behind) same)
letters-unmarked code.Commit behind rest same = omega (arith, heads 90 84 (32 ∷ rest) (67 ∷ behind) same)
letters-unmarked code.Abort behind rest same = omega (arith, heads 90 84 (32 ∷ rest) (65 ∷ behind) same)
letters-unmarked code.PrefixAdd behind rest same = omega (arith, heads 90 80 (32 ∷ rest) (65 ∷ behind) same)
letters-unmarked code.PrefixDelete behind rest same = omega (arith, heads 90 80 (32 ∷ rest) (68 ∷ behind) same)
letters-unmarked code.Add behind rest same = omega (arith, heads 90 65 (32 ∷ rest) behind same)
letters-unmarked code.Delete behind rest same = omega (arith, heads 90 68 (32 ∷ rest) behind same)

-- no white space stands before it
one_gap : (gap more rest : List ℕ) → IsGap gap → 90 ∷ 32 ∷ rest ≡ gap ++ more → ⊥
one_gap gap more rest (inl white) same =
    let here : 90 ∷ 32 ∷ rest ≡ white.0 ∷ more = same ∙ ap (λ (t : List ℕ). t ++ more) white.1 in
    let byte : 90 ≡ white.0 = heads 90 white.0 (32 ∷ rest) more here in
    let space : IsTrue (is_space 90) = subst (λ (b : ℕ). IsTrue (is_space b)) (sym byte) white.2 in
    true≢false (sym space)
one_gap gap more rest (inr comment) same =
    let here : 90 ∷ 32 ∷ rest ≡ 35 ∷ (drop 1 gap ++ more) = same ∙ ap (λ (t : List ℕ). t ++ more) comment.1 ∙ ap (λ (t : List ℕ). 35 ∷ (t ++ more)) (sym (ap (drop 1) comment.1)) in
    omega (arith, heads 90 35 (32 ∷ rest) (drop 1 gap ++ more) here)

no_space : (gaps : List (List ℕ)) (after rest : List ℕ) → AreGaps gaps → 90 ∷ 32 ∷ rest ≡ flat_map (λ gap. gap) gaps ++ after → 90 ∷ 32 ∷ rest ≡ after
no_space [] after rest are same = same
no_space (gap ∷ gaps) after rest are same =
    absurd (one_gap gap (flat_map (λ g. g) gaps ++ after) rest are.0 (same ∙ append_assoc gap (flat_map (λ g. g) gaps) after))

begins_row : (text rest : List ℕ) (at : ℕ) (r : Row) (end : ℕ) → 90 ∷ 32 ∷ rest ≡ drop at text → IsRowAt text at r end → ⊥
unfolding IsRowAt RowAt
begins_row text rest at r end same row = letters-unmarked (code_of r) row.0.0.0 rest (same ∙ row.0.0.1.0.1)

begins_rows : (text rest : List ℕ) (rs : List PlacedRow) (m : Meaning) (to : ℕ) → text ≡ 90 ∷ 32 ∷ rest → RowsUpTo text 0 rs to → IsWell (said rs) m → ⊥
begins_rows text rest [] m to marked rows well = let none : [] ≡ Some m.id ∷ [] = well.one_id in cc
begins_rows text rest (r ∷ rs) m to marked rows well =
    let gap : Gap text 0 r.at = rows.0 in
    let space = gap.0 in
    let there : 90 ∷ 32 ∷ rest ≡ space.0 ++ drop r.at text = sym marked ∙ space.1.1 in
    let gaps = space.1.0 in
    let parts : 90 ∷ 32 ∷ rest ≡ flat_map (λ g. g) gaps.0 ++ drop r.at text = there ∙ ap (λ (t : List ℕ). t ++ drop r.at text) gaps.2 in
    begins_row text rest r.at r.row r.end (no_space gaps.0 (drop r.at text) rest gaps.1 parts) rows.1

pub patch-unmarked : (patch : CheckedPatch) → IsPatch patch.text patch.meaning → IsMarked patch.text → ⊥
patch-unmarked patch is marked = begins_rows patch.text marked.0 is.rows_ patch.meaning is.reads.0 marked.1 is.reads.1 is.well
