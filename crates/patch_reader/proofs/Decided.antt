-- A row that isn't unfinished is decided: it, or its fault, stands there whatever follows.
use Rattle.std.proofs.Common.{◌≡◌, ℕ, ◌+◌, ◌<◌, ◌≤◌, Bool, true, false, List, [], length, drop, Some, None, Ok, Err, refl, sym, ap, subst, ◌∙◌, ⊎_elim, append-nil, arith}
use Rattle.std.proofs.lemmas.Bool.{cases_lt}
use Rattle.patch_rows.specs.declared.fault.RowFault.TheVariants as faults
use Rattle.patch_rows.specs.declared.cut.TextEnd.TheVariants as ends
use Rattle.patch_rows.specs.declared.row.Row.{Row}
use Rattle.patch_rows.specs.Cut.{AtEnd, ends_row}
use Rattle.patch_rows.specs.Fault.{Fault, Read}
use Rattle.patch_rows.specs.Grammar.{Space, row_limit}
use Rattle.patch_rows.specs.Reading.{skip_space}
use Rattle.patch_rows.specs.Rows.{live_row}
use Rattle.patch_rows.proofs.FaultPlaces.{first_end}
use Rattle.patch_rows.proofs.Slices.{end_place, row_end}
use Rattle.patch_rows.proofs.SpaceLaws.{skipped}
use Rattle.patch_reader.specs.declared.front.Region.TheVariants as regions
use Rattle.patch_reader.specs.declared.progress.RowProgress.{RowProgress}
use Rattle.patch_reader.specs.Decided.{ShortRowDecided, FirstFaultDecided}
use Rattle.patch_reader.specs.Held.{IsDecided}
use Rattle.patch_reader.specs.Limit.{front_row_at}
use Rattle.patch_reader.specs.Places.{further_place, placed_row}
use Rattle.patch_reader.specs.Progress.{HasFollowed, IsUnfinished}
use Rattle.patch_reader.specs.Rows.{NothingDecided, KeepsText}
use Rattle.patch_reader.proofs.Answered.{further, starts}
use Rattle.patch_reader.proofs.Limits.{IsDecided as IsGiven, decided_front}
use Rattle.patch_reader.proofs.Kept.{next_given}
use Rattle.patch_reader.proofs.Limits.{short_row, short_fault, row_now, fault_now}
use Rattle.patch_reader.proofs.RowEnds.{cut_row, cut_short}
use Rattle.patch_reader.proofs.WindowSteps.{stops_moved}

-- the rest of a text begins with the row, and nothing is decided from there on
module _ (text rest : List ℕ) (at : ℕ) (keeps : KeepsText text at rest) (out : skip_space rest ≡ rest) (none : NothingDecided text (at + 0)) where
  space : Space rest rest
  space = subst (Space rest) out (skipped rest)

  no_row : (r : Row) (after : List ℕ) → ShortRowDecided rest r after → ⊥
  no_row r after d =
      let end = end_place rest 0 after (omega arith) (row_end rest r after (row_now rest r after d).0) in
      let here = subst (ShortRowDecided rest r) (sym end.1) d in
      none.0 (placed_row at r 0 end.0) (next_given ends.Open text rest at 0 0 (Ok (Some (r, end.0))) (omega arith) (omega arith) space (here, further rest 0 end.0 r end.3 here, end.3) keeps)

  no_fault : (f : Fault) → 0 < length rest → FirstFaultDecided rest f → ⊥
  no_fault f some d =
      let place = end_place rest 0 f.1 (omega arith) (first_end rest f (fault_now rest f d)) in
      none.1 f.0 (further_place at place.0) (next_given ends.Open text rest at 0 0 (Err (faults.At place.0 f.0)) (omega arith) (omega arith) space
      (subst (λ (t : List ℕ). FirstFaultDecided rest (f.0, t)) (sym place.1) d, some, place.3) keeps)

  no_given : (r : Read Row) → 0 < length rest → IsGiven rest r → ⊥
  no_given (Ok x) some d = no_row x.0 x.1 d
  no_given (Err f) some d = no_fault f some d

  is_unfinished : (IsUnfinished rest → ⊥) → ⊥
  is_unfinished decided = ⊎_elim (λ long. no_given (front_row_at rest) some (decided_front rest long)) (λ short. by short (live_row rest) refl) (cases_lt row_limit (length rest))
    where
      some : 0 < length rest
      some = starts rest 0 (λ is. decided (subst IsUnfinished (sym is) (cut_short [] refl, cut_row [] refl)))

      by : length rest ≤ row_limit → (r : Read Row) → live_row rest ≡ r → ⊥
      by short (Ok x) e = no_row x.0 x.1 (short_row rest x.0 x.1 short e)
      by short (Err f) e = met (ends_row f.0 f.1) refl
        where
          met : (cut : Bool) → ends_row f.0 f.1 ≡ cut → ⊥
          met true o = decided (short, subst AtEnd (sym e) o)
          met false o = no_fault f some (short_fault rest f short e o)

pub row_decided : (rest : List ℕ) (p : RowProgress) → (HasFollowed rest p → IsUnfinished rest → ⊥) → IsDecided rest (regions.Row (Some p))
row_decided rest p decided = λ text passed at (keeps, order, is) none.
    let within = keeps.1 in
    let none_here = stops_moved ends.Open text at passed None (omega (arith, order, within)) within (λ more. is.1 more ∙ sym (is.0 more)) none in
    let here : skip_space rest ≡ rest = ap skip_space (sym keeps.0) ∙ subst (λ (t : List ℕ). skip_space (drop at t) ≡ drop at t) (append-nil text) (is.1 []) ∙ keeps.0 in
    is_unfinished text rest at keeps here (subst (NothingDecided text) (let sum : at ≡ at + 0 = omega arith in sum) none_here) (decided is.3)
