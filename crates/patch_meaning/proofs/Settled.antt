-- A text is one patch at most, and never one with a fault; it has one first fault at most.
use Rattle.std.proofs.Common.{◌≡◌, ℕ, Bool, true, false, List, ◌∷◌, ◌++◌, length, Some, None, Option, refl, sym, ap, subst, ◌∙◌, arith}
use Rattle.std.proofs.lemmas.List.{map-append}
use Rattle.patch_rows.specs.declared.fault.RowKind.{RowKind}
use Rattle.patch_rows.specs.declared.row.Row.{Row}
use Rattle.patch_rows.specs.Grammar.{IsRowAt}
use Rattle.patch_meaning.specs.declared.fault.PatchFault.{PatchFault}
use Rattle.patch_meaning.specs.declared.fault.PatchFault.TheVariants as faults
use Rattle.patch_meaning.specs.declared.fault.PatchKind.{PatchKind}
use Rattle.patch_meaning.specs.declared.fault.PatchKind.TheVariants as kinds
use Rattle.patch_meaning.specs.Patch.{Meaning, IsWell, IsPatch, IsPatchFault, IsRowsFault, AreTaken, refusal, too_long, rows_, no_row, refused, open_block, no_id}
use Rattle.patch_meaning.specs.Roles.{role, said, is_open}
use Rattle.patch_reader.specs.declared.placed.PlacedRow.{PlacedRow}
use Rattle.patch_reader.specs.Rows.{NoRowAt}
use Rattle.patch_meaning.proofs.SameRows.{Compared, same, shorter, longer, compared, one_row_at, no_fault_there, one_fault_at, none_at_end}
use Rattle.patch_meaning.proofs.WellTaken.{well_closed, well_taken, next_taken, same_meaning}

-- ---- one patch

said_there : (rs more : List PlacedRow) (r : PlacedRow) → said (rs ++ r ∷ more) ≡ said rs ++ role r.row ∷ said more
said_there rs more r = map-append (λ (r : PlacedRow). role r.row) rs (r ∷ more)

pub one_meaning : (text : List ℕ) (m n : Meaning) → IsPatch text m → IsPatch text n → m ≡ n
one_meaning text m n p q = by (compared text 0 p.rows_ (length text) q.rows_ (length text) p.reads q.reads)
  where
    by : Compared text p.rows_ (length text) q.rows_ (length text) → m ≡ n
    by (same rs place) = same_meaning (said p.rows_) m n p.well (subst (λ (l : List PlacedRow). IsWell (said l) n) (sym rs) q.well)
    by (shorter r more rs at there) = absurd (none_at_end text (length text) r.row r.end refl there)
    by (longer r more rs at there) = absurd (none_at_end text (length text) r.row r.end refl there)

-- ---- no fault

some_none : {X : Type 0} (o : Option PatchKind) (why : PatchKind) → o ≡ None → o ≡ Some why → X
some_none o why e f = absurd cc

-- rows that may stand, one of which stands where others have a fault, don't have it
no_rows_fault : (text : List ℕ) (rs more : List PlacedRow) (r : PlacedRow) (to : ℕ) (fault : PatchFault) → AreTaken (said (rs ++ r ∷ more)) → IsRowAt text to r.row r.end → IsRowsFault text rs to fault → ⊥
no_rows_fault text rs more r to fault taken there (no_row at kind none is) = no_fault_there text to r.row r.end kind at there none
no_rows_fault text rs more r to fault taken there (refused s end why other refuses is) =
    let one = one_row_at text to r.row s r.end end there other in
    some_none (refusal (said rs) (role r.row)) why (next_taken (said rs) (said more) (role r.row) (subst AreTaken (said_there rs more r) taken)) (ap (λ (q : Row). refusal (said rs) (role q)) one.0 ∙ refuses)
no_rows_fault text rs more r to fault taken there (open_block last inside is) = none_at_end text to r.row r.end last there
no_rows_fault text rs more r to fault taken there (no_id last outside none is) = none_at_end text to r.row r.end last there

open_closed : {X : Type 0} (b : Bool) → b ≡ true → b ≡ false → X
open_closed b e f = absurd cc

-- a whole patch has no fault at its end
no_end_fault : (text : List ℕ) (rs : List PlacedRow) (m : Meaning) (to : ℕ) (fault : PatchFault) → IsWell (said rs) m → to ≡ length text → IsRowsFault text rs to fault → ⊥
no_end_fault text rs m to fault w last (no_row at kind none is) = absurd (let low = none.0 in omega arith)
no_end_fault text rs m to fault w last (refused r end why there refuses is) = none_at_end text to r end last there
no_end_fault text rs m to fault w last (open_block end inside is) = open_closed (is_open (said rs)) inside (well_closed (said rs) m w)
no_end_fault text rs m to fault w last (no_id end outside none is) = absurd (let one = w.one_id in cc)

pub never_both : (text : List ℕ) (m : Meaning) (fault : PatchFault) → IsPatch text m → IsPatchFault text fault → ⊥
never_both text m fault p (too_long long is) = absurd (let short = p.short in omega arith)
never_both text m fault p (rows_ rs to short reads taken is) = by (compared text 0 p.rows_ (length text) rs to p.reads reads)
  where
    by : Compared text p.rows_ (length text) rs to → ⊥
    by (same all place) = no_end_fault text rs m to fault (subst (λ (l : List PlacedRow). IsWell (said l) m) all p.well) (sym place) is
    by (shorter r more all at there) = none_at_end text (length text) r.row r.end refl there
    by (longer r more all at there) = no_rows_fault text rs more r to fault (subst (λ (l : List PlacedRow). AreTaken (said l)) all (well_taken (said p.rows_) m p.well)) there is

-- ---- one fault

some_same : (o : Option PatchKind) (a b : PatchKind) → o ≡ Some a → o ≡ Some b → a ≡ b
some_same o a b e f = cc

ends_there : (text : List ℕ) (to : ℕ) (kind : RowKind) (at : ℕ) → to ≡ length text → NoRowAt text to kind at → ⊥
ends_there text to kind at last none = absurd (let low = none.0 in omega arith)

same_rows_fault : (text : List ℕ) (rs : List PlacedRow) (to : ℕ) (f g : PatchFault) → IsRowsFault text rs to f → IsRowsFault text rs to g → f ≡ g
same_rows_fault text rs to f g (no_row at kind none is) (no_row there other none2 is2) =
    let one = one_fault_at text to kind other at there none none2 in
    is ∙ ap (λ (k : RowKind). faults.At at (kinds.Row k)) one.0 ∙ ap (λ (n : ℕ). faults.At n (kinds.Row other)) one.1 ∙ sym is2
same_rows_fault text rs to f g (no_row at kind none is) (refused r end why there refuses is2) = absurd (no_fault_there text to r end kind at there none)
same_rows_fault text rs to f g (no_row at kind none is) (open_block last inside is2) = absurd (ends_there text to kind at last none)
same_rows_fault text rs to f g (no_row at kind none is) (no_id last outside ids is2) = absurd (ends_there text to kind at last none)
same_rows_fault text rs to f g (refused r end why there refuses is) (no_row at kind none is2) = absurd (no_fault_there text to r end kind at there none)
same_rows_fault text rs to f g (refused r end why there refuses is) (refused s stop other there2 refuses2 is2) =
    let one = one_row_at text to r s end stop there there2 in
    is ∙ ap (λ (w : PatchKind). faults.At to w) (some_same (refusal (said rs) (role s)) why other (ap (λ (q : Row). refusal (said rs) (role q)) (sym one.0) ∙ refuses) refuses2) ∙ sym is2
same_rows_fault text rs to f g (refused r end why there refuses is) (open_block last inside is2) = absurd (none_at_end text to r end last there)
same_rows_fault text rs to f g (refused r end why there refuses is) (no_id last outside ids is2) = absurd (none_at_end text to r end last there)
same_rows_fault text rs to f g (open_block last inside is) (no_row at kind none is2) = absurd (ends_there text to kind at last none)
same_rows_fault text rs to f g (open_block last inside is) (refused r end why there refuses is2) = absurd (none_at_end text to r end last there)
same_rows_fault text rs to f g (open_block last inside is) (open_block last2 inside2 is2) = is ∙ sym is2
same_rows_fault text rs to f g (open_block last inside is) (no_id last2 outside ids is2) = open_closed (is_open (said rs)) inside outside
same_rows_fault text rs to f g (no_id last outside ids is) (no_row at kind none is2) = absurd (ends_there text to kind at last none)
same_rows_fault text rs to f g (no_id last outside ids is) (refused r end why there refuses is2) = absurd (none_at_end text to r end last there)
same_rows_fault text rs to f g (no_id last outside ids is) (open_block last2 inside is2) = open_closed (is_open (said rs)) inside outside
same_rows_fault text rs to f g (no_id last outside ids is) (no_id last2 outside2 ids2 is2) = is ∙ sym is2

pub one_fault : (text : List ℕ) (f g : PatchFault) → IsPatchFault text f → IsPatchFault text g → f ≡ g
one_fault text f g (too_long long is) (too_long long2 is2) = is ∙ sym is2
one_fault text f g (too_long long is) (rows_ rs to short reads taken is2) = absurd (let a = long in let b = short in omega arith)
one_fault text f g (rows_ rs to short reads taken is) (too_long long is2) = absurd (let a = long in let b = short in omega arith)
one_fault text f g (rows_ rs to short reads taken is) (rows_ ss stop short2 reads2 taken2 is2) = by (compared text 0 rs to ss stop reads reads2)
  where
    by : Compared text rs to ss stop → f ≡ g
    by (same all place) = same_rows_fault text ss stop f g (subst (λ (n : ℕ). IsRowsFault text ss n f) place (subst (λ (l : List PlacedRow). IsRowsFault text l to f) all is)) is2
    by (shorter r more all at there) = absurd (no_rows_fault text rs more r to f (subst (λ (l : List PlacedRow). AreTaken (said l)) all taken2) there is)
    by (longer r more all at there) = absurd (no_rows_fault text ss more r stop g (subst (λ (l : List PlacedRow). AreTaken (said l)) all taken) there is2)
