-- A text has one first fault as a stream at most.
use Rattle.std.proofs.Common.{◌≡◌, ℕ, ◌+◌, ◌<◌, ◌≤◌, Bool, true, false, cond, List, [], ◌∷◌, ◌++◌, length, Some, Option, refl, sym, ap, subst, ◌∙◌, append_assoc, arith}
use Rattle.std.specs.Prelude.{fold}
use Rattle.std.proofs.lemmas.List.Sums.{fold-append}
use Rattle.patch_rows.specs.declared.fault.RowKind.{RowKind}
use Rattle.patch_rows.specs.declared.row.Row.{Row}
use Rattle.patch_rows.specs.Grammar.{IsRowAt}
use Rattle.patch_reader.specs.declared.placed.PlacedRow.{PlacedRow}
use Rattle.patch_reader.specs.Rows.{NoRowAt}
use Rattle.patch_meaning.specs.declared.fault.PatchFault.{PatchFault}
use Rattle.patch_meaning.specs.declared.fault.PatchKind.{PatchKind}
use Rattle.patch_meaning.specs.declared.fault.PatchKind.TheVariants as kinds
use Rattle.log_base.specs.declared.limits.TheConstants.{PATCH_LIMIT}
use Rattle.patch_meaning.specs.Patch.{Meaning, AreTaken, refusal}
use Rattle.patch_meaning.specs.Roles.{role, said, is_open}
use Rattle.patch_meaning.specs.Stream.{StreamPart, Cut, ArePatches, EndsAt, IsPartFault, IsEndFault, IsStreamFault, begins, cut, cut_with, within, refused, too_long, open_block, no_id, next, over}
use Rattle.patch_meaning.specs.Stream as stream
use Rattle.patch_meaning.proofs.OneStream.{IsGood, Later, grew, good_end, good_at, not_all, rows_taken, part_taken, stays, later, cut_on, begun, grown}
use Rattle.patch_meaning.proofs.OneStream as one
use Rattle.patch_meaning.proofs.SameRows.{Compared, same, shorter, longer, compared, one_row_at, no_fault_there, one_fault_at, none_at_end}

-- ---- the last row of a list

init_is : (xs ys : List PlacedRow) (x y : PlacedRow) → xs ++ x ∷ [] ≡ ys ++ y ∷ [] → (xs ≡ ys) × (x ≡ y)
init_is [] [] x y e = (refl, cc)
init_is [] (z ∷ []) x y e = absurd cc
init_is [] (z ∷ w ∷ ys) x y e = absurd cc
init_is (z ∷ []) [] x y e = absurd cc
init_is (z ∷ w ∷ xs) [] x y e = absurd cc
init_is (z ∷ xs) (w ∷ ys) x y e =
    let first : z ≡ w = cc in
    let rest : xs ++ x ∷ [] ≡ ys ++ y ∷ [] = cc in
    let more = init_is xs ys x y rest in
    (ap (λ (q : PlacedRow). q ∷ xs) first ∙ ap (λ (l : List PlacedRow). w ∷ l) more.0, more.1)

last_of : (r : PlacedRow) (more : List PlacedRow) → (front : List PlacedRow) × (q : PlacedRow) × (r ∷ more ≡ front ++ q ∷ [])
last_of r [] = ([], r, refl)
last_of r (s ∷ more) = let rest = last_of s more in (r ∷ rest.0, rest.1, ap (λ (l : List PlacedRow). r ∷ l) rest.2)

-- ---- one fault of a patch

some_same : (o : Option PatchKind) (a b : PatchKind) → o ≡ Some a → o ≡ Some b → a ≡ b
some_same o a b e f = cc

open_closed : {X : Type 0} (b : Bool) → b ≡ true → b ≡ false → X
open_closed b e f = absurd cc

long_short : {X : Type 0} (part : StreamPart) (stop : ℕ) → part.from + PATCH_LIMIT < stop → stop ≤ part.from + PATCH_LIMIT → X
long_short part stop long short = absurd (omega (arith, long, short))

at_end : {X : Type 0} (text : List ℕ) (to : ℕ) → to ≡ length text → to < length text → X
at_end text to last low = absurd (omega (arith, last, low))

row_or_none : {X : Type 0} (text : List ℕ) (to : ℕ) (r : Row) (end : ℕ) (kind : RowKind) (place : ℕ) → IsRowAt text to r end → NoRowAt text to kind place → X
row_or_none text to r end kind place there none = absurd (no_fault_there text to r end kind place there none)

-- a row or no row, where the patch ends
row_or_end : {X : Type 0} (text : List ℕ) (part : StreamPart) (to at : ℕ) (kind : RowKind) → NoRowAt text to kind at → EndsAt text part to → X
row_or_end text part to at kind none (next r end there first) = row_or_none text to r end kind at there none
row_or_end text part to at kind none (over last some) = at_end text to last none.0

module _ (part : StreamPart) (to : ℕ) (f g : PatchFault) where
  same_end : IsEndFault part to f → IsEndFault part to g → f ≡ g
  same_end (too_long long is) (too_long long2 is2) = is ∙ sym is2
  same_end (too_long long is) (open_block short inside is2) = long_short part to long short
  same_end (too_long long is) (no_id short outside ids is2) = long_short part to long short
  same_end (open_block short inside is) (too_long long is2) = long_short part to long short
  same_end (open_block short inside is) (open_block short2 inside2 is2) = is ∙ sym is2
  same_end (open_block short inside is) (no_id short2 outside ids is2) = open_closed (is_open (said part.rows_)) inside outside
  same_end (no_id short outside ids is) (too_long long is2) = long_short part to long short
  same_end (no_id short outside ids is) (open_block short2 inside is2) = open_closed (is_open (said part.rows_)) inside outside
  same_end (no_id short outside ids is) (no_id short2 outside2 ids2 is2) = is ∙ sym is2

same_refused : (part : StreamPart) (front ends : List PlacedRow) (r s : PlacedRow) (kind other : PatchKind) → front ≡ ends → r ≡ s → refusal (said front) (role r.row) ≡ Some kind → refusal (said ends) (role s.row) ≡ Some other
    → within part.from r.at kind ≡ within part.from s.at other
same_refused part front ends r s kind other fronts rows_ refuses refuses2 =
    ap (λ (q : PlacedRow). within part.from q.at kind) rows_
    ∙ ap (within part.from s.at)
    (some_same (refusal (said ends) (role s.row)) kind other (ap (λ (l : List PlacedRow). refusal (said l) (role s.row)) (sym fronts) ∙ ap (λ (q : PlacedRow). refusal (said front) (role q.row)) (sym rows_) ∙ refuses) refuses2)

module _ (text : List ℕ) (part : StreamPart) (to : ℕ) (f g : PatchFault) where
  same_fault : IsPartFault text part to f → IsPartFault text part to g → f ≡ g
  same_fault (refused front r kind rows_ taken refuses is) (refused ends s other rows2 taken2 refuses2 is2) =
      let one = init_is front ends r s (sym rows_ ∙ rows2) in is ∙ same_refused part front ends r s kind other one.0 one.1 refuses refuses2 ∙ sym is2
  same_fault (refused front r kind rows_ taken refuses is) (stream.no_row at other all none is2) = not_all part.rows_ front r kind rows_ refuses all
  same_fault (refused front r kind rows_ taken refuses is) (stream.ended all ends is2) = not_all part.rows_ front r kind rows_ refuses all
  same_fault (stream.no_row at kind all none is) (refused front r other rows_ taken refuses is2) = not_all part.rows_ front r other rows_ refuses all
  same_fault (stream.no_row at kind all none is) (stream.no_row place other all2 none2 is2) =
      let one = one_fault_at text to kind other at place none none2 in
      is ∙ ap (λ (k : RowKind). within part.from at (kinds.Row k)) one.0 ∙ ap (λ (n : ℕ). within part.from n (kinds.Row other)) one.1 ∙ sym is2
  same_fault (stream.no_row at kind all none is) (stream.ended all2 ends is2) = row_or_end text part to at kind none ends
  same_fault (stream.ended all ends is) (refused front r other rows_ taken refuses is2) = not_all part.rows_ front r other rows_ refuses all
  same_fault (stream.ended all ends is) (stream.no_row at kind all2 none is2) = row_or_end text part to at kind none ends
  same_fault (stream.ended all ends is) (stream.ended all2 ends2 is2) = same_end part to f g is is2

-- ---- a patch that is complete has no fault

good_done : (rs more : List PlacedRow) (r : PlacedRow) (ms : List Meaning) → begins (said (cut rs).last.rows_) (role r.row) ≡ true
    → ArePatches (cut (rs ++ r ∷ more)).done (cut (rs ++ r ∷ more)).last.from ms → IsGood (cut rs).last r.at
good_done rs more r ms first are =
    let d : Cut = fold cut_with (begun (cut rs) r) more in
    let whole : cut (rs ++ r ∷ more) ≡ d =
    fold-append cut_with (record { done = []; last = record { from = 0; rows_ = [] } }) rs (r ∷ more) ∙ ap (λ (b : Bool). fold cut_with (cond b (begun (cut rs) r) (grown (cut rs) r)) more) first in
    let on = stays (begun (cut rs) r) more in
    subst (IsGood (cut rs).last) on.2
    (good_at (cut rs).done (cut rs).last on.0 d.last.from ms
    (subst (λ (parts : List StreamPart). ArePatches parts d.last.from ms) (on.1 ∙ append_assoc (cut rs).done ((cut rs).last ∷ []) on.0) (subst (λ (c : Cut). ArePatches c.done c.last.from ms) whole are)))

-- the rows of the last patch but its last one may stand
abbrev AreTakenBefore : List PlacedRow → Type 0
AreTakenBefore rs = (front : List PlacedRow) (q : PlacedRow) → rs ≡ front ++ q ∷ [] → AreTaken (said front)

all_before : (rs : List PlacedRow) → AreTaken (said rs) → AreTakenBefore rs
all_before rs all front q e = rows_taken front (q ∷ []) (subst (λ (l : List PlacedRow). AreTaken (said l)) e all)

taken_before : (text : List ℕ) (part : StreamPart) (to : ℕ) (fault : PatchFault) → IsPartFault text part to fault → AreTakenBefore part.rows_
taken_before text part to fault (refused front r kind rows_ taken refuses is) =
    λ init q e. subst (λ (l : List PlacedRow). AreTaken (said l)) (init_is front init r q (sym rows_ ∙ e)).0 taken
taken_before text part to fault (stream.no_row at kind all none is) = all_before part.rows_ all
taken_before text part to fault (stream.ended all ends is) = all_before part.rows_ all

-- the last patch of the first rows may stand
earlier_taken : (rs more : List PlacedRow) (r : PlacedRow) (ms : List Meaning) → ArePatches (cut (rs ++ r ∷ more)).done (cut (rs ++ r ∷ more)).last.from ms → AreTakenBefore (cut (rs ++ r ∷ more)).last.rows_
    → AreTaken (said (cut rs).last.rows_)
earlier_taken rs more r ms are before = by (later (cut rs) (r ∷ more))
  where
    d : Cut
    d = fold cut_with (cut rs) (r ∷ more)

    by : Later (cut rs) d (r ∷ more) → AreTaken (said (cut rs).last.rows_)
    by (grew rows_) =
        let last = last_of r more in
        rows_taken (cut rs).last.rows_ last.0
        (before ((cut rs).last.rows_ ++ last.0) last.1
        (ap (λ (c : Cut). c.last.rows_) (cut_on rs (r ∷ more)) ∙ rows_ ∙ ap (λ (l : List PlacedRow). (cut rs).last.rows_ ++ l) last.2 ∙ sym (append_assoc (cut rs).last.rows_ last.0 (last.1 ∷ []))))
    by (one.ended front ps q qs done rows_) =
        part_taken ps q qs d.last.from ms (cut rs).last.rows_ front
        (subst (λ (l : List StreamPart). ArePatches l d.last.from ms) done (subst (λ (c : Cut). ArePatches c.done c.last.from ms) (cut_on rs (r ∷ more)) are)) rows_

-- no more rows were read behind a fault
no_more : (text : List ℕ) (f g : PatchFault) (p : IsStreamFault text f) (q : IsStreamFault text g) (more : List PlacedRow) (r : PlacedRow) → q.rows_ ≡ p.rows_ ++ r ∷ more → r.at ≡ p.to → IsRowAt text p.to r.row r.end → ⊥
no_more text f g p q more r all at there = by p.fault_is
  where
    last : StreamPart
    last = (cut p.rows_).last

    well : ArePatches (cut (p.rows_ ++ r ∷ more)).done (cut (p.rows_ ++ r ∷ more)).last.from q.before
    well = subst (λ (l : List PlacedRow). ArePatches (cut l).done (cut l).last.from q.before) all q.well

    by : IsPartFault text last p.to f → ⊥
    by (refused front s kind rows_ taken refuses is) =
        not_all last.rows_ front s kind rows_ refuses
        (earlier_taken p.rows_ more r q.before well (subst (λ (l : List PlacedRow). AreTakenBefore (cut l).last.rows_) all (taken_before text (cut q.rows_).last q.to g q.fault_is)))
    by (stream.no_row place kind taken none is) = no_fault_there text p.to r.row r.end kind place there none
    by (stream.ended taken (next s end other first) is) =
        let one = one_row_at text p.to r.row s r.end end there other in
        good_end last p.to f (subst (IsGood last) at (good_done p.rows_ more r q.before (ap (λ (x : Row). begins (said last.rows_) (role x)) one.0 ∙ first) well)) is
    by (stream.ended taken (over end some) is) = none_at_end text p.to r.row r.end end there

pub one_stream_fault : (text : List ℕ) (f g : PatchFault) → IsStreamFault text f → IsStreamFault text g → f ≡ g
one_stream_fault text f g p q = by (compared text 0 p.rows_ p.to q.rows_ q.to p.reads q.reads)
  where
    by : Compared text p.rows_ p.to q.rows_ q.to → f ≡ g
    by (same rows_ to) =
        same_fault text (cut q.rows_).last q.to f g
        (subst (λ (n : ℕ). IsPartFault text (cut q.rows_).last n f) to (subst (λ (l : List PlacedRow). IsPartFault text (cut l).last p.to f) rows_ p.fault_is))
        q.fault_is
    by (shorter r more rows_ at there) = absurd (no_more text f g p q more r rows_ at there)
    by (longer r more rows_ at there) = absurd (no_more text g f q p more r rows_ at there)
