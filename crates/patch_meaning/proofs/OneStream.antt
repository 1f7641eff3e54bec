-- A text is a stream of one list of patches at most, and never one with a fault.
use Rattle.std.proofs.Common.{◌≡◌, ℕ, ◌+◌, ◌≤◌, Bool, true, false, cond, List, [], ◌∷◌, ◌++◌, length, Some, None, Option, refl, sym, ap, subst, ◌∙◌, append_assoc, append-nil, arith}
use Rattle.std.specs.Prelude.{fold}
use Rattle.std.proofs.lemmas.List.{map-append}
use Rattle.std.proofs.lemmas.List.Sums.{fold-append}
use Rattle.patch_rows.specs.declared.row.Row.{Row}
use Rattle.patch_rows.specs.Grammar.{IsRowAt}
use Rattle.patch_meaning.specs.declared.fault.PatchFault.{PatchFault}
use Rattle.patch_meaning.specs.declared.fault.PatchKind.{PatchKind}
use Rattle.log_base.specs.declared.limits.TheConstants.{PATCH_LIMIT}
use Rattle.patch_meaning.specs.Patch.{Meaning, IsWell, AreTaken, AreTakenFrom, refusal}
use Rattle.patch_meaning.specs.Roles.{role, said, is_open}
use Rattle.patch_reader.specs.declared.placed.PlacedRow.{PlacedRow}
use Rattle.patch_meaning.specs.Stream.{StreamPart, Cut, ArePatches, AreStream, IsStream, IsPartFault, IsEndFault, IsStreamFault, begins, cut, cut_with, stop_of, refused, too_long, open_block, no_id, next, over}
use Rattle.patch_meaning.specs.Stream as stream
use Rattle.patch_meaning.specs.declared.role.Role.{Role}
use Rattle.patch_meaning.proofs.Cuts.{not_empty}
use Rattle.patch_meaning.proofs.SameRows.{Compared, same, shorter, longer, compared, one_row_at, no_fault_there, none_at_end}
use Rattle.patch_meaning.proofs.WellTaken.{well_closed, well_taken, next_taken, same_meaning}

-- ---- one list of patches

same_patches : (parts : List StreamPart) (stop : ℕ) (ms ns : List Meaning) → ArePatches parts stop ms → ArePatches parts stop ns → ms ≡ ns
same_patches [] stop [] [] are other = refl
same_patches [] stop [] (n ∷ ns) are other = absurd other
same_patches [] stop (m ∷ ms) ns are other = absurd are
same_patches (part ∷ parts) stop [] ns are other = absurd are
same_patches (part ∷ parts) stop (m ∷ ms) [] are other = absurd other
same_patches (part ∷ parts) stop (m ∷ ms) (n ∷ ns) are other =
    ap (λ (x : Meaning). x ∷ ms) (same_meaning (said part.rows_) m n are.0 other.0) ∙ ap (λ (l : List Meaning). n ∷ l) (same_patches parts stop ms ns are.2 other.2)

same_stream_rows : (rs : List PlacedRow) (stop : ℕ) (ms ns : List Meaning) → AreStream rs stop ms → AreStream rs stop ns → ms ≡ ns
same_stream_rows [] stop ms ns are other = are ∙ sym other
same_stream_rows (r ∷ rs) stop ms ns are other = same_patches ((cut (r ∷ rs)).done ++ (cut (r ∷ rs)).last ∷ []) stop ms ns are other

pub same_stream : (text : List ℕ) (ms ns : List Meaning) → IsStream text ms → IsStream text ns → ms ≡ ns
same_stream text ms ns p q = by (compared text 0 p.rows_ (length text) q.rows_ (length text) p.reads q.reads)
  where
    by : Compared text p.rows_ (length text) q.rows_ (length text) → ms ≡ ns
    by (same rs place) = same_stream_rows p.rows_ (length text) ms ns p.stream (subst (λ (l : List PlacedRow). AreStream l (length text) ns) (sym rs) q.stream)
    by (shorter r more rs at there) = absurd (none_at_end text (length text) r.row r.end refl there)
    by (longer r more rs at there) = absurd (none_at_end text (length text) r.row r.end refl there)

-- ---- a part that is a patch has no fault

-- the part is a patch that stops there
abbrev pub IsGood : StreamPart → ℕ → Type 0
IsGood part stop = (m : Meaning) × IsWell (said part.rows_) m × (stop ≤ part.from + PATCH_LIMIT)

some_none : {X : Type 0} (o : Option PatchKind) (why : PatchKind) → o ≡ None → o ≡ Some why → X
some_none o why e f = absurd cc

open_closed : {X : Type 0} (b : Bool) → b ≡ true → b ≡ false → X
open_closed b e f = absurd cc

pub good_end : (part : StreamPart) (stop : ℕ) (fault : PatchFault) → IsGood part stop → IsEndFault part stop fault → ⊥
good_end part stop fault good (too_long long is) = absurd (let short = good.2 in omega arith)
good_end part stop fault good (open_block short inside is) = open_closed (is_open (said part.rows_)) inside (well_closed (said part.rows_) good.0 good.1)
good_end part stop fault good (no_id short outside ids is) = absurd (let one = good.1.one_id in cc)

-- where the last row is refused, not all may stand
pub not_all : {X : Type 0} (rs front : List PlacedRow) (r : PlacedRow) (kind : PatchKind) → rs ≡ front ++ r ∷ [] → refusal (said front) (role r.row) ≡ Some kind → AreTaken (said rs) → X
not_all rs front r kind parts refuses taken =
    some_none (refusal (said front) (role r.row)) kind
    (next_taken (said front) [] (role r.row) (subst AreTaken (ap said parts ∙ map-append (λ (q : PlacedRow). role q.row) front (r ∷ [])) taken))
    refuses

-- the first of rows that may stand
front_taken : (before rs more : List Role) → AreTakenFrom before (rs ++ more) → AreTakenFrom before rs
front_taken before [] more taken = tt
front_taken before (r ∷ rs) more taken = (taken.0, front_taken (before ++ r ∷ []) rs more taken.1)

pub rows_taken : (rs more : List PlacedRow) → AreTaken (said (rs ++ more)) → AreTaken (said rs)
rows_taken rs more taken = front_taken [] (said rs) (said more) (subst AreTaken (map-append (λ (q : PlacedRow). role q.row) rs more) taken)

good_taken : (part : StreamPart) (stop : ℕ) → IsGood part stop → AreTaken (said part.rows_)
good_taken part stop good = well_taken (said part.rows_) good.0 good.1

-- a part among patches stops where the next one begins
good_before : (xs : List StreamPart) (p q : StreamPart) (ys : List StreamPart) (stop : ℕ) (ms : List Meaning) → ArePatches (xs ++ p ∷ q ∷ ys) stop ms → IsGood p q.from
good_before [] p q ys stop [] are = absurd are
good_before [] p q ys stop (m ∷ ms) are = (m, are.0, are.1)
good_before (x ∷ xs) p q ys stop [] are = absurd are
good_before (x ∷ xs) p q ys stop (m ∷ ms) are = good_before xs p q ys stop ms are.2

good_last : (xs : List StreamPart) (p : StreamPart) (stop : ℕ) (ms : List Meaning) → ArePatches (xs ++ p ∷ []) stop ms → IsGood p stop
good_last [] p stop [] are = absurd are
good_last [] p stop (m ∷ ms) are = (m, are.0, are.1)
good_last (x ∷ xs) p stop [] are = absurd are
good_last (x ∷ xs) p stop (m ∷ ms) are = good_last xs p stop ms are.2

-- ---- what more rows add

abbrev parts_of : Cut → List StreamPart
parts_of c = c.done ++ c.last ∷ []

abbrev pub begun : Cut → PlacedRow → Cut
begun c r = record { done = c.done ++ c.last ∷ []; last = record { from = r.at; rows_ = r ∷ [] } }

abbrev pub grown : Cut → PlacedRow → Cut
grown c r = record { done = c.done; last = record { from = c.last.from; rows_ = c.last.rows_ ++ r ∷ [] } }

-- the parts behind those that are complete begin where the last one does
abbrev GoOn : Cut → Cut → Type 0
GoOn c d = (q : StreamPart) × (qs : List StreamPart) × (parts_of d ≡ c.done ++ q ∷ qs) × (q.from ≡ c.last.from)

step_on : (c d : Cut) (r : PlacedRow) (b : Bool) → GoOn (cond b (begun c r) (grown c r)) d → GoOn c d
step_on c d r true (q, qs, parts, from) = (c.last, q ∷ qs, parts ∙ append_assoc c.done (c.last ∷ []) (q ∷ qs), refl)
step_on c d r false (q, qs, parts, from) = (q, qs, parts, from)

goes_on : (c : Cut) (rs : List PlacedRow) → GoOn c (fold cut_with c rs)
goes_on c [] = (c.last, [], refl, refl)
goes_on c (r ∷ rs) = step_on c (fold cut_with c (r ∷ rs)) r (begins (said c.last.rows_) (role r.row)) (goes_on (cut_with c r) rs)

-- the patches that are complete stay, and those behind them begin where the last one does
abbrev pub Stay : Cut → Cut → Type 0
Stay c d = (qs : List StreamPart) × (d.done ≡ c.done ++ qs) × (stop_of qs d.last.from ≡ c.last.from)

step_stays : (c d : Cut) (r : PlacedRow) (b : Bool) → Stay (cond b (begun c r) (grown c r)) d → Stay c d
step_stays c d r true (qs, done, from) = (c.last ∷ qs, done ∙ append_assoc c.done (c.last ∷ []) qs, refl)
step_stays c d r false stay = stay

pub stays : (c : Cut) (rs : List PlacedRow) → Stay c (fold cut_with c rs)
stays c [] = ([], sym (append-nil c.done), refl)
stays c (r ∷ rs) = step_stays c (fold cut_with c (r ∷ rs)) r (begins (said c.last.rows_) (role r.row)) (stays (cut_with c r) rs)

-- with more rows the last part grows by all of them, or by the first of them and is complete
pub data Later (c d : Cut) (more : List PlacedRow) : Type 0 where
  grew : d.last.rows_ ≡ c.last.rows_ ++ more → Later c d more
  ended : (front : List PlacedRow) (ps : List StreamPart) (q : StreamPart) (qs : List StreamPart) → d.done ≡ ps ++ q ∷ qs → q.rows_ ≡ c.last.rows_ ++ front → Later c d more

by_grown : (c d : Cut) (r : PlacedRow) (more : List PlacedRow) → Later (grown c r) d more → Later c d (r ∷ more)
by_grown c d r more (grew rows_) = grew (rows_ ∙ append_assoc c.last.rows_ (r ∷ []) more)
by_grown c d r more (ended front ps q qs done rows_) = ended (r ∷ front) ps q qs done (rows_ ∙ append_assoc c.last.rows_ (r ∷ []) front)

by_begun : (c d : Cut) (r : PlacedRow) (more : List PlacedRow) → Stay (begun c r) d → Later c d (r ∷ more)
by_begun c d r more (qs, done, from) = ended [] c.done c.last qs (done ∙ append_assoc c.done (c.last ∷ []) qs) (sym (append-nil c.last.rows_))

one_later : (c d : Cut) (r : PlacedRow) (more : List PlacedRow) (b : Bool) → Stay (cond b (begun c r) (grown c r)) d → Later (cond b (begun c r) (grown c r)) d more → Later c d (r ∷ more)
one_later c d r more true stay later = by_begun c d r more stay
one_later c d r more false stay later = by_grown c d r more later

pub later : (c : Cut) (more : List PlacedRow) → Later c (fold cut_with c more) more
later c [] = grew (sym (append-nil c.last.rows_))
later c (r ∷ more) = one_later c (fold cut_with c (r ∷ more)) r more (begins (said c.last.rows_) (role r.row)) (stays (cut_with c r) more) (later (cut_with c r) more)

pub cut_on : (rs more : List PlacedRow) → cut (rs ++ more) ≡ fold cut_with (cut rs) more
cut_on rs more = fold-append cut_with (record { done = []; last = record { from = 0; rows_ = [] } }) rs more

-- among patches each may stand
pub good_at : (xs : List StreamPart) (p : StreamPart) (qs : List StreamPart) (stop : ℕ) (ms : List Meaning) → ArePatches (xs ++ p ∷ qs) stop ms → IsGood p (stop_of qs stop)
good_at [] p qs stop [] are = absurd are
good_at [] p qs stop (m ∷ ms) are = (m, are.0, are.1)
good_at (x ∷ xs) p qs stop [] are = absurd are
good_at (x ∷ xs) p qs stop (m ∷ ms) are = good_at xs p qs stop ms are.2

pub part_taken : (ps : List StreamPart) (q : StreamPart) (qs : List StreamPart) (stop : ℕ) (ms : List Meaning) (front more : List PlacedRow) → ArePatches (ps ++ q ∷ qs) stop ms → q.rows_ ≡ front ++ more → AreTaken (said front)
part_taken ps q qs stop ms front more are rows_ =
    rows_taken front more (subst (λ (l : List PlacedRow). AreTaken (said l)) rows_ (good_taken q (stop_of qs stop) (good_at ps q qs stop ms are)))

-- the first patch begins where the text does
pub first_from : (rs : List PlacedRow) (stop : ℕ) → stop_of (parts_of (cut rs)) stop ≡ 0
first_from rs stop =
    let on = goes_on (record { done = []; last = record { from = 0; rows_ = [] } }) rs in ap (λ (parts : List StreamPart). stop_of parts stop) on.2 ∙ on.3

-- where the next part begins with a row, the part before it stops there
good_cut : (rs more : List PlacedRow) (r : PlacedRow) (stop : ℕ) (ms : List Meaning) → begins (said (cut rs).last.rows_) (role r.row) ≡ true → ArePatches (parts_of (cut (rs ++ r ∷ more))) stop ms → IsGood (cut rs).last r.at
good_cut rs more r stop ms first are =
    let whole : cut (rs ++ r ∷ more) ≡ fold cut_with (begun (cut rs) r) more =
    fold-append cut_with (record { done = []; last = record { from = 0; rows_ = [] } }) rs (r ∷ more) ∙ ap (λ (b : Bool). fold cut_with (cond b (begun (cut rs) r) (grown (cut rs) r)) more) first in
    let on = goes_on (begun (cut rs) r) more in
    let all : parts_of (cut (rs ++ r ∷ more)) ≡ (cut rs).done ++ (cut rs).last ∷ on.0 ∷ on.1 =
    ap parts_of whole ∙ on.2 ∙ append_assoc (cut rs).done ((cut rs).last ∷ []) (on.0 ∷ on.1) in
    subst (IsGood (cut rs).last) on.3 (good_before (cut rs).done (cut rs).last on.0 on.1 stop ms (subst (λ (l : List StreamPart). ArePatches l stop ms) all are))

-- ---- a stream has no fault

stream_parts : (rs more : List PlacedRow) (r : PlacedRow) (stop : ℕ) (ms : List Meaning) → AreStream (rs ++ r ∷ more) stop ms → ArePatches (parts_of (cut (rs ++ r ∷ more))) stop ms
stream_parts [] more r stop ms are = are
stream_parts (q ∷ rs) more r stop ms are = are

some_parts : (rs : List PlacedRow) (stop : ℕ) (ms : List Meaning) → ((cut rs).last.rows_ ≡ [] → ⊥) → AreStream rs stop ms → ArePatches (parts_of (cut rs)) stop ms
some_parts [] stop ms some are = absurd (some refl)
some_parts (r ∷ rs) stop ms some are = are

-- in a stream the last patch of its first rows may stand
earlier : (rs more : List PlacedRow) (stop : ℕ) (ms : List Meaning) → ArePatches (parts_of (cut (rs ++ more))) stop ms → AreTaken (said (cut rs).last.rows_)
earlier rs more stop ms are = by (later (cut rs) more)
  where
    all : ArePatches (parts_of (fold cut_with (cut rs) more)) stop ms
    all = subst (λ (c : Cut). ArePatches (parts_of c) stop ms) (cut_on rs more) are

    by : Later (cut rs) (fold cut_with (cut rs) more) more → AreTaken (said (cut rs).last.rows_)
    by (grew rows_) = part_taken (fold cut_with (cut rs) more).done (fold cut_with (cut rs) more).last [] stop ms (cut rs).last.rows_ more all rows_
    by (ended front ps q qs done rows_) =
        let last = (fold cut_with (cut rs) more).last in
        part_taken ps q (qs ++ last ∷ []) stop ms (cut rs).last.rows_ front
        (subst (λ (l : List StreamPart). ArePatches l stop ms) (ap (λ (l : List StreamPart). l ++ last ∷ []) done ∙ append_assoc ps (q ∷ qs) (last ∷ [])) all) rows_

pub stream_or_fault : (text : List ℕ) (ms : List Meaning) (fault : PatchFault) → IsStream text ms → IsStreamFault text fault → ⊥
stream_or_fault text ms fault s f = by (compared text 0 s.rows_ (length text) f.rows_ f.to s.reads f.reads)
  where
    last : StreamPart
    last = (cut f.rows_).last

    whole : s.rows_ ≡ f.rows_ → (last.rows_ ≡ [] → ⊥) → ArePatches (parts_of (cut f.rows_)) (length text) ms
    whole all some = some_parts f.rows_ (length text) ms some (subst (λ (l : List PlacedRow). AreStream l (length text) ms) all s.stream)

    at_end : s.rows_ ≡ f.rows_ → length text ≡ f.to → IsPartFault text last f.to fault → ⊥
    at_end all place (refused front r kind rows_ taken refuses is) =
        not_all last.rows_ front r kind rows_ refuses
        (part_taken (cut f.rows_).done last [] (length text) ms last.rows_ [] (whole all (λ none. not_empty front r (sym rows_ ∙ none))) (sym (append-nil last.rows_)))
    at_end all place (stream.no_row at kind taken none is) = absurd (let low = none.0 in omega arith)
    at_end all place (stream.ended taken (next r end there first) is) = none_at_end text f.to r end (sym place) there
    at_end all place (stream.ended taken (over end some) is) = good_end last f.to fault (subst (IsGood last) place (good_last (cut f.rows_).done last (length text) ms (whole all some))) is

    behind : (r : PlacedRow) (more : List PlacedRow) → s.rows_ ≡ f.rows_ ++ r ∷ more → r.at ≡ f.to → IsRowAt text f.to r.row r.end → IsPartFault text last f.to fault → ⊥
    behind r more all at there (refused front q kind rows_ taken refuses is) =
        not_all last.rows_ front q kind rows_ refuses
        (earlier f.rows_ (r ∷ more) (length text) ms (stream_parts f.rows_ more r (length text) ms (subst (λ (l : List PlacedRow). AreStream l (length text) ms) all s.stream)))
    behind r more all at there (stream.no_row place kind taken none is) = no_fault_there text f.to r.row r.end kind place there none
    behind r more all at there (stream.ended taken (next q end other first) is) =
        let one = one_row_at text f.to r.row q r.end end there other in
        good_end last f.to fault
        (subst (IsGood last) at
        (good_cut f.rows_ more r (length text) ms (ap (λ (x : Row). begins (said last.rows_) (role x)) one.0 ∙ first)
        (stream_parts f.rows_ more r (length text) ms (subst (λ (l : List PlacedRow). AreStream l (length text) ms) all s.stream))))
        is
    behind r more all at there (stream.ended taken (over end some) is) = none_at_end text f.to r.row r.end end there

    by : Compared text s.rows_ (length text) f.rows_ f.to → ⊥
    by (same all place) = at_end all place f.fault_is
    by (shorter r more all at there) = none_at_end text (length text) r.row r.end refl there
    by (longer r more all at there) = behind r more all at there f.fault_is
