-- What a reader of pieces has read of the text that was fed.
use Rattle.std.proofs.Common.{◌≡◌, ℕ, List, [], ◌∷◌, ◌++◌, Option, Some, None, is_some, true, false, Result, Ok, Err, OnOk, refl, sym, ap, subst, ◌∙◌, append_assoc, append-nil, arith}
use Rattle.std.specs.Result.{result_err}
use Rattle.patch_rows.specs.declared.cut.TextEnd.{TextEnd}
use Rattle.patch_rows.specs.declared.cut.TextEnd.TheVariants as ends
use Rattle.patch_rows.specs.declared.fault.RowFault.{RowFault}
use Rattle.patch_rows.specs.declared.fault.RowFault.TheVariants as faults
use Rattle.patch_rows.specs.declared.fault.RowKind.{RowKind}
use Rattle.patch_rows.specs.Grammar.{IsRowAt}
use Rattle.patch_reader.specs.declared.placed.PlacedRow.{PlacedRow}
use Rattle.patch_reader.specs.Pieces.{AreAllRows, HasRead}
use Rattle.patch_reader.specs.Rows.{Gap, RowsUpTo, NoRowAt, RowsDecided, NextRowFault, RowsStand, StopsRows, AddsRows}
use Rattle.patch_reader.specs.Window.{Window}
use Rattle.patch_reader.proofs.Adding.{stand_joined, rows_assoc}

pub all_rows : (end : TextEnd) (fed : List ℕ) (rows_ : List PlacedRow) (fault : Option RowFault) (w : Window) → HasRead end fed rows_ fault w → AreAllRows end fed rows_ fault
all_rows end fed rows_ fault w h = (w.passed, h.all, h.stops)

-- ---- at the start

no_row : (r : PlacedRow) → RowsDecided [] 0 (r ∷ []) r.end → ⊥
unfolding IsRowAt
no_row r d = let is = (d []).1 in let lt = is.1 in let le = is.2 in omega (arith, lt, le)

no_fault : (kind : RowKind) (at : ℕ) → NextRowFault [] 0 kind at → ⊥
no_fault kind at bad = let lt = (bad.1 []).1.0 in omega (arith, lt)

none_read : HasRead ends.Open [] [] None (record { fed = []; passed = 0; front = None; kept = 0 })
none_read = record { all = λ more. refl; stops = (no_row, no_fault); same = λ none. refl }

pub fresh : (text : List ℕ) (taken ready : List PlacedRow) (w : Window) → text ≡ [] → taken ≡ [] → ready ≡ [] → w ≡ record { fed = []; passed = 0; front = None; kept = 0 } → HasRead ends.Open text (taken ++ ready) None w
fresh text taken ready w t a r e = rw (t, a, r, e) none_read

-- ---- what stands there whatever follows

rows_longer : (fed piece : List ℕ) (from to : ℕ) (rows_ : List PlacedRow) → RowsDecided fed from rows_ to → RowsDecided (fed ++ piece) from rows_ to
rows_longer fed piece from to rows_ d = λ more. subst (λ (t : List ℕ). RowsUpTo t from rows_ to) (sym (append_assoc fed piece more)) (d (piece ++ more))

next_fault_longer : (fed piece : List ℕ) (from at : ℕ) (kind : RowKind) → NextRowFault fed from kind at → NextRowFault (fed ++ piece) from kind at
next_fault_longer fed piece from at kind (to, bad) =
    (to, λ more. subst (λ (t : List ℕ). Gap t from to × NoRowAt t to kind at) (sym (append_assoc fed piece more)) (bad (piece ++ more)))

stops_longer : (fed piece : List ℕ) (from : ℕ) (fault : RowFault) → StopsRows ends.Open fed from (Some fault) → StopsRows ends.Open (fed ++ piece) from (Some fault)
stops_longer fed piece from (faults.At at kind) bad = next_fault_longer fed piece from at kind bad
stops_longer fed piece from faults.OutOfMemory bad = tt

rows_known : (text : List ℕ) (from to : ℕ) (rows_ : List PlacedRow) → RowsDecided text from rows_ to → RowsUpTo text from rows_ to
rows_known text from to rows_ d = subst (λ (t : List ℕ). RowsUpTo t from rows_ to) (append-nil text) (d [])

stops_known : (text : List ℕ) (from : ℕ) (fault : RowFault) → StopsRows ends.Open text from (Some fault) → StopsRows ends.Known text from (Some fault)
stops_known text from (faults.At at kind) (to, bad) =
    let now = subst (λ (t : List ℕ). Gap t from to × NoRowAt t to kind at) (append-nil text) (bad []) in (to, now.0, now.1)
stops_known text from faults.OutOfMemory bad = tt

-- ---- behind a fault nothing is read

met : (o : Option RowFault) → is_some o ≡ true → (fault : RowFault) × (o ≡ Some fault)
met None e = absurd cc
met (Some fault) e = (fault, refl)

pub not_met : (o : Option RowFault) → is_some o ≡ false → o ≡ None
not_met None e = refl
not_met (Some fault) e = absurd cc

has : (o : Option RowFault) (fault : RowFault) → o ≡ Some fault → o ≡ None → ⊥
has o fault is none = let both = sym is ∙ none in absurd cc

pub stays_longer : (end : TextEnd) (fed piece longer : List ℕ) (rows_ : List PlacedRow) (o : Option RowFault) (w : Window) → end ≡ ends.Open → longer ≡ fed ++ piece → is_some o ≡ true
    → HasRead end fed rows_ o w → HasRead end longer rows_ o w
stays_longer end fed piece longer rows_ o w is_open is_longer some read =
    let f = met o some in
    let h = subst (λ (end : TextEnd). HasRead end fed rows_ o w) is_open read in
    rw (is_open, is_longer) (record {
      all = rows_longer fed piece 0 w.passed rows_ h.all;
      stops = subst (λ (o : Option RowFault). StopsRows ends.Open (fed ++ piece) w.passed o) (sym f.1) (stops_longer fed piece w.passed f.0 (subst (λ (o : Option RowFault). StopsRows ends.Open fed w.passed o) f.1 h.stops));
      same = λ none. absurd (has o f.0 f.1 none);
    })

pub stays_known : (end : TextEnd) (fed : List ℕ) (rows_ : List PlacedRow) (o : Option RowFault) (w : Window) → end ≡ ends.Open → is_some o ≡ true → HasRead end fed rows_ o w → HasRead ends.Known fed rows_ o w
stays_known end fed rows_ o w is_open some read =
    let f = met o some in
    let h = subst (λ (end : TextEnd). HasRead end fed rows_ o w) is_open read in
    record {
      all = rows_known fed 0 w.passed rows_ h.all;
      stops = subst (λ (o : Option RowFault). StopsRows ends.Known fed w.passed o) (sym f.1) (stops_known fed w.passed f.0 (subst (λ (o : Option RowFault). StopsRows ends.Open fed w.passed o) f.1 h.stops));
      same = λ none. absurd (has o f.0 f.1 none);
    }

-- ---- further rows are read

goes_on : (end : TextEnd) (text : List ℕ) (taken old new : List PlacedRow) (from : ℕ) (told : Result Unit RowFault) (w : Window) → RowsStand end text 0 (taken ++ old) from → AddsRows end text from old new w.passed
    → StopsRows end text w.passed (result_err told) → OnOk told (w.fed ≡ text) → HasRead end text (taken ++ new) (result_err told) w
goes_on end text taken old new from told w up (rows_, is, more) stops same = record {
  all = subst (λ (t : List PlacedRow). RowsStand end text 0 t w.passed) (rows_assoc taken old rows_ ∙ ap (λ (t : List PlacedRow). taken ++ t) (sym is))
      (stand_joined end text 0 from w.passed (taken ++ old) rows_ up more);
  stops = stops;
  same = by told same;
}
  where
    by : (told : Result Unit RowFault) → OnOk told (w.fed ≡ text) → result_err told ≡ None → w.fed ≡ text
    by (Ok x) same none = same
    by (Err e) same none = absurd cc

module _ (end : TextEnd) (fed : List ℕ) (taken old new : List PlacedRow) (o fault : Option RowFault) (told : Result Unit RowFault) (w next : Window)
    (is_open : end ≡ ends.Open) (none : o ≡ None) (met_is : fault ≡ result_err told) (read : HasRead end fed (taken ++ old) o w) where
  h : HasRead ends.Open fed (taken ++ old) o w
  h = subst (λ (end : TextEnd). HasRead end fed (taken ++ old) o w) is_open read

  pub goes_longer : (piece longer : List ℕ) → longer ≡ fed ++ piece → AddsRows ends.Open (w.fed ++ piece) w.passed old new next.passed → StopsRows ends.Open (w.fed ++ piece) next.passed (result_err told)
      → OnOk told (next.fed ≡ w.fed ++ piece) → HasRead end longer (taken ++ new) fault next
  goes_longer piece longer is_longer adds stops same =
      let text : w.fed ++ piece ≡ fed ++ piece = ap (λ (t : List ℕ). t ++ piece) (h.same none) in
      rw (is_open, is_longer, met_is) (goes_on ends.Open (fed ++ piece) taken old new w.passed told next (rows_longer fed piece 0 w.passed (taken ++ old) h.all)
      (subst (λ (t : List ℕ). AddsRows ends.Open t w.passed old new next.passed) text adds)
      (subst (λ (t : List ℕ). StopsRows ends.Open t next.passed (result_err told)) text stops)
      (subst (λ (t : List ℕ). OnOk told (next.fed ≡ t)) text same))

  pub goes_known : AddsRows ends.Known w.fed w.passed old new next.passed → StopsRows ends.Known w.fed next.passed (result_err told) → next.fed ≡ w.fed → HasRead ends.Known fed (taken ++ new) fault next
  goes_known adds stops same =
      rw met_is (goes_on ends.Known fed taken old new w.passed told next (rows_known fed 0 w.passed (taken ++ old) h.all)
      (subst (λ (t : List ℕ). AddsRows ends.Known t w.passed old new next.passed) (h.same none) adds)
      (subst (λ (t : List ℕ). StopsRows ends.Known t next.passed (result_err told)) (h.same none) stops)
      (by told))
    where
      by : (told : Result Unit RowFault) → OnOk told (next.fed ≡ fed)
      by (Ok x) = same ∙ h.same none
      by (Err e) = tt
