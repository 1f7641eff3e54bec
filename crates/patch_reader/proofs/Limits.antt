-- Rows within their limit: what is read of them is what is decided, and in a whole text what stands there.
use Rattle.std.proofs.Common.{◌≡◌, ℕ, ◌+◌, ◌-◌, ◌<◌, ◌≤◌, true, false, List, [], ◌++◌, length, take, drop, Ok, Err, nat_eq, nat_lt, refl, sym, ap, subst, ◌∙◌, ◌⊎◌, inl, inr, ⊎_elim, arith, append_assoc, append-nil, eqb-true, eq-eqb}
use Rattle.std.proofs.lemmas.Bool.{false≢true, cases_lt, cond_both}
use Rattle.std.proofs.lemmas.Bool.Decides.{nat_tests}
use Rattle.std.proofs.lemmas.List.{nil_from_length, length-append, length-drop, take-append-le, take-append-drop, drop-append-le}
use Rattle.std.proofs.Math.Seq.{take-append-add, drop-append-add}
use Rattle.patch_rows.specs.declared.fault.RowKind.TheVariants.{TooLong}
use Rattle.patch_rows.specs.declared.row.Row.{Row}
use Rattle.patch_rows.specs.Fault.{Fault, Read}
use Rattle.patch_rows.specs.Faults.{AnyRowFault, FaultDecided, FirstFault}
use Rattle.patch_rows.specs.Grammar.{RowAt, RowDecided, row_limit, row_front, FrontDecides, ShortRowAt}
use Rattle.patch_rows.specs.Rows.{live_row, row_at}
use Rattle.patch_rows.proofs.Exact.{Exact, exact_ok, exact_err, restated, ok_is, err_is, ok_no_err, err_no_ok}
use Rattle.patch_rows.proofs.WholeRow.{exact_row}
use Rattle.patch_rows.specs.Cut.{ends_row}
use Rattle.patch_reader.specs.Decided.{ShortRowDecided, FirstFaultDecided, MoreDecides}
use Rattle.patch_reader.specs.Limit.{of_front, front_row_at, limited_row_at}
use Rattle.patch_reader.proofs.Opens.{row_decided, fault_decided}
use Rattle.patch_reader.proofs.Settled.{undecided, only_row, only_fault}
use Rattle.patch_reader.proofs.RowShapes.{never_too_long}

-- ---- with more text behind

row_longer : (text : List ℕ) (r : Row) (after more : List ℕ) → RowDecided text r after → RowDecided (text ++ more) r (after ++ more)
row_longer text r after more d = λ others. subst (λ (t : List ℕ). RowAt t r ((after ++ more) ++ others)) (sym (append_assoc text more others))
    (subst (λ (t : List ℕ). RowAt (text ++ (more ++ others)) r t) (sym (append_assoc after more others)) (d (more ++ others)))

fault_longer : (text : List ℕ) (f : Fault) (more : List ℕ) → FaultDecided text f → FaultDecided (text ++ more) (f.0, f.1 ++ more)
fault_longer text f more d = λ others. subst (λ (t : List ℕ). AnyRowFault t (f.0, (f.1 ++ more) ++ others)) (sym (append_assoc text more others))
    (subst (λ (t : List ℕ). AnyRowFault (text ++ (more ++ others)) (f.0, t)) (sym (append_assoc f.1 more others)) (d (more ++ others)))

-- ---- the front

front_of_short : (text more : List ℕ) → length text ≤ row_limit → row_front (text ++ more) ≡ text ++ take (row_limit + 1 - length text) more
unfolding row_front
front_of_short text more le =
    let count : row_limit + 1 ≡ length text + (row_limit + 1 - length text) = omega (arith, le) in
    ap (λ (n : ℕ). take n (text ++ more)) count ∙ take-append-add text more (row_limit + 1 - length text)

tail_of_short : (text more : List ℕ) → length text ≤ row_limit → drop (row_limit + 1) (text ++ more) ≡ drop (row_limit + 1 - length text) more
tail_of_short text more le =
    let count : row_limit + 1 ≡ length text + (row_limit + 1 - length text) = omega (arith, le) in
    ap (λ (n : ℕ). drop n (text ++ more)) count ∙ drop-append-add text more (row_limit + 1 - length text)

front_of_long : (text more : List ℕ) → row_limit < length text → row_front (text ++ more) ≡ row_front text
unfolding row_front
front_of_long text more lt = take-append-le (row_limit + 1) text more (omega (arith, lt))

tail_of_long : (text more : List ℕ) → row_limit < length text → drop (row_limit + 1) (text ++ more) ≡ drop (row_limit + 1) text ++ more
tail_of_long text more lt = drop-append-le (row_limit + 1) text more (omega (arith, lt))

front_whole : (text : List ℕ) → row_front text ++ drop (row_limit + 1) text ≡ text
unfolding row_front
front_whole text = take-append-drop (row_limit + 1) text

-- the front, its tail and more
around : (text more : List ℕ) → row_front text ++ (drop (row_limit + 1) text ++ more) ≡ text ++ more
around text more = sym (append_assoc (row_front text) (drop (row_limit + 1) text) more) ∙ ap (λ (t : List ℕ). t ++ more) (front_whole text)

longer : (text more : List ℕ) → row_limit < length text → row_limit < length (text ++ more)
longer text more lt = omega (arith, lt, length-append text more)

-- by what is read of the front: a row up to its end, or one that ends within it; a fault of its end, or another one
module _ (text : List ℕ) (P : Read Row → Type 0) (full : (x : Row × List ℕ) → live_row (row_front text) ≡ Ok x → length x.1 ≡ 0 → P (Err (TooLong, text)))
    (within : (x : Row × List ℕ) → live_row (row_front text) ≡ Ok x → (length x.1 ≡ 0 → ⊥) → P (Ok (x.0, x.1 ++ drop (row_limit + 1) text)))
    (cut : (f : Fault) → live_row (row_front text) ≡ Err f → ends_row f.0 f.1 ≡ true → P (Err (TooLong, text)))
    (bad : (f : Fault) → live_row (row_front text) ≡ Err f → ends_row f.0 f.1 ≡ false → P (Err (f.0, f.1 ++ drop (row_limit + 1) text))) where
  by_reading : (r : Read Row) → live_row (row_front text) ≡ r → P (of_front text (drop (row_limit + 1) text) r)
  by_reading (Ok x) e = cond_both (nat_eq (length x.1) 0) _ _ P (λ t. full x e (eqb-true (length x.1) 0 t)) (λ t. within x e (λ is. false≢true (sym t ∙ eq-eqb (length x.1) 0 is)))
  by_reading (Err f) e = cond_both (ends_row f.0 f.1) _ _ P (cut f e) (bad f e)

  pub by_front : P (front_row_at text)
  by_front = by_reading (live_row (row_front text)) refl

-- ---- what is decided

pub short_row : (text : List ℕ) (r : Row) (after : List ℕ) → length text ≤ row_limit → live_row text ≡ Ok (r, after) → ShortRowDecided text r after
short_row text r after le e = λ more.
    let d = row_decided text r after e in
    let tail : List ℕ = take (row_limit + 1 - length text) more in
    let settled : FrontDecides (text ++ more) r = (after ++ tail, subst (λ (t : List ℕ). RowDecided t r (after ++ tail)) (sym (front_of_short text more le)) (row_longer text r after tail d)) in
    (d more, omega (arith, le, length-append text more, length-append after more), λ long. settled)

front_row : (text : List ℕ) (r : Row) (rest : List ℕ) → row_limit < length text → live_row (row_front text) ≡ Ok (r, rest) → (length rest ≡ 0 → ⊥)
    → ShortRowDecided text r (rest ++ drop (row_limit + 1) text)
front_row text r rest lt e some = λ more.
    let d = row_decided (row_front text) r rest e in
    let tail : List ℕ = drop (row_limit + 1) text in
    let there : RowAt (text ++ more) r ((rest ++ tail) ++ more) =
    subst (λ (t : List ℕ). RowAt t r ((rest ++ tail) ++ more)) (around text more)
    (subst (λ (t : List ℕ). RowAt (row_front text ++ (tail ++ more)) r t) (sym (append_assoc rest tail more)) (d (tail ++ more))) in
    let settled : FrontDecides (text ++ more) r = (rest, subst (λ (t : List ℕ). RowDecided t r rest) (sym (front_of_long text more lt)) d) in
    let behind : length tail ≡ length text - (row_limit + 1) = length-drop (row_limit + 1) text in
    let one : 0 < length rest = omega (arith, some) in
    (there, omega (arith, lt, one, behind, length-append text more, length-append (rest ++ tail) more, length-append rest tail), λ long. settled)

pub short_fault : (text : List ℕ) (f : Fault) → length text ≤ row_limit → live_row text ≡ Err f → ends_row f.0 f.1 ≡ false → FirstFaultDecided text f
short_fault text f le e o = λ more. by more (cases_lt row_limit (length (text ++ more)))
  where
    d : FaultDecided text f
    d = fault_decided text f e o

    by : (more : List ℕ) → (row_limit < length (text ++ more)) ⊎ (length (text ++ more) ≤ row_limit) → FirstFault (text ++ more) (f.0, f.1 ++ more)
    by more (inl lt) =
        let tail : List ℕ = take (row_limit + 1 - length text) more in
        let rest : List ℕ = drop (row_limit + 1 - length text) more in
        let bad : FaultDecided (row_front (text ++ more)) (f.0, f.1 ++ tail) =
        subst (λ (t : List ℕ). FaultDecided t (f.0, f.1 ++ tail)) (sym (front_of_short text more le)) (fault_longer text f tail d) in
        let whole : f.1 ++ more ≡ (f.1 ++ tail) ++ drop (row_limit + 1) (text ++ more) =
        ap (λ (t : List ℕ). f.1 ++ t) (sym (take-append-drop (row_limit + 1 - length text) more)) ∙ sym (append_assoc f.1 tail rest)
        ∙ ap (λ (t : List ℕ). (f.1 ++ tail) ++ t) (sym (tail_of_short text more le)) in
        FirstFault.front (f.0, f.1 ++ tail) lt bad (ap (λ (t : List ℕ). (f.0, t)) whole)
    by more (inr le2) = FirstFault.short le2 (d more)

front_fault : (text : List ℕ) (f : Fault) → row_limit < length text → live_row (row_front text) ≡ Err f → ends_row f.0 f.1 ≡ false
    → FirstFaultDecided text (f.0, f.1 ++ drop (row_limit + 1) text)
front_fault text f lt e o = λ more.
    let d = fault_decided (row_front text) f e o in
    let whole : (f.1 ++ drop (row_limit + 1) text) ++ more ≡ f.1 ++ drop (row_limit + 1) (text ++ more) =
    append_assoc f.1 (drop (row_limit + 1) text) more ∙ ap (λ (t : List ℕ). f.1 ++ t) (sym (tail_of_long text more lt)) in
    FirstFault.front f (longer text more lt) (subst (λ (t : List ℕ). FaultDecided t f) (sym (front_of_long text more lt)) d) (ap (λ (t : List ℕ). (f.0, t)) whole)

-- the front decides neither a fault nor a row that ends within it
abbrev IsLong : List ℕ → Type 0
IsLong front = ((r : Row) (rest : List ℕ) → RowDecided front r rest → rest ≡ []) × ((g : Fault) → FaultDecided front g → ⊥)

to_its_end : (front : List ℕ) (r : Row) (rest : List ℕ) → live_row front ≡ Ok (r, rest) → length rest ≡ 0 → IsLong front
to_its_end front r rest e none = (
  (λ s other d. let same = ok_is (s, other) (r, rest) (sym (only_row front s other d) ∙ e) in ap (λ (x : Row × List ℕ). x.1) same ∙ nil_from_length rest none),
  (λ g d. ok_no_err (r, rest) g (sym e ∙ (only_fault front g d).0)),
)

cut_off : (front : List ℕ) (f : Fault) → live_row front ≡ Err f → ends_row f.0 f.1 ≡ true → IsLong front
cut_off front f e o = let none = undecided front f e o in ((λ r rest d. absurd (none.0 r rest d)), none.1)

too_long : (text : List ℕ) → row_limit < length text → IsLong (row_front text) → FirstFaultDecided text (TooLong, text)
too_long text lt is = λ more.
    let here = subst IsLong (sym (front_of_long text more lt)) is in
    FirstFault.too_long (longer text more lt) here.0 here.1 refl

-- what is read is decided
abbrev pub IsDecided : List ℕ → Read Row → Type 0
IsDecided text (Ok x) = ShortRowDecided text x.0 x.1
IsDecided text (Err f) = FirstFaultDecided text f

pub decided_front : (text : List ℕ) → row_limit < length text → IsDecided text (front_row_at text)
decided_front text lt =
    by_front text (IsDecided text) (λ x e none. too_long text lt (to_its_end (row_front text) x.0 x.1 e none)) (λ x. front_row text x.0 x.1 lt)
    (λ f e o. too_long text lt (cut_off (row_front text) f e o)) (λ f. front_fault text f lt)

-- ---- and nothing else

-- a fault that is decided within the limit is one of a row of any length
pub any_length : (text : List ℕ) (f : Fault) → length text ≤ row_limit → FirstFaultDecided text f → FaultDecided text f
any_length text f le d = λ more. by more (d more)
  where
    first : FirstFault (text ++ []) (f.0, f.1 ++ []) → AnyRowFault (text ++ []) (f.0, f.1 ++ [])
    first (FirstFault.short le2 bad) = bad
    first (FirstFault.front g lt bad is) = absurd (omega (arith, le, lt, length-append text []))
    first (FirstFault.too_long lt rows_ faults is) = absurd (omega (arith, le, lt, length-append text []))

    kind : f.0 ≡ TooLong → ⊥
    kind = never_too_long (text ++ []) (f.0, f.1 ++ []) (first (d []))

    by : (more : List ℕ) → FirstFault (text ++ more) (f.0, f.1 ++ more) → AnyRowFault (text ++ more) (f.0, f.1 ++ more)
    by more (FirstFault.short le2 bad) = bad
    by more (FirstFault.front g lt bad is) =
        let there = bad (drop (row_limit + 1) (text ++ more)) in
        subst (λ (h : Fault). AnyRowFault (text ++ more) h) (sym is)
        (subst (λ (t : List ℕ). AnyRowFault t (g.0, g.1 ++ drop (row_limit + 1) (text ++ more))) (front_whole (text ++ more)) there)
    by more (FirstFault.too_long lt rows_ faults is) = absurd (kind (ap (λ (h : Fault). h.0) is))

pub more_decides : (text : List ℕ) (f : Fault) → length text ≤ row_limit → live_row text ≡ Err f → ends_row f.0 f.1 ≡ true → MoreDecides text
more_decides text f le e o = let none = undecided text f e o in ((λ r after d. none.0 r after (λ more. (d more).0)), (λ g d. none.1 g (any_length text g le d)))

-- what is decided of a text stands there as long as nothing follows
pub row_now : (text : List ℕ) (r : Row) (after : List ℕ) → ShortRowDecided text r after → ShortRowAt text r after
row_now text r after d = subst (λ (t : List ℕ). ShortRowAt t r after) (append-nil text) (subst (λ (t : List ℕ). ShortRowAt (text ++ []) r t) (append-nil after) (d []))

pub fault_now : (text : List ℕ) (f : Fault) → FirstFaultDecided text f → FirstFault text f
fault_now text f d = subst (λ (t : List ℕ). FirstFault t f) (append-nil text) (subst (λ (t : List ℕ). FirstFault (text ++ []) (f.0, t)) (append-nil f.1) (d []))

-- ---- in a whole text

abbrev ShortRow : List ℕ → Row × List ℕ → Type 0
ShortRow text y = ShortRowAt text y.0 y.1

abbrev Limited : List ℕ → Read Row → Type 0
Limited text r = Exact r (ShortRow text) (FirstFault text)

-- a text that is no longer than a row may be
module _ (text : List ℕ) (le : length text ≤ row_limit) where
  unlimited : (f : Fault) → FirstFault text f → AnyRowFault text f
  unlimited f (FirstFault.short le2 bad) = bad
  unlimited f (FirstFault.front g lt bad is) = absurd (omega (arith, le, lt))
  unlimited f (FirstFault.too_long lt rows_ faults is) = absurd (omega (arith, le, lt))

  exact_short : Limited text (row_at text)
  exact_short = restated (exact_row text)
      (λ y at. (at, omega (arith, le), λ lt. absurd (omega (arith, le, lt))))
      (λ y p. p.0)
      (λ f bad. FirstFault.short le bad)
      unlimited

-- a longer one
module _ (text : List ℕ) (lt : row_limit < length text) where
  front_is : (f : Fault) → FirstFault text f → ((g : Fault) × FaultDecided (row_front text) g × (f ≡ (g.0, g.1 ++ drop (row_limit + 1) text))) ⊎ (IsLong (row_front text) × (f ≡ (TooLong, text)))
  front_is f (FirstFault.short le bad) = absurd (omega (arith, le, lt))
  front_is f (FirstFault.front g lt2 bad is) = inl (g, bad, is)
  front_is f (FirstFault.too_long lt2 rows_ faults is) = inr ((rows_, faults), is)

  -- a row within the limit is the one that the front decides
  settled_row : (r : Row) (after : List ℕ) → ShortRowAt text r after → (rest : List ℕ) × RowDecided (row_front text) r rest × (after ≡ rest ++ drop (row_limit + 1) text) × (0 < length rest)
  settled_row r after p =
      let s = p.2 lt in
      let there : RowAt text r (s.0 ++ drop (row_limit + 1) text) = subst (λ (t : List ℕ). RowAt t r (s.0 ++ drop (row_limit + 1) text)) (front_whole text) (s.1 (drop (row_limit + 1) text)) in
      let same = ok_is (r, after) (r, s.0 ++ drop (row_limit + 1) text) (sym ((exact_row text).again (r, after) p.0) ∙ (exact_row text).again (r, s.0 ++ drop (row_limit + 1) text) there) in
      let after_is : after ≡ s.0 ++ drop (row_limit + 1) text = ap (λ (x : Row × List ℕ). x.1) same in
      let size : length after ≡ length (s.0 ++ drop (row_limit + 1) text) = ap length after_is in
      (s.0, s.1, after_is, omega (arith, lt, p.1, size, length-append s.0 (drop (row_limit + 1) text), length-drop (row_limit + 1) text))

  exact_too_long : IsLong (row_front text) → Limited text (Err (TooLong, text))
  exact_too_long is = restated (exact_err (Row × List ℕ) (TooLong, text))
      (λ y bad. absurd bad)
      (λ y p. let s = settled_row y.0 y.1 p in let none = ap length (is.0 y.0 s.0 s.1) in omega (arith, none, s.3))
      (λ f same. FirstFault.too_long lt is.0 is.1 same)
      (λ f t. ⊎_elim (λ g. absurd (is.1 g.0 g.1)) (λ l. l.1) (front_is f t))

  exact_front_row : (r : Row) (rest : List ℕ) → live_row (row_front text) ≡ Ok (r, rest) → (length rest ≡ 0 → ⊥) → Limited text (Ok (r, rest ++ drop (row_limit + 1) text))
  exact_front_row r rest e some = restated (exact_ok (r, rest ++ drop (row_limit + 1) text))
      (λ y same. subst (ShortRow text) (sym same) (row_now text r (rest ++ drop (row_limit + 1) text) (front_row text r rest lt e some)))
      (λ y p. let s = settled_row y.0 y.1 p in
      let both = ok_is (y.0, s.0) (r, rest) (sym (only_row (row_front text) y.0 s.0 s.1) ∙ e) in
      ap (λ (t : List ℕ). (y.0, t)) s.2 ∙ ap (λ (x : Row × List ℕ). (x.0, x.1 ++ drop (row_limit + 1) text)) both)
      (λ f none. absurd none)
      (λ f t. ⊎_elim (λ g. ok_no_err (r, rest) g.0 (sym e ∙ (only_fault (row_front text) g.0 g.1).0))
      (λ l. some (ap length (l.0.0 r rest (row_decided (row_front text) r rest e)))) (front_is f t))

  exact_front_fault : (f : Fault) → live_row (row_front text) ≡ Err f → ends_row f.0 f.1 ≡ false → Limited text (Err (f.0, f.1 ++ drop (row_limit + 1) text))
  exact_front_fault f e o = restated (exact_err (Row × List ℕ) (f.0, f.1 ++ drop (row_limit + 1) text))
      (λ y bad. absurd bad)
      (λ y p. let s = settled_row y.0 y.1 p in err_no_ok (y.0, s.0) f (sym e ∙ only_row (row_front text) y.0 s.0 s.1))
      (λ g same. subst (FirstFault text) (sym same) (fault_now text (f.0, f.1 ++ drop (row_limit + 1) text) (front_fault text f lt e o)))
      (λ g t. ⊎_elim
      (λ h. let same = err_is (Row × List ℕ) h.0 f (sym (only_fault (row_front text) h.0 h.1).0 ∙ e) in h.2 ∙ ap (λ (k : Fault). (k.0, k.1 ++ drop (row_limit + 1) text)) same)
      (λ l. absurd (l.0.1 f (fault_decided (row_front text) f e o)))
      (front_is g t))

  exact_front : Limited text (front_row_at text)
  exact_front = by_front text (Limited text) (λ x e none. exact_too_long (to_its_end (row_front text) x.0 x.1 e none)) (λ x. exact_front_row x.0 x.1) (λ f e o. exact_too_long (cut_off (row_front text) f e o)) exact_front_fault

pub exact_limited : (text : List ℕ) → Limited text (limited_row_at text)
unfolding limited_row_at
exact_limited text = cond_both (nat_lt row_limit (length text)) _ _ (Limited text) (λ t. exact_front text (grind (arith, nat_tests, t))) (λ t. exact_short text (grind (arith, nat_tests, t)))
