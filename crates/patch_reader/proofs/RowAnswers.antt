-- What the answer of a reader of rows says, by the grammar and the table of faults.
use Rattle.std.proofs.Common.{◌≡◌, ℕ, ◌-◌, ◌≤◌, List, length, drop, Result, Ok, Err, IfOk, IfErr, refl, sym, ap, ◌∙◌, ◌⊎◌, inl, inr, arith}
use Rattle.std.proofs.lemmas.List.{length-drop}
use Rattle.patch_rows.specs.declared.fault.RowFault.{RowFault}
use Rattle.patch_rows.specs.declared.fault.RowFault.TheVariants as faults
use Rattle.patch_rows.specs.declared.row.Row.{Row}
use Rattle.patch_rows.specs.Fault.{Fault, RowGives, RowFailsBy, IsRowAnswer, IsRowFaultAnswer}
use Rattle.patch_rows.specs.Grammar.{ShortRowAt, IsRowAt}
use Rattle.patch_rows.specs.Faults.{FirstFault}
use Rattle.patch_reader.specs.Limit.{limited_row_at}
use Rattle.patch_rows.proofs.Exact.{ok_is, err_is, ok_no_err}
use Rattle.patch_reader.proofs.Limits.{exact_limited}
use Rattle.patch_rows.proofs.Shorter.{row_shorter}

abbrev RowGiven : List ℕ → ℕ → Result (Row × ℕ) RowFault → Type 0
RowGiven text at result = RowGives text result (limited_row_at (drop at text))

abbrev and_behind : Row → List ℕ → Row × List ℕ
and_behind r after = (r, after)

same_place : (text : List ℕ) (a b : ℕ) → a ≤ length text → b ≤ length text → drop a text ≡ drop b text → a ≡ b
same_place text a b low high e =
    let x : length (drop a text) ≡ length text - a = length-drop a text in
    let y : length (drop b text) ≡ length text - b = length-drop b text in
    let l : length (drop a text) ≡ length (drop b text) = ap length e in omega (arith, x, y, l)

pub answer_ok : (text : List ℕ) (at : ℕ) (result : Result (Row × ℕ) RowFault) → at ≤ length text → RowGiven text at result → IfOk result (λ r. IsRowAt text at r.0 r.1)
unfolding IsRowAt
answer_ok text at (Ok r) low g =
    let found = (exact_limited (drop at text)).found (r.0, drop r.1 text) g.0 in
    let less = row_shorter (drop at text) r.0 (drop r.1 text) found.0 in
    let a : length (drop at text) ≡ length text - at = length-drop at text in
    let b : length (drop r.1 text) ≡ length text - r.1 = length-drop r.1 text in
    (found, omega (arith, less, a, b), g.1)
answer_ok text at (Err e) low g = tt

pub answer_only : (text : List ℕ) (at : ℕ) (result : Result (Row × ℕ) RowFault) → at ≤ length text → RowGiven text at result
    → (r : Row) (end : ℕ) → IsRowAt text at r end → IsRowAnswer result r end
unfolding IsRowAt
answer_only text at (Ok x) low g r end is =
    let read = (exact_limited (drop at text)).again (r, drop end text) is.0 in
    let same = ok_is (and_behind x.0 (drop x.1 text)) (and_behind r (drop end text)) (sym g.0 ∙ read) in
    (ap (λ (v : Row × List ℕ). v.0) same, same_place text x.1 end g.1 is.2 (ap (λ (v : Row × List ℕ). v.1) same))
answer_only text at (Err (faults.At place kind)) low g r end is =
    let read = (exact_limited (drop at text)).again (r, drop end text) is.0 in
    absurd (ok_no_err (and_behind r (drop end text)) (kind, drop place text) (sym read ∙ g.0))
answer_only text at (Err faults.OutOfMemory) low g r end is = refl

pub answer_fault : (text : List ℕ) (at : ℕ) (result : Result (Row × ℕ) RowFault) → RowGiven text at result → IfErr result (RowFailsBy (FirstFault (drop at text)) text)
answer_fault text at (Ok r) g = tt
answer_fault text at (Err (faults.At place kind)) g = ((exact_limited (drop at text)).fault (kind, drop place text) g.0, g.1)
answer_fault text at (Err faults.OutOfMemory) g = tt

pub answer_only_fault : (text : List ℕ) (at : ℕ) (result : Result (Row × ℕ) RowFault) → RowGiven text at result
    → (f : Fault) → FirstFault (drop at text) f → IsRowFaultAnswer text result f
answer_only_fault text at (Ok r) g f is = ok_no_err (and_behind r.0 (drop r.1 text)) f (sym g.0 ∙ (exact_limited (drop at text)).only f is)
answer_only_fault text at (Err (faults.At place kind)) g f is = err_is (Row × List ℕ) (kind, drop place text) f (sym g.0 ∙ (exact_limited (drop at text)).only f is)
answer_only_fault text at (Err faults.OutOfMemory) g f is = tt

-- ---- so the grammar and the table are exact

pub settled : (text : List ℕ) → ((r : Row) × (after : List ℕ) × ShortRowAt text r after) ⊎ ((f : Fault) × FirstFault text f)
settled text = by (limited_row_at text) refl
  where
    by : (r : Result (Row × List ℕ) Fault) → limited_row_at text ≡ r → ((r : Row) × (after : List ℕ) × ShortRowAt text r after) ⊎ ((f : Fault) × FirstFault text f)
    by (Ok x) e = inl (x.0, x.1, (exact_limited text).found x e)
    by (Err f) e = inr (f, (exact_limited text).fault f e)

pub one_row : (text : List ℕ) (r s : Row) (after rest : List ℕ) → ShortRowAt text r after → ShortRowAt text s rest → (r ≡ s) × (after ≡ rest)
one_row text r s after rest a b =
    let same = ok_is (and_behind r after) (and_behind s rest) (sym ((exact_limited text).again (r, after) a) ∙ (exact_limited text).again (s, rest) b) in
    (ap (λ (v : Row × List ℕ). v.0) same, ap (λ (v : Row × List ℕ). v.1) same)

pub one_fault : (text : List ℕ) (f g : Fault) → FirstFault text f → FirstFault text g → f ≡ g
one_fault text f g a b = err_is (Row × List ℕ) f g (sym ((exact_limited text).only f a) ∙ (exact_limited text).only g b)

pub apart : (text : List ℕ) (r : Row) (after : List ℕ) (f : Fault) → ShortRowAt text r after → FirstFault text f → ⊥
apart text r after f a b = ok_no_err (and_behind r after) f (sym ((exact_limited text).again (r, after) a) ∙ (exact_limited text).only f b)
