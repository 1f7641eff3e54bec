-- Rows that are counted as they are taken.
use Rattle.std.proofs.Common.{◌≡◌, ℕ, ◌+◌, ◌-◌, ◌^◌, ◌<◌, ◌≤◌, min, List, [], ◌∷◌, ◌++◌, length, Option, Some, None, refl, sym, ap, subst, ◌∙◌, append-nil, append_assoc, take, drop, true, arith}
use Rattle.std.proofs.lemmas.List.{length-append, take-append-drop}
use Rattle.patch_rows.specs.declared.row.Row.{Row}
use Rattle.patch_rows.specs.declared.fault.RowFault.{RowFault}
use Rattle.patch_rows.specs.Grammar.{IsRowAt}
use Rattle.patch_reader.specs.declared.placed.PlacedRow.{PlacedRow}
use Rattle.patch_rows.specs.declared.cut.TextEnd.{TextEnd}
use Rattle.patch_rows.specs.declared.cut.TextEnd.TheVariants as ends
use Rattle.patch_reader.specs.Pieces.{Reader, AreAllRows, HasAllRows, TakesRow}
use Rattle.patch_reader.specs.Rows.{RowsUpTo, RowsStand, StopsRows}
use Rattle.stream_bench.specs.Counting.{HasRows, SameText, TakesOne, CountsRows}

pub took : (old new : Reader) (row : Row) → TakesRow old (Some row) new → TakesOne old true new × SameText old new
took old new row (r, is, (ready, same)) = (
  (ap (λ (s : Reader). length s.taken) same ∙ length-append old.taken (r ∷ []), let size = ap length ready in omega (arith, size)),
  (ap (λ (s : Reader). s.fed) same, ap (λ (s : Reader). s.end) same, ap (λ (s : Reader). s.fault) same),
)

-- each row has a byte
rows_count : (text : List ℕ) (from to : ℕ) (rows_ : List PlacedRow) → from ≤ length text → RowsUpTo text from rows_ to → from + length rows_ ≤ length text
unfolding IsRowAt
rows_count text from to [] low up = omega (arith, low)
rows_count text from to (r ∷ rows_) low up =
    let gap = up.0.1 in let row = up.1.1 in let high = up.1.2 in let more = rows_count text r.end to rows_ high up.2 in omega (arith, more, gap, row)

stand_count : (end : TextEnd) (text : List ℕ) (to : ℕ) (rows_ : List PlacedRow) → RowsStand end text 0 rows_ to → length rows_ ≤ length text
stand_count ends.Open text to rows_ up = let most = rows_count (text ++ []) 0 to rows_ (omega arith) (up []) in omega (arith, most, length-append text [])
stand_count ends.Known text to rows_ up = let most = rows_count text 0 to rows_ (omega arith) up in omega (arith, most)

-- a count of rows never stops at the last value of a usize
pub counted_on : (old new : Reader) (count : ℕ) → TakesOne old true new → SameText old new → HasAllRows new → CountsRows old count → CountsRows new (min (count + 1) (2 ^ 64 - 1))
counted_on old new count one same rows_ counts = λ fits.
    let all = rows_ fits in
    let most = stand_count new.end new.fed all.0 (new.taken ++ new.ready) all.1 in
    let before = counts (subst (λ (t : List ℕ). length t < 2 ^ 64) same.0 fits) in
    let sum : length new.taken ≡ count + 1 = omega (arith, one.0, before) in
    let low : count + 1 ≤ 2 ^ 64 - 1 = omega (arith, sum, most, fits, length-append new.taken new.ready) in
    let is : min (count + 1) (2 ^ 64 - 1) ≡ count + 1 = grind (arith, low) in
    sum ∙ sym is

rows_end : (rows_ : List PlacedRow) → rows_ ++ [] ≡ rows_
rows_end [] = refl
rows_end (r ∷ rows_) = ap (λ (t : List PlacedRow). r ∷ t) (rows_end rows_)

all_there : (text : List ℕ) (r : Reader) (count : ℕ) → AreAllRows ends.Known text (r.taken ++ r.ready) r.fault → r.fault ≡ None → r.ready ≡ [] → length r.taken ≡ count → HasRows text count
all_there text r count (behind, up, stops) none empty size = (
  r.taken,
  behind,
  subst (λ (t : List PlacedRow). RowsUpTo text 0 t behind) (ap (λ (t : List PlacedRow). r.taken ++ t) empty ∙ rows_end r.taken) up,
  subst (λ (o : Option RowFault). StopsRows ends.Known text behind o) none stops,
  size,
)

-- behind the end of a text without a fault, all its rows were counted
pub all_counted : (text : List ℕ) (r : Reader) (count : ℕ) → length text < 2 ^ 64 → r.fed ≡ text → r.end ≡ ends.Known → r.fault ≡ None → r.ready ≡ [] → HasAllRows r → CountsRows r count → HasRows text count
all_counted text r count fits fed ended none empty rows_ counts =
    let short : length r.fed < 2 ^ 64 = subst (λ (t : List ℕ). length t < 2 ^ 64) (sym fed) fits in
    all_there text r count
    (subst (λ (e : TextEnd). AreAllRows e text (r.taken ++ r.ready) r.fault) ended (subst (λ (t : List ℕ). AreAllRows r.end t (r.taken ++ r.ready) r.fault) fed (rows_ short)))
    none empty (counts short)

-- a piece more is fed
pub next_piece : (text fed rest piece behind : List ℕ) (mid : ℕ) → text ≡ fed ++ rest → piece ≡ take mid rest → behind ≡ drop mid rest → text ≡ (fed ++ piece) ++ behind
next_piece text fed rest piece behind mid is front back =
    is ∙ ap (λ (t : List ℕ). fed ++ t) (sym (take-append-drop mid rest) ∙ ap (λ (t : List ℕ). t ++ drop mid rest) (sym front) ∙ ap (λ (t : List ℕ). piece ++ t) (sym back)) ∙ sym (append_assoc fed piece behind)

pub whole_fed : (text fed rest : List ℕ) → text ≡ fed ++ rest → length rest ≡ 0 → fed ≡ text
whole_fed text fed [] is none = sym (is ∙ append-nil fed)
whole_fed text fed (b ∷ rest) is none = absurd (omega (arith, none))
