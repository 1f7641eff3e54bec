-- The lines of rows, one behind another, are read as these rows.
use Rattle.std.proofs.Common.{◌≡◌, ℕ, ◌+◌, ◌-◌, ◌≤◌, List, [], ◌∷◌, ◌++◌, length, drop, refl, sym, ap, subst, ◌∙◌, arith, append_assoc}
use Rattle.std.proofs.lemmas.List.{length-append, drop_at}
use Rattle.std.proofs.Math.Seq.{drop-append-add}
use Rattle.patch_rows.specs.declared.codes.Code.{Code}
use Rattle.patch_rows.specs.declared.codes.Code.TheVariants as code
use Rattle.patch_rows.specs.declared.row.Row.{Row}
use Rattle.patch_rows.specs.Grammar.{Space, letters, code_of, row_limit, ShortRowAt, IsRowAt}
use Rattle.patch_rows.specs.Printing.{row_text, parts_text}
use Rattle.patch_rows.specs.Reading.{space_behind, skip_space}
use Rattle.patch_rows.proofs.Printed.{printed_decided}
use Rattle.patch_rows.proofs.SpaceLaws.{skipped}
use Rattle.patch_reader.specs.declared.placed.PlacedRow.{PlacedRow}
use Rattle.patch_reader.specs.Rows.{Gap}
use Rattle.patch_meaning.specs.Rows.{RowsTo}
use Rattle.printed_rows.specs.Laws.{PrintedRowsAreRead}
use Rattle.printed_rows.specs.Printed.{printed_line, printed_lines, placed_from, IsPrintedRow, ArePrintedRows, AreWithin}

-- ---- where rows stand

pub each_within : (most : ℕ) (rs : List Row) → length (printed_lines rs) ≤ most → AreWithin most rs
each_within most [] all = tt
each_within most (r ∷ rs) all =
    let size = length-append (printed_line r) (printed_lines rs) in
    (omega (arith, all, size), each_within most rs (omega (arith, all, size)))

pub placed-append : (at : ℕ) (rs ss : List Row) → placed_from at (rs ++ ss) ≡ placed_from at rs ++ placed_from (at + length (printed_lines rs)) ss
placed-append at [] ss = ap (λ (n : ℕ). placed_from n ss) (omega arith)
placed-append at (r ∷ rs) ss =
    let size : at + length (printed_line r) + length (printed_lines rs) ≡ at + length (printed_line r ++ printed_lines rs) = omega (arith, length-append (printed_line r) (printed_lines rs)) in
    ap (λ (ps : List PlacedRow). record { row = r; at = at; end = at + length (row_text r) } ∷ ps)
    (placed-append (at + length (printed_line r)) rs ss ∙ ap (λ (n : ℕ). placed_from (at + length (printed_line r)) rs ++ placed_from n ss) size)

-- ---- white space

-- no white space and no comment stands in front
abbrev IsClear : List ℕ → Type 0
IsClear text = skip_space text ≡ text

code_clear : (c : Code) (rest : List ℕ) → IsClear (letters c ++ rest)
unfolding space_behind
code_clear code.Header rest = refl
code_clear code.Begin rest = refl
code_clear code.Commit rest = refl
code_clear code.Abort rest = refl
code_clear code.PrefixAdd rest = refl
code_clear code.PrefixDelete rest = refl
code_clear code.Add rest = refl
code_clear code.Delete rest = refl

line_clear : (r : Row) (rest : List ℕ) → IsClear (printed_line r ++ rest)
unfolding row_text
line_clear r rest =
    let tail : List ℕ = ((parts_text r ++ 32 ∷ 46 ∷ []) ++ 10 ∷ []) ++ rest in
    let shape : printed_line r ++ rest ≡ letters (code_of r) ++ tail =
    ap (λ (t : List ℕ). t ++ rest) (append_assoc (letters (code_of r)) (parts_text r ++ 32 ∷ 46 ∷ []) (10 ∷ []))
    ∙ append_assoc (letters (code_of r)) ((parts_text r ++ 32 ∷ 46 ∷ []) ++ 10 ∷ []) rest in
    subst IsClear (sym shape) (code_clear (code_of r) tail)

lines_clear : (rs : List Row) → IsClear (printed_lines rs)
unfolding space_behind
lines_clear [] = refl
lines_clear (r ∷ rs) = line_clear r (printed_lines rs)

feed_over : (rest : List ℕ) → IsClear rest → skip_space (10 ∷ rest) ≡ rest
unfolding space_behind
feed_over rest clear = clear

-- from the one place on only white space stands up to the end of the front, whatever follows that is clear
abbrev Opens : List ℕ → ℕ → Type 0
Opens front from = (rest : List ℕ) → IsClear rest → Gap (front ++ rest) from (length front)

nothing_opens : Opens [] 0
nothing_opens rest clear = (subst (Space rest) clear (skipped rest), omega arith, omega arith)

line_opens : (front : List ℕ) (r : Row) → Opens (front ++ printed_line r) (length front + length (row_text r))
line_opens front r rest clear =
    let text : List ℕ = (front ++ printed_line r) ++ rest in
    let before : List ℕ = front ++ row_text r in
    let shape : text ≡ before ++ 10 ∷ rest =
    ap (λ (t : List ℕ). t ++ rest) (sym (append_assoc front (row_text r) (10 ∷ []))) ∙ append_assoc before (10 ∷ []) rest in
    let size : length before ≡ length front + length (row_text r) = length-append front (row_text r) in
    let from : drop (length front + length (row_text r)) text ≡ 10 ∷ rest =
    ap (drop (length front + length (row_text r))) shape ∙ drop_at before (10 ∷ rest) (length front + length (row_text r)) size in
    let to : drop (length (front ++ printed_line r)) text ≡ rest = drop_at (front ++ printed_line r) rest (length (front ++ printed_line r)) refl in
    let long : length (printed_line r) ≡ length (row_text r) + 1 = length-append (row_text r) (10 ∷ []) in (
      subst (λ (t : List ℕ). Space t (drop (length (front ++ printed_line r)) text)) (sym from)
          (subst (Space (10 ∷ rest)) (feed_over rest clear ∙ sym to) (skipped (10 ∷ rest))),
      omega (arith, length-append front (printed_line r), long),
      omega (arith, length-append (front ++ printed_line r) rest),
    )

-- ---- rows

-- a row stands behind a front as it does without
row_behind : (front text : List ℕ) (r : Row) (end : ℕ) → IsRowAt text 0 r end → IsRowAt (front ++ text) (length front) r (length front + end)
unfolding IsRowAt
row_behind front text r end is =
    let there : drop (length front) (front ++ text) ≡ text = drop_at front text (length front) refl in
    let after : drop (length front + end) (front ++ text) ≡ drop end text = drop-append-add front text end in (
      subst (λ (t : List ℕ). ShortRowAt t r (drop (length front + end) (front ++ text))) (sym there)
          (subst (ShortRowAt text r) (sym after) is.0),
      omega (arith, is.1),
      omega (arith, is.2, length-append front text),
    )

line_read : (front : List ℕ) (r : Row) (rest : List ℕ) → IsPrintedRow r → length (printed_line r) ≤ row_limit
    → IsRowAt (front ++ (printed_line r ++ rest)) (length front) r (length front + length (row_text r))
line_read front r rest is short =
    let long : length (printed_line r) - 1 ≡ length (row_text r) = omega (arith, length-append (row_text r) (10 ∷ [])) in
    let decided = printed_decided r (printed_line r) refl is.value is.writable (omega (arith, short)) rest in
    subst (λ (n : ℕ). IsRowAt (front ++ (printed_line r ++ rest)) (length front) r (length front + n)) long
    (row_behind front (printed_line r ++ rest) r (length (printed_line r) - 1) decided)

read_behind : (front : List ℕ) (from : ℕ) (rs : List Row) → ArePrintedRows rs → AreWithin row_limit rs → Opens front from
    → RowsTo (front ++ printed_lines rs) from (placed_from (length front) rs) (length (front ++ printed_lines rs))
read_behind front from [] are short opens =
    let whole : length front ≡ length (front ++ []) = omega (arith, length-append front []) in
    (from, refl, subst (Gap (front ++ []) from) whole (opens [] (lines_clear [])))
read_behind front from (r ∷ rs) are short opens =
    let rest : List ℕ = printed_lines rs in
    let text : List ℕ = front ++ (printed_line r ++ rest) in
    let end : ℕ = length front + length (row_text r) in
    let same : (front ++ printed_line r) ++ rest ≡ text = append_assoc front (printed_line r) rest in
    let next : length (front ++ printed_line r) ≡ length front + length (printed_line r) = length-append front (printed_line r) in
    let later : RowsTo text end (placed_from (length front + length (printed_line r)) rs) (length text) =
    subst (λ (n : ℕ). RowsTo text end (placed_from n rs) (length text)) next
    (subst (λ (t : List ℕ). RowsTo t end (placed_from (length (front ++ printed_line r)) rs) (length t)) same
    (read_behind (front ++ printed_line r) end rs are.1 short.1 (line_opens front r))) in
    (later.0, (opens (printed_line r ++ rest) (line_clear r rest), line_read front r rest are.0 short.0, later.1), later.2)

-- printed rows within the limit are read from the text of their lines
pub lines_read : PrintedRowsAreRead
lines_read rs are short = read_behind [] 0 rs are short nothing_opens
