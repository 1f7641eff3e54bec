-- A code, a space and the canonical line of a quad are the quad's row, at whatever place and whatever follows.
use Rattle.std.proofs.Common.{◌≡◌, ℕ, ◌+◌, ◌-◌, ◌≤◌, Bool, true, false, List, [], ◌∷◌, ◌++◌, length, drop, slice_range, refl, sym, ap, subst, ◌∙◌, arith, append_assoc, append-nil}
use Rattle.std.proofs.lemmas.List.{length-append, length-drop, drop-drop, drop-append-le}
use Rattle.rdf_terms.specs.Line.{line, term_text, graph_text}
use Rattle.rdf_terms.specs.Quad.{Statement, is_quad}
use Rattle.nquads_text.specs.Grammar.{StartsWith}
use Rattle.nquads_text.specs.Printing.{HasTermValues}
use Rattle.canonical_scan.specs.declared.line.LinePlaces.{LinePlaces}
use Rattle.canonical_scan.specs.Found.{IsLineThere}
use Rattle.canonical_scan.specs.Places.{ArePlaces}
use Rattle.canonical_scan.proofs.Lines.{line_there}
use Rattle.patch_rows.specs.declared.row.Row.{Row}
use Rattle.patch_rows.specs.declared.row.Row.TheVariants as row
use Rattle.patch_rows.specs.Grammar.{begins_space, letters, row_limit, ShortRowAt, IsRowAt, IsDecidedRow}
use Rattle.patch_rows.specs.Printing.{quad_text, row_text, IsRowValue, IsWritable}
use Rattle.patch_rows.proofs.Printed.{printed_decided}
use Rattle.row_scan.specs.declared.QuadRow.{QuadRow}
use Rattle.row_scan.specs.Found.{change_by, code_by, IsQuadRow, HasQuadRow, IsRowOfLine}

-- ---- the text of a quad's row

quad_line : (q : Statement) → (quad_text q ++ 32 ∷ 46 ∷ []) ++ 10 ∷ [] ≡ 32 ∷ line q
unfolding line
quad_line q =
    let s = term_text q.subject in let p = term_text q.predicate in let o = term_text q.object in let g = graph_text q.graph in
    let end : List ℕ = 32 ∷ 46 ∷ 10 ∷ [] in
    append_assoc (quad_text q) (32 ∷ 46 ∷ []) (10 ∷ [])
    ∙ ap (λ (t : List ℕ). 32 ∷ t)
    (append_assoc s (32 ∷ (p ++ 32 ∷ (o ++ g))) end
    ∙ ap (λ (t : List ℕ). s ++ 32 ∷ t) (append_assoc p (32 ∷ (o ++ g)) end ∙ ap (λ (t : List ℕ). p ++ 32 ∷ t) (append_assoc o g end)))

-- the row and its line feed
row_line : (adds : Bool) (q : Statement) → row_text (row.Change (change_by adds q)) ++ 10 ∷ [] ≡ letters (code_by adds) ++ 32 ∷ line q
unfolding row_text
row_line true q = ap (λ (t : List ℕ). 65 ∷ t) (quad_line q)
row_line false q = ap (λ (t : List ℕ). 68 ∷ t) (quad_line q)

-- ---- rows at a place

-- a row whose text and a line feed stand at a place
pub decided : (text : List ℕ) (at end : ℕ) (r : Row) (after : List ℕ) → drop at text ≡ (row_text r ++ 10 ∷ []) ++ after → at ≤ length text → end ≡ at + length (row_text r) → length (row_text r) ≤ row_limit
    → IsRowValue r → IsWritable r → IsDecidedRow text at r end
unfolding IsRowAt
decided text at end r after stands low count short value is = λ more.
    let v : List ℕ = row_text r ++ 10 ∷ [] in
    let size : length v ≡ length (row_text r) + 1 = length-append (row_text r) (10 ∷ []) in
    let here : drop at (text ++ more) ≡ v ++ (after ++ more) = drop-append-le at text more low ∙ ap (λ (t : List ℕ). t ++ more) stands ∙ append_assoc v after more in
    let place : end ≡ at + (length v - 1) = omega (arith, size, count) in
    let last : drop end (text ++ more) ≡ drop (length v - 1) (v ++ (after ++ more)) = ap (λ (n : ℕ). drop n (text ++ more)) place ∙ sym (drop-drop (length v - 1) at (text ++ more)) ∙ ap (drop (length v - 1)) here in
    let there : IsRowAt (v ++ (after ++ more)) 0 r (length v - 1) = printed_decided r v refl value is (omega (arith, size, short)) (after ++ more) in
    let sizes : length (text ++ more) - at ≡ length (v ++ (after ++ more)) = sym (length-drop at (text ++ more)) ∙ ap length here in (
      subst (λ (t : List ℕ). ShortRowAt t r (drop end (text ++ more))) (sym here) (subst (ShortRowAt (v ++ (after ++ more)) r) (sym last) there.0),
      omega (arith, there.1, place),
      omega (arith, place, there.1, there.2, sizes, low, length-append text more),
    )

-- a row that stands there whatever follows the text stands there
pub stands_alone : (text : List ℕ) (at end : ℕ) (r : Row) → IsDecidedRow text at r end → IsRowAt text at r end
stands_alone text at end r is = subst (λ (t : List ℕ). IsRowAt t at r end) (append-nil text) (is [])

pub row_there : (text : List ℕ) (at : ℕ) (r : QuadRow) (q : Statement) → IsQuadRow text at r q → IsRowAt text at (row.Change (change_by r.adds q)) r.end
row_there text at r q is = stands_alone text at r.end (row.Change (change_by r.adds q)) is.row

-- ---- the answer of `quad_row`

writable : (adds : Bool) (q : Statement) → is_quad q ≡ true → IsWritable (row.Change (change_by adds q))
writable true q is = is
writable false q is = is

values : (adds : Bool) (q : Statement) → HasTermValues q → IsRowValue (row.Change (change_by adds q))
values true q v = v
values false q v = v

fresh : (adds : Bool) (text rest : List ℕ) → text ≡ letters (code_by adds) ++ rest → StartsWith begins_space text → ⊥
fresh true text rest e = subst (λ (t : List ℕ). StartsWith begins_space t → ⊥) (sym e) (λ s. cc)
fresh false text rest e = subst (λ (t : List ℕ). StartsWith begins_space t → ⊥) (sym e) (λ s. cc)

one_letter : (adds : Bool) → length (letters (code_by adds)) ≡ 1
one_letter true = refl
one_letter false = refl

-- the code and a space stand at the place, and behind them the line
found : (text : List ℕ) (at behind : ℕ) (adds : Bool) → drop at text ≡ letters (code_by adds) ++ 32 ∷ drop (at + 2) text → at + 2 ≤ length text
    → behind - 1 - at ≤ row_limit → (q : Statement) → IsLineThere text (at + 2) behind q → IsQuadRow text at (record { adds = adds; line = at + 2; end = behind - 1 }) q
found text at behind adds begins within short q there =
    let code : List ℕ = letters (code_by adds) in
    let r : Row = row.Change (change_by adds q) in
    let stands : drop at text ≡ (row_text r ++ 10 ∷ []) ++ drop behind text =
    begins ∙ ap (λ (t : List ℕ). code ++ 32 ∷ t) there.stands ∙ sym (append_assoc code (32 ∷ line q) (drop behind text)) ∙ ap (λ (t : List ℕ). t ++ drop behind text) (sym (row_line adds q)) in
    let sizes : length text - at ≡ length (row_text r ++ 10 ∷ []) + length (drop behind text) = sym (length-drop at text) ∙ ap length stands ∙ length-append (row_text r ++ 10 ∷ []) (drop behind text) in
    let low = there.further in
    let high = there.within in
    let count : behind - 1 ≡ at + length (row_text r) = omega (arith, sizes, low, high, within, length-append (row_text r) (10 ∷ []), length-drop behind text) in
    let next : behind - 1 + 1 ≡ behind = omega (arith, low) in
    record {
      quads = there.quads;
      values = there.values;
      begins = refl;
      bytes = ap (slice_range text (at + 2)) next ∙ there.bytes;
      row = decided text at (behind - 1) r (drop behind text) stands (omega (arith, within)) count (omega (arith, short, count)) (values adds q there.values) (writable adds q there.quads);
      fresh = fresh adds (drop at text) (32 ∷ drop (at + 2) text) begins;
      further = omega (arith, low);
      within = omega (arith, low, high);
    }

pub places_found : (text : List ℕ) (at : ℕ) (adds : Bool) (places : LinePlaces) → drop at text ≡ letters (code_by adds) ++ 32 ∷ drop (at + 2) text → at + 2 ≤ length text
    → ArePlaces text (at + 2) places → places.end - 1 - at ≤ row_limit → IsRowOfLine text at (record { adds = adds; line = at + 2; end = places.end - 1 }) places
places_found text at adds places begins within are short = record { line = are; row = found text at places.end adds begins within short }

-- such a row has a quad
pub some_quad : (text : List ℕ) (at : ℕ) (r : QuadRow) (places : LinePlaces) → IsRowOfLine text at r places → HasQuadRow text at r
some_quad text at r places is = let l = line_there text r.line places is.line in (l.0, is.row l.0 l.1)
