-- Rows stand in a text in one way.
use Rattle.std.proofs.Common.{◌≡◌, ℕ, ◌≤◌, List, [], ◌∷◌, ◌++◌, length, drop, refl, sym, ap, subst, ◌∙◌, arith}
use Rattle.std.proofs.lemmas.List.{length-drop}
use Rattle.patch_rows.specs.declared.fault.RowKind.{RowKind}
use Rattle.patch_rows.specs.declared.row.Row.{Row}
use Rattle.patch_rows.specs.Fault.{Fault}
use Rattle.patch_rows.specs.Grammar.{IsRowAt}
use Rattle.patch_rows.proofs.SpaceLaws.{skips}
use Rattle.patch_reader.proofs.RowAnswers.{one_row, one_fault, apart}
use Rattle.patch_reader.specs.declared.placed.PlacedRow.{PlacedRow}
use Rattle.patch_reader.specs.Rows.{Gap, RowsUpTo, NoRowAt}
use Rattle.patch_meaning.specs.Rows.{RowsTo}

-- ---- what stands at a place

same_place : (text : List ℕ) (a b : ℕ) → a ≤ length text → b ≤ length text → drop a text ≡ drop b text → a ≡ b
same_place text a b low high e = omega (arith, ap length e, length-drop a text, length-drop b text)

pub one_gap : (text : List ℕ) (from a b : ℕ) → Gap text from a → Gap text from b → a ≡ b
one_gap text from a b g h = same_place text a b g.2 h.2 (sym (skips (drop from text) (drop a text) g.0) ∙ skips (drop from text) (drop b text) h.0)

pub one_row_at : (text : List ℕ) (at : ℕ) (r s : Row) (end stop : ℕ) → IsRowAt text at r end → IsRowAt text at s stop → (r ≡ s) × (end ≡ stop)
unfolding IsRowAt
one_row_at text at r s end stop is there =
    let one = one_row (drop at text) r s (drop end text) (drop stop text) is.0 there.0 in (one.0, same_place text end stop is.2 there.2 one.1)

pub no_fault_there : (text : List ℕ) (at : ℕ) (r : Row) (end : ℕ) (kind : RowKind) (place : ℕ) → IsRowAt text at r end → NoRowAt text at kind place → ⊥
unfolding IsRowAt
no_fault_there text at r end kind place is none = apart (drop at text) r (drop end text) (kind, drop place text) is.0 none.1

pub one_fault_at : (text : List ℕ) (at : ℕ) (kind other : RowKind) (place there : ℕ) → NoRowAt text at kind place → NoRowAt text at other there → (kind ≡ other) × (place ≡ there)
one_fault_at text at kind other place there a b =
    let one = one_fault (drop at text) (kind, drop place text) (other, drop there text) a.1 b.1 in
    (ap (λ (f : Fault). f.0) one, same_place text place there a.2 b.2 (ap (λ (f : Fault). f.1) one))

-- no row stands at the text's end
pub none_at_end : (text : List ℕ) (at : ℕ) (r : Row) (end : ℕ) → at ≡ length text → IsRowAt text at r end → ⊥
unfolding IsRowAt
none_at_end text at r end last is = absurd (let low = is.1 in let high = is.2 in omega arith)

-- ---- lists of rows

-- two lists of rows are the same up to one place, or one goes on where the other ends
pub data Compared (text : List ℕ) (rs : List PlacedRow) (to : ℕ) (ss : List PlacedRow) (stop : ℕ) : Type 0 where
  same : rs ≡ ss → to ≡ stop → Compared text rs to ss stop
  shorter : (r : PlacedRow) (more : List PlacedRow) → ss ≡ rs ++ r ∷ more → r.at ≡ to → IsRowAt text to r.row r.end → Compared text rs to ss stop
  longer : (r : PlacedRow) (more : List PlacedRow) → rs ≡ ss ++ r ∷ more → r.at ≡ stop → IsRowAt text stop r.row r.end → Compared text rs to ss stop

same_row : (r s : PlacedRow) → r.row ≡ s.row → r.at ≡ s.at → r.end ≡ s.end → r ≡ s
same_row r s row_ at end =
    let make : Row → ℕ → ℕ → PlacedRow = λ a b c. record { row = a; at = b; end = c } in
    ap (λ (a : Row). make a r.at r.end) row_ ∙ ap (λ (b : ℕ). make s.row b r.end) at ∙ ap (make s.row s.at) end

behind : (text : List ℕ) (r s : PlacedRow) (rs ss : List PlacedRow) (to stop : ℕ) → r ≡ s → Compared text rs to ss stop → Compared text (r ∷ rs) to (s ∷ ss) stop
behind text r s rs ss to stop e (same rows_ place) = same (ap (λ (l : List PlacedRow). r ∷ l) rows_ ∙ ap (λ (q : PlacedRow). q ∷ ss) e) place
behind text r s rs ss to stop e (shorter q more rows_ at there) = shorter q more (ap (λ (l : List PlacedRow). s ∷ l) rows_ ∙ ap (λ (p : PlacedRow). p ∷ rs ++ q ∷ more) (sym e)) at there
behind text r s rs ss to stop e (longer q more rows_ at there) = longer q more (ap (λ (l : List PlacedRow). r ∷ l) rows_ ∙ ap (λ (p : PlacedRow). p ∷ ss ++ q ∷ more) e) at there

pub compared : (text : List ℕ) (from : ℕ) (rs : List PlacedRow) (to : ℕ) (ss : List PlacedRow) (stop : ℕ) → RowsTo text from rs to → RowsTo text from ss stop → Compared text rs to ss stop
compared text from [] to [] stop (b, up, gap) (d, other, gap2) =
    same refl (one_gap text from to stop (subst (λ (n : ℕ). Gap text n to) (sym up) gap) (subst (λ (n : ℕ). Gap text n stop) (sym other) gap2))
compared text from [] to (s ∷ ss) stop (b, up, gap) (d, other, gap2) =
    let at = one_gap text from to s.at (subst (λ (n : ℕ). Gap text n to) (sym up) gap) other.0 in
    shorter s ss refl (sym at) (subst (λ (n : ℕ). IsRowAt text n s.row s.end) (sym at) other.1)
compared text from (r ∷ rs) to [] stop (b, up, gap) (d, other, gap2) =
    let at = one_gap text from stop r.at (subst (λ (n : ℕ). Gap text n stop) (sym other) gap2) up.0 in
    longer r rs refl (sym at) (subst (λ (n : ℕ). IsRowAt text n r.row r.end) (sym at) up.1)
compared text from (r ∷ rs) to (s ∷ ss) stop (b, up, gap) (d, other, gap2) =
    let at = one_gap text from r.at s.at up.0 other.0 in
    let one = one_row_at text r.at r.row s.row r.end s.end up.1 (subst (λ (n : ℕ). IsRowAt text n s.row s.end) (sym at) other.1) in
    behind text r s rs ss to stop (same_row r s one.0 at one.1)
    (compared text r.end rs to ss stop (b, up.2, gap) (d, subst (λ (n : ℕ). RowsUpTo text n ss d) (sym one.1) other.2, gap2))
