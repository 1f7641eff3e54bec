-- What stands in front of a text, by what is read there.
use Rattle.std.proofs.Common.{◌≡◌, ℕ, ◌≤◌, List, [], ◌∷◌, ◌++◌, length, take, drop, Result, Ok, Err, sym, ap, ◌∙◌, append_assoc, length-append, arith}
use Rattle.std.proofs.lemmas.List.{take_at, drop_at}
use Rattle.delta_base.specs.declared.id.Id.{Id}
use Rattle.delta_base.specs.Ids.{text_of}
use Rattle.delta_base.proofs.IdLemmas.{length-text_of}
use Rattle.rdf_terms.specs.Line.{line}
use Rattle.rdf_terms.specs.Quad.{Statement}
use Rattle.nquads_text.specs.Fault.{TextFault}
use Rattle.nquads_text.specs.Statement.{statement_at}
use Rattle.nquads_documents.specs.Laws.{IsQuadValue}
use Rattle.nquads_documents.proofs.LineLaws.{statement_read}
use Rattle.patch_rows.specs.declared.row.Row.{Row}
use Rattle.patch_rows.specs.declared.row.Row.TheVariants as rows
use Rattle.patch_rows.specs.Fault.{Fault}
use Rattle.patch_rows.specs.Printing.{IsWritable}
use Rattle.patch_rows.specs.Rows.{row_at}
use Rattle.patch_rows.proofs.WholeRow.{exact_row}
use Rattle.patch_rows.proofs.Writable.{writable}
use Rattle.dataset_tx.specs.Prefixes.{prefix_change}
use Rattle.checkpoint_text.specs.Text.{line_of_id, IsIdValue, Setting, setting_line, IsSetting}
use Rattle.checkpoint_text.proofs.OneText.{setting_read}
use Rattle.checkpoint_reading.specs.Front.{IsInFront, NoneInFront, OnlyInFront}

ok_is : {X E : Type 0} (x y : X) (r : Result X E) → r ≡ Ok x → r ≡ Ok y → x ≡ y
ok_is x y r p q = cc

not_both : {X E : Type 0} (x : X) (e : E) (r : Result X E) → r ≡ Ok x → r ≡ Err e → ⊥
not_both x e r p q = let bad : Ok x ≡ Err e = sym p ∙ q in absurd cc

-- ---- ids

id_parts : (text : List ℕ) (id : Id) (rest : List ℕ) → IsInFront line_of_id IsIdValue text id rest → text ≡ text_of id.0 ++ 10 ∷ rest
id_parts text id rest at = at.parts ∙ append_assoc (text_of id.0) (10 ∷ []) rest

pub id_long : (text : List ℕ) (id : Id) (rest : List ℕ) → IsInFront line_of_id IsIdValue text id rest → 36 ≤ length text
id_long text id rest at =
    omega (arith, ap length (id_parts text id rest at), length-append (text_of id.0) (10 ∷ rest), length-text_of id.0)

-- its digits, and the line feed behind them
pub id_cut_at : (text digits behind : List ℕ) (id : Id) (rest : List ℕ) → digits ≡ take 36 text → behind ≡ drop 36 text → IsInFront line_of_id IsIdValue text id rest → (digits ≡ text_of id.0) × (behind ≡ 10 ∷ rest)
id_cut_at text digits behind id rest front past at = (
  front ∙ ap (take 36) (id_parts text id rest at) ∙ take_at (text_of id.0) (10 ∷ rest) 36 (length-text_of id.0),
  past ∙ ap (drop 36) (id_parts text id rest at) ∙ drop_at (text_of id.0) (10 ∷ rest) 36 (length-text_of id.0),
)

-- ---- quads

pub only_quad : (text : List ℕ) (quad : Statement) (behind : List ℕ) → statement_at text ≡ Ok (quad, behind) → OnlyInFront line IsQuadValue text quad
only_quad text quad behind read item rest at =
    let again : statement_at text ≡ Ok (item, 10 ∷ rest) = ap statement_at at.parts ∙ statement_read item rest at.is in
    ap (λ (p : Statement × List ℕ). p.0) (ok_is (item, 10 ∷ rest) (quad, behind) (statement_at text) again read)

pub no_quad : (text : List ℕ) (fault : TextFault) → statement_at text ≡ Err fault → NoneInFront line IsQuadValue text
no_quad text fault read item rest at =
    not_both (item, 10 ∷ rest) fault (statement_at text) (ap statement_at at.parts ∙ statement_read item rest at.is) read

-- ---- rows

pub only_row : (text : List ℕ) (row : Row) (behind : List ℕ) → row_at text ≡ Ok (row, behind) → (item : Setting) (rest : List ℕ) → IsInFront setting_line IsSetting text item rest → row ≡ rows.Change (prefix_change item)
only_row text row behind read item rest at =
    let again : row_at text ≡ Ok (rows.Change (prefix_change item), 10 ∷ rest) = ap row_at at.parts ∙ setting_read item rest at.is in
    ap (λ (p : Row × List ℕ). p.0) (ok_is (row, behind) (rows.Change (prefix_change item), 10 ∷ rest) (row_at text) read again)

pub no_row : (text : List ℕ) (fault : Fault) → row_at text ≡ Err fault → NoneInFront setting_line IsSetting text
no_row text fault read item rest at =
    not_both (rows.Change (prefix_change item), 10 ∷ rest) fault (row_at text) (ap row_at at.parts ∙ setting_read item rest at.is) read

pub row_writable : (text : List ℕ) (row : Row) (behind : List ℕ) → row_at text ≡ Ok (row, behind) → IsWritable row
row_writable text row behind read = writable text row behind ((exact_row text).found (row, behind) read)
