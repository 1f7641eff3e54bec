-- One more row of a text.
use Rattle.std.proofs.Common.{ℕ, ◌<◌, ◌≤◌, List, [], ◌∷◌, ◌++◌, length, drop, Err, refl, sym, subst, arith}
use Rattle.patch_rows.specs.declared.row.Row.{Row}
use Rattle.patch_rows.specs.declared.fault.RowFault.{RowFault}
use Rattle.patch_rows.specs.declared.fault.RowFault.TheVariants as faults
use Rattle.patch_rows.specs.Fault.{RowFailsBy}
use Rattle.patch_rows.specs.Faults.{FirstFault}
use Rattle.patch_rows.specs.Grammar.{Space, IsRowAt}
use Rattle.patch_rows.specs.Reading.{skip_space}
use Rattle.patch_rows.proofs.Slices.{end_place, space_end}
use Rattle.patch_rows.proofs.SpaceLaws.{skipped}
use Rattle.patch_meaning.specs.Next.{IsNextRead}
use Rattle.patch_meaning.specs.Rows.{AreUpTo}
use Rattle.patch_reader.specs.declared.placed.PlacedRow.{PlacedRow}
use Rattle.patch_reader.specs.Rows.{Gap, RowsUpTo}

pub rows_more : (text : List ℕ) (from to : ℕ) (rs : List PlacedRow) (r : PlacedRow) → RowsUpTo text from rs to → Gap text to r.at → IsRowAt text r.at r.row r.end → RowsUpTo text from (rs ++ r ∷ []) r.end
rows_more text from to [] r up gap there = (subst (λ (n : ℕ). Gap text n r.at) (sym up) gap, there, refl)
rows_more text from to (q ∷ rs) r up gap there = (up.0, up.1, rows_more text q.end to rs r up.2 gap there)

pub row_within : (text : List ℕ) (at : ℕ) (r : Row) (end : ℕ) → IsRowAt text at r end → (at < end) × (end ≤ length text)
unfolding IsRowAt
row_within text at r end is = (is.1, is.2)

pub fault_next : (text : List ℕ) (from at : ℕ) (fault : RowFault) → Gap text from at → at < length text → RowFailsBy (FirstFault (drop at text)) text fault → IsNextRead text from (Err fault)
fault_next text from at (faults.At place kind) gap lt fails = (at, gap, (lt, fails.0, fails.1))
fault_next text from at faults.OutOfMemory gap lt fails = tt

-- white space and comments come to an end
pub gap_there : (text : List ℕ) (at : ℕ) → at ≤ length text → (to : ℕ) × Gap text at to
gap_there text at within =
    let s = skipped (drop at text) in
    let p = end_place text at (skip_space (drop at text)) within (space_end (drop at text) (skip_space (drop at text)) s) in
    (p.0, (subst (Space (drop at text)) (sym p.1) s, p.2, p.3))

-- ---- up to which place rows come

pub rows_order : (text : List ℕ) (from to : ℕ) (rs : List PlacedRow) → RowsUpTo text from rs to → from ≤ to
rows_order text from to [] up = omega (arith, up)
rows_order text from to (r ∷ rs) up =
    let low = up.0.1 in let there = row_within text r.at r.row r.end up.1 in omega (arith, low, there.0, rows_order text r.end to rs up.2)

pub rows_up_to : (text : List ℕ) (from to stop : ℕ) (rs : List PlacedRow) → RowsUpTo text from rs to → to ≤ stop → AreUpTo rs stop
rows_up_to text from to stop [] up le = tt
rows_up_to text from to stop (r ∷ rs) up le =
    let there = row_within text r.at r.row r.end up.1 in (omega (arith, le, there.0, rows_order text r.end to rs up.2), rows_up_to text r.end to stop rs up.2 le)

pub front_up_to : (rs : List PlacedRow) (r : PlacedRow) (stop : ℕ) → AreUpTo (rs ++ r ∷ []) stop → AreUpTo rs stop × (r.at ≤ stop)
front_up_to [] r stop up = (tt, up.0)
front_up_to (q ∷ rs) r stop up = let rest = front_up_to rs r stop up.1 in ((up.0, rest.0), rest.1)

pub up_further : (rs : List PlacedRow) (a b : ℕ) → a ≤ b → AreUpTo rs a → AreUpTo rs b
up_further [] a b le up = tt
up_further (r ∷ rs) a b le up = let here = up.0 in (omega (arith, here, le), up_further rs a b le up.1)
