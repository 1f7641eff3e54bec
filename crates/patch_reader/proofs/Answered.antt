-- What is read, as what is decided.
use Rattle.std.proofs.Common.{◌≡◌, ℕ, ◌<◌, ◌≤◌, true, false, List, [], ◌∷◌, length, drop, Option, Some, Result, Ok, Err, refl, sym, ap, subst, ◌∙◌, arith}
use Rattle.std.proofs.lemmas.Bool.{false≢true}
use Rattle.std.proofs.lemmas.List.{length-drop}
use Rattle.patch_rows.specs.declared.fault.RowFault.{RowFault}
use Rattle.patch_rows.specs.declared.fault.RowFault.TheVariants as faults
use Rattle.patch_rows.specs.declared.fault.RowKind.{RowKind}
use Rattle.patch_rows.specs.declared.row.Row.{Row}
use Rattle.patch_rows.specs.Fault.{RowGives}
use Rattle.patch_rows.specs.Grammar.{row_limit}
use Rattle.patch_rows.proofs.Shorter.{row_shorter}
use Rattle.patch_rows.specs.Cut.{AtEnd, is_cut, ends_row}
use Rattle.patch_reader.specs.Decided.{ShortRowDecided, FirstFaultDecided, MoreDecides, DecidesRow}
use Rattle.patch_reader.specs.Limit.{front_row_at}
use Rattle.patch_rows.specs.Rows.{live_row}
use Rattle.patch_reader.proofs.RowEnds.{cut_row}
use Rattle.patch_reader.proofs.Limits.{IsDecided, decided_front, short_row, short_fault, more_decides, row_now}

-- ---- by places

pub further : (text : List ℕ) (at end : ℕ) (r : Row) → end ≤ length text → ShortRowDecided (drop at text) r (drop end text) → at < end
further text at end r le d =
    let less = row_shorter (drop at text) r (drop end text) (row_now (drop at text) r (drop end text) d).0 in
    omega (arith, less, length-drop at text, length-drop end text)

pub starts : (text : List ℕ) (at : ℕ) → (drop at text ≡ [] → ⊥) → at < length text
starts text at some = by (drop at text) refl some
  where
    by : (t : List ℕ) → drop at text ≡ t → (t ≡ [] → ⊥) → at < length text
    by [] e some = absurd (some refl)
    by (b ∷ t) e some = let size = ap length e in omega (arith, size, length-drop at text)

pub front_there : (text : List ℕ) (at end : ℕ) (r : Row) → row_limit < length (drop at text) → front_row_at (drop at text) ≡ Ok (r, drop end text) → ShortRowDecided (drop at text) r (drop end text)
front_there text at end r lt e = subst (IsDecided (drop at text)) e (decided_front (drop at text) lt)

pub front_is_bad : (text : List ℕ) (at place : ℕ) (kind : RowKind) → row_limit < length (drop at text) → front_row_at (drop at text) ≡ Err (kind, drop place text)
    → FirstFaultDecided (drop at text) (kind, drop place text)
front_is_bad text at place kind lt e = subst (IsDecided (drop at text)) e (decided_front (drop at text) lt)

pub long_starts : (text : List ℕ) (at : ℕ) → row_limit < length (drop at text) → at < length text
long_starts text at lt = omega (arith, lt, length-drop at text)

abbrev pub offered : Result (Row × ℕ) RowFault → Result (Option (Row × ℕ)) RowFault
offered (Ok x) = Ok (Some x)
offered (Err e) = Err e

pub front_decides : (text : List ℕ) (at : ℕ) (answer : Result (Row × ℕ) RowFault) → row_limit < length (drop at text) → RowGives text answer (front_row_at (drop at text)) → DecidesRow text at (offered answer)
front_decides text at (Ok x) lt g = let d = front_there text at x.1 x.0 lt g.0 in (d, further text at x.1 x.0 g.1 d, g.1)
front_decides text at (Err (faults.At place kind)) lt g = (front_is_bad text at place kind lt g.0, long_starts text at lt, g.1)
front_decides text at (Err faults.OutOfMemory) lt g = tt

pub row_there : (text : List ℕ) (at end : ℕ) (r : Row) → length (drop at text) ≤ row_limit → end ≤ length text → live_row (drop at text) ≡ Ok (r, drop end text)
    → ShortRowDecided (drop at text) r (drop end text) × (at < end) × (end ≤ length text)
row_there text at end r le high e = let d = short_row (drop at text) r (drop end text) le e in (d, further text at end r high d, high)

pub nothing_there : (text : List ℕ) (at place : ℕ) (kind : RowKind) → length (drop at text) ≤ row_limit → live_row (drop at text) ≡ Err (kind, drop place text) → ends_row kind (drop place text) ≡ true
    → MoreDecides (drop at text)
nothing_there text at place kind le e o = more_decides (drop at text) (kind, drop place text) le e o

pub fault_there : (text : List ℕ) (at place : ℕ) (kind : RowKind) → length (drop at text) ≤ row_limit → place ≤ length text → live_row (drop at text) ≡ Err (kind, drop place text) → ends_row kind (drop place text) ≡ false
    → FirstFaultDecided (drop at text) (kind, drop place text) × (at < length text) × (place ≤ length text)
fault_there text at place kind le high e o =
    (short_fault (drop at text) (kind, drop place text) le e o, starts text at (λ none. open_end e o none), high)
  where
    open_end : live_row (drop at text) ≡ Err (kind, drop place text) → ends_row kind (drop place text) ≡ false → drop at text ≡ [] → ⊥
    open_end e o none = let bad : AtEnd (live_row (drop at text)) = cut_row (drop at text) (ap is_cut none) in false≢true (sym o ∙ subst AtEnd e bad)

pub ruleset answered = (row_there, nothing_there, fault_there)
