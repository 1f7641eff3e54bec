-- Steps between readers of terms and readers of rows.
use Rattle.std.proofs.Common.{◌≡◌, ℕ, List, Ok, Err, cond, true, refl, ap}
use Rattle.rdf_terms.specs.declared.term.Term.{Term}
use Rattle.patch_rows.specs.declared.fault.RowFault.{RowFault}
use Rattle.patch_rows.specs.declared.fault.RowFault.TheVariants as faults
use Rattle.nquads_text.specs.declared.fault.TextKind.TheVariants.{BadPosition}
use Rattle.patch_rows.specs.declared.fault.RowKind.TheVariants.{Common}
use Rattle.patch_rows.specs.Fault.{Fault, Read, ◌>>=◌, RowFails, IsThere}
use Rattle.patch_rows.specs.Grammar.{is_any}
use Rattle.patch_rows.specs.Reading.{needed_term_at}
use Rattle.patch_rows.specs.declared.cut.TextEnd.TheVariants.{Known}
use Rattle.patch_rows.specs.Rows.{placed_of}

-- a fault that is there is met
pub met : (X : Type 0) (bytes : List ℕ) (e : RowFault) (f : Fault) → IsThere bytes e f → RowFails {Y = X} bytes e (Err f)
met X bytes (faults.At at kind) f there = (ap (λ (g : Fault). Err g) there.0, there.1)
met X bytes faults.OutOfMemory f there = absurd there

-- any term may stand where any may
pub any_placed : (rest : List ℕ) → placed_of Known is_any rest ≡ needed_term_at rest
unfolding placed_of
any_placed rest = by (needed_term_at rest)
  where
    by : (r : Read Term) → (r >>= λ (t : Term × List ℕ). cond true (Ok t) (Err (Common BadPosition, rest))) ≡ r
    by (Ok x) = refl
    by (Err f) = refl
