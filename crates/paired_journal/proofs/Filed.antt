-- The two files together.
use Rattle.std.proofs.Common.{◌≡◌, ◌≢◌, ⊎_elim, inl, inr, ℕ, List, Option, Some, None, Result, Ok, Err, refl, sym, subst}
use Rattle.std.specs.Prelude.{IsErr, OnOk, OnErr}
use Rattle.disk_model.specs.declared.disk.Disk.{Ghosts}
use Rattle.log_base.specs.declared.phase.Phase.{Phase}
use Rattle.log_journal.specs.Writing.{failing}
use Rattle.zone_beside.specs.StandsBehind.{StandsBehind}
use Rattle.zone_beside.specs.declared.beside.Beside.{Beside}
use Rattle.paired_journal.specs.Pair.{IsLeft, DisksWent}
use Rattle.paired_journal.specs.Files.{OtherStands}

-- a phase failed where the answer is an error
pub ended_ok : {T : Type 0} (result : Result T Phase) (P : Type 0) → OnOk result P → failing result ≡ None → P
ended_ok (Ok done) P holds is = holds
ended_ok (Err phase) P holds is = absurd (cc)

pub ended_err : {T : Type 0} (result : Result T Phase) (P : Type 0) → OnErr result P → failing result ≢ None → P
ended_err (Ok done) P holds never = absurd (never refl)
ended_err (Err phase) P holds never = holds

pub is_failing : {T : Type 0} (result : Result T Phase) → IsErr result → failing result ≢ None
is_failing (Ok done) is = absurd (cc)
is_failing (Err phase) is = λ none. absurd (cc)

pub has_failed : {T : Type 0} (result : Result T Phase) → failing result ≢ None → IsErr result
has_failed (Ok done) never = absurd (never refl)
has_failed (Err phase) never = refl

pub ok_from : {T E : Type 0} (result : Result T E) (P Q : Type 0) → (P → Q) → OnOk result P → OnOk result Q
ok_from (Ok done) P Q implies is = implies is
ok_from (Err fault) P Q implies is = is
