-- One stay in a log's turn: what an append makes of the log.
use Rattle.std.specs.Prelude.{◌≡◌, ℕ, List, [], ◌∷◌, ◌++◌}
use Rattle.std.specs.Prelude.{Option, Some, None, if◌then◌else◌}
use Rattle.log_base.specs.declared.limits.LogLimits.{LogLimits}
use Rattle.chain_core.specs.declared.chain.Patch.{Patch}
use Rattle.log_base.specs.declared.phase.Phase.{Phase}
use Rattle.log_base.specs.declared.phase.Phase.TheVariants.{Settling, Body, Gate}
use Rattle.log_base.specs.Phases.{phase_by_syncs, phase_by_plan}
use Rattle.chain_core.specs.declared.fate.Fate.{Fate}
use Rattle.chain_core.specs.declared.fate.Fate.TheVariants.{Done, Fails, Stops}
use Rattle.chain_core.specs.declared.answer.Decision.{Decision}
use Rattle.chain_core.specs.declared.answer.Decision.TheVariants.{Accept, Known, Conflict, Full}
use Rattle.chain_core.specs.declared.answer.LogAnswer.{LogAnswer}
use Rattle.chain_core.specs.declared.answer.LogAnswer.TheVariants.{Accepted, DiskFault}
use Rattle.chain_core.specs.declared.answer.LogAnswer.TheVariants.{Known as IsKnown}
use Rattle.chain_core.specs.declared.answer.LogAnswer.TheVariants.{Conflict as IsConflict}
use Rattle.chain_core.specs.declared.answer.LogAnswer.TheVariants.{Full as IsFull}
use Rattle.chain_core.specs.Decision.{run_decision, decision}
use Rattle.chain_core.specs.Runs.{patches_in}
use Rattle.chain_core.specs.Log.{LogPoint, up, down}

-- a log and the answer that was given, if one was
abbrev pub Outcome : Type 0 → Type 0
Outcome T = LogPoint T × Option LogAnswer

abbrev pub answer_of : Decision → LogAnswer
answer_of (Accept version) = Accepted version
answer_of (Known version same) = IsKnown version same
answer_of (Conflict version head prev_version) = IsConflict version head prev_version
answer_of (Full what have limit) = IsFull what have limit

abbrev pub done : {T : Type 0} → ℕ → List T → T → Outcome T
done version taken more = (up (taken ++ more ∷ []) None, Some (Accepted version))

-- an append that is accepted at this version, by what its device calls come to. Without a doubt
-- there is no settling that could fail.
abbrev pub accepted_by : {T : Type 0} → ℕ → Fate → List T → Option T → T → Outcome T
accepted_by version Done taken doubt more = done version taken more
accepted_by version (Fails Settling) taken None more = done version taken more
accepted_by version (Fails Settling) taken (Some doubtful) more =
    (up taken (Some doubtful), Some DiskFault)
accepted_by version (Fails Body) taken doubt more = (up taken None, Some DiskFault)
accepted_by version (Fails Gate) taken doubt more = (up taken (Some more), Some DiskFault)
accepted_by version (Stops Settling opened) taken None more = done version taken more
accepted_by version (Stops Settling opened) taken (Some doubtful) more =
    (down (if opened then taken ++ doubtful ∷ [] else taken), None)
accepted_by version (Stops Body opened) taken doubt more = (down taken, None)
accepted_by version (Stops Gate opened) taken doubt more =
    (down (if opened then taken ++ more ∷ [] else taken), None)

-- an append of which this was decided
abbrev pub decided_by : {T : Type 0} → Decision → Fate → List T → Option T → T → Outcome T
decided_by (Accept version) fate taken doubt more = accepted_by version fate taken doubt more
decided_by (Known version same) fate taken doubt more =
    (up taken doubt, Some (IsKnown version same))
decided_by (Conflict version head prev_version) fate taken doubt more =
    (up taken doubt, Some (IsConflict version head prev_version))
decided_by (Full what have limit) fate taken doubt more =
    (up taken doubt, Some (IsFull what have limit))

-- a stay that appends a run; a log that is down stays so
abbrev pub run_stay : LogLimits → LogPoint (List Patch) → List Patch → Fate → Outcome (List Patch)
run_stay limits (up runs doubt) run fate =
    decided_by (run_decision (patches_in runs) run limits) fate runs doubt run
run_stay limits (down runs) run fate = (down runs, None)

abbrev pub RunStay : LogLimits → LogPoint (List Patch) → List Patch → Fate → LogPoint (List Patch)
    → LogAnswer → Type 0
RunStay limits before run fate after answer = run_stay limits before run fate ≡ (after, Some answer)

-- a stay of what takes patches one by one
abbrev pub stay : LogLimits → LogPoint Patch → Patch → Fate → Outcome Patch
stay limits (up chain doubt) patch fate =
    decided_by (decision chain patch limits) fate chain doubt patch
stay limits (down chain) patch fate = (down chain, None)

abbrev pub Stay : LogLimits → LogPoint Patch → Patch → Fate → LogPoint Patch → LogAnswer → Type 0
Stay limits before patch fate after answer = stay limits before patch fate ≡ (after, Some answer)

-- how the device calls of an append end of which this phase failed, or none
abbrev pub fate_of : Option Phase → Fate
fate_of None = Done
fate_of (Some phase) = Fails phase

-- the fate by the number of syncs that were done
abbrev pub fate_by_syncs : {T : Type 0} → Option T → ℕ → Fate
fate_by_syncs doubt syncs = fate_of (phase_by_syncs doubt syncs)

-- the fate by a plan: no sync is to fail but the one behind so many, if there is one
abbrev pub fate_by_plan : {T : Type 0} → Option T → Option ℕ → Fate
fate_by_plan doubt plan = fate_of (phase_by_plan doubt plan)
