-- Faults of disks that the steps of a session were told.
use Rattle.std.specs.Prelude.{ℕ, ◌+◌, List, [], ◌∷◌}
use Rattle.turn_cell.specs.Calls.{faults_told}
use Rattle.shared_log.specs.Calls.{tells_fault}
use Rattle.shared_registry.specs.Lookups.{is_registry_fault}
use Rattle.delta_session.specs.Steps.{Step, of_registry, of_log}

-- 1 where a step was told of a fault of its disk
abbrev pub faults_of_step : Step → ℕ
faults_of_step (of_registry made) = faults_told is_registry_fault made.reply
faults_of_step (of_log visit) = faults_told tells_fault visit.asked.reply

-- how many of the steps were
abbrev pub faults_of : List Step → ℕ
faults_of [] = 0
faults_of (step ∷ more) = faults_of_step step + faults_of more
