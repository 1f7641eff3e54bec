-- The passes of a hall.
use Rattle.std.specs.Prelude.{◌≡◌, ℕ, ◌+◌, ◌<◌, ◌≤◌, List, [], ◌∷◌, length, min}
use Rattle.std.specs.List.{AllZip, sum_by}
use Rattle.disk_model.specs.declared.disk.Disk.{Ghosts}
use Rattle.turn_cell.specs.Turns.{AllOf, IsIn, last_count}
use Rattle.turn_cell.specs.Knowing.{pass_number, own_faults_of}
use Rattle.turn_cell.specs.Sharing.{IsPassOf, IsNewPassOf}
use Rattle.shared_log.specs.History.{LogSight, shared_log}
use Rattle.shared_registry.specs.History.{RegistrySight, shared_registry}
use Rattle.hall_logs.specs.Slots.{ArePartsOf}
use Rattle.delta_session.specs.Steps.{HallView, HallSight, Lists}

-- the own faults on all lists together, or the last value of u64 where the sum passes that
abbrev pub all_hall_faults : Lists → ℕ
all_hall_faults p =
    min (own_faults_of p.registry + sum_by (λ part. own_faults_of part) p.logs) last_count

-- its parts of the logs have the number of its part of the registry
abbrev pub HasOneNumber : Lists → Type 0
HasOneNumber p = AllOf (λ part. pass_number part ≡ pass_number p.registry) p.logs

module _ {D : Type 0} (disks : Ghosts D) (hall : HallView D) where
  -- a pass of the hall, of its registry and of each of its logs by one number, without a turn
  pub record IsHallPass (p : Lists) : Type 0 where
    pub registry : IsPassOf (shared_registry disks) hall.registry p.registry
    pub logs : ArePartsOf disks hall.logs.logs p.logs
    pub one : HasOneNumber p

  -- each is a pass of the hall, and none is missing: each number up to that of the seats has one
  pub record AreHallPasses (passes : List HallSight) : Type 0 where
    pub of : AllOf (λ pass. IsHallPass pass.lists) passes
    pub count : length passes ≡ hall.logs.seats
    pub all :
        (n : ℕ) → 0 < n → n ≤ hall.logs.seats
        → (pass : HallSight) × IsIn pass passes × (pass_number pass.lists.registry ≡ n)

  -- new passes, whose numbers go up from this one
  abbrev pub AreNewPasses : ℕ → List HallSight → Type 0
  AreNewPasses number [] = Unit {0}
  AreNewPasses number (pass ∷ passes) =
      IsNewPassOf (shared_registry disks) hall.registry number pass.lists.registry
      × AllZip (λ log part. IsNewPassOf (shared_log disks) log number part)
      hall.logs.logs pass.lists.logs
      × AreNewPasses (number + 1) passes

-- what passes know of a registry and what they know of its logs, each joined with the other
abbrev pub paired_sights : List RegistrySight → List (List LogSight) → List HallSight
paired_sights [] parts = []
paired_sights (sight ∷ sights) [] = []
paired_sights (sight ∷ sights) (part ∷ parts) =
    record { lists = record { registry = sight; logs = part }; dice = 0 }
    ∷ paired_sights sights parts
