-- What is found of two files, one of which is current.
use Rattle.std.specs.Prelude.{◌≡◌, ℕ, Bool, List, Option, Some, Err, true, false, if◌then◌else◌}
use Rattle.log_journal.specs.Front.{HasFront, IsFront}
use Rattle.zone_files.specs.Generation.{number_of, IsInGeneration, BeginsBroken, is_later}
use Rattle.zone_beside.specs.declared.fault.FindFault.{FindFault}
use Rattle.zone_beside.specs.declared.fault.FindFault.TheVariants.{AtFront, BrokenCheckpoint}

-- both files are in a generation or in none, and this one is current in that
pub record IsCurrent (first second : List ℕ) (on_second : Bool) (generation : ℕ) : Type 0 where
  pub of_first : Option ℕ
  pub of_second : Option ℕ
  pub first_is : IsInGeneration first false of_first
  pub second_is : IsInGeneration second true of_second
  pub chosen : is_later of_first of_second ≡ on_second
  pub in_generation : (if on_second then of_second else of_first) ≡ Some generation

-- two files have this fault, and none that comes before it: first the front of the first file, then
-- that of the second, and then what the one and the other begin with
abbrev pub HasFindFault : List ℕ → List ℕ → FindFault → Type 0
HasFindFault first second (AtFront false fault) = IsFront first (number_of false) (Err fault)
HasFindFault first second (AtFront true fault) =
    HasFront first (number_of false) × IsFront second (number_of true) (Err fault)
HasFindFault first second (BrokenCheckpoint false) =
    BeginsBroken first false × HasFront second (number_of true)
HasFindFault first second (BrokenCheckpoint true) =
    ((generation : Option ℕ) × IsInGeneration first false generation) × BeginsBroken second true
