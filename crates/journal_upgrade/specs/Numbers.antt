-- Which files an upgrade takes, and how long each may be.
use Rattle.std.specs.Prelude.{◌≡◌, ◌⊎◌, ℕ, ◌<◌, ◌≤◌, ◌==◌, nat_le, if◌then◌else◌}
use Rattle.std.specs.Prelude.{List, length, All, slice_index}
use Rattle.log_base.specs.declared.limits.TheConstants.{LOG_BYTES, REGISTRY_LIMIT}
use Rattle.log_base.specs.declared.limits.TheConstants.{ZONE_FILE_LIMIT, OLD_LOG_BYTES}
use Rattle.log_base.specs.declared.limits.TheConstants.{OLD_REGISTRY_LIMIT, OLD_ZONE_FILE_LIMIT}
use Rattle.log_journal.specs.declared.either.FormLimits.{FormLimits}

-- the number of a registry, a log or a zone
abbrev pub IsFileNumber : ℕ → Type 0
IsFileNumber number = (number ≤ 16) ⊎ (number ≡ 1000) ⊎ (number ≡ 1001)

-- how long the journal of a file with this number may be
abbrev pub limits_of : ℕ → FormLimits
limits_of number =
    if number == 0 then record { old = OLD_REGISTRY_LIMIT; new = REGISTRY_LIMIT }
    else (if nat_le number 16 then record { old = OLD_LOG_BYTES; new = LOG_BYTES }
    else record { old = OLD_ZONE_FILE_LIMIT; new = ZONE_FILE_LIMIT })

-- no two are the same
abbrev pub Differ : List ℕ → Type 0
Differ numbers = (i j : ℕ) → i < j → j < length numbers
    → slice_index numbers i ≡ slice_index numbers j → ⊥

-- there is a file and a spare for each number, and each number is one of a file, and its own
pub record IsSet {D : Type 0} (files spares : List D) (numbers : List ℕ) : Type 0 where
  pub as_many_files : length files ≡ length numbers
  pub as_many_spares : length spares ≡ length numbers
  pub differ : Differ numbers
  pub known : All IsFileNumber numbers
