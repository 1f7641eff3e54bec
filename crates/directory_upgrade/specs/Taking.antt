-- A file and its spare, taken from a shelf.
use Rattle.std.specs.Prelude.{◌≡◌, ℕ, ◌+◌, List, [], ◌∷◌, ◌++◌}
use Rattle.disk_model.specs.declared.disk.Disk.{Ghosts}
use Rattle.slot_files.specs.Files.{Files, IsKept}
use Rattle.directory_upgrade.specs.Sets.{IsOpened}

-- there is one more, at the end
abbrev pub Longer : {D : Type 0} → List D → List D → Type 0
Longer {D} old new = (last : D) × (new ≡ old ++ last ∷ [])

-- the one more is the disk of this file, as a shelf gives it
pub record IsAdded {D : Type 0} (disks : Ghosts D) (dir : List ℕ) (number : ℕ) (files : Files)
    (old new : List D) : Type 0 where
  pub last : D
  pub added : new ≡ old ++ last ∷ []
  pub opened : IsOpened disks dir number files last

-- a file and its spare were kept, and no other was asked for
pub record AreVisited (dir : List ℕ) (number : ℕ) (old new : Files) : Type 0 where
  pub file : IsKept (old dir number) (new dir number)
  pub spare : IsKept (old dir (number + 2000)) (new dir (number + 2000))
  pub elsewhere : (other : List ℕ) (n : ℕ) → (other ≡ dir → ⊥) → new other n ≡ old other n
  pub here : (n : ℕ) → (n ≡ number → ⊥) → (n ≡ number + 2000 → ⊥) → new dir n ≡ old dir n
