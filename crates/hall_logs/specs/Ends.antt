-- What logs have come to once all passes are back.
use Rattle.std.specs.Prelude.{◌≡◌, ℕ, ◌+◌, List, [], ◌∷◌, slice_get}
use Rattle.std.specs.List.{filter_map}
use Rattle.disk_model.specs.declared.disk.Disk.{Ghosts}
use Rattle.disk_model.specs.Past.{reads}
use Rattle.patch_log.specs.Log.{MayHoldChain}
use Rattle.patch_log.specs.State.{LogView, runs_in}
use Rattle.turn_cell.specs.Sights.{Made}
use Rattle.shared_log.specs.History.{LogSight, shared_log}
use Rattle.turn_cell.specs.Sharing.{IsClosedOf}

-- of all passes, the parts of the log at a place
abbrev pub parts_at : ℕ → List (List LogSight) → List LogSight
parts_at place passes = filter_map (λ parts. slice_get parts place) passes

module _ {D : Type 0} (disks : Ghosts D) where
  -- The log was closed with these parts, and its disk stands for it: each image that a crash may
  -- leave holds its runs, or these and the one in doubt. So does the file.
  pub record Ends (made : Made (LogView D)) (parts : List LogSight) (disk : D) : Type 0 where
    pub log : LogView D
    pub closed : IsClosedOf (shared_log disks) made parts log
    pub disk_is : disk ≡ log.disk
    pub file :
        disks.tells → MayHoldChain log.number (runs_in log) log.doubt (reads (disks.past disk))

  -- the logs from this place on, with their disks
  abbrev pub AreEnded :
      ℕ → List (Made (LogView D)) → List (List LogSight) → List D → Type 0
  AreEnded place [] passes [] = Unit {0}
  AreEnded place (log ∷ logs) passes (disk ∷ more) =
      Ends log (parts_at place passes) disk × AreEnded (place + 1) logs passes more
  AreEnded place [] passes (disk ∷ more) = ⊥
  AreEnded place (log ∷ logs) passes [] = ⊥
