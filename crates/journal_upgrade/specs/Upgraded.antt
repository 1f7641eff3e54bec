-- What an upgrade ends with.
use Rattle.std.specs.Prelude.{◌≡◌, ◌⊎◌, ℕ, ◌-◌, ◌^◌, min, Err, List}
use Rattle.disk_model.specs.Past.{Past}
use Rattle.log_journal.specs.Front.{HoldsNothing, IsFront}
use Rattle.log_journal.specs.declared.at_front.FrontFault.TheVariants as front
use Rattle.log_journal.specs.declared.form.Form.{Form}
use Rattle.journal_upgrade.specs.Copies.{AreBrought, count_old}
use Rattle.journal_upgrade.specs.Faults.{IsUpgradeFault}
use Rattle.journal_upgrade.specs.Marker.{IsMarked}
use Rattle.journal_upgrade.specs.declared.fault.UpgradeFault.{UpgradeFault}
use Rattle.journal_upgrade.specs.declared.fault.UpgradeFault.TheVariants.{Failed, Damaged}
use Rattle.journal_upgrade.specs.declared.fault.UpgradeFault.TheVariants.{WrongNumber, OverLimit}
use Rattle.journal_upgrade.specs.declared.fault.UpgradeFault.TheVariants.{OutOfMemory}
use Rattle.journal_upgrade.specs.declared.upgrade.Upgraded.{Upgraded}
use Rattle.journal_upgrade.specs.declared.upgrade.Upgraded.TheVariants.{Files, Finished}

-- nothing stood in the marker, or a payload
abbrev pub IsFoundBy : Upgraded → List ℕ → ℕ → Type 0
IsFoundBy (Files count) image number = HoldsNothing image number
IsFoundBy Finished image number = IsMarked image number

-- every image of each file holds, as it is written, what the file held, or under a marker what
-- its spare held; so many files were of the old form
abbrev pub IsUpgraded : {D : Type 0} → (D → Past) → List ℕ → List D → List D → List D
    → Upgraded → Type 0
IsUpgraded past numbers files spares news (Files count) = (forms : List Form)
    × AreBrought past 0 0 numbers files forms news
    × (count ≡ min (count_old forms) (2 ^ 32 - 1))
IsUpgraded past numbers files spares news Finished = (forms : List Form)
    × AreBrought past 2000 0 numbers spares forms news

-- the marker with this number has this fault at its front; one of the old form is damaged
abbrev pub IsMarkerFault : List ℕ → ℕ → UpgradeFault → Type 0
IsMarkerFault image number (Damaged file at) = (file ≡ number)
    × (IsFront image number (Err (front.Damaged at))
    ⊎ ((at ≡ 0) × IsFront image number (Err front.OldFormat)))
IsMarkerFault image number (WrongNumber file found) =
    (file ≡ number) × IsFront image number (Err (front.WrongNumber found))
IsMarkerFault image number (OverLimit file length limit) = ⊥
IsMarkerFault image number Failed = Unit {0}
IsMarkerFault image number OutOfMemory = Unit {0}

-- the first fault of the files, or under a marker of the spares; where nothing stands in the
-- marker its spares have no fault that is told
abbrev pub IsSetFault : {D : Type 0} → (D → Past) → List ℕ → List D → List D → List ℕ → ℕ
    → UpgradeFault → Type 0
IsSetFault past numbers files spares image number fault =
    (HoldsNothing image number × IsUpgradeFault past 0 numbers files fault)
    ⊎ (IsMarked image number × IsUpgradeFault past 2000 numbers spares fault)
