-- The values of the code as the world that they stand for.
use Rattle.std.specs.Prelude.{◌≡◌, ◌⊎◌, ℕ, Bool, List, [], ◌∷◌, map, Option, Some, None}
use Rattle.std.specs.List.{AllByRecursion}
use Rattle.disk_model.specs.Past.{EveryImage, MayLeave}
use Rattle.disk_model.specs.Plan.{plan_past}
use Rattle.disk_model.specs.declared.plan.PlanDisk.{PlanDisk}
use Rattle.log_journal.specs.File.{Holds}
use Rattle.log_journal.specs.Journal.{HoldsWithOrWithout}
use Rattle.log_journal.specs.Writing.{LeavesEither}
use Rattle.log_base.specs.declared.limits.TheConstants.{LOG_LIMITS}
use Rattle.log_base.specs.declared.phase.Phase.{Phase}
use Rattle.log_base.specs.declared.phase.Phase.TheVariants.{Settling, Body, Gate}
use Rattle.chain_core.specs.declared.chain.Patch.{Patch}
use Rattle.chain_core.specs.declared.fate.Fate.{Fate}
use Rattle.chain_core.specs.declared.fate.Fate.TheVariants.{Done, Fails, Stops}
use Rattle.chain_core.specs.declared.answer.LogAnswer.{LogAnswer}
use Rattle.chain_core.specs.declared.answer.LogAnswer.TheVariants.{DiskFault}
use Rattle.chain_core.specs.Runs.{run_text}
use Rattle.chain_core.specs.Log.{LogPoint, up, down, stopped}
use Rattle.patch_meaning.specs.Checked.{CheckedPatch, AreChecked, checked_texts}
use Rattle.patch_log.specs.Log.{bare, IsSound, StandsForLog, payloads_of, run_payload}
use Rattle.patch_log.specs.State.{LogView, runs_in}
use Rattle.zone_state.specs.declared.answer.TakeAnswer.{TakeAnswer}
use Rattle.zone_state.specs.declared.answer.TakeAnswer.TheVariants as take
use Rattle.zone_state.specs.declared.file.TheConstants.{ZONE_NUMBER}
use Rattle.zone_state.specs.Brief.{Brief, brief_of}
use Rattle.zone_state.specs.Log.{StandsForZoneFile}
use Rattle.zone_state.specs.Zone.{ZoneView, StandsForZone, doubt_of, text_in}
use Rattle.world_core.specs.declared.log.TheConstants.{LOG_NUMBER}
use Rattle.world_core.specs.declared.log.LogPart.{LogPart}
use Rattle.world_core.specs.declared.log.LogPart.TheVariants.{Up, Down}
use Rattle.world_core.specs.declared.zone.ZonePart.{ZonePart}
use Rattle.world_core.specs.declared.zone.ZonePart.TheVariants.{Up as ZoneUp, Down as ZoneDown}
use Rattle.world_core.specs.declared.message.Message.{Message}
use Rattle.world_core.specs.declared.message.Message.TheVariants.{Item}
use Rattle.world_core.specs.declared.world.World.{World}
use Rattle.world_core.specs.World.{WorldPoint, ZonePoint, BeginsLog}

-- a phase that isn't run is done
abbrev pub fails_in : {T : Type 0} → Phase → Option T → Fate
fails_in Settling None = Done
fails_in Settling (Some doubtful) = Fails Settling
fails_in Body doubt = Fails Body
fails_in Gate doubt = Fails Gate

-- the calls of an append come to this where a stop is run as a failure
abbrev pub run_as : {T : Type 0} → Option T → Fate → Fate
run_as doubt Done = Done
run_as doubt (Fails phase) = fails_in phase doubt
run_as doubt (Stops phase opened) = fails_in phase doubt

-- how the gate is to stand where a log is stopped behind an append: one that was run as a failure
abbrev pub stop_for : Fate → Option Bool
stop_for (Stops phase opened) = Some opened
stop_for other = None

abbrev pub stop_by : Fate → LogAnswer → Option Bool
stop_by fate DiskFault = stop_for fate
stop_by fate other = None

-- the same of a zone
abbrev pub stop_taken : Fate → TakeAnswer → Option Bool
stop_taken fate take.DiskFault = stop_for fate
stop_taken fate other = None

abbrev pub stopped_if : {T : Type 0} → LogPoint T → Option Bool → LogPoint T
stopped_if point None = point
stopped_if point (Some opened) = stopped point opened

-- an image holds the payloads, or these and the one in doubt
abbrev pub MayHold : ℕ → List (List ℕ) → Option (List ℕ) → List ℕ → Type 0
MayHold number payloads None image = Holds image number payloads
MayHold number payloads (Some doubt) image = HoldsWithOrWithout number payloads doubt image

-- A disk under a log or a zone that runs. Each image holds the payloads, with the one in doubt or
-- without; a stop leaves the one image or the other.
pub record CarriesPart (number : ℕ) (disk : PlanDisk) (payloads : List (List ℕ))
    (doubt : Option (List ℕ)) : Type 0 where
  pub each : EveryImage (plan_past disk) (MayHold number payloads doubt)
  pub leaves : LeavesEither (plan_past disk) number payloads doubt

-- each image of a disk holds just these payloads
abbrev pub KeepsPayloads : ℕ → PlanDisk → List (List ℕ) → Type 0
KeepsPayloads number disk payloads =
    EveryImage (plan_past disk) (λ image. Holds image number payloads)

-- a log that runs
pub record Runs (log : LogView PlanDisk) (runs : List (List Patch)) (doubt : Option (List Patch))
    : Type 0 where
  pub runs_are : runs_in log ≡ runs
  pub doubt_is : log.doubt ≡ doubt
  pub number_is : log.number ≡ LOG_NUMBER
  pub limits_is : log.limits ≡ LOG_LIMITS
  pub stands : StandsForLog (plan_past log.disk) LOG_NUMBER LOG_LIMITS runs doubt
  pub leaves : LeavesEither (plan_past log.disk) LOG_NUMBER (payloads_of runs) (run_payload doubt)

-- A zone that runs. It stands for patches that were checked, of which its dataset is the replay.
pub record RunsZone (zone : ZoneView PlanDisk) (taken : List Patch) (doubt : Option Patch)
    : Type 0 where
  pub checked : List CheckedPatch
  pub taken_is : map bare checked ≡ taken
  pub doubt_is : doubt_of zone.doubt ≡ doubt
  pub limits_is : zone.limits ≡ LOG_LIMITS
  pub stands : StandsForZone (Unit {0}) (plan_past zone.disk) zone checked zone.doubt
  pub leaves : LeavesEither (plan_past zone.disk) ZONE_NUMBER (checked_texts checked)
      (text_in zone.doubt)

-- a disk that a log was on, or one that is new: each of its images holds the runs
abbrev pub KeepsRuns : PlanDisk → List (List Patch) → Type 0
KeepsRuns disk runs = StandsForLog (plan_past disk) LOG_NUMBER LOG_LIMITS runs None

-- the same of a zone's patches
abbrev pub KeepsTaken : PlanDisk → List Patch → Type 0
KeepsTaken disk taken = StandsForZoneFile (plan_past disk) ZONE_NUMBER LOG_LIMITS taken None

-- a log of the code is one of the world
abbrev pub IsPartOf : LogPart → LogPoint (List Patch) → Type 0
IsPartOf (Up log) (up runs doubt) = Runs log runs doubt
IsPartOf (Down disk) (down runs) = KeepsRuns disk runs
IsPartOf part other = ⊥

abbrev pub IsZoneOf : ZonePart → ZonePoint → Type 0
IsZoneOf (ZoneUp zone) (up taken doubt) = RunsZone zone taken doubt
IsZoneOf (ZoneDown disk) (down taken) = KeepsTaken disk taken
IsZoneOf part other = ⊥

-- one after another
abbrev pub AreZonesOf : List ZonePart → List ZonePoint → Type 0
AreZonesOf [] [] = Unit {0}
AreZonesOf (part ∷ parts) (point ∷ points) = IsZoneOf part point × AreZonesOf parts points
AreZonesOf parts points = ⊥

-- a patch that is sent is the one that its text is
abbrev pub IsSoundMessage : Message → Type 0
IsSoundMessage (Item version patch) = IsSound patch
IsSoundMessage other = Unit {0}

abbrev pub IsSoundSent : Option Message → Type 0
IsSoundSent None = Unit {0}
IsSoundSent (Some message) = IsSoundMessage message

pub record IsWorldOf (world : World) (point : WorldPoint) : Type 0 where
  pub log_is : IsPartOf world.log point.log
  pub zones_are : AreZonesOf world.zones.items point.zones
  pub pool_is : world.pool.items ≡ point.pool
  pub sound : AllByRecursion IsSoundMessage world.pool.items

-- every crash now leaves an image that has P
abbrev pub EveryImageOf : LogPart → (List ℕ → Type 0) → Type 0
EveryImageOf (Up log) P = EveryImage (plan_past log.disk) P
EveryImageOf (Down disk) P = EveryImage (plan_past disk) P

abbrev pub EveryImageOfZone : ZonePart → (List ℕ → Type 0) → Type 0
EveryImageOfZone (ZoneUp zone) P = EveryImage (plan_past zone.disk) P
EveryImageOfZone (ZoneDown disk) P = EveryImage (plan_past disk) P

-- the file of this number holds what has P, by its texts
abbrev pub HoldsSome : {T : Type 0} → ℕ → (T → List ℕ) → (List T → Type 0) → List ℕ → Type 0
HoldsSome {T} number text_of P image =
    (found : List T) × P found × Holds image number (map text_of found)

-- of a log its runs
abbrev pub HoldsRuns : (List (List Patch) → Type 0) → List ℕ → Type 0
HoldsRuns P image = HoldsSome LOG_NUMBER run_text P image

-- of a zone its patches, which their texts are
abbrev pub HoldsTaken : (List Patch → Type 0) → List ℕ → Type 0
HoldsTaken P image = HoldsSome ZONE_NUMBER (λ patch. patch.text)
    (λ found. AreChecked found × P (map bare found)) image

-- What opening a zone keeps that a crash leaves now: what the patches make that its file holds.
pub record Reopens (disk : PlanDisk) (brief : Brief) : Type 0 where
  pub image : List ℕ
  pub left : MayLeave (plan_past disk) image
  pub found : List CheckedPatch
  pub checked : AreChecked found
  pub holds : Holds image ZONE_NUMBER (checked_texts found)
  pub brief_is : brief ≡ brief_of found

-- what a zone keeps, or what opening it keeps behind a crash now
abbrev pub MayBeKept : ZonePart → Brief → Type 0
MayBeKept (ZoneUp zone) brief = (brief ≡ zone.brief) ⊎ Reopens zone.disk brief
MayBeKept (ZoneDown disk) brief = Reopens disk brief

-- whatever a zone keeps, or opening it keeps behind a crash now, are the ids and the replay of
-- first patches of the log, as many as its version says, checked again
abbrev pub IsZoneReplayed : LogPoint (List Patch) → ZonePart → Type 0
IsZoneReplayed log part = (brief : Brief) → MayBeKept part brief
    → (taken : List CheckedPatch) × AreChecked taken × BeginsLog log (map bare taken)
    × (brief ≡ brief_of taken)
