-- Followers of a deployment: runs of a zone, on one file or on two, each opened on the images that
-- the run before left, in which it catches up by texts that calls of the deployment served, and on
-- two files has checkpoints made.
use Rattle.std.specs.Prelude.{◌≡◌, ℕ, List, [], ◌∷◌, length, map, Some, None, Ok}
use Rattle.log_base.specs.declared.limits.LogLimits.{LogLimits}
use Rattle.disk_model.specs.declared.disk.Disk.{Ghosts}
use Rattle.disk_model.specs.Past.{MayHaveLeft}
use Rattle.log_journal.specs.File.{Holds}
use Rattle.chain_core.specs.declared.chain.Patch.{Patch}
use Rattle.chain_core.specs.Replies as replies
use Rattle.chain_core.specs.Replies.{fetch_version}
use Rattle.chain_core.specs.Runs.{patches_in}
use Rattle.checkpoint_text.specs.Brief.{Brief}
use Rattle.patch_log.specs.Log.{bare}
use Rattle.patch_meaning.specs.Checked.{CheckedPatch, AreChecked, checked_texts}
use Rattle.turn_cell.specs.Turns.{AllOf, IsIn}
use Rattle.delta_client.specs.Exchanges.{WasSaid}
use Rattle.delta_client.specs.Serving.{AllSaid}
use Rattle.rpc_answers.specs.declared.answer.Answer.TheVariants as answer
use Rattle.rpc_calls.specs.declared.call.Call.{Call}
use Rattle.rpc_calls.specs.declared.call.Call.TheVariants as calls
use Rattle.zone_pairs.specs.Pair.{PairPoint, ZoneHolds}
use Rattle.zone_state.specs.Brief.{brief_of}
use Rattle.zone_state.specs.Zone.{ZoneView, zone_number}
use Rattle.paired_zone.specs.declared.answer.CheckEnd.{CheckEnd}
use Rattle.paired_zone.specs.Checkpointing.{MakesCheckpoint}
use Rattle.paired_zone.specs.Zone.{first_in, second_in}
use Rattle.follower.specs.declared.ends.SyncEnd.{SyncEnd}
use Rattle.follower.specs.Calls.{calls_of}
use Rattle.follower.specs.Footing.{Footing, one_file, two_files, DisksOf, Tells, of_pair}
use Rattle.follower.specs.Footing.{ZoneStands, HasTaken}
use Rattle.follower.specs.Grown.{GrewBy}
use Rattle.follower.specs.Syncing.{EndIs}
use Rattle.world_core.specs.World.{IsFrontOf}
use Rattle.deployment.specs.Calls.{SeenCall}
use Rattle.deployment.specs.History.{PassRun, ServerRun, AreServerRuns, IsFoundIn, image_left}

-- ---- what was told

-- some call of the deployment fetched this version, and was told this text
pub record WasTold {D : Type 0} (runs : List (ServerRun D)) (version : ℕ)
    (text : List ℕ) : Type 0 where
  pub run : ServerRun D
  pub of_runs : IsIn run runs
  pub pass : PassRun
  pub of_run : IsIn pass run.passes
  pub seen : SeenCall
  pub of_pass : IsIn seen pass.calls
  pub patch : Patch
  pub call_is : seen.call ≡ fetch_version version
  pub reply_is : seen.reply ≡ Some (replies.found patch)
  pub text_is : patch.text ≡ text

-- a text that was said to the fetch of a version is one that the deployment told
abbrev pub TextWasTold : {D : Type 0} → List (ServerRun D) → Call → WasSaid → Type 0
TextWasTold runs (calls.FetchVersion name version) (Ok (answer.Patch text)) =
    WasTold runs version text
TextWasTold runs call one = Unit {0}

-- ---- the files of a zone

-- the image of its one file, or those of the first and the second
abbrev pub Images : Footing → Type 0
Images (one_file disks) = List ℕ
Images (two_files disks) = List ℕ × List ℕ

-- they are those of a zone that took no patch
abbrev pub AreNew : (on : Footing) → Images on → Type 0
AreNew (one_file disks) image = Holds image zone_number []
AreNew (two_files disks) images = ZoneHolds images.0 images.1 (brief_of [])

-- the zone was opened on them: it has what they hold, and no patch is in doubt
abbrev pub OpensOn : (on : Footing) → Images on → ZoneView (DisksOf on) → Type 0
OpensOn (one_file disks) image zone =
    (had : List CheckedPatch) × Holds image zone_number (checked_texts had)
    × ZoneStands (one_file disks) zone had × (zone.doubt ≡ None)
OpensOn (two_files disks) images zone =
    ZoneHolds images.0 images.1 zone.brief
    × ((point : PairPoint) × ZoneStands (two_files disks) zone point) × (zone.doubt ≡ None)

-- A crash may leave them at a moment from the one zone to what it is later. Of two files the moments
-- may be any two.
abbrev pub MayLeaveImages : (on : Footing) → ZoneView (DisksOf on) → ZoneView (DisksOf on)
    → Images on → Type 0
MayLeaveImages (one_file disks) old new image =
    MayHaveLeft (disks.past old.disk) (disks.past new.disk) image
MayLeaveImages (two_files disks) old new images =
    MayHaveLeft (disks.past (first_in (of_pair old))) (disks.past (first_in (of_pair new))) images.0
    × MayHaveLeft (disks.past (second_in (of_pair old))) (disks.past (second_in (of_pair new)))
    images.1

-- ---- a run of a zone

-- What a run does with its zone, which it leaves so: it catches up with a log of this name, takes
-- these patches by what was said, and that ends; or it makes a checkpoint.
pub data ZoneAct (Z : Type 0) : Type 0 where
  catches_up : (name : List ℕ) (took : List CheckedPatch) (said : List WasSaid) (end : SyncEnd)
      → ZoneView Z → ZoneAct Z
  makes_checkpoint : CheckEnd → ZoneView Z → ZoneAct Z

abbrev pub zone_behind : {Z : Type 0} → ZoneAct Z → ZoneView Z
zone_behind (catches_up name took said end now) = now
zone_behind (makes_checkpoint end now) = now

-- the zone as it was opened, its acts one after another, and the images that were left
pub record ZoneRun (on : Footing) : Type 0 where
  pub opened : ZoneView (DisksOf on)
  pub acts : List (ZoneAct (DisksOf on))
  pub left : Images on

-- a checkpoint is made of a zone on two files
abbrev pub ChecksOn : (on : Footing) → ZoneView (DisksOf on) → ZoneView (DisksOf on) → CheckEnd
    → Type 0
ChecksOn (one_file disks) old new end = ⊥
ChecksOn (two_files disks) old new end = MakesCheckpoint disks (of_pair old) (of_pair new) end

module _ (on : Footing) {D : Type 0} (runs : List (ServerRun D)) where
  -- the zone took these patches, and each text that was said is one that the deployment told
  pub record CatchesUp (old new : ZoneView (DisksOf on)) (name : List ℕ)
      (took : List CheckedPatch) (said : List WasSaid) (end : SyncEnd) : Type 0 where
    pub grew : GrewBy on old new took said
    pub ended : EndIs old new said took end
    pub told : AllSaid (TextWasTold runs) (calls_of name (length old.brief.ids) said) said

  abbrev pub Acts : ZoneView (DisksOf on) → ZoneAct (DisksOf on) → Type 0
  Acts old (catches_up name took said end new) = CatchesUp old new name took said end
  Acts old (makes_checkpoint end new) = ChecksOn on old new end

  -- acts one after another
  abbrev pub AreActs : ZoneView (DisksOf on) → List (ZoneAct (DisksOf on)) → Type 0
  AreActs zone [] = Unit {0}
  AreActs zone (act ∷ more) = Acts zone act × AreActs (zone_behind act) more

  -- it stopped at any moment of the last act, which then left the zone as it would have come to be;
  -- or before the first one
  abbrev pub StopsIn : ZoneView (DisksOf on) → List (ZoneAct (DisksOf on)) → Images on → Type 0
  StopsIn zone [] left = MayLeaveImages on zone zone left
  StopsIn zone (act ∷ []) left = MayLeaveImages on zone (zone_behind act) left
  StopsIn zone (act ∷ next ∷ more) left = StopsIn (zone_behind act) (next ∷ more) left

  -- a run on images
  pub record IsZoneRun (images : Images on) (run : ZoneRun on) : Type 0 where
    pub opens : OpensOn on images run.opened
    pub acts : AreActs run.opened run.acts
    pub stops : StopsIn run.opened run.acts run.left

  -- runs one after another, from images on
  abbrev pub AreZoneRuns : Images on → List (ZoneRun on) → Type 0
  AreZoneRuns images [] = Unit {0}
  AreZoneRuns images (run ∷ more) = IsZoneRun images run × AreZoneRuns run.left more

-- ---- the promise

module _ (on : Footing) (chain : List Patch) where
  -- The patches that the zone took are the first ones of the chain, as many as its version says, and
  -- its dataset is their replay.
  pub record ReplaysFront (zone : ZoneView (DisksOf on)) : Type 0 where
    pub taken : List CheckedPatch
    pub front : IsFrontOf (map bare taken) chain
    pub stands : HasTaken on zone taken
    pub replayed : zone.brief ≡ brief_of taken

-- So it is of whatever is found in these images: on two files the texts of the first patches may
-- stand in a checkpoint alone.
abbrev pub HoldFront : (on : Footing) → List Patch → Images on → Type 0
HoldFront (one_file disks) chain image =
    (found : List CheckedPatch) → AreChecked found
    → Holds image zone_number (checked_texts found) → IsFrontOf (map bare found) chain
HoldFront (two_files disks) chain images =
    (found : Brief) → ZoneHolds images.0 images.1 found
    → (taken : List CheckedPatch) × IsFrontOf (map bare taken) chain × (found ≡ brief_of taken)

-- so it is at each moment of a run
pub record FollowsOn (on : Footing) (chain : List Patch) (run : ZoneRun on) : Type 0 where
  pub opened : ReplaysFront on chain run.opened
  pub each : AllOf (λ act. ReplaysFront on chain (zone_behind act)) run.acts
  pub left : HoldFront on chain run.left

-- a follower that began with nothing, wherever it stopped and was opened again
abbrev pub FollowersFollow : {D : Type 0} → Ghosts D → Footing → Type 0
FollowersFollow {D} disks on =
    (number : ℕ) (limits : LogLimits) (image : List ℕ) (runs : List (ServerRun D))
    (found : List (List Patch)) → disks.tells → AreServerRuns disks number limits image runs
    → IsFoundIn (image_left image runs) number limits found
    → (images : Images on) (zone_runs : List (ZoneRun on)) → Tells on → AreNew on images
    → AreZoneRuns on runs images zone_runs
    → (zone_run : ZoneRun on) → IsIn zone_run zone_runs → FollowsOn on (patches_in found) zone_run
