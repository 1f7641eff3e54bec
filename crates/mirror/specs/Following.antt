-- What pulls bring into a log, and that a log into which only pulls bring patches begins its
-- origin's chain.
use Rattle.std.specs.Prelude.{◌≡◌, ◌≢◌, ◌⊎◌, ℕ, ◌<◌, List, [], ◌∷◌, ◌++◌, map, None, Ok}
use Rattle.std.specs.List.{AllByRecursion}
use mathlib.Core.List.{IsPrefix}
use Rattle.disk_model.specs.declared.disk.Disk.{Ghosts}
use Rattle.disk_model.specs.Past.{EveryImage}
use Rattle.log_journal.specs.File.{Holds}
use Rattle.chain_core.specs.declared.chain.Patch.{Patch}
use Rattle.chain_core.specs.Among.{IsAmong}
use Rattle.chain_core.specs.Links.{IsChain}
use Rattle.chain_core.specs.Patches.{links_of, patches_of}
use Rattle.chain_core.specs.Runs.{patches_in, run_texts}
use Rattle.patch_log.specs.Log.{IsSound}
use Rattle.patch_log.specs.State.{LogView}
use Rattle.turn_cell.specs.declared.view.Known.{Known}
use Rattle.turn_cell.specs.Knowing.{KnowsItsOwn, Wants, pass_number, seen_of, failed_of}
use Rattle.turn_cell.specs.Sharing.{IsNewPassOf, IsClosedOf}
use Rattle.turn_cell.specs.Sights.{Made, AreAll}
use Rattle.turn_cell.specs.Turns.{AllOf, IsIn}
use Rattle.shared_log.specs.declared.value.Placed.{Placed}
use Rattle.shared_log.specs.History.{LogSight, shared_log}
use Rattle.delta_client.specs.Exchanges.{WasSaid}
use Rattle.rpc_answers.specs.declared.answer.Answer.TheVariants as origin_says
use Rattle.catch_up.specs.Runs.{Run, said_in}
use Rattle.mirror.specs.declared.ends.PullEnd.{PullEnd}
use Rattle.mirror.specs.Pulling.{Pulled}

-- ---- one pull

-- its text was said, and it is the patch that the text is
pub record IsReadFrom (said : List WasSaid) (patch : Patch) : Type 0 where
  pub was_said : IsIn (Ok (origin_says.Patch patch.text)) said
  pub sound : IsSound patch

-- Behind all that the pass had seen stand patches that other passes brought, and such ones. What
-- it left in doubt is such a patch.
pub record BringsOnly (Such : Patch → Type 0) (p q : LogSight) : Type 0 where
  pub behind : List (Known Placed)
  pub sees : seen_of q ≡ seen_of p ++ behind
  pub brought : AllOf (λ known. (known.by ≢ pass_number p) ⊎ Such known.content.patch) behind
  pub left : List (List Patch)
  pub failed : failed_of q ≡ failed_of p ++ left
  pub doubted : AllOf (AllOf Such) left

abbrev pub PullsBringWhatTheyRead : {D : Type 0} → Ghosts D → LogView D → Type 0
PullsBringWhatTheyRead disks origin =
    (p q : LogSight) (run : Run) (end : PullEnd) → KnowsItsOwn p → Pulled disks origin p run end q
    → BringsOnly (IsReadFrom (said_in run)) p q

-- ---- a mirror

-- one of the patches has this text
abbrev pub HasTextAmong : List Patch → List ℕ → Type 0
HasTextAmong chain text = (patch : Patch) × IsAmong patch chain × (patch.text ≡ text)

-- each text that was said is that of one of the chain's patches
abbrev pub TextsAreAmong : List Patch → List WasSaid → Type 0
TextsAreAmong chain said =
    (text : List ℕ) → IsIn (Ok (origin_says.Patch text)) said → HasTextAmong chain text

-- an image holds runs whose patches begin the chain
abbrev pub HoldsBeginning : List Patch → ℕ → List ℕ → Type 0
HoldsBeginning chain number image =
    (runs : List (List Patch)) × Holds image number (run_texts runs)
    × IsPrefix (patches_in runs) chain

-- a pass in one run of a mirror: as it was given, as each of its acts left it, and as it is then
pub record MirrorPass : Type 0 where
  pub number : ℕ
  pub given : LogSight
  pub acts : List LogSight
  pub at_stop : LogSight

module _ {D : Type 0} (disks : Ghosts D) (chain : List Patch) where
  -- an act of a pass of a mirror: it only asks, or it pulls from an origin that has this chain
  pub data IsAct (origin : LogView D) (p q : LogSight) : Type 0 where
    asks : Wants p q → IsAct origin p q
    pulls : (run : Run) (end : PullEnd) → Pulled disks origin p run end q
        → TextsAreAmong chain (said_in run) → IsAct origin p q

  -- acts one after another
  abbrev pub AreActs : LogView D → LogSight → List LogSight → LogSight → Type 0
  AreActs origin p [] q = q ≡ p
  AreActs origin p (next ∷ more) q = IsAct origin p next × AreActs origin next more q

  -- the pass was given by the sharing, and then did nothing else
  pub record OnlyMirrors (made : Made (LogView D)) (pass : MirrorPass) : Type 0 where
    pub numbered : 0 < pass.number
    pub is_given : IsNewPassOf (shared_log disks) made pass.number pass.given
    pub acts : AreActs made.origin pass.given pass.acts pass.at_stop

  -- One run of a mirror: a log that began its origin's chain was shared, each of its passes did
  -- nothing else, and this is the log when all are back.
  pub record IsMirrorRun (made : Made (LogView D)) (passes : List MirrorPass)
      (log : LogView D) : Type 0 where
    pub is_chain : IsChain (links_of chain)
    pub sound : AllByRecursion IsSound chain
    pub began : IsPrefix (patches_of made.origin.entries) chain
    pub by_nobody : AllByRecursion (λ entry. entry.by ≡ 0) made.origin.entries
    pub settled : made.origin.doubt ≡ None
    pub mirror : AllOf (OnlyMirrors made) passes
    pub all_there : AreAll made.seats (map (λ pass. pass.at_stop) passes)
    pub closed : IsClosedOf (shared_log disks) made (map (λ pass. pass.at_stop) passes) log

  -- the log begins the chain, also in each image that a crash may leave
  pub record BeginsOrigin (log : LogView D) : Type 0 where
    pub list : IsPrefix (patches_of log.entries) chain
    pub images : EveryImage (disks.past log.disk) (HoldsBeginning chain log.number)

abbrev pub MirrorsBeginTheirOrigin : {D : Type 0} → Ghosts D → Type 0
MirrorsBeginTheirOrigin {D} disks =
    (chain : List Patch) (made : Made (LogView D)) (passes : List MirrorPass) (log : LogView D)
    → disks.tells → IsMirrorRun disks chain made passes log → BeginsOrigin disks chain log
