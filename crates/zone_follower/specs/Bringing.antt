-- What following brings into a shared zone.
use Rattle.std.specs.Prelude.{◌≡◌, ◌≢◌, ◌⊎◌, List, ◌++◌, Ok}
use Rattle.disk_model.specs.declared.disk.Disk.{Ghosts}
use Rattle.chain_core.specs.declared.chain.Patch.{Patch}
use Rattle.patch_log.specs.Log.{bare}
use Rattle.patch_meaning.specs.Checked.{CheckedPatch}
use Rattle.patch_meaning.specs.Patch.{IsPatch}
use Rattle.turn_cell.specs.declared.view.Known.{Known}
use Rattle.turn_cell.specs.Knowing.{KnowsItsOwn, pass_number, seen_of, failed_of}
use Rattle.turn_cell.specs.Turns.{AllOf, IsIn}
use Rattle.shared_zone.specs.History.{SharedZone, ZoneSight}
use Rattle.delta_client.specs.Exchanges.{WasSaid}
use Rattle.rpc_answers.specs.declared.answer.Answer.TheVariants as answer
use Rattle.catch_up.specs.Runs.{Run, said_in}
use Rattle.follower.specs.declared.ends.SyncEnd.{SyncEnd}
use Rattle.zone_follower.specs.Following.{Followed}

-- its text was said, and is that of the patch
pub record WasRead (said : List WasSaid) (patch : CheckedPatch) : Type 0 where
  pub was_said : IsIn (Ok (answer.Patch patch.text)) said
  pub is_patch : IsPatch patch.text patch.meaning

-- it is such a patch, as it stands in a file
abbrev pub WasReadBare : List WasSaid → Patch → Type 0
WasReadBare said doubt = (patch : CheckedPatch) × WasRead said patch × (doubt ≡ bare patch)

-- Behind all that the pass had seen stand patches that other passes brought, and such as were read.
-- What it left in doubt is such a patch.
pub record BringsRead (said : List WasSaid) (p q : ZoneSight) : Type 0 where
  pub behind : List (Known CheckedPatch)
  pub sees : seen_of q ≡ seen_of p ++ behind
  pub brought : AllOf (λ known. (known.by ≢ pass_number p) ⊎ WasRead said known.content) behind
  pub left : List Patch
  pub failed : failed_of q ≡ failed_of p ++ left
  pub doubted : AllOf (WasReadBare said) left

abbrev pub FollowingsBringWhatTheyRead : {D : Type 0} → Ghosts D → SharedZone D → Type 0
FollowingsBringWhatTheyRead disks origin =
    (p q : ZoneSight) (run : Run) (end : SyncEnd) → KnowsItsOwn p
    → Followed disks origin p run end q → BringsRead (said_in run) p q
