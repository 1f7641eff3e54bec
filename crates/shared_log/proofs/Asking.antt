-- What a pass is told that only asks, in the turn of the list alone.
use Rattle.std.proofs.Common.{◌≡◌, List, refl}
use Rattle.log_base.specs.declared.limits.LogLimits.{LogLimits}
use Rattle.disk_model.specs.declared.disk.Disk.{Ghosts}
use Rattle.chain_core.specs.declared.chain.Entry.{Entry}
use Rattle.chain_core.specs.Patches.{patches_of}
use Rattle.chain_core.specs.Replies.{LogCall, LogReply, log_reply}
use Rattle.patch_log.specs.declared.tail.LogTail.{LogTail}
use Rattle.patch_log.specs.State.{LogView}
use Rattle.patch_log.specs.Tail.{log_of}
use Rattle.turn_cell.specs.Sights.{Made, IsOutside}
use Rattle.turn_cell.specs.Knowing.{IsSame, IsQuiet, SeesOn, Wants}
use Rattle.turn_cell.specs.Sharing.{IsPassOf, LeavesTurn, InTurn}
use Rattle.turn_cell.proofs.Staying.{Finds, passes_on}
use Rattle.shared_log.specs.History.{LogSight, SeesWhole, shared_log}
use Rattle.shared_log.specs.Legal.{IsReply}
use Rattle.shared_log.specs.Stays.{Asks}
use Rattle.shared_log.proofs.Bringing.{taken}
use Rattle.shared_log.proofs.Telling.{ask_told, sees_whole, wants}
use Rattle.shared_log.proofs.Turns.{SeesList, finds, left_as_found}

pub record AskTold {D : Type 0} (disks : Ghosts D) (made : Made (LogView D)) (p q : LogSight) (items : List Entry) : Type 0 where
  pub of : IsPassOf (shared_log disks) made q
  pub whole : SeesWhole q
  pub wants : Wants p q
  pub told : (call : LogCall) (reply : LogReply) → ((l : LogLimits) → reply ≡ log_reply l call (patches_of items)) → (SeesOn p q × IsReply made.origin.limits call reply p q) × InTurn (shared_log disks) (Asks disks call reply) made.origin p q

pub only_asks : {D : Type 0} (disks : Ghosts D) (p m q : LogSight) (tail : LogTail D disks) (items : List Entry) → SeesList disks p m tail items → IsSame m q × IsOutside q → q.view.looks ≡ m.view.looks → q.view.seen ≡ m.view.seen → IsQuiet m q → (made : Made (LogView D)) → IsPassOf (shared_log disks) made p
    → AskTold disks made p q items
only_asks {D} disks p m q tail items sees same looks seen quiet made of =
    let log : LogView D = log_of tail items 0 in
    let came : Finds (shared_log disks) p log m = finds disks p m tail items sees 0 in
    let leaves : LeavesTurn (shared_log disks) m (taken m log log) q = left_as_found disks p m tail items sees q 0 same looks seen quiet in
    record {
      of = passes_on (shared_log disks) p m q log (taken m log log) came leaves refl made of;
      whole = sees_whole disks m q (taken m log log) leaves;
      wants = wants disks p m q log log came leaves made of refl quiet;
      told = λ call reply gives. ask_told disks p m q log log came leaves made of refl quiet log refl call reply (gives log.limits);
    }
