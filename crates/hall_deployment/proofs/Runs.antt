-- A run of a hall is a run of the server of each of its logs.
use Rattle.std.proofs.Common.{◌≡◌, ⊎_elim, ℕ, zero, suc, ◌+◌, ◌<◌, List, [], ◌∷◌, map, length, refl, sym, ap, ◌∙◌, subst, arith, Some, None, slice_get}
use Rattle.std.specs.List.{AllZip}
use Rattle.std.proofs.lemmas.List.{length-map}
use Rattle.std.proofs.lemmas.Slice.Zip.{AllZip-long}
use Rattle.log_base.specs.declared.limits.TheConstants.{LOG_LIMITS}
use Rattle.disk_model.specs.declared.disk.Disk.{Ghosts}
use Rattle.disk_model.specs.Past.{began, MayLeave, Keeps}
use Rattle.chain_core.specs.declared.chain.Patch.{Patch}
use Rattle.patch_log.specs.State.{LogView}
use Rattle.turn_cell.specs.Turns.{AllOf}
use Rattle.turn_cell.specs.Sights.{Made, AreAll}
use Rattle.turn_cell.specs.Sharing.{AreAllPassesOf, IsClosedOf}
use Rattle.turn_cell.proofs.Members.{all_got}
use Rattle.shared_log.specs.History.{LogSight, shared_log}
use Rattle.shared_log.proofs.Moments.{all_at_moment}
use Rattle.hall_logs.specs.Ends.{parts_at}
use Rattle.hall_logs.specs.Files.{IsOpened}
use Rattle.hall_logs.proofs.Columns.{column}
use Rattle.hall_logs.proofs.Visiting.{same_some}
use Rattle.delta_session.specs.Ends.{IsEnded}
use Rattle.delta_session.specs.Opening.{IsOpenedHall}
use Rattle.delta_session.specs.Steps.{HallView, HallSight}
use Rattle.delta_session.proofs.Opens.{logs_passes}
use Rattle.delta_session.proofs.Passing.{passes_stay}
use Rattle.deployment.specs.History.{PassRun, ServerRun, HasCalled, IsServerRun, AreServerRuns, IsFoundIn, image_left, sights_of}
use Rattle.deployment.specs.Promise.{KeepsPromise}
use Rattle.deployment.specs.Shown.{IsBegun}
use Rattle.deployment.proofs.Kept.{promise}
use Rattle.deployment.proofs.Shown.{a_run, killed_is}
use Rattle.hall_deployment.specs.Halls.{HallPassRun, HallRun, WasClosed, WasKilled, IsHallRun, AreHallRuns, IsPassAt, IsRunAt, given_in, stopped_in}
use Rattle.hall_deployment.proofs.Begun.{OpenedAt, opened_at, EndedAt, ended_at}
use Rattle.hall_deployment.proofs.Slots.{in_first, in_second, have_asked, have_called, parts_back, parts_of}

within : {A : Type 0} (xs : List A) (k : ℕ) (x : A) → slice_get xs k ≡ Some x → k < length xs
within [] k x is = let c = is in cc
within (y ∷ xs) zero x is = omega arith
within (y ∷ xs) (suc k) x is = let low = within xs k x is in omega (arith, low)

from_none : (n : ℕ) → 0 + n ≡ n
from_none n = omega arith

abbrev behind_first : {A : Type 0} → List A → List A
behind_first [] = []
behind_first (x ∷ xs) = xs

module _ {D : Type 0} (disks : Ghosts D) (tells : disks.tells) where
  -- the disk behind the registry's
  slot_opened : (all : List D) (hall : HallView D) (place : ℕ) (disk : D) → IsOpenedHall disks all hall → slice_get all (place + 1) ≡ Some disk → OpenedAt disks LOG_LIMITS (place + 1) disk hall.logs.logs place
  slot_opened [] hall place disk opened is = absurd opened
  slot_opened (first ∷ more) hall place disk opened is =
      let next : suc place ≡ place + 1 = omega arith in
      let got : slice_get more place ≡ Some disk = ap (λ (k : ℕ). slice_get (first ∷ more) k) next ∙ is in
      let at : 1 + place ≡ place + 1 = omega arith in
      subst (λ (n : ℕ). OpenedAt disks LOG_LIMITS n disk hall.logs.logs place) at (opened_at disks LOG_LIMITS 1 more hall.logs.logs place disk opened.1 got)

  slot_ended : (hall : HallView D) (passes : List HallSight) (left : List D) (place : ℕ) (log : Made (LogView D)) → IsEnded disks hall passes left → slice_get hall.logs.logs place ≡ Some log
      → (ended : EndedAt disks 0 log (map (λ (pass : HallSight). pass.lists.logs) passes) (behind_first left) place) × (slice_get left (place + 1) ≡ Some ended.disk)
  slot_ended hall passes [] place log ended is = absurd ended
  slot_ended hall passes (first ∷ more) place log ended is =
      let at = ended_at disks 0 hall.logs.logs (map (λ (pass : HallSight). pass.lists.logs) passes) more place log ended.1 is in
      let next : place + 1 ≡ suc place = omega arith in
      (at, ap (λ (k : ℕ). slice_get (first ∷ more) k) next ∙ at.disk_is)

  module _ (images : List (List ℕ)) (run : HallRun D) (is : IsHallRun disks images run) (place : ℕ) (image : List ℕ) (there : slice_get images (place + 1) ≡ Some image) where
    abbrev Found : Type 0
    Found = (log_run : ServerRun D) × IsRunAt place run log_run × IsServerRun disks (place + 1) LOG_LIMITS image log_run

    abbrev Read : D → List ℕ → Type 0
    Read disk image = Keeps (began image) (disks.past disk)

    disk : (disk : D) × (slice_get run.disks (place + 1) ≡ Some disk) × Read disk image
    disk = in_first Read run.disks images (place + 1) image is.begins there

    opened : OpenedAt disks LOG_LIMITS (place + 1) disk.0 run.hall.logs.logs place
    opened = slot_opened run.disks run.hall place disk.0 is.opened disk.1

    abbrev log : Made (LogView D)
    log = opened.log

    begun : (log_run : ServerRun D) → log_run.made ≡ log → IsBegun disks (place + 1) LOG_LIMITS image log_run
    begun log_run same =
        let at : IsOpened disks LOG_LIMITS (place + 1) disk.0 log_run.made.origin = subst (λ (made : Made (LogView D)). IsOpened disks LOG_LIMITS (place + 1) disk.0 made.origin) (sym same) opened.is in
        record { disk = disk.0; begins = disk.2; payloads = at.file; log = at.sound; whole = at.whole; settled = at.settled }

    called : (made : Made (LogView D)) (parts : List PassRun) → made ≡ log → AllZip (IsPassAt place) run.passes parts → AllOf (HasCalled disks made) parts
    called made parts same are = subst (λ (made : Made (LogView D)). AllOf (HasCalled disks made) parts) (sym same)
        (have_called disks run.hall place log opened.log_is 1 run.passes parts are is.new is.stepped)

    -- of a hall that was closed
    closed_run : WasClosed disks run → Found
    closed_run was =
        let ended = slot_ended run.hall (stopped_in run) was.left place log was.ended opened.log_is in
        let leaves = in_second (λ (disk : D) (image : List ℕ). MayLeave (disks.past disk) image) was.left run.images (place + 1) ended.0.disk was.leaves ended.1 in
        let parts = parts_of disks run.hall place log opened.log_is 1 run.passes is.new is.stepped was.in_none in
        let closed : IsClosedOf (shared_log disks) log (parts_back disks run.hall place run.passes) ended.0.ends.log =
        subst (λ (n : ℕ). IsClosedOf (shared_log disks) log (parts_at n (map (λ (pass : HallSight). pass.lists.logs) (stopped_in run))) ended.0.ends.log) (from_none place) ended.0.ends.closed in
        let back = passes_stay disks run.hall (given_in run) (stopped_in run) (have_asked disks run.hall run.passes is.stepped was.in_none) is.all in
        let all : AreAllPassesOf (shared_log disks) log (parts_back disks run.hall place run.passes) =
        column disks run.hall.logs.logs place log opened.log_is (within run.hall.logs.logs place log opened.log_is) run.hall.logs.seats (map (λ (pass : HallSight). pass.lists.logs) (stopped_in run)) is.each
        (logs_passes disks run.hall (stopped_in run) back) in
        let log_run : ServerRun D = record { made = log; passes = parts.parts; log = ended.0.ends.log; under_way = None; image = leaves.0 } in (
          log_run,
          record { made = opened.log_is; passes = parts.are; image = leaves.1 },
          a_run disks (place + 1) LOG_LIMITS image log_run tells (begun log_run refl) (called log parts.parts refl parts.are)
              (subst (λ (sights : List LogSight). AreAll log.seats sights) (sym parts.sights) all.1)
              (subst (λ (sights : List LogSight). IsClosedOf (shared_log disks) log sights ended.0.ends.log) (sym parts.sights) closed)
              (subst (λ (d : D). MayLeave (disks.past d) leaves.0) ended.0.ends.disk_is leaves.2),
        )

    -- of one that was killed
    killed_run : WasKilled disks run → Found
    killed_run was =
        let at = was.at place (within run.hall.logs.logs place log opened.log_is) in
        let log_run = at.log_run in
        let same : log_run.made ≡ log = same_some log_run.made log (sym at.at.made ∙ opened.log_is) in
        let seats : log_run.made.seats ≡ run.hall.logs.seats = all_got (λ (log : Made (LogView D)). log.seats ≡ run.hall.logs.seats) run.hall.logs.logs place log_run.made is.each at.at.made in
        let count : length (sights_of log_run) ≡ run.hall.logs.seats =
        length-map log_run.passes (λ (pass : PassRun). pass.at_stop) ∙ AllZip-long (IsPassAt place) run.passes log_run.passes at.at.passes
        ∙ sym (length-map run.passes (λ (pass : HallPassRun). pass.given)) ∙ is.all.count in (
          log_run,
          at.at,
          killed_is disks (place + 1) LOG_LIMITS image log_run tells (begun log_run same) at.cell (called log_run.made log_run.passes same at.at.passes)
              (all_at_moment disks log_run.made log_run.log (sights_of log_run) at.cell at.moment (omega (arith, seats, count))) at.moment at.leaves,
        )

    pub slot_run : Found
    slot_run = ⊎_elim closed_run killed_run is.stopped

  -- the runs of one log
  record SlotRuns (place : ℕ) (image : List ℕ) (runs : List (HallRun D)) : Type 0 where
    log_runs : List (ServerRun D)
    are_at : AllZip (IsRunAt place) runs log_runs
    are : AreServerRuns disks (place + 1) LOG_LIMITS image log_runs

  slot_runs : (images : List (List ℕ)) (runs : List (HallRun D)) → AreHallRuns disks images runs → (place : ℕ) (image : List ℕ) → slice_get images (place + 1) ≡ Some image → SlotRuns place image runs
  slot_runs images [] are place image there = record { log_runs = []; are_at = tt; are = tt }
  slot_runs images (run ∷ more) are place image there =
      let first = slot_run images run are.0 place image there in
      let rest = slot_runs run.images more are.1 place first.0.image first.1.image in
      record { log_runs = first.0 ∷ rest.log_runs; are_at = (first.1, rest.are_at); are = (first.2, rest.are) }

  pub keep : (images : List (List ℕ)) (runs : List (HallRun D)) → AreHallRuns disks images runs → (place : ℕ) (image : List ℕ) → slice_get images (place + 1) ≡ Some image
      → (log_runs : List (ServerRun D)) × AllZip (IsRunAt place) runs log_runs
      × ((found : List (List Patch)) → IsFoundIn (image_left image log_runs) (place + 1) LOG_LIMITS found → KeepsPromise (place + 1) LOG_LIMITS image log_runs found)
  keep images runs are place image there =
      let at = slot_runs images runs are place image there in
      (at.log_runs, at.are_at, λ found last. promise disks tells (place + 1) LOG_LIMITS image at.log_runs found at.are last)
