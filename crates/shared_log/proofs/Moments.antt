-- What the rule of a log's cell says at any moment.
use Rattle.std.proofs.Common.{◌≡◌, ◌≤◌, List, ◌++◌, length, sym, subst}
use Rattle.disk_model.specs.declared.disk.Disk.{Ghosts}
use Rattle.patch_log.specs.State.{LogView}
use Rattle.patch_log.specs.Tail.{StandsForChain}
use Rattle.turn_cell.specs.Sights.{Made, AreAll}
use Rattle.turn_cell.specs.Sharing.{IsClosedOf}
use Rattle.turn_cell.proofs.Moments.{all_there, closed_at, fits_role}
use Rattle.twin_cell.proofs.Moments.{at_moment}
use Rattle.shared_log.specs.History.{LogSight, shared_log}
use Rattle.shared_log.specs.Moments.{LogCell, log_of_parts, IsLogMoment}
use Rattle.shared_log.specs.Parts.{log_list, log_work}
use Rattle.shared_log.proofs.Turns.{known_entries, stands_in_turn}

module _ {D : Type 0} (disks : Ghosts D) (made : Made (LogView D)) (log : LogView D) (passes : List LogSight) (s : LogCell disks) (moment : IsLogMoment disks made log passes s) where
  pub closed : IsClosedOf (shared_log disks) made passes log
  closed =
      let work = moment.lies.work in
      let list = moment.lies.list in
      let at = at_moment (log_work disks).stands (log_work disks).fault_count (log_work disks).doubt (log_work disks).fixed log_list.entries log_list.spare log_list.fits
      moment.work moment.list made.seats s moment.rule work list moment.lies.work_lies moment.lies.list_lies in
      let kept : StandsForChain work.tail list.chain.items = subst (StandsForChain work.tail) (known_entries list.chain.items) at.stands_for in
      let origin : LogView D = log_of_parts disks moment.work moment.list in
      let now : LogView D = log_of_parts disks work list in
      let here : IsClosedOf (shared_log disks) (record { cell = made.cell; origin = origin; seats = made.seats }) passes now =
      closed_at passes (shared_log disks) (record { cell = made.cell; origin = origin; seats = made.seats }) now s.views (stands_in_turn disks work.tail list.chain.items list.chain.spare kept at.test) at.history at.same_fixed
      (λ fresh. let same = at.untouched fresh in λ i. log_of_parts disks (same.0 i) (same.1 i)) moment.passes_are in
      subst (λ (z : LogView D × LogView D). IsClosedOf (shared_log disks) (record { cell = made.cell; origin = z.0; seats = made.seats }) passes z.1) (λ i. (sym moment.made_of i, sym moment.lies.log_is i)) here

  -- where there are as many passes as seats, none is missing
  pub all_at_moment : made.seats ≤ length passes → AreAll made.seats passes
  all_at_moment enough =
      let r = moment.rule.rule in
      all_there passes made.seats s.views
      (λ seat v at role. (fits_role (λ f. log_list.fits) ((log_work disks).fixed moment.work) s.views (log_list.entries moment.list ++ r.later) moment.rule.cells.faults r.each_seat seat v at role).0.0) enough moment.passes_are
