-- A run of a hall is a run of its registry.
use Rattle.std.proofs.Common.{◌≡◌, ◌≤◌, ⊎_elim, ℕ, ◌+◌, List, [], ◌∷◌, ◌++◌, map, length, refl, sym, ap, ◌∙◌, subst, arith, Option, Some, None, slice_get}
use Rattle.std.specs.List.{AllZip}
use Rattle.std.proofs.lemmas.List.{length-map}
use Rattle.disk_model.specs.declared.disk.Disk.{Ghosts}
use Rattle.disk_model.specs.Past.{began, MayLeave, Keeps}
use Rattle.registry_core.specs.declared.event.Event.{Event}
use Rattle.log_registry.specs.State.{StateView}
use Rattle.turn_cell.specs.Turns.{AllOf}
use Rattle.turn_cell.specs.Sights.{Made, AreAll}
use Rattle.turn_cell.specs.Sharing.{AreAllPassesOf, IsClosedOf}
use Rattle.turn_cell.proofs.Moments.{all_there, fits_role}
use Rattle.shared_registry.specs.History.{RegistrySight, shared_registry}
use Rattle.shared_registry.specs.Moments.{RegistryCell, IsRegistryMoment}
use Rattle.delta_session.specs.Ends.{IsEnded}
use Rattle.delta_session.specs.Halls.{AreNewPasses}
use Rattle.delta_session.specs.Opening.{IsOpenedHall, IsOpenedRegistry}
use Rattle.delta_session.specs.Steps.{HallView, HallSight, Lists, Step, of_registry, of_log, IsStep}
use Rattle.delta_session.proofs.Opens.{registry_passes}
use Rattle.delta_session.proofs.Passing.{passes_stay}
use Rattle.registry_deployment.specs.Calls.{SeenOnRegistry, AreSeenOnRegistry, IsAmidOnRegistry}
use Rattle.registry_deployment.specs.History.{RegistryPassRun, RegistryRun, HasCalledOnRegistry, IsRegistryRun, AreRegistryRuns, IsRegistryIn, registry_left, registry_sights}
use Rattle.registry_deployment.specs.Promise.{KeepsRegistryPromise}
use Rattle.registry_deployment.specs.Shown.{IsRegistryBegun}
use Rattle.registry_deployment.proofs.Kept.{promise}
use Rattle.registry_deployment.proofs.Shown.{a_run, killed_is}
use Rattle.hall_deployment.specs.Seen.{SeenStep, AreSeenSteps, lookup_in, lookups_in}
use Rattle.hall_deployment.specs.Halls.{StepUnderWay, on_registry, on_log, HallPassRun, HallRun, HasStepped, IsAmidStep, WasClosed, WasKilled, IsHallRun, AreHallRuns, IsRunOfRegistry, in_lookup, registry_part, given_in, stopped_in}
use Rattle.hall_deployment.proofs.Slots.{have_asked}

-- ---- steps

module _ {D : Type 0} (disks : Ghosts D) (origin : StateView D) where
  calls_follow : (p m q : RegistrySight) (first others : List SeenOnRegistry) → AreSeenOnRegistry disks origin p first m → AreSeenOnRegistry disks origin m others q → AreSeenOnRegistry disks origin p (first ++ others) q
  calls_follow p m q [] others a b = subst (λ (s : RegistrySight). AreSeenOnRegistry disks origin s others q) a b
  calls_follow p m q (seen ∷ first) others a b = (a.0, a.1, calls_follow seen.after m q first others a.2 b)

module _ {D : Type 0} (disks : Ghosts D) (hall : HallView D) where
  abbrev Calls : Lists → List SeenOnRegistry → Lists → Type 0
  Calls p calls q = AreSeenOnRegistry disks hall.registry.origin p.registry calls q.registry

  one_looked : (before : Lists) (step : Step) (after : Lists) → IsStep disks hall before step after → Calls before (lookup_in before step after) after
  one_looked before (of_registry asked) after step = (refl, step.0.replied, refl)
  one_looked before (of_log visit) after step = step.1

  looked : (before after : Lists) (seen : List SeenStep) → AreSeenSteps disks hall before seen after → Calls before (lookups_in seen) after
  looked before after [] same = ap (λ (l : Lists). l.registry) same
  looked before after (one ∷ more) are =
      let first = subst (λ (l : Lists). Calls l (lookup_in one.before one.step one.after) one.after) are.0 (one_looked one.before one.step one.after are.1) in
      calls_follow disks hall.registry.origin before.registry one.after.registry after.registry (lookup_in one.before one.step one.after) (lookups_in more) first (looked one.after after more are.2)

  amid : (p q : Lists) (in_step : Option StepUnderWay) → IsAmidStep hall p in_step q → IsAmidOnRegistry p.registry (in_lookup in_step) q.registry
  amid p q None is = ap (λ (l : Lists). l.registry) is
  amid p q (Some (on_registry call)) is = is.0
  amid p q (Some (on_log slot call)) is = is.1

  called : (number : ℕ) (passes : List HallPassRun) → AreNewPasses disks hall number (map (λ (pass : HallPassRun). pass.given) passes) → AllOf (HasStepped disks hall) passes → AllOf (HasCalledOnRegistry disks hall.registry) (map registry_part passes)
  called number [] new all = tt
  called number (pass ∷ passes) new all = (
    record {
      number = number;
      given = pass.given.lists.registry;
      is_given = new.0;
      behind = all.0.behind.registry;
      calls = looked pass.given.lists all.0.behind pass.steps all.0.steps;
      amid = amid all.0.behind pass.at_stop.lists pass.in_step all.0.amid;
    },
    called (number + 1) passes new.2 all.1,
  )

-- what the passes showed of the registry at the stop
sights_are : (passes : List HallPassRun) → map (λ (part : RegistryPassRun). part.at_stop) (map registry_part passes) ≡ map (λ (pass : HallSight). pass.lists.registry) (map (λ (pass : HallPassRun). pass.at_stop) passes)
sights_are [] = refl
sights_are (pass ∷ passes) = ap (λ (l : List RegistrySight). pass.at_stop.lists.registry ∷ l) (sights_are passes)

-- ---- a run

module _ {D : Type 0} (disks : Ghosts D) (tells : disks.tells) where
  -- the disk of the registry
  record RegistryOpened (image : List ℕ) (origin : StateView D) : Type 0 where
    disk : D
    begins : Keeps (began image) (disks.past disk)
    is : IsOpenedRegistry disks disk origin

  first_opened : (all : List D) (images : List (List ℕ)) (hall : HallView D) (image : List ℕ) → AllZip (λ (disk : D) (image : List ℕ). Keeps (began image) (disks.past disk)) all images → IsOpenedHall disks all hall → slice_get images 0 ≡ Some image
      → RegistryOpened image hall.registry.origin
  first_opened [] images hall image begins opened is = absurd opened
  first_opened (disk ∷ more) [] hall image begins opened is = absurd begins
  first_opened (disk ∷ more) (first ∷ images) hall image begins opened is =
      let same : first ≡ image = cc in
      record { disk = disk; begins = subst (λ (it : List ℕ). Keeps (began it) (disks.past disk)) same begins.0; is = opened.0 }

  -- and as it was closed
  record RegistryEnded (made : Made (StateView D)) (sights : List RegistrySight) (images : List (List ℕ)) : Type 0 where
    registry : StateView D
    closed : IsClosedOf (shared_registry disks) made sights registry
    image : List ℕ
    image_is : slice_get images 0 ≡ Some image
    leaves : MayLeave (disks.past registry.disk) image

  first_ended : (hall : HallView D) (passes : List HallSight) (left : List D) (images : List (List ℕ)) → IsEnded disks hall passes left → AllZip (λ (disk : D) (image : List ℕ). MayLeave (disks.past disk) image) left images
      → RegistryEnded hall.registry (map (λ (pass : HallSight). pass.lists.registry) passes) images
  first_ended hall passes [] images ended leaves = absurd ended
  first_ended hall passes (disk ∷ more) [] ended leaves = absurd leaves
  first_ended hall passes (disk ∷ more) (image ∷ images) ended leaves = record {
    registry = ended.0.registry;
    closed = ended.0.closed;
    image = image;
    image_is = refl;
    leaves = subst (λ (d : D). MayLeave (disks.past d) image) ended.0.disk_is leaves.0;
  }

  -- where there are as many passes as seats, none is missing
  all_at_moment : (made : Made (StateView D)) (registry : StateView D) (passes : List RegistrySight) (s : RegistryCell disks) → IsRegistryMoment disks made registry passes s → made.seats ≤ length passes → AreAll made.seats passes
  all_at_moment made registry passes s moment enough =
      let r = shared_registry disks in
      let rule = moment.rule.rule in
      all_there passes made.seats s.views (λ seat v at role. (fits_role r.fits (r.fixed made.origin) s.views (r.entries made.origin ++ rule.later) moment.rule.faults rule.each_seat seat v at role).0.0) enough moment.passes_are

  module _ (images : List (List ℕ)) (run : HallRun D) (is : IsHallRun disks images run) (image : List ℕ) (there : slice_get images 0 ≡ Some image) where
    abbrev Found : Type 0
    Found = (registry_run : RegistryRun D) × IsRunOfRegistry run registry_run × IsRegistryRun disks image registry_run

    opened : RegistryOpened image run.hall.registry.origin
    opened = first_opened run.disks images run.hall image is.begins is.opened there

    begun : (registry_run : RegistryRun D) → registry_run.made ≡ run.hall.registry → IsRegistryBegun disks image registry_run
    begun registry_run same =
        let at : IsOpenedRegistry disks opened.disk registry_run.made.origin = subst (λ (made : Made (StateView D)). IsOpenedRegistry disks opened.disk made.origin) (sym same) opened.is in
        record { disk = opened.disk; begins = opened.begins; payloads = at.file; registry = at.sound; settled = at.settled }

    all_called : AllOf (HasCalledOnRegistry disks run.hall.registry) (map registry_part run.passes)
    all_called = called disks run.hall 1 run.passes is.new is.stepped

    closed_run : WasClosed disks run → Found
    closed_run was =
        let ended = first_ended run.hall (stopped_in run) was.left run.images was.ended was.leaves in
        let registry_run : RegistryRun D = record { made = run.hall.registry; passes = map registry_part run.passes; registry = ended.registry; under_way = None; image = ended.image } in
        let sights = sights_are run.passes in
        let back = passes_stay disks run.hall (given_in run) (stopped_in run) (have_asked disks run.hall run.passes is.stepped was.in_none) is.all in
        let all : AreAllPassesOf (shared_registry disks) run.hall.registry (map (λ (pass : HallSight). pass.lists.registry) (stopped_in run)) = registry_passes disks run.hall (stopped_in run) back is.seats in (
          registry_run,
          record { made = refl; passes = refl; image = ended.image_is },
          a_run disks image registry_run tells (begun registry_run refl) all_called
              (subst (λ (them : List RegistrySight). AreAll run.hall.registry.seats them) (sym sights) all.1)
              (subst (λ (them : List RegistrySight). IsClosedOf (shared_registry disks) run.hall.registry them ended.registry) (sym sights) ended.closed)
              ended.leaves,
        )

    killed_run : WasKilled disks run → Found
    killed_run was =
        let at = was.registry in
        let registry_run = at.registry_run in
        let here : AllOf (HasCalledOnRegistry disks registry_run.made) registry_run.passes =
        subst (λ (z : Made (StateView D) × List RegistryPassRun). AllOf (HasCalledOnRegistry disks z.0) z.1) (λ i. (sym at.of_run.made i, sym at.of_run.passes i)) all_called in
        let seats : registry_run.made.seats ≡ run.hall.registry.seats = ap (λ (made : Made (StateView D)). made.seats) at.of_run.made in
        let count : length (registry_sights registry_run) ≡ run.hall.logs.seats =
        length-map registry_run.passes (λ (pass : RegistryPassRun). pass.at_stop) ∙ (ap length at.of_run.passes ∙ (length-map run.passes registry_part ∙ (sym (length-map run.passes (λ (pass : HallPassRun). pass.given)) ∙ is.all.count))) in (
          registry_run,
          at.of_run,
          killed_is disks image registry_run tells (begun registry_run at.of_run.made) at.cell here
              (all_at_moment registry_run.made registry_run.registry (registry_sights registry_run) at.cell at.moment (omega (arith, seats, count, is.seats))) at.moment at.leaves,
        )

    pub registry_run_of : Found
    registry_run_of = ⊎_elim closed_run killed_run is.stopped

  -- the runs of the registry
  record RegistryRuns (image : List ℕ) (runs : List (HallRun D)) : Type 0 where
    registry_runs : List (RegistryRun D)
    are_of : AllZip IsRunOfRegistry runs registry_runs
    are : AreRegistryRuns disks image registry_runs

  runs_of : (images : List (List ℕ)) (runs : List (HallRun D)) → AreHallRuns disks images runs → (image : List ℕ) → slice_get images 0 ≡ Some image → RegistryRuns image runs
  runs_of images [] are image there = record { registry_runs = []; are_of = tt; are = tt }
  runs_of images (run ∷ more) are image there =
      let first = registry_run_of images run are.0 image there in
      let rest = runs_of run.images more are.1 first.0.image first.1.image in
      record { registry_runs = first.0 ∷ rest.registry_runs; are_of = (first.1, rest.are_of); are = (first.2, rest.are) }

  pub keep_registry : (images : List (List ℕ)) (runs : List (HallRun D)) → AreHallRuns disks images runs → (image : List ℕ) → slice_get images 0 ≡ Some image
      → (registry_runs : List (RegistryRun D)) × AllZip IsRunOfRegistry runs registry_runs
      × ((slots : ℕ) (events : List Event) → IsRegistryIn (registry_left image registry_runs) slots events → KeepsRegistryPromise image registry_runs slots events)
  keep_registry images runs are image there =
      let at = runs_of images runs are image there in
      (at.registry_runs, at.are_of, λ slots events last. promise disks tells image at.registry_runs slots events at.are last)
