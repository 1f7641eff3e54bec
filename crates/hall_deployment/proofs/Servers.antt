-- What a server has done is a run of its hall, whose steps are those of its sessions.
use Rattle.std.proofs.Common.{◌≡◌, inl, ℕ, suc, ◌+◌, ◌<◌, None, List, [], ◌∷◌, ◌++◌, map, length, length-take, take, slice_index_or, refl, sym, ap, ◌∙◌, subst, arith}
use Rattle.std.specs.List.{AllZip}
use Rattle.delta_base.specs.declared.link.Link.{Ghosts as LinkGhosts}
use Rattle.disk_model.specs.declared.disk.Disk.{Ghosts}
use Rattle.disk_model.specs.declared.shelf.Shelf.{Ghosts as ShelfGhosts}
use Rattle.disk_model.specs.Past.{began, MayLeave, Keeps}
use Rattle.slot_files.specs.Files.{Files}
use Rattle.turn_cell.specs.Turns.{AllOf}
use Rattle.worker_pool.specs.Works.{Works, Served}
use Rattle.worker_pool.specs.declared.gate.Arrival.{Arrival}
use Rattle.worker_pool.specs.declared.gate.Gate.{Ghosts as GateGhosts}
use Rattle.worker_pool.specs.declared.pool.Post.{Post}
use Rattle.delta_session.specs.Ends.{IsEnded}
use Rattle.delta_session.specs.Halls.{AreHallPasses, AreNewPasses}
use Rattle.delta_session.specs.Sessions.{WorkerView, WorksSession, all_of}
use Rattle.delta_session.specs.Steps.{HallView, HallSight, Lists, AreSteps}
use Rattle.gate_crews.specs.Crews.{posts_of}
use Rattle.delta_session.specs.Working.{workers_of}
use Rattle.delta_session.proofs.Posts.{worker_of}
use Rattle.delta_session.proofs.Said.{steps_said}
use Rattle.delta_server.specs.Files.{HaveBegun}
use Rattle.delta_server.specs.Serving.{IsHallOver, HasServed}
use Rattle.hall_deployment.specs.Seen.{SeenStep, AreSeenSteps}
use Rattle.hall_deployment.specs.Halls.{HallPassRun, HallRun, HasStepped, WasClosed, IsHallRun}
use Rattle.hall_deployment.specs.Servers.{files_from, AreStepsOf, AreWorkerRuns}
use Rattle.hall_deployment.proofs.Seeing.{steps_seen}
use Rattle.hall_deployment.proofs.Slots.{InNone}

module _ {D L : Type 0} (disks : Ghosts D) (links : LinkGhosts L) (hall : HallView D) where
  steps_follow : (p m q : Lists) (first others : List SeenStep) → AreSeenSteps disks hall p first m → AreSeenSteps disks hall m others q → AreSeenSteps disks hall p (first ++ others) q
  steps_follow p m q [] others a b = subst (λ (s : Lists). AreSeenSteps disks hall s others q) a b
  steps_follow p m q (one ∷ first) others a b = (a.0, a.1, steps_follow one.after m q first others a.2 b)

  -- the steps of sessions one after another
  record WorkSeen (first : WorkerView D) (arrivals : List (Arrival L)) (last : WorkerView D) (left : List L) (worked : Works (WorksSession disks links) first arrivals last left) : Type 0 where
    seen : List SeenStep
    are : AreSeenSteps disks hall first.pass.lists seen last.pass.lists
    of : AreStepsOf disks links first arrivals last left worked seen

  works_seen : (first : WorkerView D) (arrivals : List (Arrival L)) (last : WorkerView D) (left : List L) → first.hall ≡ hall → (worked : Works (WorksSession disks links) first arrivals last left) → WorkSeen first arrivals last left worked
  works_seen first [] last [] is worked = record { seen = []; are = ap (λ (w : WorkerView D). w.pass.lists) worked; of = refl }
  works_seen first [] last (link ∷ left) is worked = absurd worked
  works_seen first (arrival ∷ arrivals) last [] is worked = absurd worked
  works_seen first (arrival ∷ arrivals) last (link ∷ left) is worked =
      let next = worked.0 in
      let one = worked.1 in
      let talks = one.2.talks.4 in
      let said = steps_said disks first.hall (record first.pass { dice = arrival.dice }) next.pass talks.exchanges talks.answered in
      let steps : AreSteps disks hall first.pass.lists (all_of said.0) next.pass.lists = subst (λ (h : HallView D). AreSteps disks h first.pass.lists (all_of said.0) next.pass.lists) is said.2 in
      let own = steps_seen disks hall first.pass.lists next.pass.lists (all_of said.0) steps in
      let rest = works_seen next arrivals last left (one.1 ∙ is) worked.2 in
      record {
        seen = own.0 ++ rest.seen;
        are = steps_follow first.pass.lists next.pass.lists last.pass.lists own.0 rest.seen own.2 rest.are;
        of = (own.0, rest.seen, refl, (said.0, said.1, own.1), rest.of);
      }

-- ---- what the files had

abbrev run_of : {D : Type 0} → HallView D → List D → List HallPassRun → List (List ℕ) → HallRun D
run_of hall all passes left = record { disks = all; hall = hall; passes = passes; images = left }

module _ {D H : Type 0} (disks : Ghosts D) (shelf : ShelfGhosts H D) where
  -- disks that began with what the files had
  begun_from : (files : Files) (dir : List ℕ) (number : ℕ) (all : List D) → HaveBegun disks files dir number all → AllZip (λ (disk : D) (image : List ℕ). Keeps (began image) (disks.past disk)) all (files_from files dir number (length all))
  begun_from files dir number [] begun = tt
  begun_from files dir number (disk ∷ all) begun = (begun.0, begun_from files dir (number + 1) all begun.1)

  -- a hall over the files that was closed
  closed_over : (dir : List ℕ) (files : Files) (workers : ℕ) (hall : HallView D) (given : List HallSight) → shelf.tells → (over : IsHallOver disks shelf dir files workers hall given) (passes : List HallPassRun) (left : List (List ℕ))
      → map (λ (pass : HallPassRun). pass.given) passes ≡ given → AllOf (HasStepped disks hall) passes → WasClosed disks (run_of hall over.disks_are passes left)
      → IsHallRun disks (files_from files dir 0 (length over.disks_are)) (run_of hall over.disks_are passes left)
  closed_over dir files workers hall given told over passes left given_is stepped closed = record {
    begins = begun_from files dir 0 over.disks_are (over.asked.begun told);
    opened = over.opened;
    seats = over.registry_seats;
    each = over.each;
    all = subst (AreHallPasses disks hall) (sym given_is) over.all;
    new = subst (AreNewPasses disks hall 1) (sym given_is) over.new;
    stepped = stepped;
    stopped = inl closed;
  }

  -- passes that made no step
  abbrev idle : List HallSight → List HallPassRun
  idle given = map (λ (pass : HallSight). record { given = pass; steps = []; in_step = None; at_stop = pass }) given

  idle_given : (given : List HallSight) → map (λ (pass : HallPassRun). pass.given) (idle given) ≡ given
  idle_given [] = refl
  idle_given (pass ∷ given) = ap (λ (l : List HallSight). pass ∷ l) (idle_given given)

  idle_stopped : (given : List HallSight) → map (λ (pass : HallPassRun). pass.at_stop) (idle given) ≡ given
  idle_stopped [] = refl
  idle_stopped (pass ∷ given) = ap (λ (l : List HallSight). pass ∷ l) (idle_stopped given)

  idle_in_none : (given : List HallSight) → AllOf InNone (idle given)
  idle_in_none [] = tt
  idle_in_none (pass ∷ given) = (refl, idle_in_none given)

  idle_steps : (given : List HallSight) → AllOf (λ (pass : HallPassRun). pass.steps ≡ []) (idle given)
  idle_steps [] = tt
  idle_steps (pass ∷ given) = (refl, idle_steps given)

  idle_stepped : (hall : HallView D) (given : List HallSight) → AllOf (HasStepped disks hall) (idle given)
  idle_stepped hall [] = tt
  idle_stepped hall (pass ∷ given) = (record { behind = pass.lists; steps = refl; amid = refl }, idle_stepped hall given)

  pub idle_run : (dir : List ℕ) (workers : ℕ) (files : Files) (hall : HallView D) (given : List HallSight) (back : List D) (left : List (List ℕ)) → shelf.tells → (over : IsHallOver disks shelf dir files workers hall given)
      → IsEnded disks hall given back → AllZip (λ disk image. MayLeave (disks.past disk) image) back left
      → (run : HallRun D) × (run.hall ≡ hall) × (run.images ≡ left) × IsHallRun disks (files_from files dir 0 (length over.disks_are)) run × AllOf (λ (pass : HallPassRun). pass.steps ≡ []) run.passes
  idle_run dir workers files hall given back left told over ended leaves =
      let closed : WasClosed disks (run_of hall over.disks_are (idle given) left) = record {
        left = back;
        in_none = idle_in_none given;
        ended = subst (λ (passes : List HallSight). IsEnded disks hall passes back) (sym (idle_stopped given)) ended;
        leaves = leaves;
      } in
      (run_of hall over.disks_are (idle given) left, refl, refl, closed_over dir files workers hall given told over (idle given) left (idle_given given) (idle_stepped hall given) closed, idle_steps given)

-- ---- what its workers did

module _ {D H L G : Type 0} (disks : Ghosts D) (shelf : ShelfGhosts H D) (links : LinkGhosts L) (gate : GateGhosts G L) where
  module _ (hall : HallView D) where
    -- what passes did at their gates
    record PassRuns (given : List HallSight) (gates : List G) (posts : List (Post G (WorkerView D))) : Type 0 where
      passes : List HallPassRun
      given_is : map (λ (pass : HallPassRun). pass.given) passes ≡ given
      stopped_is : map (λ (pass : HallPassRun). pass.at_stop) passes ≡ map (λ (post : Post G (WorkerView D)). post.worker.pass) posts
      in_none : AllOf InNone passes
      stepped : AllOf (HasStepped disks hall) passes
      are : AreWorkerRuns disks shelf links gate hall gates passes posts

    pass_runs : (given : List HallSight) (gates : List G) (posts : List (Post G (WorkerView D))) → length given ≡ length gates → length posts ≡ length (posts_of (workers_of hall given) gates)
        → ((k : ℕ) (d : Post G (WorkerView D)) → k < length (posts_of (workers_of hall given) gates) → Served gate.tells gate.arrivals gate.back gate.faults (WorksSession disks links) (slice_index_or (posts_of (workers_of hall given) gates) k d) (slice_index_or posts k d))
        → PassRuns given gates posts
    pass_runs [] [] [] same count each = record { passes = []; given_is = refl; stopped_is = refl; in_none = tt; stepped = tt; are = tt }
    pass_runs [] [] (z ∷ posts) same count each = absurd (omega (arith, count))
    pass_runs [] (y ∷ gates) posts same count each = absurd (omega (arith, same))
    pass_runs (x ∷ given) [] posts same count each = absurd (omega (arith, same))
    pass_runs (x ∷ given) (y ∷ gates) [] same count each = absurd (omega (arith, count))
    pass_runs (x ∷ given) (y ∷ gates) (z ∷ posts) same count each =
        let one = (each 0 z (omega arith)).serves in
        let seen = works_seen disks links hall (worker_of hall x) one.taken z.worker one.links refl one.worked in
        let rest = pass_runs given gates posts (omega (arith, same)) (omega (arith, count)) (λ k d low. each (suc k) d (omega (arith, low))) in
        record {
          passes = record { given = x; steps = seen.seen; in_step = None; at_stop = z.worker.pass } ∷ rest.passes;
          given_is = ap (λ (l : List HallSight). x ∷ l) rest.given_is;
          in_none = (refl, rest.in_none);
          stopped_is = ap (λ (l : List HallSight). z.worker.pass ∷ l) rest.stopped_is;
          stepped = (record { behind = z.worker.pass.lists; steps = seen.are; amid = refl }, rest.stepped);
          are = (record { serves = one; steps = seen.of; in_none = refl; at_stop = refl }, rest.are);
        }

  -- a server has served
  pub server_run : (dir : List ℕ) (workers : ℕ) (old new : Files) (gates after : List G) (left : List (List ℕ)) → shelf.tells → (served : HasServed disks shelf links gate dir workers old new gates after)
      → AllZip (λ disk image. MayLeave (disks.past disk) image) served.left left
      → (run : HallRun D) × (run.hall ≡ served.hall) × (run.images ≡ left) × IsHallRun disks (files_from old dir 0 (length served.over.disks_are)) run × AreWorkerRuns disks shelf links gate served.hall (take workers gates) run.passes served.worked.posts
  server_run dir workers old new gates after left told served leaves =
      let hall = served.hall in
      let over = served.over in
      let posts : List (Post G (WorkerView D)) = served.worked.posts in
      let same : length served.passes ≡ length (take workers gates) = omega (arith, over.all.count, over.seats, served.enough, length-take workers gates) in
      let runs = pass_runs hall served.passes (take workers gates) posts same served.worked.served.0 served.worked.served.1 in
      let closed : WasClosed disks (run_of hall over.disks_are runs.passes left) = record {
        left = served.left;
        in_none = runs.in_none;
        ended = subst (λ (back : List HallSight). IsEnded disks hall back served.left) (sym runs.stopped_is) served.worked.ended;
        leaves = leaves;
      } in
      (run_of hall over.disks_are runs.passes left, refl, refl, closed_over disks shelf dir old workers hall served.passes told over runs.passes left runs.given_is runs.stepped closed, runs.are)
