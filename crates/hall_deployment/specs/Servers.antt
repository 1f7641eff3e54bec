-- What a server has done is a run of its hall, whose steps are those of its sessions.
use Rattle.std.specs.Prelude.{◌≡◌, ℕ, zero, suc, ◌+◌, List, [], ◌∷◌, ◌++◌, length, take, None}
use Rattle.std.specs.List.{AllZip}
use Rattle.delta_base.specs.declared.link.Link.{Ghosts as LinkGhosts}
use Rattle.disk_model.specs.declared.disk.Disk.{Ghosts}
use Rattle.disk_model.specs.declared.shelf.Shelf.{Ghosts as ShelfGhosts}
use Rattle.disk_model.specs.Past.{MayLeave}
use Rattle.http_session.specs.Output.{Exchange}
use Rattle.slot_files.specs.Files.{Files, bytes_at}
use Rattle.turn_cell.specs.Turns.{AllOf}
use Rattle.worker_pool.specs.Works.{Works, Serves}
use Rattle.worker_pool.specs.declared.gate.Arrival.{Arrival}
use Rattle.worker_pool.specs.declared.gate.Gate.{Ghosts as GateGhosts}
use Rattle.worker_pool.specs.declared.pool.Post.{Post}
use Rattle.delta_session.specs.Ends.{IsEnded}
use Rattle.delta_session.specs.Sessions.{WorkerView, WorksSession, AreSaid, all_of}
use Rattle.delta_session.specs.Steps.{HallView, HallSight, Step}
use Rattle.delta_server.specs.Serving.{IsHallOver, HasServed}
use Rattle.hall_deployment.specs.Seen.{SeenStep, steps_in}
use Rattle.hall_deployment.specs.Halls.{HallPassRun, HallRun, IsHallRun}

-- what so many files of a directory have, from a number on
abbrev pub files_from : Files → List ℕ → ℕ → ℕ → List (List ℕ)
files_from files dir number zero = []
files_from files dir number (suc count) =
    bytes_at files dir number ∷ files_from files dir (number + 1) count

-- the steps by which the requests of a session were answered
abbrev pub AreSaidBy : ℕ → List Exchange → List SeenStep → ℕ → Type 0
AreSaidBy dice exchanges seen last =
    (steps : List (List Step)) × AreSaid dice exchanges steps last × (steps_in seen ≡ all_of steps)

module _ {D L : Type 0} (disks : Ghosts D) (links : LinkGhosts L) where
  -- of sessions one after another: the steps of each, one behind another
  abbrev pub AreStepsOf : (first : WorkerView D) (arrivals : List (Arrival L))
      (last : WorkerView D) (left : List L)
      → Works (WorksSession disks links) first arrivals last left → List SeenStep → Type 0
  AreStepsOf first [] last [] worked seen = seen ≡ []
  AreStepsOf first (arrival ∷ arrivals) last (link ∷ left) worked seen =
      (own : List SeenStep) × (rest : List SeenStep) × (seen ≡ own ++ rest)
      × AreSaidBy arrival.dice worked.1.2.talks.4.exchanges own worked.0.pass.dice
      × AreStepsOf worked.0 arrivals last left worked.2 rest
  AreStepsOf first [] last (link ∷ left) worked seen = ⊥
  AreStepsOf first (arrival ∷ arrivals) last [] worked seen = ⊥

module _ {D H L G : Type 0} (disks : Ghosts D) (shelf : ShelfGhosts H D) (links : LinkGhosts L)
    (gate : GateGhosts G L) where
  -- a pass at its gate took some connections, and its steps are those of their sessions
  pub record IsWorkerRun (hall : HallView D) (door : G) (pass : HallPassRun)
      (post : Post G (WorkerView D)) : Type 0 where
    pub serves :
        Serves gate.tells gate.arrivals gate.back gate.faults (WorksSession disks links)
        (record { gate = door; worker = record { hall = hall; pass = pass.given } }) post
    pub steps :
        AreStepsOf disks links (record { hall = hall; pass = pass.given }) serves.taken
        post.worker serves.links serves.worked pass.steps
    pub in_none : pass.in_step ≡ None
    pub at_stop : pass.at_stop ≡ post.worker.pass

  -- each pass at the gate of its place
  abbrev pub AreWorkerRuns :
      HallView D → List G → List HallPassRun → List (Post G (WorkerView D)) → Type 0
  AreWorkerRuns hall [] [] [] = Unit {0}
  AreWorkerRuns hall (door ∷ doors) (pass ∷ passes) (post ∷ posts) =
      IsWorkerRun hall door pass post × AreWorkerRuns hall doors passes posts
  AreWorkerRuns hall _ _ _ = ⊥

  -- A server has served over the files of a directory, and a crash may leave these images of the
  -- disks that came back. Then that is a run of its hall, from the bytes of those files to these.
  abbrev pub ServersShowRuns : Type 0
  ServersShowRuns =
      (dir : List ℕ) (workers : ℕ) (old new : Files) (gates after : List G)
      (left : List (List ℕ)) → shelf.tells
      → (served : HasServed disks shelf links gate dir workers old new gates after)
      → AllZip (λ disk image. MayLeave (disks.past disk) image) served.left left
      → (run : HallRun D) × (run.hall ≡ served.hall) × (run.images ≡ left)
      × IsHallRun disks (files_from old dir 0 (length served.over.disks_are)) run
      × AreWorkerRuns served.hall (take workers gates) run.passes served.worked.posts

-- So it is where memory for the workers ran out: a run of a hall whose passes made no step.
abbrev pub IdleServersShowRuns : {D H : Type 0} → Ghosts D → ShelfGhosts H D → Type 0
IdleServersShowRuns {D} disks shelf =
    (dir : List ℕ) (workers : ℕ) (files : Files) (hall : HallView D) (passes : List HallSight)
    (back : List D) (left : List (List ℕ)) → shelf.tells
    → (over : IsHallOver disks shelf dir files workers hall passes)
    → IsEnded disks hall passes back
    → AllZip (λ disk image. MayLeave (disks.past disk) image) back left
    → (run : HallRun D) × (run.hall ≡ hall) × (run.images ≡ left)
    × IsHallRun disks (files_from files dir 0 (length over.disks_are)) run
    × AllOf (λ pass. pass.steps ≡ []) run.passes
