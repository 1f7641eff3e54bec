-- What the answers of a session come to for the pass that serves it.
use Rattle.std.specs.Prelude.{◌≡◌, ℕ, ◌+◌, ◌≤◌, List, [], ◌∷◌, ◌++◌, Some, slice_get}
use Rattle.delta_base.specs.Outside.{RoseBy}
use Rattle.delta_base.specs.declared.link.Link.{Ghosts as LinkGhosts}
use Rattle.disk_model.specs.declared.disk.Disk.{Ghosts}
use Rattle.http_session.specs.Output.{Exchange}
use Rattle.http_session.specs.Talks.{Conversed, Moment, moment_of}
use Rattle.http_text.specs.declared.session.SessionEnd.{SessionEnd}
use Rattle.patch_log.specs.State.{LogView}
use Rattle.rpc_calls.specs.Calls.{call_of}
use Rattle.turn_cell.specs.Sights.{Made}
use Rattle.shared_log.specs.History.{LogSight}
use Rattle.shared_registry.specs.Lookups.{RegistryAddsUp}
use Rattle.shared_log.specs.Calls.{LogAddsUp}
use Rattle.hall_logs.specs.Visits.{asked_at}
use Rattle.call_replies.specs.Faults.{faults_said}
use Rattle.delta_session.specs.Answered.{Answered, IsSaidTo}
use Rattle.delta_session.specs.Faults.{faults_of}
use Rattle.delta_session.specs.Halls.{all_hall_faults}
use Rattle.delta_session.specs.Kept.{KeepsWhatItTells}
use Rattle.delta_session.specs.Steps.{HallView, HallSight, Step, AreSteps, lookups_of, visits_of}

-- the steps of all requests, in their order
abbrev pub all_of : List (List Step) → List Step
all_of [] = []
all_of (steps ∷ more) = steps ++ all_of more

-- each request was answered by its steps, one list for each, and each creation took its number
abbrev pub AreSaid : ℕ → List Exchange → List (List Step) → ℕ → Type 0
AreSaid dice [] [] last = last ≡ dice
AreSaid dice (e ∷ exchanges) (steps ∷ more) last =
    (next : ℕ) × IsSaidTo dice (call_of e.request) steps e.said next
    × AreSaid next exchanges more last
AreSaid dice [] (steps ∷ more) last = ⊥
AreSaid dice (e ∷ exchanges) [] last = ⊥

-- What the answers of a session come to: the steps of all requests, in their order, are the calls
-- of this pass and no others. What they add up to is told for the registry, and for each log.
pub record ServedSession {D : Type 0} (disks : Ghosts D) (hall : HallView D)
    (before : HallSight) (exchanges : List Exchange) (after : HallSight) : Type 0 where
  pub steps : List (List Step)
  pub said : AreSaid before.dice exchanges steps after.dice
  pub taken : AreSteps disks hall before.lists (all_of steps) after.lists
  pub registry :
      RegistryAddsUp before.lists.registry (lookups_of (all_of steps)) after.lists.registry
  pub logs :
      (place : ℕ) (log : Made (LogView D)) (p : LogSight)
      → slice_get hall.logs.logs place ≡ Some log → slice_get before.lists.logs place ≡ Some p
      → (q : LogSight) × (slice_get after.lists.logs place ≡ Some q)
      × LogAddsUp p (asked_at (place + 1) (visits_of (all_of steps))) q
  -- its replies tell a fault of a disk at most as often as its steps did, and the pass's own count
  -- rose by as many at least
  pub fewer_said : faults_said exchanges ≤ faults_of (all_of steps)
  pub faults :
      RoseBy (faults_of (all_of steps)) (all_hall_faults before.lists) (all_hall_faults after.lists)
  -- what it told of patches was on their disks, and is seen ever since
  pub kept : KeepsWhatItTells disks hall (all_of steps) after.lists

-- the pass asked some of the lists
abbrev pub HasAsked : {D : Type 0} → Ghosts D → HallView D → HallSight → HallSight → Type 0
HasAsked disks hall before after =
    (steps : List Step) × AreSteps disks hall before.lists steps after.lists

-- a connection was served by a pass of a hall
abbrev pub IsSession : {D : Type 0} → Ghosts D → HallView D → Moment HallSight → Moment HallSight
    → SessionEnd → Type 0
IsSession disks hall = Conversed (Answered disks hall)

-- a worker: the hall that it serves, and its pass
pub record WorkerView (D : Type 0) : Type 0 where
  pub hall : HallView D
  pub pass : HallSight

module _ {D L : Type 0} (disks : Ghosts D) (links : LinkGhosts L) where
  -- It served the connection as a session of its hall whose next ids are made of the numbers from
  -- these dice on.
  abbrev pub WorksSession : WorkerView D → L → ℕ → WorkerView D → L → Type 0
  WorksSession before link dice after left =
      (end : SessionEnd) × (after.hall ≡ before.hall)
      × IsSession disks before.hall
      (moment_of (record before.pass { dice = dice }) (links.left link) (links.sent link)
      (links.faults link))
      (moment_of after.pass (links.left left) (links.sent left) (links.faults left)) end
