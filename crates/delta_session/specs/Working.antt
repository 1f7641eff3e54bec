-- What many connections come to for a hall whose passes serve them side by side.
use Rattle.std.specs.Prelude.{◌≡◌, ℕ, List, map}
use Rattle.delta_base.specs.declared.link.Link.{Ghosts as LinkGhosts}
use Rattle.disk_model.specs.declared.disk.Disk.{Ghosts}
use Rattle.worker_pool.specs.Works.{AllServed}
use Rattle.worker_pool.specs.declared.gate.Arrival.{Arrival}
use Rattle.worker_pool.specs.declared.pool.Post.{Post}
use Rattle.gate_crews.specs.Crews.{posts_of}
use Rattle.delta_session.specs.Ends.{IsEnded}
use Rattle.delta_session.specs.Sessions.{WorkerView, WorksSession}
use Rattle.delta_session.specs.Steps.{HallView, HallSight}

-- a worker of each pass
abbrev pub workers_of : {D : Type 0} → HallView D → List HallSight → List (WorkerView D)
workers_of hall passes = map (λ pass. record { hall = hall; pass = pass }) passes

module _ {D G L : Type 0} (disks : Ghosts D) (links : LinkGhosts L) (tells : Type 0)
    (arrivals : G → List (Arrival L)) (back : G → List L) (faults : G → ℕ) where
  -- The connections of each gate were served, one session each, by the pass at that gate, and these
  -- are the passes then.
  pub record HaveServed (hall : HallView D) (passes : List HallSight) (gates after : List G)
      (left : List HallSight) : Type 0 where
    pub posts : List (Post G (WorkerView D))
    pub served : AllServed tells arrivals back faults (WorksSession disks links)
        (posts_of (workers_of hall passes) gates) posts
    pub gates_are : after ≡ map (λ post. post.gate) posts
    pub passes_are : left ≡ map (λ post. post.worker.pass) posts

  -- The connections of each gate were served, one session each, by the pass at that gate; and the
  -- hall was closed with what the passes then knew.
  pub record HasWorked (hall : HallView D) (passes : List HallSight) (gates after : List G)
      (left : List D) : Type 0 where
    pub posts : List (Post G (WorkerView D))
    pub served : AllServed tells arrivals back faults (WorksSession disks links)
        (posts_of (workers_of hall passes) gates) posts
    pub gates_are : after ≡ map (λ post. post.gate) posts
    pub ended : IsEnded disks hall (map (λ post. post.worker.pass) posts) left
