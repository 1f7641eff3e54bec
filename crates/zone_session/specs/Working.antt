-- What many connections come to for a zone whose passes serve them side by side.
use Rattle.std.specs.Prelude.{◌≡◌, ℕ, List, [], ◌∷◌, map, Option}
use Rattle.delta_base.specs.declared.link.Link.{Ghosts as LinkGhosts}
use Rattle.disk_model.specs.declared.disk.Disk.{Ghosts}
use Rattle.worker_pool.specs.Works.{AllServed}
use Rattle.worker_pool.specs.declared.gate.Arrival.{Arrival}
use Rattle.worker_pool.specs.declared.pool.Post.{Post}
use Rattle.delta_client.specs.declared.dial.Dial.{Ghosts as DialGhosts}
use Rattle.turn_cell.specs.Sights.{Made}
use Rattle.turn_cell.specs.Sharing.{IsClosedOf}
use Rattle.paired_zone.specs.Zone.{PairedView}
use Rattle.shared_zone.specs.History.{SharedZone, ZoneSight, shared_zone}
use Rattle.gate_crews.specs.Crews.{posts_of}
use Rattle.zone_session.specs.Sessions.{WorkerView, WorksSession}

-- a worker of each pass, with a net of its own
abbrev pub workers_of : {D N : Type 0} → Made (SharedZone D) → List ℕ → List ℕ → List ZoneSight
    → List N → List (WorkerView D N)
workers_of hall address name [] nets = []
workers_of hall address name (pass ∷ passes) [] = []
workers_of hall address name (pass ∷ passes) (net ∷ nets) =
    record {
      hall = hall;
      address = address;
      name = name;
      seat = record { pass = pass; net = net };
    }
    ∷ workers_of hall address name passes nets

-- the zone that was closed with these passes
abbrev pub IsZoneOf : {D : Type 0} → Ghosts D → Made (SharedZone D) → List ZoneSight → PairedView D
    → Type 0
IsZoneOf {D} disks hall passes zone =
    (shared : SharedZone D) × (zone ≡ shared.zone)
    × IsClosedOf (shared_zone disks) hall passes shared

module _ {D N C G L : Type 0} (disks : Ghosts D) (dial : DialGhosts N C)
    (left sent : C → Option (List ℕ)) (links : LinkGhosts L) (tells : Type 0)
    (arrivals : G → List (Arrival L)) (back : G → List L) (faults : G → ℕ) where
  -- The connections of each gate were served, one session each, by the worker at that gate. These
  -- are the gates and the passes then.
  pub record HaveServed (workers : List (WorkerView D N)) (gates after : List G)
      (passes : List ZoneSight) : Type 0 where
    pub posts : List (Post G (WorkerView D N))
    pub served : AllServed tells arrivals back faults (WorksSession disks dial left sent links)
        (posts_of workers gates) posts
    pub gates_are : after ≡ map (λ post. post.gate) posts
    pub passes_are : passes ≡ map (λ post. post.worker.seat.pass) posts

  -- The connections of each gate were served so, and the zone was closed with what the passes then
  -- knew.
  pub record HasWorked (hall : Made (SharedZone D)) (workers : List (WorkerView D N))
      (gates after : List G) (zone : PairedView D) : Type 0 where
    pub passes : List ZoneSight
    pub served : HaveServed workers gates after passes
    pub ended : IsZoneOf disks hall passes zone
