-- What the answers of a session come to for the pass and the net that serve it.
use Rattle.std.specs.Prelude.{◌≡◌, ◌⊎◌, ℕ, ◌≤◌, List, [], ◌∷◌, ◌++◌, Option}
use Rattle.delta_base.specs.Outside.{RoseBy}
use Rattle.delta_base.specs.declared.link.Link.{Ghosts as LinkGhosts}
use Rattle.disk_model.specs.declared.disk.Disk.{Ghosts}
use Rattle.http_session.specs.Output.{Exchange}
use Rattle.http_session.specs.Talks.{Conversed, Moment, moment_of}
use Rattle.http_text.specs.declared.session.SessionEnd.{SessionEnd}
use Rattle.turn_cell.specs.Sights.{Made}
use Rattle.turn_cell.specs.Knowing.{KnowsItsOwn, SeesOn, own_faults_of}
use Rattle.delta_client.specs.Exchanges.{WasSaid}
use Rattle.delta_client.specs.declared.dial.Dial.{Ghosts as DialGhosts}
use Rattle.catch_up.specs.Runs.{Run, said_in}
use Rattle.shared_zone.specs.History.{SharedZone, ZoneSight}
use Rattle.zone_follower.specs.Bringing.{BringsRead}
use Rattle.gate_crews.specs.declared.seat.Seat.{Seat}
use Rattle.call_replies.specs.Faults.{faults_said}
use Rattle.call_replies.specs.Links.{links_said}
use Rattle.zone_session.specs.Asking.{zone_asked}
use Rattle.zone_session.specs.Answered.{IsSaidTo, ZoneAnswered}

-- all that a peer said in runs of catching up
abbrev pub said_in_runs : List Run → List WasSaid
said_in_runs [] = []
said_in_runs (run ∷ runs) = said_in run ++ said_in_runs runs

-- and in those of all requests, in their order
abbrev pub said_by_peer : List (List Run) → List WasSaid
said_by_peer [] = []
said_by_peer (runs ∷ more) = said_in_runs runs ++ said_by_peer more

-- a pass that is as it was, or sees on
abbrev pub StillOrOn : ZoneSight → ZoneSight → Type 0
StillOrOn p q = (q ≡ p) ⊎ SeesOn p q

module _ {D N L : Type 0} (disks : Ghosts D) (dial : DialGhosts N L)
    (left sent : L → Option (List ℕ)) (origin : SharedZone D) (address name : List ℕ) where
  -- each request was answered, with its runs of catching up
  abbrev pub AreSaid : Seat ZoneSight N → List Exchange → List (List Run) → Seat ZoneSight N
      → Type 0
  AreSaid before [] [] after = after ≡ before
  AreSaid before (e ∷ exchanges) (runs ∷ more) after =
      (next : Seat ZoneSight N)
      × IsSaidTo disks dial left sent origin address name (zone_asked e.request) before runs e.said
      next
      × AreSaid next exchanges more after
  AreSaid before [] (runs ∷ more) after = ⊥
  AreSaid before (e ∷ exchanges) [] after = ⊥

  -- What the answers of a session come to. The pass knows all that it knew. Its own faults, and
  -- those of its net, rose by at least as many as were told. Behind all that it had seen stand
  -- patches that other passes brought, and such as were read in this session.
  pub record ServedZone (before : Seat ZoneSight N) (exchanges : List Exchange)
      (after : Seat ZoneSight N) : Type 0 where
    pub runs : List (List Run)
    pub said : AreSaid before exchanges runs after
    pub sees : StillOrOn before.pass after.pass
    pub faults :
        RoseBy (faults_said exchanges) (own_faults_of before.pass) (own_faults_of after.pass)
    pub links : RoseBy (links_said exchanges) (dial.faults before.net) (dial.faults after.net)
    pub never_falls : dial.faults before.net ≤ dial.faults after.net
    pub held : dial.held after.net ≡ dial.held before.net
    pub brings : KnowsItsOwn before.pass → BringsRead (said_by_peer runs) before.pass after.pass

  -- a connection was served by a pass of a zone and its net
  abbrev pub IsZoneSession :
      Moment (Seat ZoneSight N) → Moment (Seat ZoneSight N) → SessionEnd → Type 0
  IsZoneSession = Conversed (ZoneAnswered disks dial left sent origin address name)

-- a worker: the zone that it serves, where it catches up, and its pass and net
pub record WorkerView (D N : Type 0) : Type 0 where
  pub hall : Made (SharedZone D)
  pub address : List ℕ
  pub name : List ℕ
  pub seat : Seat ZoneSight N

module _ {D N L C : Type 0} (disks : Ghosts D) (dial : DialGhosts N C)
    (left sent : C → Option (List ℕ)) (links : LinkGhosts L) where
  -- it served the connection as a session of its zone
  abbrev pub WorksSession : WorkerView D N → L → ℕ → WorkerView D N → L → Type 0
  WorksSession before link dice after behind =
      (end : SessionEnd) × (after.hall ≡ before.hall) × (after.address ≡ before.address)
      × (after.name ≡ before.name)
      × IsZoneSession disks dial left sent before.hall.origin before.address before.name
      (moment_of before.seat (links.left link) (links.sent link) (links.faults link))
      (moment_of after.seat (links.left behind) (links.sent behind) (links.faults behind)) end
