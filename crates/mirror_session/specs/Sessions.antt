-- What the answers of a session come to for the pass and the net that serve it.
use Rattle.std.specs.Prelude.{◌≡◌, ℕ, ◌≤◌, List, [], ◌∷◌, ◌++◌, Option}
use Rattle.delta_base.specs.Outside.{RoseBy}
use Rattle.delta_base.specs.declared.link.Link.{Ghosts as LinkGhosts}
use Rattle.disk_model.specs.declared.disk.Disk.{Ghosts}
use Rattle.chain_core.specs.declared.chain.Patch.{Patch}
use Rattle.http_session.specs.Output.{Exchange}
use Rattle.http_session.specs.Talks.{Conversed, Moment, moment_of}
use Rattle.http_text.specs.declared.session.SessionEnd.{SessionEnd}
use Rattle.patch_log.specs.State.{LogView}
use Rattle.turn_cell.specs.Calls.{faulted_by}
use Rattle.turn_cell.specs.Knowing.{own_faults_of}
use Rattle.turn_cell.specs.Sights.{Made}
use Rattle.shared_log.specs.Calls.{AreCalledOnLog, CallOnLog, LogAddsUp, tells_fault}
use Rattle.shared_log.specs.History.{LogSight}
use Rattle.delta_client.specs.Exchanges.{WasSaid}
use Rattle.delta_client.specs.declared.dial.Dial.{Ghosts as DialGhosts}
use Rattle.catch_up.specs.Runs.{Run, said_in}
use Rattle.mirror.specs.Following.{AreActs, TextsAreAmong}
use Rattle.gate_crews.specs.declared.seat.Seat.{Seat}
use Rattle.call_replies.specs.Faults.{faults_said}
use Rattle.call_replies.specs.Links.{links_said}
use Rattle.mirror_session.specs.Asking.{mirror_asked}
use Rattle.mirror_session.specs.Answered.{IsSaidTo, MirrorAnswered}

-- all that a peer said in runs of catching up
abbrev pub said_in_runs : List Run → List WasSaid
said_in_runs [] = []
said_in_runs (run ∷ runs) = said_in run ++ said_in_runs runs

-- and in those of all requests, in their order
abbrev pub said_by_peer : List (List Run) → List WasSaid
said_by_peer [] = []
said_by_peer (runs ∷ more) = said_in_runs runs ++ said_by_peer more

module _ {D N L : Type 0} (disks : Ghosts D) (dial : DialGhosts N L)
    (left sent : L → Option (List ℕ)) (origin : LogView D) (address name : List ℕ) where
  -- each request was answered, with its runs of catching up
  abbrev pub AreSaid : Seat LogSight N → List Exchange → List (List Run) → Seat LogSight N → Type 0
  AreSaid before [] [] after = after ≡ before
  AreSaid before (e ∷ exchanges) (runs ∷ more) after =
      (next : Seat LogSight N)
      × IsSaidTo disks dial left sent origin address name (mirror_asked e.request) before runs
      e.said next
      × AreSaid next exchanges more after
  AreSaid before [] (runs ∷ more) after = ⊥
  AreSaid before (e ∷ exchanges) [] after = ⊥

  -- What the answers of a session come to: calls of this pass on the log, which add up. Its replies
  -- tell a fault of the disk at most as often as these calls did. The own faults of the pass, and
  -- those of its net, rose by at least as many as were told.
  pub record ServedMirror (before : Seat LogSight N) (exchanges : List Exchange)
      (after : Seat LogSight N) : Type 0 where
    pub runs : List (List Run)
    pub said : AreSaid before exchanges runs after
    pub calls : List CallOnLog
    pub called : AreCalledOnLog disks origin before.pass calls after.pass
    pub adds_up : LogAddsUp before.pass calls after.pass
    pub fewer_said : faults_said exchanges ≤ faulted_by tells_fault calls
    pub faults :
        RoseBy (faults_said exchanges) (own_faults_of before.pass) (own_faults_of after.pass)
    pub links : RoseBy (links_said exchanges) (dial.faults before.net) (dial.faults after.net)
    pub never_falls : dial.faults before.net ≤ dial.faults after.net
    pub held : dial.held after.net ≡ dial.held before.net
    -- Where each text that the peer said is that of one of a chain's patches, the pass did what a
    -- mirror of that chain does, and nothing else.
    pub acts :
        (chain : List Patch) → TextsAreAmong chain (said_by_peer runs)
        → (acts : List LogSight) × AreActs disks chain origin before.pass acts after.pass

  -- a connection was served by a pass of a mirror and its net
  abbrev pub IsMirrorSession :
      Moment (Seat LogSight N) → Moment (Seat LogSight N) → SessionEnd → Type 0
  IsMirrorSession = Conversed (MirrorAnswered disks dial left sent origin address name)

-- a worker: the log that it serves, where it pulls from, and its pass and net
pub record WorkerView (D N : Type 0) : Type 0 where
  pub log : Made (LogView D)
  pub address : List ℕ
  pub name : List ℕ
  pub seat : Seat LogSight N

module _ {D N L C : Type 0} (disks : Ghosts D) (dial : DialGhosts N C)
    (left sent : C → Option (List ℕ)) (links : LinkGhosts L) where
  -- it served the connection as a session of its log
  abbrev pub WorksSession : WorkerView D N → L → ℕ → WorkerView D N → L → Type 0
  WorksSession before link dice after behind =
      (end : SessionEnd) × (after.log ≡ before.log) × (after.address ≡ before.address)
      × (after.name ≡ before.name)
      × IsMirrorSession disks dial left sent before.log.origin before.address before.name
      (moment_of before.seat (links.left link) (links.sent link) (links.faults link))
      (moment_of after.seat (links.left behind) (links.sent behind) (links.faults behind)) end
