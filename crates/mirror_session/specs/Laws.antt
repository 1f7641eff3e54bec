-- What is true of all answers of a mirror's passes.
use Rattle.std.specs.Prelude.{ℕ, List, Option}
use Rattle.disk_model.specs.declared.disk.Disk.{Ghosts}
use Rattle.http_session.specs.Output.{Exchange, AnswerChain}
use Rattle.patch_log.specs.State.{LogView}
use Rattle.shared_log.specs.History.{LogSight}
use Rattle.delta_client.specs.declared.dial.Dial.{Ghosts as DialGhosts}
use Rattle.gate_crews.specs.declared.seat.Seat.{Seat}
use Rattle.mirror_session.specs.Answered.{MirrorAnswered}
use Rattle.mirror_session.specs.Sessions.{ServedMirror}

module _ {D N L : Type 0} (disks : Ghosts D) (dial : DialGhosts N L)
    (left sent : L → Option (List ℕ)) where
  -- answers one after another are calls of one pass over one net, which add up
  abbrev pub SessionsAreServed : Type 0
  SessionsAreServed =
      (origin : LogView D) (address name : List ℕ) (before after : Seat LogSight N)
      (exchanges : List Exchange)
      → AnswerChain (MirrorAnswered disks dial left sent origin address name) before exchanges after
      → ServedMirror disks dial left sent origin address name before exchanges after
