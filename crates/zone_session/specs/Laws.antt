-- What is true of all answers of a zone's passes.
use Rattle.std.specs.Prelude.{ℕ, List, Option}
use Rattle.disk_model.specs.declared.disk.Disk.{Ghosts}
use Rattle.http_session.specs.Output.{Exchange, AnswerChain}
use Rattle.delta_client.specs.declared.dial.Dial.{Ghosts as DialGhosts}
use Rattle.shared_zone.specs.History.{SharedZone, ZoneSight}
use Rattle.gate_crews.specs.declared.seat.Seat.{Seat}
use Rattle.zone_session.specs.Answered.{ZoneAnswered}
use Rattle.zone_session.specs.Sessions.{ServedZone}

module _ {D N L : Type 0} (disks : Ghosts D) (dial : DialGhosts N L)
    (left sent : L → Option (List ℕ)) where
  -- answers one after another are calls of one pass over one net, which add up
  abbrev pub SessionsAreServed : Type 0
  SessionsAreServed =
      (origin : SharedZone D) (address name : List ℕ) (before after : Seat ZoneSight N)
      (exchanges : List Exchange)
      → AnswerChain (ZoneAnswered disks dial left sent origin address name) before exchanges after
      → ServedZone disks dial left sent origin address name before exchanges after
