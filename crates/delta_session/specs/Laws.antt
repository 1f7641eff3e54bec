-- What is true of all answers of passes.
use Rattle.std.specs.Prelude.{List}
use Rattle.std.specs.List.{AllZip}
use Rattle.disk_model.specs.declared.disk.Disk.{Ghosts}
use Rattle.http_session.specs.Output.{Exchange, AnswerChain}
use Rattle.delta_session.specs.Again.{AreImages, FindsHall}
use Rattle.delta_session.specs.Answered.{Answered}
use Rattle.delta_session.specs.Ends.{IsEnded}
use Rattle.delta_session.specs.Opening.{IsOpenedHall}
use Rattle.delta_session.specs.Halls.{AreHallPasses}
use Rattle.delta_session.specs.Sessions.{ServedSession, HasAsked}
use Rattle.delta_session.specs.Steps.{HallView, HallSight}

module _ {D : Type 0} (disks : Ghosts D) where
  -- answers one after another are calls of one pass, which add up
  abbrev pub SessionsAreServed : Type 0
  SessionsAreServed =
      (hall : HallView D) (before after : HallSight) (exchanges : List Exchange)
      → AnswerChain (Answered disks hall) before exchanges after
      → ServedSession disks hall before exchanges after

  -- where all passes were there, all are there after any legal calls of each
  abbrev pub PassesStay : Type 0
  PassesStay =
      (hall : HallView D) (before after : List HallSight)
      → AllZip (HasAsked disks hall) before after
      → AreHallPasses disks hall before → AreHallPasses disks hall after

  -- A hall that was opened is closed with its passes, and one is opened over what a crash may leave
  -- of its disks. Then that one finds each list as it was left, or with the event or the run more
  -- that was in doubt.
  abbrev pub HallsAreFoundAgain : Type 0
  HallsAreFoundAgain =
      disks.tells → (first left again : List D) (hall opened : HallView D)
      (passes : List HallSight)
      → IsOpenedHall disks first hall → IsEnded disks hall passes left
      → AreImages disks left again → IsOpenedHall disks again opened
      → FindsHall disks hall passes opened
