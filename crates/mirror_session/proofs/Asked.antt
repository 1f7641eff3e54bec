-- What is said to a request that asks nothing.
use Rattle.std.proofs.Common.{inr, refl, sym, subst, [], Result, Ok, Err, List, ℕ, Option}
use Rattle.disk_model.specs.declared.disk.Disk.{Ghosts}
use Rattle.http_session.specs.declared.answerer.Said.{Said}
use Rattle.delta_client.specs.declared.dial.Dial.{Ghosts as DialGhosts}
use Rattle.rpc_calls.specs.Outcomes.{CallOutcome, CallRefusal, IsFaultOf}
use Rattle.rpc_calls.specs.declared.call.Call.TheVariants.{Ping}
use Rattle.rpc_calls.specs.declared.call.CallFault.{CallFault}
use Rattle.rpc_calls.specs.declared.call.CallFault.TheVariants.{OutOfMemory}
use Rattle.patch_log.specs.State.{LogView}
use Rattle.shared_log.specs.History.{LogSight}
use Rattle.gate_crews.specs.declared.seat.Seat.{Seat}
use Rattle.call_replies.specs.Says.{SaysRefusal}
use Rattle.mirror_session.specs.Asking.{IsRefusedSo}
use Rattle.mirror_session.specs.declared.asking.MirrorAsked.{MirrorAsked}
use Rattle.mirror_session.specs.Answered.{IsSaidTo}

-- want of memory is told whatever is asked
pub refused_for_want : (asked : Result MirrorAsked CallRefusal) → IsRefusedSo OutOfMemory asked
refused_for_want (Err reason) = tt
refused_for_want (Ok asked) = refl

module _ {D N L : Type 0} (disks : Ghosts D) (dial : DialGhosts N L) (left sent : L → Option (List ℕ)) (origin : LogView D) (address name : List ℕ) where
  -- it is refused, and neither the log nor the peer is asked
  pub refused_said : (asked : Result MirrorAsked CallRefusal) (why : CallFault) (said : Said) (seat : Seat LogSight N) → IsRefusedSo why asked → ((outcome : CallOutcome) → IsFaultOf why outcome → SaysRefusal outcome said)
      → IsSaidTo disks dial left sent origin address name asked seat [] said seat
  refused_said (Err reason) why said seat is says = (refl, refl, says (Err reason) is)
  refused_said (Ok asked) why said seat is says = inr (refl, refl, says (Ok Ping) (subst (λ (f : CallFault). IsFaultOf f (Ok Ping)) (sym is) tt))
