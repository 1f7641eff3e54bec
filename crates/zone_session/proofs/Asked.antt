-- What is said to a request that asks nothing.
use Rattle.std.proofs.Common.{inr, refl, sym, subst, [], Result, Ok, Err, List, ℕ, Option}
use Rattle.serde_json.specs.Data.{Data}
use Rattle.disk_model.specs.declared.disk.Disk.{Ghosts}
use Rattle.http_session.specs.declared.answerer.Said.{Said}
use Rattle.delta_client.specs.declared.dial.Dial.{Ghosts as DialGhosts}
use Rattle.rpc_calls.specs.Outcomes.{CallOutcome, CallRefusal, IsFaultOf, bad_call}
use Rattle.rpc_calls.specs.declared.call.Call.TheVariants.{Ping}
use Rattle.rpc_calls.specs.declared.call.CallFault.{CallFault}
use Rattle.rpc_calls.specs.declared.call.CallFault.TheVariants as fault
use Rattle.shared_zone.specs.History.{SharedZone, ZoneSight}
use Rattle.gate_crews.specs.declared.seat.Seat.{Seat}
use Rattle.call_replies.specs.Says.{SaysRefusal}
use Rattle.zone_session.specs.Asking.{IsRefusedSo, ZoneAsked}
use Rattle.zone_session.specs.Matching.{ReadsMatch}
use Rattle.zone_session.specs.Answered.{IsSaidTo, ShowsMatches, refuses, unread}

module _ {D N L : Type 0} (disks : Ghosts D) (dial : DialGhosts N L) (left sent : L → Option (List ℕ)) (origin : SharedZone D) (address name : List ℕ) where
  -- it is refused, and neither the zone nor the peer is asked
  pub refused_said : (asked : Result ZoneAsked CallRefusal) (why : CallFault) (said : Said) (seat : Seat ZoneSight N) → IsRefusedSo why asked → ((outcome : CallOutcome) → IsFaultOf why outcome → SaysRefusal outcome said)
      → IsSaidTo disks dial left sent origin address name asked seat [] said seat
  refused_said (Err reason) why said seat is says = (refl, refl, says (Err reason) is)
  refused_said (Ok asked) why said seat is says = inr (refl, refl, says (Ok Ping) (subst (λ (f : CallFault). IsFaultOf f (Ok Ping)) (sym is) tt))

module _ {D : Type 0} (disks : Ghosts D) (origin : SharedZone D) where
  -- a match whose object has a wrong member is refused so, and the zone isn't asked
  pub refused_match : (value : Data) (why : CallFault) (said : Said) (pass : ZoneSight) → ReadsMatch value (Err why) → ((outcome : CallOutcome) → IsFaultOf why outcome → SaysRefusal outcome said) → ShowsMatches disks origin value pass said pass
  refused_match value fault.NoRoute said pass is says = absurd is
  refused_match value (fault.BadMethod methods) said pass is says = absurd is
  refused_match value fault.Media said pass is says = absurd is
  refused_match value fault.BadJson said pass is says = absurd is
  refused_match value (fault.BadCall member) said pass is says = refuses member.now is refl (says (Err (bad_call member.now)) refl)
  refused_match value fault.OutOfMemory said pass is says = unread refl (says (Ok Ping) tt)
