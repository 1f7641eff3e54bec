-- How a zone answers a request: what its pass and its net do, and what is said.
use Rattle.std.specs.Prelude.{◌≡◌, ◌⊎◌, ℕ, ◌≤◌, List, [], ◌∷◌, Option, None, Result, Ok, Err}
use Rattle.delta_base.specs.Outside.{Rose}
use Rattle.log_base.specs.declared.log_info.LogInfo.{LogInfo}
use Rattle.serde_json.specs.Data.{Data}
use Rattle.disk_model.specs.declared.disk.Disk.{Ghosts}
use Rattle.dataset_tx.specs.declared.pattern.Pattern.{Pattern}
use Rattle.http_heads.specs.declared.message.RawRequest.{RawRequest}
use Rattle.http_session.specs.declared.answerer.Said.{Said}
use Rattle.http_session.specs.declared.answerer.Said.TheVariants.{OutOfMemory}
use Rattle.rpc_answers.specs.declared.answer.Answer.TheVariants.{Info, BadCall}
use Rattle.rpc_calls.specs.Outcomes.{CallRefusal}
use Rattle.turn_cell.specs.Knowing.{SeesOn, Wants, own_faults_of}
use Rattle.turn_cell.specs.Sharing.{FoundInTurn}
use Rattle.delta_client.specs.Exchanges.{Exchanged, dial_view}
use Rattle.delta_client.specs.declared.dial.Dial.{Ghosts as DialGhosts}
use Rattle.catch_up.specs.Runs.{Run, calls_in, said_in}
use Rattle.follower.specs.declared.ends.SyncEnd.{SyncEnd}
use Rattle.follower.specs.declared.ends.SyncEnd.TheVariants as ends
use Rattle.shared_zone.specs.declared.answers.Shown.{Shown}
use Rattle.shared_zone.specs.History.{SharedZone, ZoneSight, shared_zone, version_seen}
use Rattle.shared_zone.specs.Legal.{LegalDescribe, LegalRead}
use Rattle.zone_follower.specs.Following.{Followed}
use Rattle.gate_crews.specs.declared.seat.Seat.{Seat}
use Rattle.call_replies.specs.Says.{Says, SaysReply}
use Rattle.call_replies.specs.Telling.{refusal_answer, methods_told}
use Rattle.zone_session.specs.Asking.{ZoneAsked, asks_version, asks_match, asks_sync, zone_asked}
use Rattle.zone_session.specs.Matching.{AsksMatch, shown_reply}
use Rattle.zone_session.specs.Telling.{SaysSync}

module _ {D : Type 0} (disks : Ghosts D) (origin : SharedZone D) where
  -- the zone is asked in a stay how many patches it has taken and for the id of the last one, and
  -- that is said
  pub record DescribesZone (p : ZoneSight) (said : Said) (q : ZoneSight) : Type 0 where
    pub info : LogInfo
    pub legal : LegalDescribe origin.base p info q
    pub stay : FoundInTurn (shared_zone disks) origin p q
    pub says : Says (Info info.version info.head) None said

  -- the zone is asked in a stay for the lines that match, and they are said with the version of
  -- that stay; or memory ran out in it
  pub data SaysMatches (pattern : Pattern) (p : ZoneSight) (said : Said)
      (q : ZoneSight) : Type 0 where
    shows : (shown : Shown) → LegalRead origin.base pattern p shown q
        → FoundInTurn (shared_zone disks) origin p q → SaysReply (shown_reply shown) said
        → SaysMatches pattern p said q
    wants : Wants p q → FoundInTurn (shared_zone disks) origin p q → said ≡ OutOfMemory
        → SaysMatches pattern p said q

  -- The lines that match the pattern of an object are said. Where a member of it is wrong, the
  -- first such one is said, and the zone isn't asked; nor where memory ran out before all were
  -- read.
  pub data ShowsMatches (value : Data) (p : ZoneSight) (said : Said) (q : ZoneSight) : Type 0 where
    reads : (pattern : Pattern) → AsksMatch value (Ok pattern) → SaysMatches pattern p said q
        → ShowsMatches value p said q
    refuses : (member : List ℕ) → AsksMatch value (Err member) → q ≡ p
        → Says (BadCall member) None said → ShowsMatches value p said q
    unread : q ≡ p → said ≡ OutOfMemory → ShowsMatches value p said q

module _ {D N L : Type 0} (disks : Ghosts D) (dial : DialGhosts N L)
    (left sent : L → Option (List ℕ)) (origin : SharedZone D) (address name : List ℕ) where
  -- The zone caught up over the net, and it ended so. These calls were made to the peer at the
  -- address, and no other. A fault of a disk is one of the pass's own stays, and one of a
  -- connection is one of the net.
  pub record SyncsZone (before : Seat ZoneSight N) (run : Run) (end : SyncEnd)
      (after : Seat ZoneSight N) : Type 0 where
    pub followed : Followed disks origin before.pass run end after.pass
    pub asked :
        dial.tells
        → Exchanged left sent address (calls_in name run) (said_in run) None
        (dial_view dial before.net) (dial_view dial after.net)
    pub caught_up :
        (version : ℕ) → end ≡ ends.CaughtUp version → version ≤ version_seen origin.base after.pass
    pub sees_on : SeesOn before.pass after.pass
    pub disk : end ≡ ends.DiskFault → Rose (own_faults_of before.pass) (own_faults_of after.pass)
    pub link : end ≡ ends.LinkFault → Rose (dial.faults before.net) (dial.faults after.net)
    pub never_falls : dial.faults before.net ≤ dial.faults after.net
    pub held : dial.held after.net ≡ dial.held before.net

  -- what a request comes to that asks something, with the runs of catching up that it is
  abbrev pub ComesTo : ZoneAsked → Seat ZoneSight N → List Run → Said → Seat ZoneSight N → Type 0
  ComesTo asks_version before runs said after =
      (runs ≡ []) × (after.net ≡ before.net)
      × DescribesZone disks origin before.pass said after.pass
  ComesTo (asks_match value) before runs said after =
      (runs ≡ []) × (after.net ≡ before.net)
      × ShowsMatches disks origin value before.pass said after.pass
  ComesTo asks_sync before runs said after =
      (run : Run) × (end : SyncEnd) × (runs ≡ run ∷ []) × SyncsZone before run end after
      × SaysSync end said

  -- A request that asks nothing is refused, and the zone isn't asked. Memory may run out before it
  -- is read.
  abbrev pub IsSaidTo : Result ZoneAsked CallRefusal → Seat ZoneSight N → List Run → Said
      → Seat ZoneSight N → Type 0
  IsSaidTo (Err refusal) before runs said after =
      (runs ≡ []) × (after ≡ before) × Says (refusal_answer refusal) (methods_told refusal) said
  IsSaidTo (Ok asked) before runs said after =
      ComesTo asked before runs said after
      ⊎ ((runs ≡ []) × (after ≡ before) × (said ≡ OutOfMemory))

  -- Before and behind an answer the pass knows this of the zone, and the net is so.
  abbrev pub ZoneAnswered : Seat ZoneSight N → RawRequest → Said → Seat ZoneSight N → Type 0
  ZoneAnswered before request said after =
      (runs : List Run) × IsSaidTo (zone_asked request) before runs said after

  -- ---- parts of an answer

  -- what is asked is answered, in some runs of catching up
  abbrev pub Serves : ZoneAsked → Seat ZoneSight N → Said → Seat ZoneSight N → Type 0
  Serves asked before said after = (runs : List Run) × ComesTo asked before runs said after
