-- How a mirror answers a request: what its pass and its net do, and what is said.
use Rattle.std.specs.Prelude.{◌≡◌, ◌≢◌, ◌⊎◌, ℕ, ◌≤◌, List, [], ◌∷◌, length, Option, None}
use Rattle.std.specs.Prelude.{Result, Ok, Err}
use mathlib.Core.List.{IsPrefix}
use Rattle.delta_base.specs.Outside.{Rose}
use Rattle.disk_model.specs.declared.disk.Disk.{Ghosts}
use Rattle.chain_core.specs.Replies.{LogCall, describe, version, fetch_version, fetch_id}
use Rattle.http_heads.specs.declared.message.RawRequest.{RawRequest}
use Rattle.http_session.specs.declared.answerer.Said.{Said}
use Rattle.http_session.specs.declared.answerer.Said.TheVariants.{OutOfMemory}
use Rattle.patch_log.specs.State.{LogView}
use Rattle.rpc_answers.specs.declared.answer.Answer.TheVariants.{NoSource, Pong}
use Rattle.rpc_calls.specs.Outcomes.{CallRefusal}
use Rattle.rpc_calls.specs.declared.call.Call.{Call}
use Rattle.rpc_calls.specs.declared.call.Call.TheVariants as calls
use Rattle.turn_cell.specs.Knowing.{KnowsItsOwn, own_faults_of, seen_of}
use Rattle.shared_log.specs.Calls.{CallOnLog, IsCalledOnLog}
use Rattle.shared_log.specs.History.{LogSight, SeesWhole}
use Rattle.delta_client.specs.Exchanges.{Exchanged, dial_view}
use Rattle.delta_client.specs.declared.dial.Dial.{Ghosts as DialGhosts}
use Rattle.catch_up.specs.Runs.{Run, calls_in, said_in}
use Rattle.mirror.specs.declared.ends.PullEnd.{PullEnd}
use Rattle.mirror.specs.declared.ends.PullEnd.TheVariants as ends
use Rattle.mirror.specs.Pulling.{Pulled}
use Rattle.gate_crews.specs.declared.seat.Seat.{Seat}
use Rattle.call_replies.specs.Says.{Says, SaysOf}
use Rattle.call_replies.specs.Telling.{log_answer, refusal_answer, methods_told, version_within}
use Rattle.mirror_session.specs.declared.asking.MirrorAsked.{MirrorAsked}
use Rattle.mirror_session.specs.declared.asking.MirrorAsked.TheVariants.{Ask, Pull}
use Rattle.mirror_session.specs.declared.logs.LogAsk.{LogAsk}
use Rattle.mirror_session.specs.declared.logs.LogAsk.TheVariants as ask
use Rattle.mirror_session.specs.Asking.{mirror_asked}
use Rattle.mirror_session.specs.Telling.{SaysPull}

-- the call on the log by which it is asked; a version past 32 bits is one that it has not
abbrev pub log_call : LogAsk → LogCall
log_call ask.Describe = describe
log_call ask.Version = version
log_call (ask.FetchVersion place) = fetch_version (version_within place)
log_call (ask.FetchId id) = fetch_id id

module _ {D : Type 0} (disks : Ghosts D) (origin : LogView D) where
  -- the log is asked by one legal call with its stay, and its reply is said
  abbrev pub AsksLog : LogAsk → LogSight → Said → LogSight → Type 0
  AsksLog asked p said q =
      (made : CallOnLog) × (made.call ≡ log_call asked) × IsCalledOnLog disks origin p made q
      × SaysOf log_answer made.reply said

  module _ (name : List ℕ) where
    -- another name than the log's has no source, and the log isn't asked
    abbrev pub ByName : List ℕ → LogAsk → LogSight → Said → LogSight → Type 0
    ByName source asked p said q =
        ((source ≡ name) × AsksLog asked p said q)
        ⊎ ((source ≢ name) × (q ≡ p) × Says NoSource None said)

    -- what a call comes to; a mirror takes no other
    abbrev pub ByCall : Call → LogSight → Said → LogSight → Type 0
    ByCall calls.Ping p said q = (q ≡ p) × Says Pong None said
    ByCall (calls.Log source) p said q = ByName source ask.Describe p said q
    ByCall (calls.Version source) p said q = ByName source ask.Version p said q
    ByCall (calls.FetchVersion source place) p said q =
        ByName source (ask.FetchVersion place) p said q
    ByCall (calls.FetchId source id) p said q = ByName source (ask.FetchId id) p said q
    ByCall other p said q = ⊥

module _ {D N L : Type 0} (disks : Ghosts D) (dial : DialGhosts N L)
    (left sent : L → Option (List ℕ)) (origin : LogView D) (address name : List ℕ) where
  -- The log pulled over the net, and it ended so. These calls were made to the peer at the address,
  -- and no other. A fault of the disk is one of the pass's own stays, and one of a connection is one
  -- of the net.
  pub record PullsLog (before : Seat LogSight N) (run : Run) (end : PullEnd)
      (after : Seat LogSight N) : Type 0 where
    pub pulled : Pulled disks origin before.pass run end after.pass
    pub asked :
        dial.tells
        → Exchanged left sent address (calls_in name run) (said_in run) None
        (dial_view dial before.net) (dial_view dial after.net)
    pub caught_up :
        (version : ℕ) → end ≡ ends.CaughtUp version → version ≤ length (seen_of after.pass)
    pub sees_on : IsPrefix (seen_of before.pass) (seen_of after.pass)
    pub whole : SeesWhole after.pass × KnowsItsOwn after.pass
    pub disk : end ≡ ends.DiskFault → Rose (own_faults_of before.pass) (own_faults_of after.pass)
    pub link : end ≡ ends.LinkFault → Rose (dial.faults before.net) (dial.faults after.net)
    pub never_falls : dial.faults before.net ≤ dial.faults after.net
    pub held : dial.held after.net ≡ dial.held before.net

  -- what a request comes to that asks something, with the runs of catching up that it is
  abbrev pub ComesTo : MirrorAsked → Seat LogSight N → List Run → Said → Seat LogSight N → Type 0
  ComesTo (Ask call) before runs said after =
      (runs ≡ []) × (after.net ≡ before.net)
      × ByCall disks origin name call before.pass said after.pass
  ComesTo Pull before runs said after =
      (run : Run) × (end : PullEnd) × (runs ≡ run ∷ []) × PullsLog before run end after
      × SaysPull end said

  -- A request that asks nothing is refused, and the log isn't asked. Memory may run out before it is
  -- read.
  abbrev pub IsSaidTo : Result MirrorAsked CallRefusal → Seat LogSight N → List Run → Said
      → Seat LogSight N → Type 0
  IsSaidTo (Err refusal) before runs said after =
      (runs ≡ []) × (after ≡ before) × Says (refusal_answer refusal) (methods_told refusal) said
  IsSaidTo (Ok asked) before runs said after =
      ComesTo asked before runs said after
      ⊎ ((runs ≡ []) × (after ≡ before) × (said ≡ OutOfMemory))

  -- Before and behind an answer the pass knows this of the log, and the net is so.
  abbrev pub MirrorAnswered : Seat LogSight N → RawRequest → Said → Seat LogSight N → Type 0
  MirrorAnswered before request said after =
      (runs : List Run) × IsSaidTo (mirror_asked request) before runs said after

  -- ---- parts of an answer

  -- what is asked is answered, in some runs of catching up
  abbrev pub Serves : MirrorAsked → Seat LogSight N → Said → Seat LogSight N → Type 0
  Serves asked before said after = (runs : List Run) × ComesTo asked before runs said after
