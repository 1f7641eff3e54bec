-- Answers one after another are calls of one pass over one net.
use Rattle.std.proofs.Common.{◌≡◌, inl, inr, ℕ, ◌+◌, ◌≤◌, List, [], ◌∷◌, ◌++◌, Option, Result, Ok, Err, refl, sym, ◌∙◌, ap, subst, arith}
use Rattle.delta_base.specs.Outside.{RoseBy}
use Rattle.disk_model.specs.declared.disk.Disk.{Ghosts}
use Rattle.chain_core.specs.declared.chain.Patch.{Patch}
use Rattle.http_session.specs.Output.{Exchange, AnswerChain}
use Rattle.http_session.specs.declared.answerer.Said.{Said}
use Rattle.patch_log.specs.State.{LogView}
use Rattle.rpc_answers.specs.declared.answer.Answer.TheVariants.{NoSource, Pong}
use Rattle.rpc_calls.specs.Outcomes.{CallRefusal}
use Rattle.rpc_calls.specs.declared.call.Call.{Call}
use Rattle.rpc_calls.specs.declared.call.Call.TheVariants as calls
use Rattle.turn_cell.specs.Calls.{IsReplied, faulted_by}
use Rattle.turn_cell.specs.Knowing.{own_faults_of}
use Rattle.shared_log.specs.Calls.{AreCalledOnLog, CallOnLog, MayWant, tells_fault}
use Rattle.shared_log.specs.History.{LogSight}
use Rattle.shared_log.specs.Laws.{CallsAddUp, CallsCompose}
use Rattle.shared_log.specs.Stays.{CalledOnLog}
use Rattle.delta_client.specs.declared.dial.Dial.{Ghosts as DialGhosts}
use Rattle.catch_up.specs.Runs.{Run, said_in}
use Rattle.mirror.specs.Calling.{PullsAreCalls}
use Rattle.mirror.specs.Following.{AreActs, TextsAreAmong, asks, pulls}
use Rattle.mirror.specs.declared.ends.PullEnd.{PullEnd}
use Rattle.gate_crews.specs.declared.seat.Seat.{Seat}
use Rattle.call_replies.specs.Faults.{faults_said}
use Rattle.call_replies.specs.Links.{is_link_said}
use Rattle.call_replies.proofs.Faulting.{one_if, said_of_log}
use Rattle.mirror_session.specs.declared.asking.MirrorAsked.{MirrorAsked}
use Rattle.mirror_session.specs.declared.asking.MirrorAsked.TheVariants.{Ask, Pull}
use Rattle.mirror_session.specs.declared.logs.LogAsk.{LogAsk}
use Rattle.mirror_session.specs.declared.logs.LogAsk.TheVariants as ask
use Rattle.mirror_session.specs.Asking.{mirror_asked}
use Rattle.mirror_session.specs.Answered.{AsksLog, ByCall, ByName, ComesTo, IsSaidTo, MirrorAnswered, PullsLog, log_call}
use Rattle.mirror_session.specs.Sessions.{ServedMirror, said_by_peer, said_in_runs}
use Rattle.mirror_session.specs.Telling.{SaysPull}
use Rattle.mirror_session.proofs.Acting.{act_on, among_front, among_rest}
use Rattle.mirror_session.proofs.Faulting.{AsTold, TellsNone, as_none, next_rose, none_at_answer, none_at_refusal, none_at_want, rose_few, told_at_end}
use Rattle.mirror_session.proofs.Reading.{link_of_log, looked}

-- the calls of both were told of a fault as often as those of each together
faulted_both : (first others : List CallOnLog) → faulted_by tells_fault (first ++ others) ≡ faulted_by tells_fault first + faulted_by tells_fault others
faulted_both [] others = omega arith
faulted_both (made ∷ first) others = omega (arith, faulted_both first others)

module _ {D N L : Type 0} (disks : Ghosts D) (dial : DialGhosts N L) (left sent : L → Option (List ℕ)) (origin : LogView D) (address name : List ℕ) where
  -- ---- one request

  -- where a peer said these, what the pass did is acts of a mirror
  abbrev Acts : List Run → LogSight → LogSight → Type 0
  Acts runs p q = (chain : List Patch) → TextsAreAmong chain (said_in_runs runs) → (acts : List LogSight) × AreActs disks chain origin p acts q

  -- what the answer to one request comes to
  record OneServed (before : Seat LogSight N) (runs : List Run) (said : Said) (after : Seat LogSight N) : Type 0 where
    calls : List CallOnLog
    called : AreCalledOnLog disks origin before.pass calls after.pass
    told : AsTold said (faulted_by tells_fault calls) (dial.faults before.net) (dial.faults after.net)
    never_falls : dial.faults before.net ≤ dial.faults after.net
    held : dial.held after.net ≡ dial.held before.net
    acts : Acts runs before.pass after.pass

  module _ (before : Seat LogSight N) (runs : List Run) (said : Said) (after : Seat LogSight N) where
    no_fewer : after.net ≡ before.net → dial.faults before.net ≤ dial.faults after.net
    no_fewer net = let faults = ap (λ (n : N). dial.faults n) net in omega (arith, faults)

    -- neither the log nor the net was used
    unasked : after.pass ≡ before.pass → after.net ≡ before.net → TellsNone said → OneServed before runs said after
    unasked pass net none = record {
      calls = [];
      called = pass;
      told = as_none said 0 _ _ (no_fewer net) none;
      never_falls = no_fewer net;
      held = ap (λ (n : N). dial.held n) net;
      acts = λ chain texts. ([], pass);
    }

    untouched : after ≡ before → TellsNone said → OneServed before runs said after
    untouched same none = unasked (ap (λ (s : Seat LogSight N). s.pass) same) (ap (λ (s : Seat LogSight N). s.net) same) none

    -- the log was asked
    by_log : (asked : LogAsk) → after.net ≡ before.net → AsksLog disks origin asked before.pass said after.pass → OneServed before runs said after
    by_log asked net by =
        let made : CallOnLog = by.0 in
        let replied : IsReplied (CalledOnLog disks origin) MayWant before.pass (log_call asked) made.reply after.pass = subst (λ call. IsReplied (CalledOnLog disks origin) MayWant before.pass call made.reply after.pass) by.1 by.2.replied in record {
          calls = made ∷ [];
          called = (after.pass, by.2, refl);
          told = record {
            fault = let few = said_of_log made.reply said by.3 in omega (arith, few);
            link = rose_few _ _ _ (link_of_log disks origin before.pass after.pass asked made.reply said replied by.3) (no_fewer net);
          };
          never_falls = no_fewer net;
          held = ap (λ (n : N). dial.held n) net;
          acts = λ chain texts. (after.pass ∷ [], (asks (looked disks origin before.pass after.pass asked made.reply replied), refl));
        }

    by_name : (source : List ℕ) (asked : LogAsk) → after.net ≡ before.net → ByName disks origin name source asked before.pass said after.pass → OneServed before runs said after
    by_name source asked net (inl its) = by_log asked net its.1
    by_name source asked net (inr other) = unasked other.1 net (none_at_answer NoSource said refl refl other.2)

    by_call : (call : Call) → after.net ≡ before.net → ByCall disks origin name call before.pass said after.pass → OneServed before runs said after
    by_call calls.Ping net by = unasked by.0 net (none_at_answer Pong said refl refl by.1)
    by_call (calls.Log source) net by = by_name source ask.Describe net by
    by_call (calls.Version source) net by = by_name source ask.Version net by
    by_call (calls.FetchVersion source place) net by = by_name source (ask.FetchVersion place) net by
    by_call (calls.FetchId source id) net by = by_name source (ask.FetchId id) net by
    by_call calls.List net by = absurd by
    by_call (calls.Source source) net by = absurd by
    by_call (calls.SourceById id) net by = absurd by
    by_call (calls.SourceByUri uri) net by = absurd by
    by_call (calls.Remove source) net by = absurd by
    by_call (calls.Create source uri id) net by = absurd by
    by_call (calls.Rename source new_name) net by = absurd by
    by_call (calls.Append source patch) net by = absurd by
    by_call (calls.AppendRun source patches) net by = absurd by

    module _ (law : PullsAreCalls disks origin) where
      by_pull : (run : Run) (end : PullEnd) → runs ≡ run ∷ [] → PullsLog disks dial left sent origin address name before run end after → SaysPull end said → OneServed before runs said after
      by_pull run end only is says =
          let by = law before.pass after.pass run end is.pulled in record {
            calls = by.calls;
            called = by.called;
            told = told_at_end said (faulted_by tells_fault by.calls) _ _ is.never_falls end by.faulted is.link says;
            never_falls = is.never_falls;
            held = is.held;
            acts = λ chain texts.
                let among : TextsAreAmong chain (said_in run ++ []) = subst (λ (r : List Run). TextsAreAmong chain (said_in_runs r)) only texts in
                (after.pass ∷ [], (pulls run end is.pulled (among_front chain (said_in run) [] among), refl));
          }

      comes : (asked : MirrorAsked) → ComesTo disks dial left sent origin address name asked before runs said after → OneServed before runs said after
      comes (Ask call) by = by_call call by.1 by.2
      comes Pull by = by_pull by.0 by.1 by.2 by.3 by.4

      one_served : (asked : Result MirrorAsked CallRefusal) → IsSaidTo disks dial left sent origin address name asked before runs said after → OneServed before runs said after
      one_served (Err refusal) is = untouched is.1 (none_at_refusal refusal said is.2)
      one_served (Ok asked) (inl by) = comes asked by
      one_served (Ok asked) (inr want) = untouched want.1 (none_at_want said want.2)

  -- ---- all of them

  module _ (compose : CallsCompose disks origin) (add_up : CallsAddUp disks origin) (law : PullsAreCalls disks origin) where
    none_served : (before after : Seat LogSight N) → before ≡ after → ServedMirror disks dial left sent origin address name before [] after
    none_served before after same =
        let called : AreCalledOnLog disks origin before.pass [] after.pass = sym (ap (λ (s : Seat LogSight N). s.pass) same) in
        let own = ap (λ (s : Seat LogSight N). own_faults_of s.pass) same in
        let net = ap (λ (s : Seat LogSight N). dial.faults s.net) same in record {
          runs = [];
          said = sym same;
          calls = [];
          called = called;
          adds_up = add_up before.pass after.pass [] called;
          fewer_said = omega arith;
          faults = rose_few 0 _ _ (omega arith) (omega (arith, own));
          links = rose_few 0 _ _ (omega arith) (omega (arith, net));
          never_falls = omega (arith, net);
          held = ap (λ (s : Seat LogSight N). dial.held s.net) (sym same);
          acts = λ chain texts. ([], called);
        }

    fewer_rose : (said told a b : ℕ) → said ≤ told → RoseBy told a b → RoseBy said a b
    fewer_rose said told a b fewer rose = omega (arith, fewer, rose)

    pub served : (before after : Seat LogSight N) (exchanges : List Exchange) → AnswerChain (MirrorAnswered disks dial left sent origin address name) before exchanges after
        → ServedMirror disks dial left sent origin address name before exchanges after
    served before after [] same = none_served before after same
    served before after (e ∷ exchanges) a =
        let next : Seat LogSight N = a.0 in
        let runs : List Run = a.1.0 in
        let one = one_served before runs e.said next law (mirror_asked e.request) a.1.1 in
        let rest = served next after exchanges a.2 in
        let calls : List CallOnLog = one.calls ++ rest.calls in
        let called = compose before.pass next.pass after.pass one.calls rest.calls one.called rest.called in
        let adds_up = add_up before.pass after.pass calls called in
        let fewer : faults_said (e ∷ exchanges) ≤ faulted_by tells_fault calls = omega (arith, one.told.fault, rest.fewer_said, faulted_both one.calls rest.calls) in record {
          runs = runs ∷ rest.runs;
          said = (next, a.1.1, rest.said);
          calls = calls;
          called = called;
          adds_up = adds_up;
          fewer_said = fewer;
          faults = fewer_rose _ (faulted_by tells_fault calls) _ _ fewer adds_up.adds.faults;
          links = next_rose (one_if (is_link_said e.said)) _ _ _ _ one.told.link rest.links;
          never_falls = omega (arith, one.never_falls, rest.never_falls);
          held = rest.held ∙ one.held;
          acts = λ chain texts.
              let first = one.acts chain (among_front chain (said_in_runs runs) (said_by_peer rest.runs) texts) in
              let others = rest.acts chain (among_rest chain (said_in_runs runs) (said_by_peer rest.runs) texts) in
              (first.0 ++ others.0, act_on disks chain origin before.pass next.pass after.pass first.0 others.0 first.1 others.1);
        }
