-- Answers one after another are calls of one pass over one net.
use Rattle.std.proofs.Common.{◌≡◌, inl, inr, ℕ, ◌≤◌, List, [], ◌∷◌, ◌++◌, Option, Result, Ok, Err, refl, sym, ◌∙◌, ap, subst, arith}
use Rattle.serde_json.specs.Data.{Data}
use Rattle.disk_model.specs.declared.disk.Disk.{Ghosts}
use Rattle.http_session.specs.Output.{Exchange, AnswerChain}
use Rattle.http_session.specs.declared.answerer.Said.{Said}
use Rattle.rpc_answers.specs.declared.answer.Answer.TheVariants.{Info, BadCall}
use Rattle.rpc_calls.specs.Outcomes.{CallRefusal}
use Rattle.turn_cell.specs.Knowing.{KnowsItsOwn, SeesOn, Wants, own_faults_of, pass_number}
use Rattle.turn_cell.specs.Sharing.{FoundInTurn}
use Rattle.turn_cell.proofs.Knowing.{same_on}
use Rattle.turn_cell.proofs.Views.{prefix_trans}
use Rattle.turn_cell.specs.Knowing.{seen_of}
use Rattle.delta_client.specs.declared.dial.Dial.{Ghosts as DialGhosts}
use Rattle.catch_up.specs.Runs.{Run, said_in}
use Rattle.shared_zone.specs.History.{SharedZone, ZoneSight, shared_zone}
use Rattle.zone_follower.specs.Bringing.{BringsRead, FollowingsBringWhatTheyRead}
use Rattle.gate_crews.specs.declared.seat.Seat.{Seat}
use Rattle.call_replies.specs.Faults.{is_fault_said}
use Rattle.call_replies.specs.Links.{is_link_said}
use Rattle.call_replies.proofs.Faulting.{one_if}
use Rattle.zone_session.specs.Asking.{ZoneAsked, asks_version, asks_match, asks_sync, zone_asked}
use Rattle.zone_session.specs.Matching.{shown_reply}
use Rattle.zone_session.specs.Answered.{ComesTo, DescribesZone, IsSaidTo, SaysMatches, ShowsMatches, SyncsZone, ZoneAnswered}
use Rattle.zone_session.specs.Answered as answered
use Rattle.zone_session.specs.Sessions.{ServedZone, StillOrOn, said_by_peer, said_in_runs}
use Rattle.zone_session.proofs.Bringing.{brings_among, brings_both, brings_none, in_left, looking_brings}
use Rattle.zone_session.proofs.Faulting.{RoseAsTold, TellsNone, next_rose, none_at_answer, none_at_refusal, none_at_reply, none_at_want, rose_as_none, rose_at_end, rose_few}

-- ---- what a pass goes through

on_both : (p m q : ZoneSight) → SeesOn p m → SeesOn m q → SeesOn p q
on_both p m q first second =
    (same_on p m q first.0 second.0, second.1, prefix_trans (seen_of p) (seen_of m) (seen_of q) first.2 second.2, second.3, omega (arith, first.4, second.4), omega (arith, first.5, second.5))

pub still_or_both : (p m q : ZoneSight) → StillOrOn p m → StillOrOn m q → StillOrOn p q
still_or_both p m q (inl same) second = subst (λ (it : ZoneSight). StillOrOn it q) same second
still_or_both p m q (inr first) (inl same) = inr (subst (λ (it : ZoneSight). SeesOn p it) (sym same) first)
still_or_both p m q (inr first) (inr second) = inr (on_both p m q first second)

faults_fewer : (p q : ZoneSight) → StillOrOn p q → own_faults_of p ≤ own_faults_of q
faults_fewer p q (inl same) = let e = ap (λ (it : ZoneSight). own_faults_of it) same in omega (arith, e)
faults_fewer p q (inr on) = on.5

pub same_number : (p q : ZoneSight) → StillOrOn p q → pass_number q ≡ pass_number p
same_number p q (inl same) = ap (λ (it : ZoneSight). pass_number it) same
same_number p q (inr on) = on.0.2

knows_still : (p q : ZoneSight) → StillOrOn p q → KnowsItsOwn p → KnowsItsOwn q
knows_still p q (inl same) own = subst (λ (it : ZoneSight). KnowsItsOwn it) (sym same) own
knows_still p q (inr on) own = on.3

module _ {D N L : Type 0} (disks : Ghosts D) (dial : DialGhosts N L) (left sent : L → Option (List ℕ)) (origin : SharedZone D) (address name : List ℕ) where
  -- ---- one request

  -- what the answer to one request comes to
  record OneServed (before : Seat ZoneSight N) (runs : List Run) (said : Said) (after : Seat ZoneSight N) : Type 0 where
    pub sees : StillOrOn before.pass after.pass
    pub rose : RoseAsTold said (own_faults_of before.pass) (own_faults_of after.pass) (dial.faults before.net) (dial.faults after.net)
    pub never_falls : dial.faults before.net ≤ dial.faults after.net
    pub held : dial.held after.net ≡ dial.held before.net
    pub brings : KnowsItsOwn before.pass → BringsRead (said_in_runs runs) before.pass after.pass

  -- the net was not used, and no fault is told
  with_pass : (before : Seat ZoneSight N) (runs : List Run) (said : Said) (after : Seat ZoneSight N) → runs ≡ [] → after.net ≡ before.net → TellsNone said → StillOrOn before.pass after.pass → (KnowsItsOwn before.pass → BringsRead [] before.pass after.pass)
      → OneServed before runs said after
  with_pass before runs said after none net told sees brings =
      let faults = ap (λ (n : N). dial.faults n) net in
      let no_fewer : dial.faults before.net ≤ dial.faults after.net = omega (arith, faults) in record {
        sees = sees;
        rose = rose_as_none said _ _ _ _ told (faults_fewer before.pass after.pass sees) no_fewer;
        never_falls = no_fewer;
        held = ap (λ (n : N). dial.held n) net;
        brings = λ own. subst (λ (r : List Run). BringsRead (said_in_runs r) before.pass after.pass) (sym none) (brings own);
      }

  -- nothing was asked
  untouched : (before : Seat ZoneSight N) (runs : List Run) (said : Said) (after : Seat ZoneSight N) → runs ≡ [] → after ≡ before → TellsNone said → OneServed before runs said after
  untouched before runs said after none same told =
      let pass = ap (λ (s : Seat ZoneSight N). s.pass) same in
      with_pass before runs said after none (ap (λ (s : Seat ZoneSight N). s.net) same) told (inl pass) (λ own. brings_none [] before.pass after.pass pass)

  module _ (law : FollowingsBringWhatTheyRead disks origin) where
    -- a stay only looked
    by_looking : (before : Seat ZoneSight N) (runs : List Run) (said : Said) (after : Seat ZoneSight N) → runs ≡ [] → after.net ≡ before.net → Wants before.pass after.pass → FoundInTurn (shared_zone disks) origin before.pass after.pass → TellsNone said
        → OneServed before runs said after
    by_looking before runs said after none net wants stay told = with_pass before runs said after none net told (inr wants.0) (looking_brings disks origin law before.pass after.pass wants stay)

    by_reading : (before : Seat ZoneSight N) (runs : List Run) (said : Said) (after : Seat ZoneSight N) (pattern : _) → runs ≡ [] → after.net ≡ before.net → SaysMatches disks origin pattern before.pass said after.pass → OneServed before runs said after
    by_reading before runs said after pattern none net (answered.shows shown legal stay says) = by_looking before runs said after none net legal.0 stay (none_at_reply (shown_reply shown) said (λ close. refl) (λ close. refl) says)
    by_reading before runs said after pattern none net (answered.wants wants stay is) = by_looking before runs said after none net wants stay (none_at_want said is)

    by_matching : (value : Data) (before : Seat ZoneSight N) (runs : List Run) (said : Said) (after : Seat ZoneSight N) → runs ≡ [] → after.net ≡ before.net → ShowsMatches disks origin value before.pass said after.pass → OneServed before runs said after
    by_matching value before runs said after none net (answered.reads pattern asks says) = by_reading before runs said after pattern none net says
    by_matching value before runs said after none net (answered.refuses member asks same says) =
        with_pass before runs said after none net (none_at_answer (BadCall member) said refl refl says) (inl same) (λ own. brings_none [] before.pass after.pass same)
    by_matching value before runs said after none net (answered.unread same is) = with_pass before runs said after none net (none_at_want said is) (inl same) (λ own. brings_none [] before.pass after.pass same)

    comes : (asked : ZoneAsked) (before : Seat ZoneSight N) (runs : List Run) (said : Said) (after : Seat ZoneSight N) → ComesTo disks dial left sent origin address name asked before runs said after → OneServed before runs said after
    comes asks_version before runs said after by =
        let d = by.2 in by_looking before runs said after by.0 by.1 d.legal.0 d.stay (none_at_answer (Info d.info.version d.info.head) said refl refl d.says)
    comes (asks_match value) before runs said after by = by_matching value before runs said after by.0 by.1 by.2
    comes asks_sync before runs said after by =
        let run : Run = by.0 in
        let s = by.3 in record {
          sees = inr s.sees_on;
          rose = rose_at_end said _ _ _ _ s.sees_on.5 s.never_falls by.1 s.disk s.link by.4;
          never_falls = s.never_falls;
          held = s.held;
          brings = λ own. subst (λ (r : List Run). BringsRead (said_in_runs r) before.pass after.pass) (sym by.2)
              (brings_among (said_in run) (said_in run ++ []) (λ x is. in_left x (said_in run) [] is) before.pass after.pass (law before.pass after.pass run by.1 own s.followed));
        }

    one_served : (asked : Result ZoneAsked CallRefusal) (before : Seat ZoneSight N) (runs : List Run) (said : Said) (after : Seat ZoneSight N) → IsSaidTo disks dial left sent origin address name asked before runs said after → OneServed before runs said after
    one_served (Err refusal) before runs said after is = untouched before runs said after is.0 is.1 (none_at_refusal refusal said is.2)
    one_served (Ok asked) before runs said after (inl by) = comes asked before runs said after by
    one_served (Ok asked) before runs said after (inr want) = untouched before runs said after want.0 want.1 (none_at_want said want.2)

    -- ---- all of them

    pub served : (before after : Seat ZoneSight N) (exchanges : List Exchange) → AnswerChain (ZoneAnswered disks dial left sent origin address name) before exchanges after
        → ServedZone disks dial left sent origin address name before exchanges after
    served before after [] same = record {
      runs = [];
      said = sym same;
      sees = inl (ap (λ (s : Seat ZoneSight N). s.pass) (sym same));
      faults = rose_few 0 _ _ (omega arith) (let e = ap (λ (s : Seat ZoneSight N). own_faults_of s.pass) same in omega (arith, e));
      links = rose_few 0 _ _ (omega arith) (let e = ap (λ (s : Seat ZoneSight N). dial.faults s.net) same in omega (arith, e));
      never_falls = let e = ap (λ (s : Seat ZoneSight N). dial.faults s.net) same in omega (arith, e);
      held = ap (λ (s : Seat ZoneSight N). dial.held s.net) (sym same);
      brings = λ own. brings_none [] before.pass after.pass (ap (λ (s : Seat ZoneSight N). s.pass) (sym same));
    }
    served before after (e ∷ exchanges) a =
        let next : Seat ZoneSight N = a.0 in
        let runs : List Run = a.1.0 in
        let one = one_served (zone_asked e.request) before runs e.said next a.1.1 in
        let rest = served next after exchanges a.2 in record {
          runs = runs ∷ rest.runs;
          said = (next, a.1.1, rest.said);
          sees = still_or_both before.pass next.pass after.pass one.sees rest.sees;
          faults = next_rose (one_if (is_fault_said e.said)) _ _ _ _ one.rose.faults rest.faults;
          links = next_rose (one_if (is_link_said e.said)) _ _ _ _ one.rose.links rest.links;
          never_falls = omega (arith, one.never_falls, rest.never_falls);
          held = rest.held ∙ one.held;
          brings = λ own.
              brings_both (said_in_runs runs) (said_by_peer rest.runs) before.pass next.pass after.pass (same_number before.pass next.pass one.sees) (one.brings own) (rest.brings (knows_still before.pass next.pass one.sees own));
        }
