-- A run of a zone that nobody shares is what `sync` promises.
use Rattle.std.proofs.Common.{◌≡◌, ◌≢◌, ◌⊎◌, inl, inr, ℕ, ◌+◌, ◌<◌, ◌≤◌, List, [], ◌∷◌, ◌++◌, length, Option, None, Result, Ok, Err, refl, sym, ◌∙◌, ap, subst, arith}
use Rattle.std.specs.Prelude.{map}
use Rattle.std.proofs.lemmas.List.{append-nil, length_push}
use Rattle.delta_base.specs.declared.id.Id.{Id}
use Rattle.rdf_terms.specs.declared.term.Term.{Term}
use Rattle.term_table.specs.Table.{most}
use Rattle.dataset_tx.specs.Held.{AreMet}
use Rattle.patch_meaning.specs.Checked.{AreChecked, CheckedPatch, checked_texts}
use Rattle.patch_meaning.specs.Patch.{IsPatch}
use Rattle.delta_client.specs.declared.fault.AskFault.{AskFault}
use Rattle.delta_client.specs.declared.fault.AskFault.TheVariants as ask
use Rattle.delta_client.specs.Exchanges.{WasSaid}
use Rattle.rpc_answers.specs.declared.answer.Answer.{Answer}
use Rattle.rpc_answers.specs.declared.answer.Answer.TheVariants as answer
use Rattle.rpc_calls.specs.declared.call.Call.{Call}
use Rattle.rpc_calls.specs.declared.call.Call.TheVariants as calls
use Rattle.zone_state.specs.Brief.{Brief, changes_taken}
use Rattle.chain_core.specs.Ids.{last_of}
use Rattle.zone_state.specs.Zone.{ZoneView}
use Rattle.catch_up.specs.declared.end.RunEnd.{RunEnd}
use Rattle.catch_up.specs.declared.end.RunEnd.TheVariants as run
use Rattle.catch_up.specs.Ends as peer
use Rattle.catch_up.specs.Runs as runs
use Rattle.catch_up.specs.Runs.{Run, TakenText, TakesAll, IsRunTo, calls_in, fetches_in, said_in, step_texts, texts_said}
use Rattle.follower.specs.declared.ends.SyncEnd.TheVariants as sync
use Rattle.follower.specs.declared.ends.TextRefusal.{TextRefusal}
use Rattle.follower.specs.declared.ends.TextRefusal.TheVariants.{BadPatch, Diverged, Repeated, Full, TermsFull, DiskFault, OutOfMemory}
use Rattle.follower.specs.Calls.{fetches, calls_of, came}
use Rattle.follower.specs.Footing.{Footing, DisksOf, ZoneWent, with_patches}
use Rattle.follower.specs.Grown.{TookMore, LeavesAmid, LeftInDoubt, none, as_before, tried_last, untried, was_next, WasTried, GrewBy, Took, Stayed, IsText, IsNextForZone}
use Rattle.follower.specs.Syncing as here
use Rattle.follower.specs.Syncing.{RefusesText, NextEnds, RunEnds, end_of_refusal, sync_end}
use Rattle.follower.specs.Replicas.{ShowsOwn, TakesOwn, IsSync}
use Rattle.follower.proofs.Footings.{went_none, went_both, went_as}
use Rattle.follower.proofs.Amid.{IsClear, amid_none, amid_both}
use Rattle.follower.proofs.Taken.{took_none, took_both, took_still, met_none, met_both, more_both}

-- ---- ends

disk_is : (refusal : TextRefusal) → end_of_refusal refusal ≡ sync.DiskFault → refusal ≡ DiskFault
disk_is (BadPatch version fault) same = absurd (cc)
disk_is (Diverged version have theirs) same = absurd (cc)
disk_is (Repeated version id) same = absurd (cc)
disk_is (Full what have limit) same = absurd (cc)
disk_is TermsFull same = absurd (cc)
disk_is DiskFault same = refl
disk_is OutOfMemory same = absurd (cc)

no_link : (refusal : TextRefusal) → end_of_refusal refusal ≡ sync.LinkFault → ⊥
no_link (BadPatch version fault) same = cc
no_link (Diverged version have theirs) same = cc
no_link (Repeated version id) same = cc
no_link (Full what have limit) same = cc
no_link TermsFull same = cc
no_link DiskFault same = cc
no_link OutOfMemory same = cc

link_is : (end : RunEnd TextRefusal) → sync_end end ≡ sync.LinkFault → end ≡ run.LinkFault
link_is (run.CaughtUp version) same = absurd (cc)
link_is run.NoSuchName same = absurd (cc)
link_is (run.PeerBehind mine theirs) same = absurd (cc)
link_is (run.HeadsDiffer version have theirs) same = absurd (cc)
link_is (run.NoPatch version) same = absurd (cc)
link_is (run.PeerRefused status body) same = absurd (cc)
link_is run.LinkFault same = refl
link_is run.CutShort same = absurd (cc)
link_is (run.NotUnderstood at) same = absurd (cc)
link_is run.OutOfMemory same = absurd (cc)
link_is (run.Refused refusal) same = absurd (no_link refusal same)

-- no text was refused
abbrev IsOfPeer : RunEnd TextRefusal → Type 0
IsOfPeer (run.Refused refusal) = ⊥
IsOfPeer other = Unit {0}

no_disk : (end : RunEnd TextRefusal) → IsOfPeer end → sync_end end ≡ sync.DiskFault → ⊥
no_disk (run.CaughtUp version) is same = cc
no_disk run.NoSuchName is same = cc
no_disk (run.PeerBehind mine theirs) is same = cc
no_disk (run.HeadsDiffer version have theirs) is same = cc
no_disk (run.NoPatch version) is same = cc
no_disk (run.PeerRefused status body) is same = cc
no_disk run.LinkFault is same = cc
no_disk run.CutShort is same = cc
no_disk (run.NotUnderstood at) is same = cc
no_disk run.OutOfMemory is same = cc
no_disk (run.Refused refusal) is same = is

refusal_of_peer : (a : Answer) (end : RunEnd TextRefusal) → peer.IsRefusal a end → IsOfPeer end
refusal_of_peer a (run.CaughtUp version) is = tt
refusal_of_peer a run.NoSuchName is = tt
refusal_of_peer a (run.PeerBehind mine theirs) is = tt
refusal_of_peer a (run.HeadsDiffer version have theirs) is = tt
refusal_of_peer a (run.NoPatch version) is = tt
refusal_of_peer a (run.PeerRefused status body) is = tt
refusal_of_peer a run.LinkFault is = tt
refusal_of_peer a run.CutShort is = tt
refusal_of_peer a (run.NotUnderstood at) is = tt
refusal_of_peer a run.OutOfMemory is = tt
refusal_of_peer a (run.Refused refusal) is = is

compared_of_peer : (mine : ℕ) (have : Option Id) (theirs : ℕ) (head : Option Id) (end : RunEnd TextRefusal) → peer.Compares mine have theirs head end → IsOfPeer end
compared_of_peer mine have theirs head (run.CaughtUp version) is = tt
compared_of_peer mine have theirs head run.NoSuchName is = tt
compared_of_peer mine have theirs head (run.PeerBehind found behind) is = tt
compared_of_peer mine have theirs head (run.HeadsDiffer version last named) is = tt
compared_of_peer mine have theirs head (run.NoPatch version) is = tt
compared_of_peer mine have theirs head (run.PeerRefused status body) is = tt
compared_of_peer mine have theirs head run.LinkFault is = tt
compared_of_peer mine have theirs head run.CutShort is = tt
compared_of_peer mine have theirs head (run.NotUnderstood at) is = tt
compared_of_peer mine have theirs head run.OutOfMemory is = tt
compared_of_peer mine have theirs head (run.Refused refusal) is = is

fault_of_peer : (fault : AskFault) → IsOfPeer (peer.end_of_fault fault)
fault_of_peer ask.LinkFault = tt
fault_of_peer ask.CutShort = tt
fault_of_peer (ask.NotUnderstood at) = tt
fault_of_peer ask.OutOfMemory = tt

log_of_peer : (said : List WasSaid) (end : RunEnd TextRefusal) → peer.LogEnds said end → IsOfPeer end
log_of_peer said end (peer.answered a is (peer.no_source a_is ends)) = subst IsOfPeer (sym ends) tt
log_of_peer said end (peer.answered a is (peer.refused told by)) = refusal_of_peer a end by
log_of_peer said end (peer.faulty fault is ends) = subst IsOfPeer (sym ends) (fault_of_peer fault)
log_of_peer said end (peer.not_asked is ends) = subst IsOfPeer (sym ends) tt

fetch_of_peer : (version : ℕ) (a : Answer) (end : RunEnd TextRefusal) → peer.FetchRefuses version a end → IsOfPeer end
fetch_of_peer version a end (peer.no_source a_is ends) = subst IsOfPeer (sym ends) tt
fetch_of_peer version a end (peer.no_patch has a_is ends) = subst IsOfPeer (sym ends) tt
fetch_of_peer version a end (peer.refused told by) = refusal_of_peer a end by

-- ---- an end behind patches that were taken

module _ {D : Type 0} (before mid : List Term) (more : List CheckedPatch) (learnt : AreMet (changes_taken more) before mid) (zone : ZoneView D) where
  text_behind : (text : List ℕ) (refusal : TextRefusal) → RefusesText mid [] zone text refusal → RefusesText before more zone text refusal
  text_behind text (BadPatch version fault) is = is
  text_behind text (Diverged version have theirs) is = is
  text_behind text (Repeated version id) is = is
  text_behind text (Full what have limit) is = is
  text_behind text TermsFull is = (is.0, is.1, is.2, more_both most more (is.0 ∷ []) before mid learnt is.3)
  text_behind text DiskFault is = is
  text_behind text OutOfMemory is = is

-- one thing was said, or none
abbrev IsLast : List WasSaid → Type 0
IsLast last = (last ≡ []) ⊎ ((one : WasSaid) × (last ≡ one ∷ []))

calls_last : (name : List ℕ) (from : ℕ) (last : List WasSaid) → IsLast last → fetches_in name from [] last ≡ fetches name (from + 1) last
calls_last name from last (inl no_more) = subst (λ (it : List WasSaid). fetches_in name from [] it ≡ fetches name (from + 1) it) (sym no_more) refl
calls_last name from last (inr one) = subst (λ (it : List WasSaid). fetches_in name from [] it ≡ fetches name (from + 1) it) (sym one.1) refl

module _ (on : Footing) where
  -- ---- what was taken

  record Came (old now : ZoneView (DisksOf on)) (steps : List TakenText) (more : List CheckedPatch) : Type 0 where
    brief : now.brief ≡ with_patches old.brief more
    checked : AreChecked more
    took : TookMore on old now more
    clear : IsClear old now more
    amid : LeavesAmid on old now more
    learnt : AreMet (changes_taken more) old.terms now.terms
    texts : step_texts steps ≡ checked_texts more
    asked : (name : List ℕ) (last : List WasSaid) → IsLast last → fetches_in name (length old.brief.ids) steps last ≡ fetches name (length old.brief.ids + 1) (texts_said (checked_texts more) ++ last)
    limits : now.limits ≡ old.limits
    went : ZoneWent on ⊥ old.disk now.disk

  came_none : (zone : ZoneView (DisksOf on)) → Came zone zone [] []
  came_none zone = record {
    brief = refl;
    checked = tt;
    took = took_none on zone;
    clear = inl (refl, refl);
    amid = amid_none on zone;
    learnt = met_none zone.terms;
    texts = refl;
    asked = λ name last is. calls_last name (length zone.brief.ids) last is;
    limits = refl;
    went = went_none on ⊥ zone.disk (λ no. no);
  }

  settled_still : (mid new : ZoneView (DisksOf on)) (more : List CheckedPatch) → mid.doubt ≡ None → IsClear mid new more → new.doubt ≡ None
  settled_still mid new more settled (inl same) = ap (λ (zone : ZoneView (DisksOf on)). zone.doubt) same.1 ∙ settled
  settled_still mid new more settled (inr is) = is

  -- one patch before the others
  came_more : (old mid new : ZoneView (DisksOf on)) (step : TakenText) (steps : List TakenText) (next : CheckedPatch) (more : List CheckedPatch) → step.version ≡ length old.brief.ids + 1 → step.reached ≡ length mid.brief.ids → IsText step.text next
      → length mid.brief.ids ≡ length old.brief.ids + 1 → mid.limits ≡ old.limits → ZoneWent on ⊥ old.disk mid.disk → Took on old mid next → Came mid new steps more → Came old new (step ∷ steps) (next ∷ more)
  came_more old mid new step steps next more version reached text grown limits went took rest = record {
    brief = rest.brief ∙ ap (λ (b : Brief). with_patches b more) took.brief;
    checked = (subst (λ (t : List ℕ). IsPatch t next.meaning) (sym text.0) text.1, rest.checked);
    took = took_both on old mid new (next ∷ []) more took.took rest.took;
    clear = inr (settled_still mid new more took.settled rest.clear);
    amid = amid_both on old mid new (next ∷ []) more took.brief took.took (inr took.settled) took.amid rest.amid;
    learnt = met_both (next ∷ []) more old.terms mid.terms new.terms took.met rest.learnt;
    texts = (λ i. sym text.0 i ∷ rest.texts i);
    asked = λ name last is.
        (λ i. calls.FetchVersion name (version i) ∷ fetches_in name (reached i) steps last)
        ∙ ap (λ (cs : List Call). calls.FetchVersion name (length old.brief.ids + 1) ∷ cs) (rest.asked name last is ∙ ap (λ (n : ℕ). fetches name (n + 1) (texts_said (checked_texts more) ++ last)) grown);
    limits = rest.limits ∙ limits;
    went = went_both on ⊥ old.disk mid.disk new.disk went rest.went;
  }

  grown_by : (old mid : ZoneView (DisksOf on)) (next : CheckedPatch) → Took on old mid next → length mid.brief.ids ≡ length old.brief.ids + 1
  grown_by old mid next took = ap (λ (b : Brief). length b.ids) took.brief ∙ length_push old.brief.ids next.meaning.id

  came_all : (theirs from : ℕ) (old : ZoneView (DisksOf on)) (steps : List TakenText) (reached : ℕ) (new : ZoneView (DisksOf on)) → from ≡ length old.brief.ids → from ≤ theirs → TakesAll (TakesOwn on) theirs from old steps reached new
      → (more : List CheckedPatch) × Came old new steps more × (reached ≡ length new.brief.ids) × (reached ≤ theirs)
  came_all theirs from old [] reached new is before all = (
    [],
    subst (λ (zone : ZoneView (DisksOf on)). Came old zone [] []) (sym all.1) (came_none old),
    all.0 ∙ (is ∙ ap (λ (zone : ZoneView (DisksOf on)). length zone.brief.ids) (sym all.1)),
    subst (λ (n : ℕ). n ≤ theirs) (sym all.0) before,
  )
  came_all theirs from old (step ∷ steps) reached new is before all =
      let mid : ZoneView (DisksOf on) = all.0 in
      let took = all.3.3 in
      let grown : length mid.brief.ids ≡ length old.brief.ids + 1 = grown_by old mid took.0 took.2 in
      let version : step.version ≡ length old.brief.ids + 1 = all.2 ∙ ap (λ (n : ℕ). n + 1) is in
      let up_to : step.reached ≡ length mid.brief.ids = all.3.0 ∙ (version ∙ sym grown) in
      let less : from < theirs = all.1 in
      let within : step.reached ≤ theirs = omega (arith, less, is, up_to, grown) in
      let rest = came_all theirs step.reached mid steps reached new up_to within all.4 in
      (took.0 ∷ rest.0, came_more old mid new step steps took.0 rest.0 version up_to took.1 grown all.3.1 all.3.2 took.2 rest.1, rest.2, rest.3)

  -- ---- the fetch behind them

  left_over : (old now new : ZoneView (DisksOf on)) (more tried : List CheckedPatch) → IsClear old now more → LeftInDoubt now.doubt new.doubt [] tried → LeftInDoubt old.doubt new.doubt more tried
  left_over old now new more tried clear (none is) = none is
  left_over old now new more tried (inl same) (as_before no_more is) = as_before same.0 (is ∙ ap (λ (zone : ZoneView (DisksOf on)). zone.doubt) same.1)
  left_over old now new more tried (inr settled) (as_before no_more is) = none (is ∙ settled)
  left_over old now new more tried clear (tried_last one is listed) = tried_last one is listed

  module _ (old now new : ZoneView (DisksOf on)) (steps : List TakenText) (more : List CheckedPatch) (so : Came old now steps more) where
    grew_same : (said : List WasSaid) → new ≡ now → GrewBy on old new more said
    grew_same said same = subst (λ (zone : ZoneView (DisksOf on)). GrewBy on old zone more said) (sym same) (record {
      brief = so.brief;
      checked = so.checked;
      took = so.took;
      tried = [];
      was_tried = untried refl;
      amid = subst (λ (ps : List CheckedPatch). LeavesAmid on old now ps) (sym (append-nil more)) so.amid;
      met = subst (λ (ps : List CheckedPatch). AreMet (changes_taken ps) old.terms now.terms) (sym (append-nil more)) so.learnt;
      left_is = left_over old now now more [] so.clear (as_before refl refl);
    })

    module _ (theirs : ℕ) (head : Option Id) (said last : List WasSaid) (is_said : said ≡ came theirs head more last) (less : length new.brief.ids < theirs) where
      tried_then : (text : List ℕ) (tried : List CheckedPatch) → last ≡ Ok (answer.Patch text) ∷ [] → (tried ≡ []) ⊎ ((next : CheckedPatch) × (tried ≡ next ∷ []) × IsText text next × IsNextForZone new next) → WasTried new more said tried
      tried_then text tried is (inl no_more) = untried no_more
      tried_then text tried is (inr it) =
          let next : CheckedPatch = it.0 in
          let fetched : said ≡ came theirs head more (Ok (answer.Patch next.text) ∷ []) = is_said ∙ ap (λ (l : List WasSaid). came theirs head more l) is ∙ ap (λ (t : List ℕ). came theirs head more (Ok (answer.Patch t) ∷ [])) (sym it.2.0) in
          was_next next it.1 ((theirs, head, fetched, less), subst (λ (t : List ℕ). IsPatch t next.meaning) (sym it.2.0) it.2.1) it.3

      grew_still : (text : List ℕ) → last ≡ Ok (answer.Patch text) ∷ [] → Stayed on now new text → GrewBy on old new more said
      grew_still text is stays = record {
        brief = stays.brief ∙ so.brief;
        checked = so.checked;
        took = took_still on old now new more so.took stays.took;
        tried = stays.tried;
        was_tried = tried_then text stays.tried is stays.was_tried;
        amid = amid_both on old now new more stays.tried so.brief so.took so.clear so.amid stays.amid;
        met = met_both more stays.tried old.terms now.terms new.terms so.learnt stays.met;
        left_is = left_over old now new more stays.tried so.clear stays.left_is;
      }

  -- what the fetch behind the patches taken comes to
  record Closes (old now new : ZoneView (DisksOf on)) (more : List CheckedPatch) (last : List WasSaid) (end : RunEnd TextRefusal) : Type 0 where
    grew : (theirs : ℕ) (head : Option Id) (said : List WasSaid) → said ≡ came theirs head more last → length new.brief.ids < theirs → GrewBy on old new more said
    ends : NextEnds old.terms more new last end
    same : length new.brief.ids ≡ length now.brief.ids
    is_last : IsLast last
    limits : new.limits ≡ now.limits
    went : ZoneWent on (sync_end end ≡ sync.DiskFault) now.disk new.disk
    settled : now.doubt ≡ None → sync_end end ≢ sync.DiskFault → new.doubt ≡ None

  closes_same : (old now new : ZoneView (DisksOf on)) (steps : List TakenText) (more : List CheckedPatch) (last : List WasSaid) (end : RunEnd TextRefusal) → Came old now steps more → new ≡ now → IsOfPeer end → IsLast last → NextEnds old.terms more new last end
      → Closes old now new more last end
  closes_same old now new steps more last end so same of_peer is_last ends = record {
    grew = λ theirs head said is less. grew_same old now new steps more so said same;
    ends = ends;
    same = ap (λ (zone : ZoneView (DisksOf on)). length zone.brief.ids) same;
    is_last = is_last;
    limits = ap (λ (zone : ZoneView (DisksOf on)). zone.limits) same;
    went = subst (λ (zone : ZoneView (DisksOf on)). ZoneWent on (sync_end end ≡ sync.DiskFault) now.disk zone.disk) (sym same) (went_none on (sync_end end ≡ sync.DiskFault) now.disk (no_disk end of_peer));
    settled = λ was well. ap (λ (zone : ZoneView (DisksOf on)). zone.doubt) same ∙ was;
  }

  closes : (old now new : ZoneView (DisksOf on)) (steps : List TakenText) (more : List CheckedPatch) (last : List WasSaid) (end : RunEnd TextRefusal) → Came old now steps more
      → runs.FetchEnds (TakesOwn on) (length now.brief.ids + 1) now last end new → Closes old now new more last end
  closes old now new steps more last end so (runs.refused text refusal is took ends) =
      let failed : (sync_end end ≡ sync.DiskFault) → refusal ≡ DiskFault = λ same. disk_is refusal (ap sync_end (sym ends) ∙ same) in
      let failed_so : refusal ≡ DiskFault → sync_end end ≡ sync.DiskFault = λ same. ap sync_end ends ∙ ap end_of_refusal same in
      record {
        grew = λ theirs head said is_said less. grew_still old now new steps more so theirs head said last is_said less text is took.1;
        ends = here.refused text refusal is (text_behind old.terms now.terms more so.learnt new text refusal took.0) ends;
        same = ap (λ (b : Brief). length b.ids) took.1.brief;
        is_last = inr (Ok (answer.Patch text), is);
        limits = took.2;
        went = went_as on (refusal ≡ DiskFault) (sync_end end ≡ sync.DiskFault) now.disk new.disk failed failed_so took.3;
        settled = λ was well. ap (λ (zone : ZoneView (DisksOf on)). zone.doubt) (took.4 (λ same. well (failed_so same))) ∙ was;
      }
  closes old now new steps more last end so (runs.answered a is refuses same) =
      let refuses_now = subst (λ (zone : ZoneView (DisksOf on)). peer.FetchRefuses (length zone.brief.ids + 1) a end) (sym same) refuses in
      closes_same old now new steps more last end so same (fetch_of_peer (length now.brief.ids + 1) a end refuses) (inr (Ok a, is)) (here.answered a is refuses_now)
  closes old now new steps more last end so (runs.faulty fault is ends same) =
      closes_same old now new steps more last end so same (subst IsOfPeer (sym ends) (fault_of_peer fault)) (inr (Err fault, is)) (here.faulty fault is ends)
  closes old now new steps more last end so (runs.not_asked is ends same) =
      closes_same old now new steps more last end so same (subst IsOfPeer (sym ends) tt) (inl is) (here.not_asked is ends)

  -- ---- a whole run

  said_alone : (it : Run) → it.steps ≡ [] → it.last ≡ [] → said_in it ≡ it.log
  said_alone it steps last = (λ i. it.log ++ (texts_said (step_texts (steps i)) ++ last i)) ∙ append-nil it.log

  log_called : (name : List ℕ) (n : ℕ) (said : List WasSaid) → IsLast said → map (λ (one : WasSaid). calls.Log name) said ≡ calls_of name n said
  log_called name n said (inl no_more) = subst (λ (it : List WasSaid). map (λ (one : WasSaid). calls.Log name) it ≡ calls_of name n it) (sym no_more) refl
  log_called name n said (inr one) = subst (λ (it : List WasSaid). map (λ (one : WasSaid). calls.Log name) it ≡ calls_of name n it) (sym one.1) refl

  calls_alone : (name : List ℕ) (n : ℕ) (it : Run) → it.steps ≡ [] → it.last ≡ [] → IsLast it.log → calls_in name it ≡ calls_of name n (said_in it)
  calls_alone name n it steps last is =
      (λ i. map (λ (one : WasSaid). calls.Log name) it.log ++ fetches_in name it.mine (steps i) (last i)) ∙ append-nil (map (λ (one : WasSaid). calls.Log name) it.log)
      ∙ log_called name n it.log is ∙ ap (λ (said : List WasSaid). calls_of name n said) (sym (said_alone it steps last))

  asked_once : (said : List WasSaid) (end : RunEnd TextRefusal) → peer.LogEnds said end → IsLast said
  asked_once said end (peer.answered a is ends) = inr (Ok a, is)
  asked_once said end (peer.faulty fault is ends) = inr (Err fault, is)
  asked_once said end (peer.not_asked is ends) = inl is

  -- the zone was asked and told nothing
  sync_same : (old new : ZoneView (DisksOf on)) (it : Run) (end : RunEnd TextRefusal) → new ≡ old → it.steps ≡ [] → it.last ≡ [] → IsLast it.log → IsOfPeer end → RunEnds old new (said_in it) [] end → IsSync on old it end new
  sync_same old new it end same steps last once of_peer ends = record {
    more = [];
    grew = grew_same old old new [] [] (came_none old) (said_in it) same;
    ended = (end, refl, ends);
    calls = λ name. calls_alone name (length old.brief.ids) it steps last once;
    limits = ap (λ (zone : ZoneView (DisksOf on)). zone.limits) same;
    went = subst (λ (zone : ZoneView (DisksOf on)). ZoneWent on (sync_end end ≡ sync.DiskFault) old.disk zone.disk) (sym same) (went_none on (sync_end end ≡ sync.DiskFault) old.disk (no_disk end of_peer));
    settled = λ was well. ap (λ (zone : ZoneView (DisksOf on)). zone.doubt) same ∙ was;
    link = link_is end;
  }

  module _ (old new : ZoneView (DisksOf on)) (it : Run) (end : RunEnd TextRefusal) (theirs : ℕ) (head : Option Id) (log : it.log ≡ Ok (answer.Info theirs head) ∷ []) (mine_is : it.mine ≡ length old.brief.ids)
      (goes : peer.GoesBefore (length old.brief.ids) (last_of old.brief.ids) theirs head) where
    said_then : (more : List CheckedPatch) → step_texts it.steps ≡ checked_texts more → said_in it ≡ came theirs head more it.last
    said_then more texts = (λ i. log i ++ (texts_said (texts i) ++ it.last))

    calls_then : (name : List ℕ) (more : List CheckedPatch) → step_texts it.steps ≡ checked_texts more → fetches_in name (length old.brief.ids) it.steps it.last ≡ fetches name (length old.brief.ids + 1) (texts_said (checked_texts more) ++ it.last)
        → calls_in name it ≡ calls_of name (length old.brief.ids) (said_in it)
    calls_then name more texts asked =
        (λ i. map (λ (one : WasSaid). calls.Log name) (log i) ++ fetches_in name (mine_is i) it.steps it.last) ∙ ap (λ (cs : List Call). calls.Log name ∷ cs) asked
        ∙ ap (λ (said : List WasSaid). calls_of name (length old.brief.ids) said) (sym (said_then more texts))

  follows : (old new : ZoneView (DisksOf on)) (it : Run) (end : RunEnd TextRefusal) (theirs : ℕ) (head : Option Id) → it.log ≡ Ok (answer.Info theirs head) ∷ [] → it.mine ≡ length old.brief.ids → peer.GoesBefore (length old.brief.ids) (last_of old.brief.ids) theirs head
      → runs.RestIs (TakesOwn on) theirs (length old.brief.ids) old it.steps it.last end new → IsSync on old it end new
  follows old new it end theirs head log mine_is goes (runs.stopped reached now all less ends) =
      let all_came = came_all theirs (length old.brief.ids) old it.steps reached now refl goes.0 all in
      let more : List CheckedPatch = all_came.0 in
      let so = all_came.1 in
      let closed = closes old now new it.steps more it.last end so (subst (λ (n : ℕ). runs.FetchEnds (TakesOwn on) (n + 1) now it.last end new) all_came.2 ends) in
      let said = said_then old new it end theirs head log mine_is goes more so.texts in
      let same : length new.brief.ids ≡ length now.brief.ids = closed.same in
      let behind : length new.brief.ids < theirs = omega (arith, same, all_came.2, less) in
      record {
        more = more;
        grew = closed.grew theirs head (said_in it) said behind;
        ended = (end, refl, here.stopped theirs head it.last said goes behind closed.ends);
        calls = λ name. calls_then old new it end theirs head log mine_is goes name more so.texts (so.asked name it.last closed.is_last);
        limits = closed.limits ∙ so.limits;
        went = went_both on (sync_end end ≡ sync.DiskFault) old.disk now.disk new.disk so.went closed.went;
        settled = λ was well. closed.settled (settled_still old now more was so.clear) well;
        link = link_is end;
      }
  follows old new it end theirs head log mine_is goes (runs.caught_up reached all done no_more ends) =
      let all_came = came_all theirs (length old.brief.ids) old it.steps reached new refl goes.0 all in
      let more : List CheckedPatch = all_came.0 in
      let so = all_came.1 in
      let said = said_then old new it end theirs head log mine_is goes more so.texts in
      let at : theirs ≡ length new.brief.ids = omega (arith, all_came.2, all_came.3, done) in
      let well_ended = subst IsOfPeer (sym ends) tt in
      record {
        more = more;
        grew = grew_same old new new it.steps more so (said_in it) refl;
        ended = (end, refl, here.caught_up theirs head (said ∙ ap (λ (l : List WasSaid). came theirs head more l) no_more) goes at ends);
        calls = λ name. calls_then old new it end theirs head log mine_is goes name more so.texts (so.asked name it.last (inl no_more));
        limits = so.limits;
        went = went_both on (sync_end end ≡ sync.DiskFault) old.disk new.disk new.disk so.went (went_none on (sync_end end ≡ sync.DiskFault) new.disk (no_disk end well_ended));
        settled = λ was well. settled_still old new more was so.clear;
        link = link_is end;
      }

  pub is_sync : (old new : ZoneView (DisksOf on)) (it : Run) (end : RunEnd TextRefusal) → IsRunTo (TakesOwn on) ShowsOwn old it end new → IsSync on old it end new
  is_sync old new it end (runs.unanswered shown steps last ends) =
      sync_same old new it end shown.0 steps last (asked_once it.log end ends) (log_of_peer it.log end ends)
      (here.unanswered refl shown.0 (subst (λ (said : List WasSaid). peer.LogEnds said end) (sym (said_alone it steps last)) ends))
  is_sync old new it end (runs.compared theirs head shown log steps last ends) =
      let compares = subst (λ (z : ℕ × Option Id). peer.Compares z.0 z.1 theirs head end) (λ i. (shown.1 i, shown.2 i)) ends in
      sync_same old new it end shown.0 steps last (inr (Ok (answer.Info theirs head), log)) (compared_of_peer it.mine it.have theirs head end ends)
      (here.compared theirs head (said_alone it steps last ∙ log) refl shown.0 compares)
  is_sync old new it end (runs.followed theirs head now shown log before rest) =
      let goes = subst (λ (z : ℕ × Option Id). peer.GoesBefore z.0 z.1 theirs head) (λ i. (shown.1 i, shown.2 i)) before in
      let rest_own = subst (λ (zone : ZoneView (DisksOf on)). runs.RestIs (TakesOwn on) theirs it.mine zone it.steps it.last end new) shown.0 rest in
      follows old new it end theirs head log shown.1 goes (subst (λ (n : ℕ). runs.RestIs (TakesOwn on) theirs n old it.steps it.last end new) shown.1 rest_own)

-- ---- states of which a zone is told

module _ {S : Type 0} (on : Footing) (zone : S → ZoneView (DisksOf on)) where
  -- such states take texts as their zones do
  abbrev Takes : S → ℕ → List ℕ → Result ℕ TextRefusal → S → Type 0
  Takes old version text result new = TakesOwn on (zone old) version text result (zone new)

  abbrev Shows : S → ℕ → Option Id → S → Type 0
  Shows old version head new = ShowsOwn (zone old) version head (zone new)

  takes_all : (theirs from : ℕ) (before : S) (steps : List TakenText) (reached : ℕ) (after : S) → TakesAll Takes theirs from before steps reached after → TakesAll (TakesOwn on) theirs from (zone before) steps reached (zone after)
  takes_all theirs from before [] reached after all = (all.0, ap zone all.1)
  takes_all theirs from before (step ∷ steps) reached after all = (zone all.0, all.1, all.2, all.3, takes_all theirs step.reached all.0 steps reached after all.4)

  fetch_ends : (version : ℕ) (before : S) (said : List WasSaid) (end : RunEnd TextRefusal) (after : S) → runs.FetchEnds Takes version before said end after → runs.FetchEnds (TakesOwn on) version (zone before) said end (zone after)
  fetch_ends version before said end after (runs.refused text refusal is took ends) = runs.refused text refusal is took ends
  fetch_ends version before said end after (runs.answered a is refuses same) = runs.answered a is refuses (ap zone same)
  fetch_ends version before said end after (runs.faulty fault is ends same) = runs.faulty fault is ends (ap zone same)
  fetch_ends version before said end after (runs.not_asked is ends same) = runs.not_asked is ends (ap zone same)

  rest_is : (theirs from : ℕ) (before : S) (steps : List TakenText) (last : List WasSaid) (end : RunEnd TextRefusal) (after : S) → runs.RestIs Takes theirs from before steps last end after → runs.RestIs (TakesOwn on) theirs from (zone before) steps last end (zone after)
  rest_is theirs from before steps last end after (runs.stopped reached between all less ends) =
      runs.stopped reached (zone between) (takes_all theirs from before steps reached between all) less (fetch_ends (reached + 1) between last end after ends)
  rest_is theirs from before steps last end after (runs.caught_up reached all done no_more ends) = runs.caught_up reached (takes_all theirs from before steps reached after all) done no_more ends

  pub run_of_zone : (old new : S) (it : Run) (end : RunEnd TextRefusal) → IsRunTo Takes Shows old it end new → IsRunTo (TakesOwn on) ShowsOwn (zone old) it end (zone new)
  run_of_zone old new it end (runs.unanswered shown steps last ends) = runs.unanswered shown steps last ends
  run_of_zone old new it end (runs.compared theirs head shown log steps last ends) = runs.compared theirs head shown log steps last ends
  run_of_zone old new it end (runs.followed theirs head between shown log goes rest) = runs.followed theirs head (zone between) shown log goes (rest_is theirs it.mine between it.steps it.last end new rest)
