-- How catching up ends where each answer is that of a log.
use Rattle.std.proofs.Common.{◌≡◌, ℕ, ◌+◌, ◌≤◌, Bool, true, false, cond, ltb, List, [], ◌∷◌, ◌++◌, length, map, Option, None, Ok, Err, refl, sym, ◌∙◌, ap, subst, arith}
use Rattle.std.proofs.lemmas.List.{length-map, map-append, take_at}
use mathlib.Core.List.{IsPrefix}
use Rattle.delta_base.specs.declared.id.Id.{Id}
use Rattle.log_base.specs.declared.limits.FullKind.TheVariants.{Patches, Bytes}
use Rattle.log_base.specs.declared.limits.TheConstants.{PAYLOAD_FRAME}
use Rattle.chain_core.specs.declared.chain.Patch.{Patch}
use Rattle.chain_core.specs.Decision.{same_id}
use Rattle.chain_core.specs.Ids.{last_of, version_among}
use Rattle.chain_core.specs.Links.{IsChain}
use Rattle.chain_core.specs.Patches.{links_of}
use Rattle.chain_core.proofs.Decided.{same_id-refl}
use Rattle.chain_core.proofs.Fronts.{links-front, links-take}
use Rattle.patch_log.specs.Log.{bare}
use Rattle.patch_meaning.specs.Checked.{CheckedPatch}
use Rattle.patch_meaning.specs.Patch.{IsPatch}
use Rattle.patch_meaning.proofs.Settled.{never_both}
use Rattle.delta_client.specs.declared.fault.AskFault.{AskFault}
use Rattle.delta_client.specs.declared.fault.AskFault.TheVariants as ask
use Rattle.delta_client.specs.Exchanges.{WasSaid}
use Rattle.rpc_answers.specs.declared.answer.Answer.TheVariants as answer
use Rattle.rpc_answers.specs.Answers.{status_of}
use Rattle.rpc_calls.specs.declared.call.Call.TheVariants as calls
use Rattle.zone_state.specs.declared.answer.TakeAnswer.TheVariants as take
use Rattle.zone_state.specs.Brief.{Brief, id_taken, file_length}
use Rattle.zone_state.specs.Stay.{decided}
use Rattle.zone_state.specs.Zone.{ZoneView}
use Rattle.zone_state.proofs.Decisions.{taking-new}
use Rattle.zone_state.proofs.Growing.{bare_last, bare_versions, bare-push}
use Rattle.catch_up.specs.declared.end.RunEnd.{RunEnd}
use Rattle.catch_up.specs.declared.end.RunEnd.TheVariants as run
use Rattle.catch_up.specs.Ends as peer
use Rattle.follower.specs.declared.ends.SyncEnd.{SyncEnd}
use Rattle.follower.specs.declared.ends.TextRefusal.{TextRefusal}
use Rattle.follower.specs.declared.ends.TextRefusal.TheVariants.{BadPatch, Diverged, Repeated, Full, TermsFull, DiskFault, OutOfMemory}
use Rattle.follower.specs.Calls.{calls_of, came, fetches}
use Rattle.follower.specs.Chains.{AreAnswersOf, Completes, HasTextAt, IsNoShorter, IsSaidOf, IsWellAnswered, MayEndWell}
use Rattle.follower.specs.Grown.{IsText}
use Rattle.follower.specs.Syncing.{EndIs, RefusesText, NextEnds, refused, answered, faulty, not_asked, RunEnds, unanswered, compared, stopped, caught_up, end_of_refusal, sync_end}
use Rattle.follower.proofs.Causes.{has_cause}
use Rattle.follower.proofs.Fronts.{all_came, checked_before, one_more, same_front, text_of_chain}

-- ---- chains

-- a front of a chain is one
front_chain : (front chain : List CheckedPatch) → IsPrefix front chain → IsChain (links_of (map bare chain)) → IsChain (links_of (map bare front))
front_chain front chain begins is =
    let parts : map bare chain ≡ map bare front ++ map bare begins.0 = ap (map bare) (sym begins.1) ∙ map-append bare front begins.0 in
    subst (λ (ps : List Patch). IsChain (links_of ps)) (take_at (map bare front) (map bare begins.0) (length (map bare front)) refl)
    (links-take (map bare front ++ map bare begins.0) (length (map bare front)) (subst (λ (ps : List Patch). IsChain (links_of ps)) parts is))

-- the next patch of a chain names the last one, and its id is new
record GoesNext (taken : List CheckedPatch) (next : CheckedPatch) : Type 0 where
  follows : next.meaning.prev ≡ last_of (map id_taken taken)
  new : version_among (map id_taken taken) next.meaning.id ≡ None

goes_next : (taken : List CheckedPatch) (next : CheckedPatch) (chain : List CheckedPatch) → IsPrefix (taken ++ next ∷ []) chain → IsChain (links_of (map bare chain)) → GoesNext taken next
goes_next taken next chain begins is =
    let last = links-front (map bare taken) (bare next) (subst (λ (ps : List Patch). IsChain (links_of ps)) (bare-push taken next) (front_chain (taken ++ next ∷ []) chain begins is)) in
    record { follows = last.follows ∙ bare_last taken; new = sym (bare_versions taken next.meaning.id) ∙ last.new }

module _ {D : Type 0} (zone : ZoneView D) (next : CheckedPatch) where
  not_by_limits : (full long : Bool) (version : ℕ)
      → cond full (take.Full Patches (length zone.brief.ids) zone.limits.patches) (cond long (take.Full Bytes (file_length zone.brief.ids zone.brief.bytes + (PAYLOAD_FRAME + length next.text)) zone.limits.bytes) (take.Applied (length zone.brief.ids + 1))) ≡ take.Repeated version → ⊥
  not_by_limits true long version is = cc
  not_by_limits false true version is = cc
  not_by_limits false false version is = cc

  -- such a patch isn't a repeated one
  not_repeated : (version : ℕ) → next.meaning.prev ≡ last_of zone.brief.ids → version_among zone.brief.ids next.meaning.id ≡ None → decided zone next ≡ take.Repeated version → ⊥
  not_repeated version follows new is =
      let same : same_id next.meaning.prev (last_of zone.brief.ids) ≡ true = ap (λ (id : Option Id). same_id id (last_of zone.brief.ids)) follows ∙ same_id-refl (last_of zone.brief.ids) in
      not_by_limits (ltb zone.limits.patches (length zone.brief.ids + 1)) (ltb zone.limits.bytes (file_length zone.brief.ids zone.brief.bytes + (PAYLOAD_FRAME + length next.text))) version
      (sym (taking-new zone.brief.ids zone.brief.bytes (bare next) zone.limits same new) ∙ is)

-- ---- what a log says

said_text : (chain : List CheckedPatch) (name : List ℕ) (version : ℕ) (text : List ℕ) → IsSaidOf chain (calls.FetchVersion name version) (Ok (answer.Patch text)) → HasTextAt chain version text
said_text chain name version text is =
    let same : is.0 ≡ text = text_in (sym is.1) in
    subst (λ (t : List ℕ). HasTextAt chain version t) same is.2
  where
    text_in : {a b : List ℕ} → answer.Patch a ≡ answer.Patch b → a ≡ b
    text_in same = cc

-- ---- ends

module _ {D : Type 0} (old new : ZoneView D) (chain taken more : List CheckedPatch) (name : List ℕ) (said : List WasSaid) (w : IsWellAnswered chain old new taken more name said) where
  -- a run that ends so may end well
  abbrev Well : RunEnd TextRefusal → Type 0
  Well end = MayEndWell (sync_end end)

  alone : (one : WasSaid) → said ≡ one ∷ [] → IsSaidOf chain (calls.Log name) one
  alone one is = (subst (λ (it : List WasSaid). AreAnswersOf chain (calls_of name (length taken) it) it) is w.answers).0

  by_fault : (P : AskFault → Type 0) (why : AskFault) → ((at : ℕ) → P (ask.NotUnderstood at) → ⊥) → (P ask.CutShort → ⊥) → P why → Well (peer.end_of_fault why)
  by_fault P ask.LinkFault never short is = tt
  by_fault P ask.CutShort never short is = absurd (short is)
  by_fault P (ask.NotUnderstood at) never short is = absurd (never at is)
  by_fault P ask.OutOfMemory never short is = tt

  of_log : (end : RunEnd TextRefusal) → peer.LogEnds said end → Well end
  of_log end (peer.answered a is (peer.no_source a_is ends)) =
      let info = alone (Ok a) is in
      let same : answer.NoSource ≡ answer.Info (length info.0) (last_of (map id_taken info.0)) = sym a_is ∙ info.2 in
      absurd (cc)
  of_log end (peer.answered a is (peer.refused told by)) = absurd (told.refuses (ap status_of (alone (Ok a) is).2))
  of_log end (peer.faulty why is ends) =
      subst Well (sym ends) (by_fault (λ (fault : AskFault). IsSaidOf chain (calls.Log name) (Err fault)) why (λ at so. so) (λ so. so) (alone (Err why) is))
  of_log end (peer.not_asked is ends) = subst Well (sym ends) tt

  had : length old.brief.ids ≡ length taken
  had = ap (λ (b : Brief). length b.ids) w.was ∙ length-map taken id_taken

  module _ (theirs : ℕ) (head : Option Id) (is : said ≡ came theirs head [] []) where
    info : (front : List CheckedPatch) × IsPrefix front chain × (answer.Info theirs head ≡ answer.Info (length front) (last_of (map id_taken front)))
    info = alone (Ok (answer.Info theirs head)) is

    told_version : {a b : ℕ} {x y : Option Id} → answer.Info a x ≡ answer.Info b y → a ≡ b
    told_version same = cc

    told_head : {a b : ℕ} {x y : Option Id} → answer.Info a x ≡ answer.Info b y → x ≡ y
    told_head same = cc

    no_shorter : length taken ≤ theirs
    no_shorter = subst (λ (it : List WasSaid). IsNoShorter (length taken) it) is w.no_shorter

    -- at the zone's version the log has the zone's head
    same_head : theirs ≡ length old.brief.ids → head ≡ last_of old.brief.ids
    same_head at =
        let long : length info.0 ≡ length taken = sym (told_version info.2) ∙ (at ∙ had) in
        let same = same_front info.0 taken info.1.0 w.begins.0 (info.1.1 ∙ sym w.begins.1) long in
        told_head info.2 ∙ (ap (λ (ps : List CheckedPatch). last_of (map id_taken ps)) same.0 ∙ ap (λ (b : Brief). last_of b.ids) (sym w.was))

    of_heads : (end : RunEnd TextRefusal) → peer.Compares (length old.brief.ids) (last_of old.brief.ids) theirs head end → Well end
    of_heads (run.CaughtUp version) by = absurd by
    of_heads run.NoSuchName by = absurd by
    of_heads (run.PeerBehind mine found) by = absurd (omega (arith, by.2, had, no_shorter))
    of_heads (run.HeadsDiffer version have named) by = absurd (by.4 (same_head by.1))
    of_heads (run.NoPatch version) by = absurd by
    of_heads (run.PeerRefused status body) by = absurd by
    of_heads run.LinkFault by = absurd by
    of_heads run.CutShort by = absurd by
    of_heads (run.NotUnderstood at) by = absurd by
    of_heads run.OutOfMemory by = absurd by
    of_heads (run.Refused refusal) by = absurd by

  module _ (theirs : ℕ) (head : Option Id) (last : List WasSaid) (is : said ≡ came theirs head more last) where
    behind : IsPrefix (taken ++ more) chain × AreAnswersOf chain (fetches name (length (taken ++ more) + 1) last) last
    behind = all_came chain w.checked (IsSaidOf chain) (said_text chain) name taken more theirs head said last is (checked_before taken more w.are_checked) w.begins w.answers

    fetched : (one : WasSaid) → last ≡ one ∷ [] → IsSaidOf chain (calls.FetchVersion name (length (taken ++ more) + 1)) one
    fetched one same = (subst (λ (it : List WasSaid). AreAnswersOf chain (fetches name (length (taken ++ more) + 1) it) it) same behind.1).0

    module _ (text : List ℕ) (has : HasTextAt chain (length (taken ++ more) + 1) text) where
      next_of : (next : CheckedPatch) → IsText text next → GoesNext (taken ++ more) next
      next_of next text_is =
          let own = subst (λ (t : List ℕ). HasTextAt chain (length (taken ++ more) + 1) t) (sym text_is.0) has in
          goes_next (taken ++ more) next chain (one_more chain w.checked (taken ++ more) next (subst (λ (t : List ℕ). IsPatch t next.meaning) (sym text_is.0) text_is.1) behind.0 own) w.is_chain

      follows_now : (next : CheckedPatch) → IsText text next → next.meaning.prev ≡ last_of new.brief.ids
      follows_now next text_is = (next_of next text_is).follows ∙ ap (λ (b : Brief). last_of b.ids) (sym w.is)

      of_text : (refusal : TextRefusal) → RefusesText old.terms more new text refusal → MayEndWell (end_of_refusal refusal)
      of_text (BadPatch version fault) by = absurd (never_both text has.patch.meaning fault (text_of_chain chain w.checked (length (taken ++ more) + 1) text has) by.1)
      of_text (Diverged version have named) by = absurd (by.5 (by.4 ∙ (follows_now by.0 by.1 ∙ sym by.3)))
      of_text (Repeated version id) by =
          absurd (not_repeated new by.0 version (follows_now by.0 by.1) (ap (λ (b : Brief). version_among b.ids by.0.meaning.id) w.is ∙ (next_of by.0 by.1).new) by.3)
      of_text (Full what have limit) by = tt
      of_text TermsFull by = tt
      of_text DiskFault by = tt
      of_text OutOfMemory by = tt

    of_fetch : (end : RunEnd TextRefusal) → NextEnds old.terms more new last end → Well end
    of_fetch end (refused text refusal same why ends) =
        subst Well (sym ends) (of_text text (said_text chain name (length (taken ++ more) + 1) text (fetched (Ok (answer.Patch text)) same)) refusal why)
    of_fetch end (answered a same (peer.no_source a_is ends)) =
        let text = fetched (Ok a) same in
        let no : answer.NoSource ≡ answer.Patch text.0 = sym a_is ∙ text.1 in
        absurd (cc)
    of_fetch end (answered a same (peer.no_patch has a_is ends)) =
        let text = fetched (Ok a) same in
        let no : answer.NoPatch has ≡ answer.Patch text.0 = sym a_is ∙ text.1 in
        absurd (cc)
    of_fetch end (answered a same (peer.refused told by)) = absurd (told.refuses (ap status_of (fetched (Ok a) same).1))
    of_fetch end (faulty why same ends) =
        subst Well (sym ends) (by_fault (λ (fault : AskFault). IsSaidOf chain (calls.FetchVersion name (length (taken ++ more) + 1)) (Err fault)) why (λ at so. so) (λ so. so) (fetched (Err why) same))
    of_fetch end (not_asked same ends) = subst Well (sym ends) tt

  of_run : (end : RunEnd TextRefusal) → RunEnds old new said more end → Well end
  of_run end (unanswered no_more same ends) = of_log end ends
  of_run end (compared theirs head is no_more same by) = of_heads theirs head is end by
  of_run end (stopped theirs head last is before within ends) = of_fetch theirs head last is end ends
  of_run end (caught_up theirs head is before all ends) = subst Well (sym ends) tt

  pub completes : (end : SyncEnd) → EndIs old new said more end → Completes old new said more end
  completes end is = record { one_of = subst MayEndWell (sym is.1) (of_run is.0 is.2); cause = has_cause old new said more end is }
