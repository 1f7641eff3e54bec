-- Each end has its cause.
use Rattle.std.proofs.Common.{◌≡◌, inl, inr, ℕ, ◌<◌, List, [], ◌∷◌, Option, Ok, Err, length, refl, sym, ◌∙◌, ap, subst, arith}
use Rattle.delta_base.specs.declared.id.Id.{Id}
use Rattle.patch_meaning.specs.Checked.{CheckedPatch}
use Rattle.patch_meaning.specs.Patch.{IsPatch}
use Rattle.delta_client.specs.declared.fault.AskFault.{AskFault}
use Rattle.delta_client.specs.declared.fault.AskFault.TheVariants as ask
use Rattle.delta_client.specs.Exchanges.{WasSaid}
use Rattle.rpc_answers.specs.declared.answer.Answer.{Answer}
use Rattle.rpc_answers.specs.declared.answer.Answer.TheVariants as answer
use Rattle.chain_core.specs.Ids.{last_of}
use Rattle.zone_state.specs.Zone.{ZoneView}
use Rattle.catch_up.specs.declared.end.RunEnd.{RunEnd}
use Rattle.catch_up.specs.declared.end.RunEnd.TheVariants as run
use Rattle.catch_up.specs.Ends as peer
use Rattle.follower.specs.declared.ends.SyncEnd.{SyncEnd}
use Rattle.follower.specs.declared.ends.TextRefusal.{TextRefusal}
use Rattle.follower.specs.declared.ends.TextRefusal.TheVariants.{BadPatch, Diverged, Repeated, Full, TermsFull, DiskFault, OutOfMemory}
use Rattle.follower.specs.Calls.{came}
use Rattle.follower.specs.Grown.{Fetched, IsText, SaidToFetch}
use Rattle.follower.specs.Syncing.{RefusesText, NextEnds, refused, answered, faulty, not_asked, RunEnds, unanswered, compared, stopped, caught_up, EndIs, end_of_refusal, sync_end}
use Rattle.follower.specs.Causes.{Cause, SaidToLog, WasSaidLast}

module _ {D : Type 0} (old new : ZoneView D) (said : List WasSaid) (more : List CheckedPatch) where
  -- a run that ends so has its cause
  abbrev Has : RunEnd TextRefusal → Type 0
  Has end = Cause old new said more (sync_end end)

  fault : (why : AskFault) → WasSaidLast old new said more (Err why) → Has (peer.end_of_fault why)
  fault ask.LinkFault last = last
  fault ask.CutShort last = last
  fault (ask.NotUnderstood at) last = last
  fault ask.OutOfMemory last = tt

  -- a refusal of the log's call
  log_refused : (a : Answer) → SaidToLog old new said more (Ok a) → peer.TellsNoLog a → (end : RunEnd TextRefusal) → peer.IsRefusal a end → Has end
  log_refused a last told (run.CaughtUp version) by = absurd by
  log_refused a last told run.NoSuchName by = absurd by
  log_refused a last told (run.PeerBehind mine theirs) by = absurd by
  log_refused a last told (run.HeadsDiffer version have theirs) by = absurd by
  log_refused a last told (run.NoPatch version) by = absurd by
  log_refused a last told (run.PeerRefused status body) by = (a, by.0, by.1, inl (last, told))
  log_refused a last told run.LinkFault by = absurd by
  log_refused a last told run.CutShort by = absurd by
  log_refused a last told (run.NotUnderstood at) by = absurd by
  log_refused a last told run.OutOfMemory by = tt
  log_refused a last told (run.Refused refusal) by = absurd by

  of_log : more ≡ [] → new ≡ old → (end : RunEnd TextRefusal) → peer.LogEnds said end → Has end
  of_log no_more same end (peer.answered a is (peer.no_source a_is ends)) = subst Has (sym ends) (inl (is ∙ ap (λ (it : Answer). Ok it ∷ []) a_is, no_more, same))
  of_log no_more same end (peer.answered a is (peer.refused told by)) = log_refused a (is, no_more, same) told end by
  of_log no_more same end (peer.faulty why is ends) = subst Has (sym ends) (fault why (inl (is, no_more, same)))
  of_log no_more same end (peer.not_asked is ends) = subst Has (sym ends) tt

  of_heads : (theirs : ℕ) (head : Option Id) → said ≡ came theirs head [] [] → more ≡ [] → new ≡ old → (end : RunEnd TextRefusal) → peer.Compares (length old.brief.ids) (last_of old.brief.ids) theirs head end → Has end
  of_heads found head is no_more same (run.CaughtUp version) by = absurd by
  of_heads found head is no_more same run.NoSuchName by = absurd by
  of_heads found head is no_more same (run.PeerBehind mine theirs) by =
      (by.0, omega (arith, by.0, by.1, by.2), (head, (is ∙ ap (λ (n : ℕ). Ok (answer.Info n head) ∷ []) (sym by.1), no_more, same)))
  of_heads found head is no_more same (run.HeadsDiffer version have named) by = (
    by.0 ∙ ap (λ (zone : ZoneView D). length zone.brief.ids) (sym same),
    by.2 ∙ ap (λ (zone : ZoneView D). last_of zone.brief.ids) (sym same),
    λ equal. by.4 (sym by.3 ∙ equal ∙ by.2),
    inl (is ∙ ap (λ (n : ℕ). Ok (answer.Info n head) ∷ []) (by.1 ∙ sym by.0) ∙ ap (λ (id : Option Id). Ok (answer.Info version id) ∷ []) (sym by.3), no_more, same),
  )
  of_heads found head is no_more same (run.NoPatch version) by = absurd by
  of_heads found head is no_more same (run.PeerRefused status body) by = absurd by
  of_heads found head is no_more same run.LinkFault by = absurd by
  of_heads found head is no_more same run.CutShort by = absurd by
  of_heads found head is no_more same (run.NotUnderstood at) by = absurd by
  of_heads found head is no_more same run.OutOfMemory by = absurd by
  of_heads found head is no_more same (run.Refused refusal) by = absurd by

  -- a refusal of a fetch
  fetch_refused : (a : Answer) → SaidToFetch new more said (Ok a) → peer.TellsNoPatch a → (end : RunEnd TextRefusal) → peer.IsRefusal a end → Has end
  fetch_refused a last told (run.CaughtUp version) by = absurd by
  fetch_refused a last told run.NoSuchName by = absurd by
  fetch_refused a last told (run.PeerBehind mine theirs) by = absurd by
  fetch_refused a last told (run.HeadsDiffer version have theirs) by = absurd by
  fetch_refused a last told (run.NoPatch version) by = absurd by
  fetch_refused a last told (run.PeerRefused status body) by = (a, by.0, by.1, inr (last, told))
  fetch_refused a last told run.LinkFault by = absurd by
  fetch_refused a last told run.CutShort by = absurd by
  fetch_refused a last told (run.NotUnderstood at) by = absurd by
  fetch_refused a last told run.OutOfMemory by = tt
  fetch_refused a last told (run.Refused refusal) by = absurd by

  module _ (text : List ℕ) (last : SaidToFetch new more said (Ok (answer.Patch text))) where
    fetched : (next : CheckedPatch) → IsText text next → Fetched new more said next
    fetched next is =
        (subst (λ (t : List ℕ). SaidToFetch new more said (Ok (answer.Patch t))) (sym is.0) last, subst (λ (t : List ℕ). IsPatch t next.meaning) (sym is.0) is.1)

    of_text : (refusal : TextRefusal) → RefusesText old.terms more new text refusal → Cause old new said more (end_of_refusal refusal)
    of_text (BadPatch version fault) by = (by.0, (text, last, by.1))
    of_text (Diverged version have named) by = (by.2, by.3, by.5, inr (by.0, fetched by.0 by.1, by.4))
    of_text (Repeated version id) by = (by.0, fetched by.0 by.1, by.2, by.3)
    of_text (Full what have limit) by = (by.0, fetched by.0 by.1, by.2)
    of_text TermsFull by = (by.0, fetched by.0 by.1, by.2, by.3)
    of_text DiskFault by = (by.0, fetched by.0 by.1, by.2)
    of_text OutOfMemory by = tt

  module _ (theirs : ℕ) (head : Option Id) (last : List WasSaid) (is : said ≡ came theirs head more last) (within : length new.brief.ids < theirs) where
    to_fetch : (one : WasSaid) → last ≡ one ∷ [] → SaidToFetch new more said one
    to_fetch one same = (theirs, head, is ∙ ap (λ (l : List WasSaid). came theirs head more l) same, within)

    of_fetch : (end : RunEnd TextRefusal) → NextEnds old.terms more new last end → Has end
    of_fetch end (refused text refusal same why ends) = subst Has (sym ends) (of_text text (to_fetch (Ok (answer.Patch text)) same) refusal why)
    of_fetch end (answered a same (peer.no_source a_is ends)) = subst Has (sym ends) (inr (to_fetch (Ok answer.NoSource) (same ∙ ap (λ (it : Answer). Ok it ∷ []) a_is)))
    of_fetch end (answered a same (peer.no_patch has a_is ends)) = subst Has (sym ends) (refl, (has, to_fetch (Ok (answer.NoPatch has)) (same ∙ ap (λ (it : Answer). Ok it ∷ []) a_is)))
    of_fetch end (answered a same (peer.refused told by)) = fetch_refused a (to_fetch (Ok a) same) told end by
    of_fetch end (faulty why same ends) = subst Has (sym ends) (fault why (inr (to_fetch (Err why) same)))
    of_fetch end (not_asked same ends) = subst Has (sym ends) tt

  of_run : (end : RunEnd TextRefusal) → RunEnds old new said more end → Has end
  of_run end (unanswered no_more same ends) = of_log no_more same end ends
  of_run end (compared theirs head is no_more same by) = of_heads theirs head is no_more same end by
  of_run end (stopped theirs head last is before within ends) = of_fetch theirs head last is within end ends
  of_run end (caught_up theirs head is before all ends) = subst Has (sym ends) (all, (head, is))

  pub has_cause : (end : SyncEnd) → EndIs old new said more end → Cause old new said more end
  has_cause end is = subst (λ (it : SyncEnd). Cause old new said more it) (sym is.1) (of_run is.0 is.2)
