-- Each end has its cause.
use Rattle.std.proofs.Common.{◌≡◌, inl, inr, ⊎_elim, ℕ, ◌+◌, ◌<◌, ◌^◌, ◌-◌, Bool, true, false, not, cond, ltb, List, [], ◌∷◌, length, Option, Some, None, Result, Ok, Err, refl, sym, ◌∙◌, ap, subst, arith}
use Rattle.delta_base.specs.Outside.{Rose}
use Rattle.delta_base.specs.declared.id.Id.{Id}
use Rattle.disk_model.specs.declared.disk.Disk.{Ghosts}
use Rattle.chain_core.specs.declared.chain.Patch.{Patch}
use Rattle.chain_core.specs.Decision.{same_id}
use Rattle.chain_core.specs.Ids.{last_of, version_among}
use Rattle.chain_core.proofs.Decided.{same_id-refl}
use Rattle.log_base.specs.declared.limits.FullKind.TheVariants.{Patches, Bytes}
use Rattle.log_base.specs.declared.limits.LogLimits.{LogLimits}
use Rattle.log_base.specs.declared.limits.TheConstants.{PAYLOAD_FRAME}
use Rattle.patch_log.specs.Log.{bare}
use Rattle.patch_meaning.specs.Checked.{CheckedPatch}
use Rattle.patch_meaning.specs.Patch.{IsPatch}
use Rattle.delta_client.specs.declared.fault.AskFault.{AskFault}
use Rattle.delta_client.specs.declared.fault.AskFault.TheVariants as ask
use Rattle.delta_client.specs.Exchanges.{WasSaid}
use Rattle.rpc_answers.specs.declared.answer.Answer.{Answer}
use Rattle.rpc_answers.specs.declared.answer.Answer.TheVariants as answer
use Rattle.zone_state.specs.declared.answer.TakeAnswer.{TakeAnswer}
use Rattle.zone_state.specs.declared.answer.TakeAnswer.TheVariants as take
use Rattle.zone_state.specs.Brief.{file_length}
use Rattle.zone_state.specs.Taking.{taking, unless_repeated}
use Rattle.turn_cell.specs.Knowing.{SeesOn, own_faults_of}
use Rattle.shared_zone.specs.declared.answers.Stayed.{Stayed}
use Rattle.shared_zone.specs.declared.answers.Stayed.TheVariants.{Ahead, Asked}
use Rattle.shared_zone.specs.History.{SharedZone, ZoneSight, brief_seen, version_seen}
use Rattle.shared_zone.specs.Legal.{IsTakenSo, LegalStay}
use Rattle.shared_zone.specs.Stays.{TakesInTurn}
use Rattle.catch_up.specs.declared.end.RunEnd.{RunEnd}
use Rattle.catch_up.specs.declared.end.RunEnd.TheVariants as run_ends
use Rattle.catch_up.specs.Ends as peer
use Rattle.catch_up.specs.Runs as runs
use Rattle.catch_up.specs.Runs.{FetchEnds, IsRunTo, RestIs, Run, TakesAll}
use Rattle.follower.specs.declared.ends.SyncEnd.{SyncEnd}
use Rattle.follower.specs.declared.ends.TextRefusal.{TextRefusal}
use Rattle.follower.specs.declared.ends.TextRefusal.TheVariants.{BadPatch, Diverged, Repeated, Full, TermsFull, DiskFault, OutOfMemory}
use Rattle.follower.specs.Grown.{IsText}
use Rattle.follower.specs.Syncing.{end_of_refusal, sync_end}
use Rattle.zone_follower.specs.Following.{ComesToText, Followed, IsUnaskedFor, ShowsZone, answer_told, stay_told, unasked, stayed_with}
use Rattle.zone_follower.specs.Causes.{EndsSaying, FollowCause, FoundTermsFull, GivesPatch, SaidBehind, SaidFirst, reached_by}
use Rattle.zone_follower.proofs.Running.{all_at, takes_reach}
use Rattle.zone_follower.proofs.Staying.{StillOrOn, all_on, comes_reached, faults_fewer, shown_on, then_on, version_on}

-- ---- decisions

-- what diverges names another one than the last
abbrev NamesOther : List Id → Patch → TakeAnswer → Type 0
NamesOther ids patch (take.Diverged have prev) = (have ≡ last_of ids) × (prev ≡ patch.prev) × (prev ≡ have → ⊥)
NamesOther ids patch other = Unit {0}

module _ (ids : List Id) (bytes : ℕ) (patch : Patch) (limits : LogLimits) where
  by_size : (full long : Bool) → NamesOther ids patch (cond full (take.Full Patches (length ids) limits.patches) (cond long (take.Full Bytes (file_length ids bytes + (PAYLOAD_FRAME + length patch.text)) limits.bytes) (take.Applied (length ids + 1))))
  by_size true long = tt
  by_size false true = tt
  by_size false false = tt

  by_id : (found : Option ℕ) → NamesOther ids patch (unless_repeated found ids bytes patch limits)
  by_id (Some version) = tt
  by_id None = by_size (ltb limits.patches (length ids + 1)) (ltb limits.bytes (file_length ids bytes + (PAYLOAD_FRAME + length patch.text)))

  true_not_false : true ≡ false → ⊥
  true_not_false same = cc

  by_prev : (follows : Bool) → same_id patch.prev (last_of ids) ≡ follows → NamesOther ids patch (cond (not follows) (take.Diverged (last_of ids) patch.prev) (unless_repeated (version_among ids patch.id) ids bytes patch limits))
  by_prev true follows = by_id (version_among ids patch.id)
  by_prev false other = (refl, refl, λ same. true_not_false (sym (ap (λ (id : Option Id). same_id id (last_of ids)) same ∙ same_id-refl (last_of ids)) ∙ other))

  names_other : NamesOther ids patch (taking ids bytes patch limits)
  unfolding taking
  names_other = by_prev (same_id patch.prev (last_of ids)) refl

module _ {D : Type 0} (disks : Ghosts D) (origin : SharedZone D) (p : ZoneSight) (it : Run) (q : ZoneSight) where
  -- a run that ends so has its cause
  abbrev Has : RunEnd TextRefusal → Type 0
  Has end = FollowCause disks origin p it q (sync_end end)

  fault : (why : AskFault) → EndsSaying disks origin p it q (Err why) → Has (peer.end_of_fault why)
  fault ask.LinkFault last = last
  fault ask.CutShort last = last
  fault (ask.NotUnderstood at) last = last
  fault ask.OutOfMemory last = tt

  -- ---- the log's call

  log_refused : (a : Answer) → SaidFirst disks origin p it q (Ok a) → peer.TellsNoLog a → (end : RunEnd TextRefusal) → peer.IsRefusal a end → Has end
  log_refused a last told (run_ends.CaughtUp version) by = absurd by
  log_refused a last told run_ends.NoSuchName by = absurd by
  log_refused a last told (run_ends.PeerBehind mine theirs) by = absurd by
  log_refused a last told (run_ends.HeadsDiffer version have theirs) by = absurd by
  log_refused a last told (run_ends.NoPatch version) by = absurd by
  log_refused a last told (run_ends.PeerRefused status body) by = (a, by.0, by.1, inl (last, told))
  log_refused a last told run_ends.LinkFault by = absurd by
  log_refused a last told run_ends.CutShort by = absurd by
  log_refused a last told (run_ends.NotUnderstood at) by = absurd by
  log_refused a last told run_ends.OutOfMemory by = tt
  log_refused a last told (run_ends.Refused refusal) by = absurd by

  of_log : it.steps ≡ [] → it.last ≡ [] → (end : RunEnd TextRefusal) → peer.LogEnds it.log end → Has end
  of_log none last end (peer.answered a is (peer.no_source a_is ends)) = subst Has (sym ends) (inl (is ∙ ap (λ (x : Answer). Ok x ∷ []) a_is, none, last))
  of_log none last end (peer.answered a is (peer.refused told by)) = log_refused a (is, none, last) told end by
  of_log none last end (peer.faulty why is ends) = subst Has (sym ends) (fault why (inl (is, none, last)))
  of_log none last end (peer.not_asked is ends) = subst Has (sym ends) tt

  of_heads : (theirs : ℕ) (head : Option Id) → ShowsZone disks origin p it.mine it.have q → it.log ≡ Ok (answer.Info theirs head) ∷ [] → it.steps ≡ [] → it.last ≡ [] → (end : RunEnd TextRefusal) → peer.Compares it.mine it.have theirs head end → Has end
  of_heads found head shown is none last (run_ends.CaughtUp version) by = absurd by
  of_heads found head shown is none last run_ends.NoSuchName by = absurd by
  of_heads found head shown is none last (run_ends.PeerBehind mine theirs) by =
      (by.0 ∙ shown.0.1.0, omega (arith, by.0, by.1, by.2), (head, (is ∙ ap (λ (n : ℕ). Ok (answer.Info n head) ∷ []) (sym by.1), none, last)))
  of_heads found head shown is none last (run_ends.HeadsDiffer version have named) by = (
    by.0 ∙ shown.0.1.0,
    by.2 ∙ shown.0.1.1,
    λ equal. by.4 (sym by.3 ∙ equal ∙ by.2),
    inl (is ∙ ap (λ (n : ℕ). Ok (answer.Info n head) ∷ []) (by.1 ∙ sym by.0) ∙ ap (λ (id : Option Id). Ok (answer.Info version id) ∷ []) (sym by.3), none, last),
  )
  of_heads found head shown is none last (run_ends.NoPatch version) by = absurd by
  of_heads found head shown is none last (run_ends.PeerRefused status body) by = absurd by
  of_heads found head shown is none last run_ends.LinkFault by = absurd by
  of_heads found head shown is none last run_ends.CutShort by = absurd by
  of_heads found head shown is none last (run_ends.NotUnderstood at) by = absurd by
  of_heads found head shown is none last run_ends.OutOfMemory by = absurd by
  of_heads found head shown is none last (run_ends.Refused refusal) by = absurd by

  -- ---- a fetch

  fetch_refused : (a : Answer) → SaidBehind disks origin p it q (Ok a) → peer.TellsNoPatch a → (end : RunEnd TextRefusal) → peer.IsRefusal a end → Has end
  fetch_refused a last told (run_ends.CaughtUp version) by = absurd by
  fetch_refused a last told run_ends.NoSuchName by = absurd by
  fetch_refused a last told (run_ends.PeerBehind mine theirs) by = absurd by
  fetch_refused a last told (run_ends.HeadsDiffer version have theirs) by = absurd by
  fetch_refused a last told (run_ends.NoPatch version) by = absurd by
  fetch_refused a last told (run_ends.PeerRefused status body) by = (a, by.0, by.1, inr (last, told))
  fetch_refused a last told run_ends.LinkFault by = absurd by
  fetch_refused a last told run_ends.CutShort by = absurd by
  fetch_refused a last told (run_ends.NotUnderstood at) by = absurd by
  fetch_refused a last told run_ends.OutOfMemory by = tt
  fetch_refused a last told (run_ends.Refused refusal) by = absurd by

  -- the last fetch was of the version behind what the pass knew of in the state before its answer
  module _ (theirs reached : ℕ) (head : Option Id) (log_is : it.log ≡ Ok (answer.Info theirs head) ∷ []) (reach : reached ≡ reached_by it.mine it.steps) (less : reached < theirs) (m : ZoneSight) (at : reached ≡ version_seen origin.base m) where
    to_fetch : (one : WasSaid) → it.last ≡ one ∷ [] → version_seen origin.base q ≡ reached → SaidBehind disks origin p it q one
    to_fetch one last same = (theirs, head, log_is, last, sym reach ∙ sym same, omega (arith, same, less))

    still : q ≡ m → version_seen origin.base q ≡ reached
    still same = ap (λ (z : ZoneSight). version_seen origin.base z) same ∙ sym at

    module _ (text : List ℕ) (last : it.last ≡ Ok (answer.Patch text) ∷ []) where
      gives : (next : CheckedPatch) → IsText text next → version_seen origin.base q ≡ reached → GivesPatch disks origin p it q next
      gives next is same =
          (subst (λ (t : List ℕ). SaidBehind disks origin p it q (Ok (answer.Patch t))) (sym is.0) (to_fetch (Ok (answer.Patch text)) last same), subst (λ (t : List ℕ). IsPatch t next.meaning) (sym is.0) is.1)

      of_unasked : (refusal : TextRefusal) → IsUnaskedFor text (reached + 1) refusal → q ≡ m → FollowCause disks origin p it q (end_of_refusal refusal)
      of_unasked (BadPatch version why) by same = (by.0 ∙ ap (λ (n : ℕ). n + 1) (sym (still same)), (text, to_fetch (Ok (answer.Patch text)) last (still same), by.1))
      of_unasked (Diverged version have named) by same = absurd by
      of_unasked (Repeated version id) by same = absurd by
      of_unasked (Full what have limit) by same = absurd by
      of_unasked TermsFull by same = absurd by
      of_unasked DiskFault by same = absurd by
      of_unasked OutOfMemory by same = tt

      module _ (next : CheckedPatch) (is : IsText text next) (on : SeesOn m q) (first : StillOrOn p m) where
        -- the zone had just what the pass had seen
        had_so : (had : ℕ) → had < reached + 1 → had ≡ version_seen origin.base q → version_seen origin.base q ≡ reached
        had_so had less_so same = let more = version_on origin.base m q on in omega (arith, less_so, same, more, at)

        rose_so : Rose (own_faults_of m) (own_faults_of q) → Rose (own_faults_of p) (own_faults_of q)
        rose_so rose =
            let fewer = faults_fewer p m first in
            ⊎_elim (λ (more : own_faults_of m < own_faults_of q). inl (omega (arith, fewer, more))) (λ (end : own_faults_of q ≡ 2 ^ 64 - 1). inr end) rose

        found_full : (had : ℕ) → TakesInTurn disks origin next (reached + 1) (Asked had take.TermsFull) m q → FoundTermsFull disks origin p it q next
        found_full had stay = record {
          found = stay.found;
          stands = stay.found_stands;
          sees = stay.sees ∙ stay.did.1.history;
          terms = stay.did.1.takes.terms_full refl;
        }

        of_answer : (had : ℕ) (told : TakeAnswer) (refusal : TextRefusal) → had < reached + 1 → IsTakenSo origin.base origin.zone.limits next had told m q → TakesInTurn disks origin next (reached + 1) (Asked had told) m q
            → Err refusal ≡ answer_told told next.meaning.id had → FollowCause disks origin p it q (end_of_refusal refusal)
        of_answer had (take.Applied version) refusal less_so taken stay told = let is : ◌≡◌ {A = Result ℕ TextRefusal} (Err refusal) (Ok version) = told in absurd (cc)
        of_answer had (take.Diverged have prev) refusal less_so taken stay told =
            let same : ◌≡◌ {A = Result ℕ TextRefusal} (Err refusal) (Err (Diverged had have prev)) = told in
            let ends : Diverged had have prev ≡ refusal = cc in
            let brief = brief_seen origin.base q in
            let names : NamesOther brief.ids (bare next) (take.Diverged have prev) = subst (λ (a : TakeAnswer). NamesOther brief.ids (bare next) a) taken.0 (names_other brief.ids brief.bytes (bare next) origin.zone.limits) in
            subst (λ (r : TextRefusal). FollowCause disks origin p it q (end_of_refusal r)) ends (taken.1, names.0, names.2, inr (next, gives next is (had_so had less_so taken.1), names.1))
        of_answer had (take.Repeated version) refusal less_so taken stay told =
            let same : ◌≡◌ {A = Result ℕ TextRefusal} (Err refusal) (Err (Repeated version next.meaning.id)) = told in
            let ends : Repeated version next.meaning.id ≡ refusal = cc in
            subst (λ (r : TextRefusal). FollowCause disks origin p it q (end_of_refusal r)) ends (next, (gives next is (had_so had less_so taken.1), taken.0), refl)
        of_answer had (take.Full what have limit) refusal less_so taken stay told =
            let same : ◌≡◌ {A = Result ℕ TextRefusal} (Err refusal) (Err (Full what have limit)) = told in
            let ends : Full what have limit ≡ refusal = cc in
            subst (λ (r : TextRefusal). FollowCause disks origin p it q (end_of_refusal r)) ends (next, (gives next is (had_so had less_so taken.1), taken.0))
        of_answer had take.TermsFull refusal less_so taken stay told =
            let same : ◌≡◌ {A = Result ℕ TextRefusal} (Err refusal) (Err TermsFull) = told in
            let ends : TermsFull ≡ refusal = cc in
            subst (λ (r : TextRefusal). FollowCause disks origin p it q (end_of_refusal r)) ends (next, (gives next is (had_so had less_so taken.1), taken.0), found_full had stay)
        of_answer had take.OutOfMemory refusal less_so taken stay told =
            let same : ◌≡◌ {A = Result ℕ TextRefusal} (Err refusal) (Err OutOfMemory) = told in
            let ends : OutOfMemory ≡ refusal = cc in
            subst (λ (r : TextRefusal). FollowCause disks origin p it q (end_of_refusal r)) ends tt
        of_answer had take.DiskFault refusal less_so taken stay told =
            let same : ◌≡◌ {A = Result ℕ TextRefusal} (Err refusal) (Err DiskFault) = told in
            let ends : DiskFault ≡ refusal = cc in
            subst (λ (r : TextRefusal). FollowCause disks origin p it q (end_of_refusal r)) ends (next, (gives next is (had_so had less_so taken.1), taken.0), rose_so taken.2)

      by_stay : (next : CheckedPatch) → IsText text next → StillOrOn p m → (stayed : Stayed) (refusal : TextRefusal) → LegalStay origin.base origin.zone.limits next (reached + 1) m stayed q → TakesInTurn disks origin next (reached + 1) stayed m q
          → Err refusal ≡ stay_told stayed next.meaning.id → FollowCause disks origin p it q (end_of_refusal refusal)
      by_stay next is first (Ahead found) refusal legal stay told = let same : ◌≡◌ {A = Result ℕ TextRefusal} (Err refusal) (Ok found) = told in absurd (cc)
      by_stay next is first (Asked had answer) refusal legal stay told = of_answer next is legal.0 first had answer refusal legal.1.0 legal.1.1 stay told

      of_text : (refusal : TextRefusal) → StillOrOn p m → ComesToText disks origin m (reached + 1) text (Err refusal) q → FollowCause disks origin p it q (end_of_refusal refusal)
      of_text refusal first (unasked other by ends same) =
          let one : other ≡ refusal = cc in
          subst (λ (r : TextRefusal). FollowCause disks origin p it q (end_of_refusal r)) one (of_unasked other by same)
      of_text refusal first (stayed_with s) = by_stay s.patch s.is_text first s.stayed refusal s.legal s.stay s.told

    of_fetch : StillOrOn p m → (end : RunEnd TextRefusal) → FetchEnds (ComesToText disks origin) (reached + 1) m it.last end q → Has end
    of_fetch first end (runs.refused text refusal last took ends) = subst Has (sym ends) (of_text text last refusal first took)
    of_fetch first end (runs.answered a last (peer.no_source a_is ends) same) = subst Has (sym ends) (inr (to_fetch (Ok answer.NoSource) (last ∙ ap (λ (x : Answer). Ok x ∷ []) a_is) (still same)))
    of_fetch first end (runs.answered a last (peer.no_patch has a_is ends) same) =
        subst Has (sym ends) (ap (λ (n : ℕ). n + 1) (sym (still same)), (has, to_fetch (Ok (answer.NoPatch has)) (last ∙ ap (λ (x : Answer). Ok x ∷ []) a_is) (still same)))
    of_fetch first end (runs.answered a last (peer.refused told by) same) = fetch_refused a (to_fetch (Ok a) last (still same)) told end by
    of_fetch first end (runs.faulty why last ends same) = subst Has (sym ends) (fault why (inr (to_fetch (Err why) last (still same))))
    of_fetch first end (runs.not_asked last ends same) = subst Has (sym ends) tt

  -- ---- a run

  abbrev Takes : ZoneSight → ℕ → List ℕ → Result ℕ TextRefusal → ZoneSight → Type 0
  Takes = ComesToText disks origin

  abbrev At : ZoneSight → ℕ → Type 0
  At z version = version ≡ version_seen origin.base z

  reached_at : (a b : ZoneSight) (version : ℕ) (text : List ℕ) (reached : ℕ) → Takes a version text (Ok reached) b → At b reached
  reached_at a b version text reached took = (comes_reached disks origin a b version text reached took).0

  of_rest : (theirs : ℕ) (head : Option Id) (m : ZoneSight) → it.log ≡ Ok (answer.Info theirs head) ∷ [] → SeesOn p m → At m it.mine → (end : RunEnd TextRefusal) → RestIs Takes theirs it.mine m it.steps it.last end q → Has end
  of_rest theirs head m log_is first shown end (runs.stopped reached between all less ends) =
      of_fetch theirs reached head log_is (takes_reach Takes theirs it.mine m it.steps reached between all) less between (all_at Takes At reached_at theirs it.mine m it.steps reached between all shown)
      (inr (then_on p m between first (all_on disks origin theirs it.mine m it.steps reached between all))) end ends
  of_rest theirs head m log_is first shown end (runs.caught_up reached all done none ends) =
      let at = all_at Takes At reached_at theirs it.mine m it.steps reached q all shown in
      subst Has (sym ends) (omega (arith, done, at), (head, log_is), none)

  of_run : (end : RunEnd TextRefusal) → IsRunTo Takes (ShowsZone disks origin) p it end q → Has end
  of_run end (runs.unanswered shown none last ends) = of_log none last end ends
  of_run end (runs.compared theirs head shown log_is none last by) = of_heads theirs head shown log_is none last end by
  of_run end (runs.followed theirs head between shown log_is before rest) =
      of_rest theirs head between log_is (shown_on disks origin p between it.mine it.have shown) shown.0.1.0 end rest

  pub has_cause : (end : SyncEnd) → Followed disks origin p it end q → FollowCause disks origin p it q end
  has_cause end is = subst (λ (e : SyncEnd). FollowCause disks origin p it q e) (sym is.ended) (of_run is.run_end is.taken)
