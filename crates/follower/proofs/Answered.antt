-- What a zone's answer to the next patch comes to.
use Rattle.std.proofs.Common.{◌≡◌, ◌≢◌, inr, ⊎_elim, ℕ, ◌+◌, Bool, true, false, not, cond, ltb, List, [], ◌∷◌, ◌++◌, length, Option, Some, None, Result, Ok, Err, refl, sym, ◌∙◌, ap, subst}
use Rattle.std.specs.Prelude.{OnOk, IfErr, IsErrOf}
use Rattle.std.proofs.lemmas.List.{append-nil}
use Rattle.delta_base.specs.declared.id.Id.{Id}
use Rattle.rdf_terms.specs.declared.change.Change.{Change}
use Rattle.term_table.specs.Table.{most}
use Rattle.dataset_tx.specs.Held.{AreMet, AreMore}
use Rattle.chain_core.specs.declared.chain.Patch.{Patch}
use Rattle.chain_core.specs.Decision.{same_id}
use Rattle.chain_core.specs.Ids.{last_of, version_among}
use Rattle.chain_core.proofs.Decided.{same_id-refl}
use Rattle.log_base.specs.declared.limits.FullKind.TheVariants.{Patches, Bytes}
use Rattle.log_base.specs.declared.limits.LogLimits.{LogLimits}
use Rattle.log_base.specs.declared.limits.TheConstants.{PAYLOAD_FRAME}
use Rattle.log_base.specs.declared.phase.Phase.{Phase}
use Rattle.log_base.specs.declared.phase.Phase.TheVariants.{Settling, Body, Gate}
use Rattle.log_journal.specs.Writing.{doubt_left}
use Rattle.patch_meaning.specs.Checked.{CheckedPatch, Refuses}
use Rattle.patch_meaning.specs.declared.fault.PatchFault.{PatchFault}
use Rattle.patch_meaning.specs.declared.fault.PatchFault.TheVariants as faults
use Rattle.patch_log.specs.Log.{bare}
use Rattle.zone_state.specs.declared.answer.TakeAnswer.{TakeAnswer}
use Rattle.zone_state.specs.declared.answer.TakeAnswer.TheVariants as take
use Rattle.zone_state.specs.Brief.{Brief, file_length}
use Rattle.zone_state.specs.Taking.{taking, unless_repeated}
use Rattle.zone_state.specs.Stay.{decided}
use Rattle.zone_state.specs.Zone.{ZoneView}
use Rattle.follower.specs.declared.ends.TextRefusal.{TextRefusal}
use Rattle.follower.specs.declared.ends.TextRefusal.TheVariants.{BadPatch, DiskFault}
use Rattle.follower.specs.Footing.{Footing, DisksOf, Point, ZoneStands, ZoneWent}
use Rattle.follower.specs.Taking.{TakesNext}
use Rattle.follower.specs.Grown.{TookMore, Took, Stayed, LeftInDoubt, none, as_before, tried_last, IsText, IsNextForZone}
use Rattle.follower.specs.Syncing.{RefusesText, taken_or_refused, no_patch_at}
use Rattle.follower.proofs.Footings.{went_as}
use Rattle.follower.proofs.Amid.{stayed_same}

-- ---- results

pub on_ok : {E P Q : Type 0} (result : Result (Unit {0}) E) → (P → Q) → OnOk result P → OnOk result Q
on_ok (Ok done) then is = then is
on_ok (Err fault) then is = tt

pub on_err : {T E : Type 0} {P Q : E → Type 0} (result : Result T E) → ((fault : E) → P fault → Q fault) → IfErr result P → IfErr result Q
on_err (Ok done) then is = tt
on_err (Err fault) then is = then fault is

-- ---- decisions

-- the zone decided so by itself
abbrev pub IsDecision : TakeAnswer → Type 0
IsDecision take.TermsFull = ⊥
IsDecision take.OutOfMemory = ⊥
IsDecision take.DiskFault = ⊥
IsDecision other = Unit {0}

-- a patch that diverges names another one than the last
abbrev pub NamesAnother : List Id → Patch → TakeAnswer → Type 0
NamesAnother ids patch (take.Diverged have prev) = (have ≡ last_of ids) × (prev ≡ patch.prev) × (prev ≡ have → ⊥)
NamesAnother ids patch other = Unit {0}

abbrev pub IsMade : List Id → Patch → TakeAnswer → Type 0
IsMade ids patch answer = IsDecision answer × NamesAnother ids patch answer

module _ (ids : List Id) (bytes : ℕ) (patch : Patch) (limits : LogLimits) where
  made_size : (full long : Bool) → IsMade ids patch (cond full (take.Full Patches (length ids) limits.patches) (cond long (take.Full Bytes (file_length ids bytes + (PAYLOAD_FRAME + length patch.text)) limits.bytes) (take.Applied (length ids + 1))))
  made_size true long = (tt, tt)
  made_size false true = (tt, tt)
  made_size false false = (tt, tt)

  made_id : (found : Option ℕ) → IsMade ids patch (unless_repeated found ids bytes patch limits)
  made_id (Some version) = (tt, tt)
  made_id None = made_size (ltb limits.patches (length ids + 1)) (ltb limits.bytes (file_length ids bytes + (PAYLOAD_FRAME + length patch.text)))

  true_not_false : true ≡ false → ⊥
  true_not_false same = cc

  made_prev : (follows : Bool) → same_id patch.prev (last_of ids) ≡ follows → IsMade ids patch (cond (not follows) (take.Diverged (last_of ids) patch.prev) (unless_repeated (version_among ids patch.id) ids bytes patch limits))
  made_prev true follows = made_id (version_among ids patch.id)
  made_prev false other = (tt, (refl, refl, λ same. true_not_false (sym (ap (λ (id : Option Id). same_id id (last_of ids)) same ∙ same_id-refl (last_of ids)) ∙ other)))

  pub made : IsMade ids patch (taking ids bytes patch limits)
  unfolding taking
  made = made_prev (same_id patch.prev (last_of ids)) refl

-- ---- an answer

doubt_by : (phase : Phase) (before after : Option CheckedPatch) (next : CheckedPatch) → after ≡ doubt_left (Some phase) before next → LeftInDoubt before after [] (next ∷ [])
doubt_by Settling before after next is = as_before refl is
doubt_by Body before after next is = none is
doubt_by Gate before after next is = tried_last next is refl

module _ (on : Footing) (old new : ZoneView (DisksOf on)) (next : CheckedPatch) where
  -- what was decided of the zone as it was is decided of it as it is
  same_decision : new.brief ≡ old.brief → new.limits ≡ old.limits → decided new next ≡ decided old next
  same_decision brief limits =
      ap (λ (b : Brief). taking b.ids b.bytes (bare next) new.limits) brief ∙ ap (λ (l : LogLimits). taking old.brief.ids old.brief.bytes (bare next) l) limits

  changes_one : next.meaning.changes ≡ next.meaning.changes ++ []
  changes_one = sym (append-nil next.meaning.changes)

  module _ (answer : TakeAnswer) (so : TakesNext on old new next answer) where
    met : AreMet (next.meaning.changes ++ []) old.terms new.terms
    met = subst (λ (cs : List Change). AreMet cs old.terms new.terms) changes_one so.terms

    -- a refusal is what the zone decided
    decided_was : answer ≢ take.DiskFault → answer ≢ take.TermsFull → answer ≢ take.OutOfMemory → decided old next ≡ answer
    decided_was no_fault no_terms no_want =
        ⊎_elim (λ is. sym is) (λ other. absurd (⊎_elim no_fault (λ rest. ⊎_elim no_terms no_want rest) other.1)) so.decided

    -- and leaves it as it was
    refused_same : (point : Point on) → ZoneStands on old point → answer ≢ take.DiskFault → ((at : ℕ) → answer ≢ take.Applied at) → answer ≢ take.TermsFull → answer ≢ take.OutOfMemory → new ≡ old
    refused_same point stands no_fault refused no_terms no_want =
        so.same point stands (λ version is. refused version (sym (decided_was no_fault no_terms no_want) ∙ is))

    -- and decides, as it is then
    decided_now : answer ≢ take.DiskFault → ((at : ℕ) → answer ≢ take.Applied at) → answer ≢ take.TermsFull → answer ≢ take.OutOfMemory → decided new next ≡ answer
    decided_now no_fault refused no_terms no_want = same_decision (so.refused refused) so.limits ∙ decided_was no_fault no_terms no_want

    is_decision : answer ≡ decided old next → IsDecision answer
    is_decision is = subst (λ (it : TakeAnswer). IsDecision it) (sym is) (made old.brief.ids old.brief.bytes (bare next) old.limits).0

    -- what the zone didn't decide so is told of the next patch
    is_next : (IsDecision answer → ⊥) → ((at : ℕ) → answer ≢ take.Applied at) → IsNextForZone new next
    is_next undecided refused =
        let can = ⊎_elim (λ is. absurd (undecided (is_decision is))) (λ other. other.0) so.decided in
        (can.0, same_decision (so.refused refused) so.limits ∙ can.1)

  pub took_ok : (answer : TakeAnswer) (id : Id) (mine : ℕ) → TakesNext on old new next answer → OnOk (taken_or_refused answer id mine) (Took on old new next)
  took_ok (take.Applied version) id mine so = record {
    brief = so.applied version refl;
    took = so.took;
    amid = so.amid;
    settled = so.doubt;
    met = met (take.Applied version) so;
  }
  took_ok (take.Diverged have prev) id mine so = tt
  took_ok (take.Repeated version) id mine so = tt
  took_ok (take.Full what have limit) id mine so = tt
  took_ok take.TermsFull id mine so = tt
  took_ok take.OutOfMemory id mine so = tt
  took_ok take.DiskFault id mine so = tt

  module _ (text : List ℕ) (is_text : IsText text next) where
    -- the patch was the next one, and what it needs isn't there
    wanted : (answer : TakeAnswer) → answer ≢ take.DiskFault → ((version : ℕ) → answer ≢ take.Applied version) → (IsDecision answer → ⊥) → TakesNext on old new next answer → TookMore on old new [] → Stayed on old new text
    wanted answer no_fault refused undecided so took = record {
      brief = so.refused refused;
      took = took;
      tried = next ∷ [];
      was_tried = inr (next, refl, is_text, is_next answer so undecided refused);
      amid = so.amid;
      met = met answer so;
      left_is = as_before refl (ap (λ (zone : ZoneView (DisksOf on)). zone.doubt) (so.untouched no_fault refused));
    }

    module _ (point : Point on) (stands : ZoneStands on old point) where
      refuses : (answer : TakeAnswer) → TakesNext on old new next answer → answer ≢ take.DiskFault → ((at : ℕ) → answer ≢ take.Applied at) → answer ≢ take.TermsFull → answer ≢ take.OutOfMemory → Stayed on old new text
      refuses answer so no_fault refused no_terms no_want = stayed_same on old new text (refused_same answer so point stands no_fault refused no_terms no_want)

      pub took_stayed : (answer : TakeAnswer) (id : Id) (mine : ℕ) → TakesNext on old new next answer → IfErr (taken_or_refused answer id mine) (λ _. Stayed on old new text)
      took_stayed (take.Applied version) id mine so = tt
      took_stayed (take.Diverged have prev) id mine so = refuses (take.Diverged have prev) so (λ same. cc) (λ version same. cc) (λ same. cc) (λ same. cc)
      took_stayed (take.Repeated version) id mine so = refuses (take.Repeated version) so (λ same. cc) (λ version same. cc) (λ same. cc) (λ same. cc)
      took_stayed (take.Full what have limit) id mine so = refuses (take.Full what have limit) so (λ same. cc) (λ version same. cc) (λ same. cc) (λ same. cc)
      took_stayed take.TermsFull id mine so = wanted take.TermsFull (λ same. cc) (λ version same. cc) (λ it. it) so so.took
      took_stayed take.OutOfMemory id mine so = wanted take.OutOfMemory (λ same. cc) (λ version same. cc) (λ it. it) so so.took
      took_stayed take.DiskFault id mine so = record {
        brief = so.refused (λ version same. cc);
        took = so.took;
        tried = next ∷ [];
        was_tried = inr (next, refl, is_text, is_next take.DiskFault so (λ it. it) (λ version same. cc));
        amid = so.amid;
        met = met take.DiskFault so;
        left_is = doubt_by so.doubt.0 old.doubt new.doubt next so.doubt.1;
      }

    module _ (id : Id) (id_is : id ≡ next.meaning.id) (mine : ℕ) (mine_is : mine ≡ length old.brief.ids) where
      pub took_err : (answer : TakeAnswer) → TakesNext on old new next answer → IfErr (taken_or_refused answer id mine) (λ why. RefusesText old.terms [] new text why)
      took_err (take.Applied version) so = tt
      took_err (take.Diverged have prev) so =
          let is = decided_now (take.Diverged have prev) so (λ same. cc) (λ version same. cc) (λ same. cc) (λ same. cc) in
          let named = subst (λ (answer : TakeAnswer). NamesAnother new.brief.ids (bare next) answer) is (made new.brief.ids new.brief.bytes (bare next) new.limits).1 in
          (next, is_text, mine_is ∙ sym (ap (λ (b : Brief). length b.ids) (so.refused (λ version same. cc))), named.0, named.1, named.2)
      took_err (take.Repeated version) so =
          (next, is_text, id_is, decided_now (take.Repeated version) so (λ same. cc) (λ version same. cc) (λ same. cc) (λ same. cc))
      took_err (take.Full what have limit) so =
          (next, is_text, decided_now (take.Full what have limit) so (λ same. cc) (λ version same. cc) (λ same. cc) (λ same. cc))
      took_err take.TermsFull so =
          (next, is_text, is_next take.TermsFull so (λ it. it) (λ version same. cc), subst (λ (cs : List Change). AreMore most cs old.terms) changes_one (so.terms_full refl))
      took_err take.OutOfMemory so = tt
      took_err take.DiskFault so = (next, is_text, is_next take.DiskFault so (λ it. it) (λ version same. cc))

  -- where no disk failed, and nothing was taken
  pub took_untouched : (answer : TakeAnswer) (id : Id) (mine : ℕ) → TakesNext on old new next answer → IfErr (taken_or_refused answer id mine) (λ why. why ≢ DiskFault → new ≡ record old { terms = new.terms })
  took_untouched (take.Applied version) id mine so = tt
  took_untouched (take.Diverged have prev) id mine so = λ other. so.untouched (λ same. cc) (λ version same. cc)
  took_untouched (take.Repeated version) id mine so = λ other. so.untouched (λ same. cc) (λ version same. cc)
  took_untouched (take.Full what have limit) id mine so = λ other. so.untouched (λ same. cc) (λ version same. cc)
  took_untouched take.TermsFull id mine so = λ other. so.untouched (λ same. cc) (λ version same. cc)
  took_untouched take.OutOfMemory id mine so = λ other. so.untouched (λ same. cc) (λ version same. cc)
  took_untouched take.DiskFault id mine so = λ other. absurd (other refl)

  -- a fault of a disk is told as one
  pub took_went : (answer : TakeAnswer) (id : Id) (mine : ℕ) → TakesNext on old new next answer → ZoneWent on (IsErrOf (taken_or_refused answer id mine) DiskFault) old.disk new.disk
  took_went answer id mine so = went_as on (answer ≡ take.DiskFault) (IsErrOf (taken_or_refused answer id mine) DiskFault) old.disk new.disk (told_fault answer) (fault_told answer) so.went
    where
      told_fault : (answer : TakeAnswer) → IsErrOf (taken_or_refused answer id mine) DiskFault → answer ≡ take.DiskFault
      told_fault (take.Applied version) is = absurd (cc)
      told_fault (take.Diverged have prev) is = absurd (cc)
      told_fault (take.Repeated version) is = absurd (cc)
      told_fault (take.Full what have limit) is = absurd (cc)
      told_fault take.TermsFull is = absurd (cc)
      told_fault take.OutOfMemory is = absurd (cc)
      told_fault take.DiskFault is = refl

      fault_told : (answer : TakeAnswer) → answer ≡ take.DiskFault → IsErrOf (taken_or_refused answer id mine) DiskFault
      fault_told answer is = subst (λ (it : TakeAnswer). IsErrOf (taken_or_refused it id mine) DiskFault) (sym is) refl

-- ---- a text that is no patch

module _ {D : Type 0} (zone : ZoneView D) (text : List ℕ) (version : ℕ) (is : version ≡ length zone.brief.ids + 1) where
  bad : (fault : PatchFault) → (fault ≡ faults.OutOfMemory → ⊥) → Refuses text fault → RefusesText zone.terms [] zone text (BadPatch version fault)
  bad fault other refuses = (is, ⊎_elim (λ want. absurd (other want)) (λ is. is) refuses)

  pub no_patch_ends : (fault : PatchFault) → Refuses text fault → RefusesText zone.terms [] zone text (no_patch_at version fault)
  no_patch_ends faults.OutOfMemory refuses = tt
  no_patch_ends (faults.At at kind) refuses = bad (faults.At at kind) (λ same. cc) refuses
  no_patch_ends (faults.TooLong length limit) refuses = bad (faults.TooLong length limit) (λ same. cc) refuses

  -- and no disk was asked
  no_disk_at : (fault : PatchFault) → no_patch_at version fault ≡ DiskFault → ⊥
  no_disk_at faults.OutOfMemory same = cc
  no_disk_at (faults.At at kind) same = cc
  no_disk_at (faults.TooLong length limit) same = cc

  pub no_disk_told : (fault : PatchFault) (why : TextRefusal) → why ≡ no_patch_at version fault → IsErrOf {T = Unit {0}} (Err why) DiskFault → ⊥
  no_disk_told fault why is told = let same : why ≡ DiskFault = cc in no_disk_at fault (sym is ∙ same)
