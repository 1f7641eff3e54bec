-- A zone on one file takes its next patch.
use Rattle.std.proofs.Common.{◌≡◌, ◌≢◌, inl, inr, ⊎_elim, ℕ, List, [], ◌∷◌, ◌++◌, Option, Some, None, sym, subst}
use Rattle.std.proofs.lemmas.List.{append-nil}
use Rattle.disk_model.specs.declared.disk.Disk.{Ghosts}
use Rattle.disk_model.proofs.Moments.{weaker}
use Rattle.log_journal.specs.Journal.{HoldsWithOrWithout}
use Rattle.log_journal.specs.Writing.{HoldsDuring}
use Rattle.patch_meaning.specs.Checked.{CheckedPatch, checked_texts}
use Rattle.patch_log.specs.Log.{bare}
use Rattle.zone_state.specs.declared.answer.TakeAnswer.{TakeAnswer}
use Rattle.zone_state.specs.declared.answer.TakeAnswer.TheVariants as take
use Rattle.zone_state.specs.Stay.{decided, RefusesPatch, WritesNext}
use Rattle.zone_state.specs.Takes.{TakesPatch}
use Rattle.zone_state.specs.Taking.{taken_then}
use Rattle.zone_state.specs.Zone.{ZoneView, zone_number, text_in}
use Rattle.zone_state.proofs.Took.{any_moment}
use Rattle.follower.specs.Footing.{one_file, ZoneStands, HoldsAmid}
use Rattle.follower.specs.Taking.{TakesNext}
use Rattle.follower.proofs.Answered.{IsDecision, made}
use Rattle.follower.proofs.Footings.{amid_before, amid_doubt, amid_next}

-- ---- images

module _ (payloads : List (List ℕ)) (image : List ℕ) where
  next_one : (doubt : Option CheckedPatch) (next : CheckedPatch) → HoldsWithOrWithout zone_number payloads next.text image → HoldsAmid zone_number payloads doubt (next ∷ []) image
  next_one doubt next (inl without) = amid_before zone_number payloads image doubt (next ∷ []) without
  next_one doubt next (inr holds) = amid_next zone_number payloads image doubt next holds

  during : (doubt : Option CheckedPatch) (next : CheckedPatch) → HoldsDuring zone_number payloads (text_in doubt) next.text image → HoldsAmid zone_number payloads doubt (next ∷ []) image
  during None next holds = next_one None next holds
  during (Some one) next (inl holds) = amid_doubt zone_number payloads image (Some one) (next ∷ []) holds
  during (Some one) next (inr holds) = next_one (Some one) next holds

module _ {D : Type 0} (disks : Ghosts D) (old new : ZoneView D) (next : CheckedPatch) where
  -- the zone stands for the same patches
  took_same : ((taken : List CheckedPatch) → ZoneStands (one_file disks) old taken → ZoneStands (one_file disks) new taken)
      → (taken : List CheckedPatch) → ZoneStands (one_file disks) old taken → ZoneStands (one_file disks) new (taken ++ [])
  took_same same taken stands = subst (λ (ps : List CheckedPatch). ZoneStands (one_file disks) new ps) (sym (append-nil taken)) (same taken stands)

  -- where what it needs isn't there, it learns of terms alone
  took_want : new ≡ record old { terms = new.terms } → (taken : List CheckedPatch) → ZoneStands (one_file disks) old taken → ZoneStands (one_file disks) new (taken ++ [])
  took_want is = took_same (λ taken stands.
      let here : ZoneStands (one_file disks) (record old { terms = new.terms }) taken =
      record { brief_is = stands.brief_is; doubt_is = stands.doubt_is; without = stands.without; having = stands.having; on_disk = stands.on_disk } in
      subst (λ (zone : ZoneView D). ZoneStands (one_file disks) zone taken) (sym is) here)

  took : (answer : TakeAnswer) → TakesPatch disks old new next answer → (taken : List CheckedPatch) → ZoneStands (one_file disks) old taken → ZoneStands (one_file disks) new (taken ++ taken_then answer [] next)
  took (take.Applied version) so = λ taken stands. (so.stay taken old.doubt stands (λ same. cc) (λ same. cc)).stands
  took (take.Diverged have prev) so = took_same (λ taken stands. (so.stay taken old.doubt stands (λ same. cc) (λ same. cc)).stands)
  took (take.Repeated version) so = took_same (λ taken stands. (so.stay taken old.doubt stands (λ same. cc) (λ same. cc)).stands)
  took (take.Full what have limit) so = took_same (λ taken stands. (so.stay taken old.doubt stands (λ same. cc) (λ same. cc)).stands)
  took take.TermsFull so = took_want (so.untouched (λ same. cc) (λ version same. cc))
  took take.OutOfMemory so = took_want (so.untouched (λ same. cc) (λ version same. cc))
  took take.DiskFault so = took_same (λ taken stands. (so.stay taken old.doubt stands (λ same. cc) (λ same. cc)).stands)

  module _ (answer : TakeAnswer) (so : TakesPatch disks old new next answer) (never : (version : ℕ) → decided old next ≢ take.Applied version) where
    was_decided : answer ≡ decided old next
    was_decided = ⊎_elim (λ is. is) (λ other. absurd (never other.0.0 other.0.1)) so.decided

    is_decision : IsDecision answer
    is_decision = subst (λ (it : TakeAnswer). IsDecision it) (sym was_decided) (made old.brief.ids old.brief.bytes (bare next) old.limits).0

    -- what isn't the next patch changes nothing
    nothing : (taken : List CheckedPatch) → ZoneStands (one_file disks) old taken → new ≡ old
    nothing taken stands =
        let one = so.stay taken old.doubt stands (λ is. subst (λ (it : TakeAnswer). IsDecision it) is is_decision) (λ is. subst (λ (it : TakeAnswer). IsDecision it) is is_decision) in
        ⊎_elim (λ (w : WritesNext disks old new taken old.doubt next one.fate answer). absurd (never w.version w.can)) (λ (r : RefusesPatch old new old.doubt next answer). r.same) one.asks

  pub takes_on_one : (answer : TakeAnswer) → TakesPatch disks old new next answer → TakesNext (one_file disks) old new next answer
  takes_on_one answer so = record {
    decided = so.decided;
    terms_full = so.terms_full;
    terms = so.terms;
    applied = so.applied;
    refused = so.refused;
    untouched = so.untouched;
    same = λ taken stands never. nothing answer so never taken stands;
    doubt = so.doubt;
    took = took answer so;
    amid = λ taken stands told.
        weaker (HoldsDuring zone_number (checked_texts taken) (text_in old.doubt) next.text) (HoldsAmid zone_number (checked_texts taken) old.doubt (next ∷ []))
        (λ image holds. during (checked_texts taken) image old.doubt next holds) (disks.past old.disk) (disks.past new.disk)
        (any_moment disks old new next answer so.stay so.untouched told taken old.doubt stands);
    went = so.went;
    limits = so.limits;
  }
