-- What a zone stands for, when a write was done or failed.
use Rattle.std.proofs.Common.{◌≡◌, inl, ℕ, zero, suc, true, false, List, [], ◌∷◌, ◌++◌, map, length, Option, Some, None, refl, sym, ◌∙◌, ap, subst}
use Rattle.std.specs.Prelude.{is_none}
use Rattle.std.proofs.lemmas.List.{length-map}
use Rattle.disk_model.specs.declared.disk.Disk.{Ghosts}
use Rattle.disk_model.specs.Past.{Past, LeavesOnly}
use Rattle.disk_model.proofs.Moments.{starts}
use Rattle.log_base.specs.Phases.{phase_by_syncs, phase_by_plan}
use Rattle.log_base.specs.declared.phase.Phase.{Phase}
use Rattle.log_base.specs.declared.phase.Phase.TheVariants.{Settling, Body, Gate}
use Rattle.log_journal.specs.declared.journal.Journal.{Journal}
use Rattle.log_journal.specs.Journal.{HoldsAll, InDoubt}
use Rattle.log_journal.specs.StandsFor.{length_of, count_of, is_settled, disk_of}
use Rattle.log_journal.specs.Writing.{StandsWith, HoldsDuring, payloads_left, doubt_left, LeavesEither}
use Rattle.log_journal.proofs.Steps.{either}
use Rattle.log_base.specs.declared.limits.LogLimits.{LogLimits}
use Rattle.chain_core.specs.Patches.{texts_of}
use Rattle.chain_core.specs.Stay.{fate_of, fate_by_syncs, fate_by_plan}
use Rattle.patch_meaning.specs.Checked.{CheckedPatch, checked_texts}
use Rattle.patch_log.specs.Log.{bare}
use Rattle.zone_state.specs.Log.{patch_payload}
use Rattle.zone_state.specs.declared.answer.TakeAnswer.TheVariants.{Applied}
use Rattle.zone_state.specs.Brief.{Brief, brief_of, id_taken, file_length}
use Rattle.zone_state.specs.Taking.{taken_by, taken_then}
use Rattle.zone_state.specs.Zone.{ZoneView, AreTakenPatches, StandsForZone, zone_number, doubt_of, text_in, zone_point}
use Rattle.zone_state.specs.Stay.{answer_by}
use Rattle.log_base.specs.OneMore.{with_one_more}
use Rattle.zone_state.proofs.Growing.{bare_texts, texts-push, bare-push}

-- ---- what is left behind a write

abbrev pub taken_after : Option Phase → ℕ → List CheckedPatch → CheckedPatch → List CheckedPatch
taken_after end version taken patch = taken_then (answer_by end version) taken patch

-- the outcome is that of the fate that the write came to
pub outcome_is : (end : Option Phase) (taken : List CheckedPatch) (doubt : Option CheckedPatch) (patch : CheckedPatch) (version : ℕ) → (end ≡ Some Settling → is_none doubt ≡ false)
    → taken_by (Applied version) (fate_of end) (map bare taken) (doubt_of doubt) (bare patch) ≡ (zone_point (taken_after end version taken patch) (doubt_left end doubt patch), Some (answer_by end version))
outcome_is None taken doubt patch version settling = rw (bare-push taken patch) refl
outcome_is (Some Settling) taken None patch version settling = absurd (true_or_false (settling refl))
  where
    true_or_false : true ≡ false → ⊥
    true_or_false same = cc
outcome_is (Some Settling) taken (Some doubt) patch version settling = refl
outcome_is (Some Body) taken doubt patch version settling = refl
outcome_is (Some Gate) taken doubt patch version settling = refl

-- the text in doubt tells as much as the patch
pub same_fate : (doubt : Option CheckedPatch) (syncs : ℕ) → fate_of (phase_by_syncs (text_in doubt) syncs) ≡ fate_by_syncs doubt syncs
same_fate None zero = refl
same_fate None (suc zero) = refl
same_fate None (suc (suc n)) = refl
same_fate (Some patch) zero = refl
same_fate (Some patch) (suc zero) = refl
same_fate (Some patch) (suc (suc zero)) = refl
same_fate (Some patch) (suc (suc (suc n))) = refl

pub same_plan : (doubt : Option CheckedPatch) (plan : Option ℕ) → fate_of (phase_by_plan (text_in doubt) plan) ≡ fate_by_plan doubt plan
same_plan doubt None = refl
same_plan doubt (Some syncs) = same_fate doubt syncs

pub payloads_are : (end : Option Phase) (version : ℕ) (taken : List CheckedPatch) (patch : CheckedPatch) → payloads_left end (checked_texts taken) patch.text ≡ checked_texts (taken_after end version taken patch)
payloads_are None version taken patch = sym (texts-push taken patch)
payloads_are (Some phase) version taken patch = refl

pub doubts_are : (end : Option Phase) (doubt : Option CheckedPatch) (patch : CheckedPatch) → doubt_left end (text_in doubt) patch.text ≡ text_in (doubt_left end doubt patch)
doubts_are None doubt patch = refl
doubts_are (Some Settling) doubt patch = refl
doubts_are (Some Body) doubt patch = refl
doubts_are (Some Gate) doubt patch = refl

pub without_after : (limits : LogLimits) (end : Option Phase) (version : ℕ) (taken : List CheckedPatch) (patch : CheckedPatch) → AreTakenPatches limits taken → AreTakenPatches limits (taken ++ patch ∷ []) → AreTakenPatches limits (taken_after end version taken patch)
without_after limits None version taken patch less more = more
without_after limits (Some phase) version taken patch less more = less

pub having_after : (limits : LogLimits) (end : Option Phase) (version : ℕ) (taken : List CheckedPatch) (doubt : Option CheckedPatch) (patch : CheckedPatch) → AreTakenPatches limits taken → AreTakenPatches limits (with_one_more taken doubt) → AreTakenPatches limits (taken ++ patch ∷ [])
    → AreTakenPatches limits (with_one_more (taken_after end version taken patch) (doubt_left end doubt patch))
having_after limits None version taken doubt patch less having more = more
having_after limits (Some Settling) version taken doubt patch less having more = having
having_after limits (Some Body) version taken doubt patch less having more = less
having_after limits (Some Gate) version taken doubt patch less having more = more

-- ---- the journal and the zone

texts_counted : (taken : List CheckedPatch) → length (brief_of taken).ids ≡ length (checked_texts taken)
texts_counted taken = length-map taken id_taken ∙ sym (length-map taken (λ patch. patch.text))

module _ {D : Type 0} {disks : Ghosts D} where
  -- there is an id for each payload of its journal
  pub counted_by : (journal : Journal D disks) (taken : List CheckedPatch) (doubt : Option CheckedPatch) → StandsWith journal zone_number (checked_texts taken) (text_in doubt) → count_of journal ≡ length (brief_of taken).ids
  counted_by journal taken None stands = stands.2 ∙ sym (texts_counted taken)
  counted_by journal taken (Some doubt) stands = stands.2 ∙ sym (texts_counted taken)

  -- the journal of a zone stands for the texts
  pub journal_stands : (journal : Journal D disks) (zone : ZoneView D) (taken : List CheckedPatch) (doubt : Option CheckedPatch) → is_settled journal ≡ is_none zone.doubt → count_of journal ≡ length zone.brief.ids → length_of journal ≡ file_length zone.brief.ids zone.brief.bytes
      → StandsForZone disks.tells (disks.past (disk_of journal)) zone taken doubt → StandsWith journal zone_number (checked_texts taken) (text_in doubt)
  journal_stands journal zone taken None settled counted is stands =
      (settled ∙ ap is_none stands.doubt_is, λ told. subst (λ (end : ℕ). HoldsAll (disks.past (disk_of journal)) end zone_number (checked_texts taken)) (sym is) (stands.on_disk told), counted ∙ ap (λ (brief : Brief). length brief.ids) stands.brief_is ∙ texts_counted taken)
  journal_stands journal zone taken (Some doubt) settled counted is stands =
      (settled ∙ ap is_none stands.doubt_is, λ told. subst (λ (end : ℕ). InDoubt (disks.past (disk_of journal)) end zone_number (checked_texts taken) doubt.text) (sym is) (stands.on_disk told), counted ∙ ap (λ (brief : Brief). length brief.ids) stands.brief_is ∙ texts_counted taken)

  -- and the other way round
  pub zone_stands : (journal : Journal D disks) (zone : ZoneView D) (taken : List CheckedPatch) (doubt : Option CheckedPatch) → zone.doubt ≡ doubt → length_of journal ≡ file_length zone.brief.ids zone.brief.bytes
      → zone.brief ≡ brief_of taken → AreTakenPatches zone.limits taken → AreTakenPatches zone.limits (with_one_more taken doubt) → StandsWith journal zone_number (checked_texts taken) (text_in doubt)
      → StandsForZone disks.tells (disks.past (disk_of journal)) zone taken doubt
  zone_stands journal zone taken None doubt_is is brief without having stands = record {
    brief_is = brief;
    doubt_is = doubt_is;
    without = without;
    having = having;
    on_disk = λ told. subst (λ (end : ℕ). HoldsAll (disks.past (disk_of journal)) end zone_number (checked_texts taken)) is (stands.1 told);
  }
  zone_stands journal zone taken (Some doubt) doubt_is is brief without having stands = record {
    brief_is = brief;
    doubt_is = doubt_is;
    without = without;
    having = having;
    on_disk = λ told. subst (λ (end : ℕ). InDoubt (disks.past (disk_of journal)) end zone_number (checked_texts taken) doubt.text) is (stands.1 told);
  }

  -- behind a write the journal stands for what is left
  pub stands_after : (end : Option Phase) (version : ℕ) (new : Journal D disks) (taken : List CheckedPatch) (doubt : Option CheckedPatch) (patch : CheckedPatch)
      → StandsWith new zone_number (payloads_left end (checked_texts taken) patch.text) (doubt_left end (text_in doubt) patch.text) → StandsWith new zone_number (checked_texts (taken_after end version taken patch)) (text_in (doubt_left end doubt patch))
  stands_after end version new taken doubt patch stands =
      subst (λ (d : Option (List ℕ)). StandsWith new zone_number (checked_texts (taken_after end version taken patch)) d) (doubts_are end doubt patch)
      (subst (λ (ps : List (List ℕ)). StandsWith new zone_number ps (doubt_left end (text_in doubt) patch.text)) (payloads_are end version taken patch) stands)

-- ---- images as planned

in_doubt : (doubt : Option CheckedPatch) → patch_payload (doubt_of doubt) ≡ text_in doubt
in_doubt None = refl
in_doubt (Some patch) = refl

pub leaves_is : (past : Past) (taken : List CheckedPatch) (doubt : Option CheckedPatch) → LeavesEither past zone_number (checked_texts taken) (text_in doubt) ≡ LeavesEither past zone_number (texts_of (map bare taken)) (patch_payload (doubt_of doubt))
leaves_is past taken doubt =
    ap (λ (ts : List (List ℕ)). LeavesEither past zone_number ts (text_in doubt)) (sym (bare_texts taken))
    ∙ ap (λ (d : Option (List ℕ)). LeavesEither past zone_number (texts_of (map bare taken)) d) (sym (in_doubt doubt))

-- before any call
pub still : {D : Type 0} (disks : Ghosts D) (zone : ZoneView D) (taken : List CheckedPatch) (doubt : Option CheckedPatch) (text : List ℕ) → StandsForZone disks.tells (disks.past zone.disk) zone taken doubt → disks.tells
    → LeavesOnly (HoldsDuring zone_number (checked_texts taken) (text_in doubt) text) (disks.past zone.disk) (disks.past zone.disk)
still disks zone taken None text stands tells = starts (HoldsDuring zone_number (checked_texts taken) None text) (disks.past zone.disk) (λ image left. let all = stands.on_disk tells in inl (all.each image left))
still disks zone taken (Some doubt) text stands tells = starts (HoldsDuring zone_number (checked_texts taken) (Some doubt.text) text) (disks.past zone.disk) (λ image left.
    let all = stands.on_disk tells in
    inl (either (file_length zone.brief.ids zone.brief.bytes) zone_number (checked_texts taken) doubt.text all.doubt_sized all.few image all.sized (all.each image left)))
