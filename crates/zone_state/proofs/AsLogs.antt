-- A zone takes what a log of the same patches accepts.
use Rattle.std.proofs.Common.{◌≡◌, ◌↔◌, ℕ, ◌+◌, true, false, ltb, List, ◌∷◌, [], map, length, Option, Some, None, refl, sym, ◌∙◌, ap, subst, arith}
use Rattle.std.specs.Prelude.{sum_by}
use Rattle.std.proofs.lemmas.List.{length-map}
use Rattle.std.proofs.lemmas.Bool.Decides.{nat_tests}
use Rattle.delta_base.specs.declared.id.Id.{Id}
use Rattle.log_base.specs.declared.limits.LogLimits.{LogLimits}
use Rattle.log_base.specs.declared.limits.TheConstants.{PAYLOAD_FRAME}
use Rattle.disk_model.specs.Past.{Past}
use Rattle.log_journal.specs.File.{Holds}
use Rattle.log_journal.specs.Journal.{HoldsWithOrWithout}
use Rattle.log_journal.proofs.Steps.{either}
use Rattle.chain_core.specs.declared.answer.Decision.{Decision}
use Rattle.chain_core.specs.declared.answer.Decision.TheVariants.{Accept, Known, Conflict, Full as IsFull}
use Rattle.chain_core.specs.declared.chain.Patch.{Patch}
use Rattle.chain_core.specs.declared.fate.Fate.{Fate}
use Rattle.chain_core.specs.Decision.{decision, same_id, first_found}
use Rattle.chain_core.specs.Log.{up}
use Rattle.chain_core.specs.Patches.{version_of}
use Rattle.chain_core.specs.Stay.{decided_by}
use Rattle.chain_core.proofs.Decided.{IsAcceptable, accepted, accepts, same_id-refl}
use Rattle.chain_core.proofs.Patches.{length-push}
use Rattle.patch_meaning.specs.Checked.{CheckedPatch, checked_texts}
use Rattle.patch_log.specs.Log.{bare}
use Rattle.zone_state.specs.Log.{IsSoundZoneLog, StandsForZoneFile}
use Rattle.zone_state.specs.declared.answer.TakeAnswer.{TakeAnswer}
use Rattle.zone_state.specs.declared.answer.TakeAnswer.TheVariants.{Applied, Diverged, Repeated, Full, TermsFull, OutOfMemory, DiskFault}
use Rattle.chain_core.specs.Ids.{last_of}
use Rattle.zone_state.specs.Brief.{id_taken, file_length}
use Rattle.zone_state.specs.Taking.{taking, taken_by}
use Rattle.zone_state.specs.Zone.{ZoneView, AreTakenPatches, StandsForZone, zone_number, doubt_of}
use Rattle.log_base.specs.OneMore.{with_one_more}
use Rattle.zone_state.proofs.Decisions.{CanBeTaken, can_be_taken, taking-new, taking-rest}
use Rattle.zone_state.proofs.Growing.{bare_versions, bare_last, bare_length, bare_texts, bare-push}
use Rattle.zone_state.proofs.Sound.{sound_checked}

found_none : (found : Option ℕ) → first_found found None ≡ None → found ≡ None
found_none None is = refl
found_none (Some version) is = absurd (cc)

module _ (taken : List CheckedPatch) (patch : Patch) (limits : LogLimits) where
  abbrev ids : List Id
  ids = map id_taken taken

  abbrev bytes : ℕ
  bytes = sum_by (λ (p : CheckedPatch). length p.text) taken

  abbrev chain : List Patch
  chain = map bare taken

  counts : length chain ≡ length ids
  counts = length-map taken bare ∙ sym (length-map taken id_taken)

  can_accept : CanBeTaken ids bytes patch limits → IsAcceptable chain (patch ∷ []) limits
  can_accept can = record {
    new = ap (λ (found : Option ℕ). first_found found None) (bare_versions taken patch.id ∙ can.new);
    follows = can.follows ∙ sym (bare_last taken);
    places = omega (arith, can.places, counts);
    room = omega (arith, can.room, length-push chain patch, bare_length taken);
  }

  can_take : IsAcceptable chain (patch ∷ []) limits → CanBeTaken ids bytes patch limits
  can_take can = record {
    new = sym (bare_versions taken patch.id) ∙ found_none (version_of chain patch.id) can.new;
    follows = can.follows ∙ bare_last taken;
    places = omega (arith, can.places, counts);
    room = omega (arith, can.room, length-push chain patch, bare_length taken);
  }

  takes : CanBeTaken ids bytes patch limits → taking ids bytes patch limits ≡ Applied (length ids + 1)
  takes can =
      let follows : same_id patch.prev (last_of ids) ≡ true = ap (λ (id : Option Id). same_id id (last_of ids)) can.follows ∙ same_id-refl (last_of ids) in
      let short : ltb limits.bytes (file_length ids bytes + (PAYLOAD_FRAME + length patch.text)) ≡ false = grind (arith, nat_tests, can.room) in
      taking-new ids bytes patch limits follows can.new ∙ taking-rest ids bytes patch limits false can.places short

  pub decided_alike : (version : ℕ) → (taking ids bytes patch limits ≡ Applied version) ↔ (decision chain patch limits ≡ Accept version)
  decided_alike version = (
    λ is. let can = can_be_taken ids bytes patch limits version is in accepts chain (patch ∷ []) limits (can_accept can.0) ∙ ap (λ (n : ℕ). Accept n) (ap (λ (n : ℕ). n + 1) counts ∙ sym can.1),
    λ is. let can = accepted chain (patch ∷ []) limits version is in takes (can_take can.0) ∙ ap (λ (n : ℕ). Applied n) (ap (λ (n : ℕ). n + 1) (sym counts) ∙ sym can.1),
  )

-- what a decision comes to, where both decide alike
module _ (fate : Fate) (chain : List Patch) (doubt : Option Patch) (patch : Patch) where
  not_accepted : (made : Decision) → ((version : ℕ) → made ≡ Accept version → ⊥) → (decided_by made fate chain doubt patch).0 ≡ up chain doubt
  not_accepted (Accept version) never = absurd (never version refl)
  not_accepted (Known version same) never = refl
  not_accepted (Conflict version head prev_version) never = refl
  not_accepted (IsFull what have limit) never = refl

  abbrev AreAlike : TakeAnswer → Decision → Type 0
  AreAlike answer made = (version : ℕ) → (answer ≡ Applied version) ↔ (made ≡ Accept version)

  pub stays_alike : (answer : TakeAnswer) (made : Decision) → AreAlike answer made → (taken_by answer fate chain doubt patch).0 ≡ (decided_by made fate chain doubt patch).0
  stays_alike (Applied version) made alike = ap (λ (m : Decision). (decided_by m fate chain doubt patch).0) (sym ((alike version).0 refl))
  stays_alike (Diverged have prev) made alike = sym (not_accepted made (λ version is. let no = (alike version).1 is in cc))
  stays_alike (Repeated known) made alike = sym (not_accepted made (λ version is. let no = (alike version).1 is in cc))
  stays_alike (Full what have limit) made alike = sym (not_accepted made (λ version is. let no = (alike version).1 is in cc))
  stays_alike TermsFull made alike = sym (not_accepted made (λ version is. let no = (alike version).1 is in cc))
  stays_alike OutOfMemory made alike = sym (not_accepted made (λ version is. let no = (alike version).1 is in cc))
  stays_alike DiskFault made alike = sym (not_accepted made (λ version is. let no = (alike version).1 is in cc))

pub taken_log : (limits : LogLimits) (taken : List CheckedPatch) → AreTakenPatches limits taken → IsSoundZoneLog limits (map bare taken)
taken_log limits taken are = record { log = are.log; sound = sound_checked taken are.checked }

-- the disk of a zone stands for the log of its patches
pub zone_log : {D : Type 0} (tells : Type 0) (past : Past) (zone : ZoneView D) (taken : List CheckedPatch) (doubt : Option CheckedPatch) → StandsForZone tells past zone taken doubt → tells
    → StandsForZoneFile past zone_number zone.limits (map bare taken) (doubt_of doubt)
zone_log tells past zone taken None stands told =
    let all = stands.on_disk told in
    record {
      each = λ image left. subst (λ (ts : List (List ℕ)). Holds image zone_number ts) (sym (bare_texts taken)) (all.each image left);
      without = taken_log zone.limits taken stands.without;
      having = taken_log zone.limits taken stands.without;
    }
zone_log tells past zone taken (Some doubt) stands told =
    let all = stands.on_disk told in
    record {
      each = λ image left. subst (λ (ts : List (List ℕ)). HoldsWithOrWithout zone_number ts doubt.text image) (sym (bare_texts taken))
          (either (file_length zone.brief.ids zone.brief.bytes) zone_number (checked_texts taken) doubt.text all.doubt_sized all.few image all.sized (all.each image left));
      without = taken_log zone.limits taken stands.without;
      having = subst (λ (ps : List Patch). IsSoundZoneLog zone.limits ps) (bare-push taken doubt) (taken_log zone.limits (with_one_more taken (Some doubt)) stands.having);
    }
