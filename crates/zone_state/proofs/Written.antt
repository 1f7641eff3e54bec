-- What a zone stands for behind the write of its next patch.
use Rattle.std.proofs.Common.{◌≡◌, inl, inr, ℕ, ◌+◌, ◌-◌, ◌≤◌, ◌<◌, ◌^◌, false, List, [], ◌∷◌, ◌++◌, map, length, Option, Some, None, refl, sym, ◌∙◌, ap, subst, arith, length-append}
use Rattle.std.specs.Prelude.{is_none}
use Rattle.std.proofs.lemmas.List.{length-map}
use Rattle.disk_model.specs.declared.disk.Disk.{Ghosts}
use Rattle.log_base.specs.declared.phase.Phase.{Phase}
use Rattle.log_base.specs.declared.phase.Phase.TheVariants.{Settling}
use Rattle.log_journal.specs.declared.journal.Journal.{Journal}
use Rattle.log_journal.specs.StandsFor.{length_of, limit_of, count_of, is_settled, disk_of}
use Rattle.log_journal.specs.Writing.{StandsWith, payloads_left, doubt_left, longer_by}
use Rattle.log_journal.specs.Written.{Written}
use Rattle.log_base.specs.declared.limits.LogLimits.{LogLimits}
use Rattle.log_base.specs.declared.limits.TheConstants.{PAYLOAD_FRAME}
use Rattle.chain_core.specs.declared.fate.Fate.TheVariants.{Done}
use Rattle.chain_core.specs.Stay.{fate_of}
use Rattle.patch_meaning.specs.Checked.{CheckedPatch, checked_texts}
use Rattle.patch_meaning.specs.Patch.{IsPatch}
use Rattle.patch_log.specs.Log.{bare}
use Rattle.zone_state.specs.declared.answer.TakeAnswer.{TakeAnswer}
use Rattle.zone_state.specs.declared.answer.TakeAnswer.TheVariants.{Applied}
use Rattle.zone_state.specs.declared.kept.Kept.{Kept}
use Rattle.chain_core.specs.Ids.{version_among}
use Rattle.zone_state.specs.Brief.{Brief, brief_of, with_patch, file_length}
use Rattle.zone_state.specs.Taking.{taking, taken_by, TakeStay}
use Rattle.zone_state.specs.Zone.{ZoneView, AreTakenPatches, StandsForZone, zone_number, doubt_of, text_in, zone_point}
use Rattle.zone_state.specs.State.{brief_in, view_of, IsZoneKept}
use Rattle.zone_state.specs.Stay.{decided, answer_by, TookOne}
use Rattle.zone_state.proofs.Decisions.{CanBeTaken, can_be_taken, IsRefused}
use Rattle.zone_state.proofs.Growing.{brief-push, taken-push}
use Rattle.zone_state.proofs.Readings.{texts_short}
use Rattle.zone_state.proofs.Standing.{taken_after, outcome_is, without_after, having_after, counted_by, journal_stands, zone_stands, stands_after}
use Rattle.delta_base.specs.declared.id.Id.{Id}
use Rattle.rdf_terms.specs.Dataset.{apply}

-- what is kept behind a write
abbrev pub brief_after : Option Phase → Brief → CheckedPatch → Brief
brief_after None brief patch = with_patch brief patch
brief_after (Some phase) brief patch = brief

-- what a write says of a journal
abbrev pub Carries : {D : Type 0} {disks : Ghosts D} → Journal D disks → Journal D disks → Option Phase → List ℕ → Type 0
Carries old new end payload = (number : ℕ) (payloads : List (List ℕ)) (doubt : Option (List ℕ)) → StandsWith old number payloads doubt → StandsWith new number (payloads_left end payloads payload) (doubt_left end doubt payload)

-- a journal is settled where no patch is in doubt
settled_by : {D : Type 0} {disks : Ghosts D} (journal : Journal D disks) (payloads : List (List ℕ)) (doubt : Option CheckedPatch) → StandsWith journal zone_number payloads (text_in doubt) → is_settled journal ≡ is_none doubt
settled_by journal payloads None stands = stands.0
settled_by journal payloads (Some doubt) stands = stands.0

module _ {D : Type 0} {disks : Ghosts D} (journal : Journal D disks) (kept : Kept) (limits : LogLimits) (doubtful : Option CheckedPatch) (is : IsZoneKept journal kept limits doubtful) where
  abbrev ids : List Id
  ids = kept.ids.items

  -- before a write
  pub journal_is : (taken : List CheckedPatch) (doubt : Option CheckedPatch) → StandsForZone disks.tells (disks.past (disk_of journal)) (view_of journal kept limits doubtful) taken doubt → StandsWith journal zone_number (checked_texts taken) (text_in doubt)
  journal_is taken doubt stands = journal_stands journal (view_of journal kept limits doubtful) taken doubt is.settled_is is.counted is.length_is stands

  -- the bytes of the texts are a number that is far from the last one
  pub small : kept.bytes < 2 ^ 63
  small =
      let taken = is.stands.0 in
      let stands = is.stands.1 in
      omega (arith, texts_short taken stands.without.checked, ap (λ (b : Brief). b.bytes) stands.brief_is, stands.without.log.few, length-map taken bare, is.countable)

  -- another journal that stands for the same
  module _ (new : Journal D disks) (stands : (number : ℕ) (payloads : List (List ℕ)) (doubt : Option (List ℕ)) → StandsWith journal number payloads doubt → StandsWith new number payloads doubt) (length_is : length_of new ≡ length_of journal)
      (limit_is : limit_of new ≡ limit_of journal) where
    there : StandsWith new zone_number (checked_texts is.stands.0) (text_in doubtful)
    there = stands zone_number (checked_texts is.stands.0) (text_in doubtful) (journal_is is.stands.0 doubtful is.stands.1)

    pub kept_still : IsZoneKept new kept limits doubtful
    kept_still =
        let before = is.stands.1 in
        record {
          counted = counted_by new is.stands.0 doubtful there ∙ sym (ap (λ (brief : Brief). length brief.ids) before.brief_is);
          length_is = length_is ∙ is.length_is;
          limit_is = limit_is ∙ is.limit_is;
          settled_is = settled_by new (checked_texts is.stands.0) doubtful there;
          countable = is.countable;
          unstaged = is.unstaged;
          stands = (is.stands.0, zone_stands new (view_of new kept limits doubtful) is.stands.0 doubtful refl (length_is ∙ is.length_is) before.brief_is before.without before.having there);
        }

  module _ (patch : CheckedPatch) (version : ℕ) (decided_so : Applied version ≡ taking kept.ids.items kept.bytes (bare patch) limits) where
    next : taking kept.ids.items kept.bytes (bare patch) limits ≡ Applied version
    next = sym decided_so

    can : CanBeTaken kept.ids.items kept.bytes (bare patch) limits
    can = (can_be_taken kept.ids.items kept.bytes (bare patch) limits version next).0

    pub is_new : version_among kept.ids.items patch.meaning.id ≡ None
    is_new = can.new

    pub countable_more : length kept.ids.items + 1 < 2 ^ 32
    countable_more = omega (arith, can.places, is.countable)

    pub numbered : count_of journal < 2 ^ 32 - 1
    numbered = omega (arith, is.counted, countable_more)

    pub room : (payload : List ℕ) → payload ≡ patch.text → length_of journal + PAYLOAD_FRAME + length payload ≤ limit_of journal
    room payload payload_is = omega (arith, can.room, is.length_is, is.limit_is, ap length payload_is)

    more : (taken : List CheckedPatch) → IsPatch patch.text patch.meaning → AreTakenPatches limits taken → brief_in kept ≡ brief_of taken → AreTakenPatches limits (taken ++ patch ∷ [])
    more taken checked are brief = taken-push limits taken patch are checked (subst (λ (b : Brief). CanBeTaken b.ids b.bytes (bare patch) limits) brief can)

    module _ (end : Option Phase) (new : Journal D disks) (kept_new : Kept) (left : Option CheckedPatch) (left_is : left ≡ doubt_left end doubtful patch) (checked : IsPatch patch.text patch.meaning) (payload : List ℕ) (payload_is : payload ≡ patch.text) (brief_is : brief_in kept_new ≡ brief_after end (brief_in kept) patch)
        (carries : Carries journal new end payload) (length_is : length_of new ≡ length_of journal + longer_by end (length payload)) where
      file_after : (end : Option Phase) → brief_in kept_new ≡ brief_after end (brief_in kept) patch → file_length kept_new.ids.items kept_new.bytes ≡ file_length kept.ids.items kept.bytes + longer_by end (length patch.text)
      file_after None same = omega (arith, ap (λ (b : Brief). length b.ids) same, ap (λ (b : Brief). b.bytes) same, length-append kept.ids.items (patch.meaning.id ∷ []))
      file_after (Some phase) same = omega (arith, ap (λ (b : Brief). length b.ids) same, ap (λ (b : Brief). b.bytes) same)

      longer_is : longer_by end (length payload) ≡ longer_by end (length patch.text)
      longer_is = ap (λ (text : List ℕ). longer_by end (length text)) payload_is

      pub length_written : length_of new ≡ file_length kept_new.ids.items kept_new.bytes
      length_written = omega (arith, length_is, longer_is, is.length_is, file_after end brief_is)

      brief_written : (end : Option Phase) (taken : List CheckedPatch) → brief_in kept ≡ brief_of taken → brief_after end (brief_in kept) patch ≡ brief_of (taken_after end version taken patch)
      brief_written None taken same = ap (λ (b : Brief). with_patch b patch) same ∙ sym (brief-push taken patch)
      brief_written (Some phase) taken same = same

      -- the journal stands for what is left
      carried : (taken : List CheckedPatch) (doubt : Option CheckedPatch) → StandsForZone disks.tells (disks.past (disk_of journal)) (view_of journal kept limits doubtful) taken doubt
          → StandsWith new zone_number (checked_texts (taken_after end version taken patch)) (text_in (doubt_left end doubt patch))
      carried taken doubt stands = stands_after end version new taken doubt patch
          (subst (λ (text : List ℕ). StandsWith new zone_number (payloads_left end (checked_texts taken) text) (doubt_left end (text_in doubt) text)) payload_is (carries zone_number (checked_texts taken) (text_in doubt) (journal_is taken doubt stands)))

      -- the patch in doubt is that of the zone
      same_left : (doubt : Option CheckedPatch) → doubtful ≡ doubt → left ≡ doubt_left end doubt patch
      same_left doubt same = left_is ∙ ap (λ (d : Option CheckedPatch). doubt_left end d patch) same

      stands_left : (taken : List CheckedPatch) (doubt : Option CheckedPatch) → StandsForZone disks.tells (disks.past (disk_of journal)) (view_of journal kept limits doubtful) taken doubt
          → StandsForZone disks.tells (disks.past (disk_of new)) (view_of new kept_new limits left) (taken_after end version taken patch) (doubt_left end doubt patch)
      stands_left taken doubt stands =
          let longer = more taken checked stands.without stands.brief_is in
          zone_stands new (view_of new kept_new limits left) (taken_after end version taken patch) (doubt_left end doubt patch) (same_left doubt stands.doubt_is) length_written (brief_is ∙ brief_written end taken stands.brief_is)
          (without_after limits end version taken patch stands.without longer) (having_after limits end version taken doubt patch stands.without stands.having longer) (carried taken doubt stands)

      pub stands_written : (taken : List CheckedPatch) (doubt : Option CheckedPatch) → StandsForZone disks.tells (disks.past (disk_of journal)) (view_of journal kept limits doubtful) taken doubt
          → StandsForZone disks.tells (disks.past (disk_of new)) (view_of new kept_new limits left) (taken_after end version taken patch) left
      stands_written taken doubt stands = subst (λ (d : Option CheckedPatch). StandsForZone disks.tells (disks.past (disk_of new)) (view_of new kept_new limits left) (taken_after end version taken patch) d)
          (sym (same_left doubt stands.doubt_is)) (stands_left taken doubt stands)

      pub kept_written : limit_of new ≡ limit_of journal → kept_new.contents.staged ≡ None → IsZoneKept new kept_new limits left
      kept_written limit unstaged =
          let taken = is.stands.0 in
          let before = is.stands.1 in
          let there = carried taken doubtful before in
          record {
            counted = counted_by new (taken_after end version taken patch) (doubt_left end doubtful patch) there ∙ sym (ap (λ (brief : Brief). length brief.ids) (brief_is ∙ brief_written end taken before.brief_is));
            length_is = length_written;
            limit_is = limit ∙ is.limit_is;
            settled_is = settled_by new (checked_texts (taken_after end version taken patch)) (doubt_left end doubtful patch) there ∙ sym (ap is_none left_is);
            countable = is.countable;
            unstaged = unstaged;
            stands = (taken_after end version taken patch, stands_written taken doubtful before);
          }

      -- the stay that it was
      pub took_written : (taken : List CheckedPatch) (doubt : Option CheckedPatch) → StandsForZone disks.tells (disks.past (disk_of journal)) (view_of journal kept limits doubtful) taken doubt
          → (end ≡ Some Settling → is_settled journal ≡ false) → Written disks (disk_of journal) (disk_of new) zone_number (checked_texts taken) (text_in doubt) payload end
          → TookOne disks (view_of journal kept limits doubtful) (view_of new kept_new limits left) taken doubt patch (answer_by end version)
      took_written taken doubt stands settling written =
          let outcome = outcome_is end taken doubt patch version (λ failed. sym (ap is_none stands.doubt_is) ∙ sym is.settled_is ∙ settling failed) in
          let comes = ap (λ (d : TakeAnswer). taken_by d (fate_of end) (map bare taken) (doubt_of doubt) (bare patch)) next ∙ outcome in
          record {
            stands = stands_written taken doubt stands;
            fate = fate_of end;
            stay = subst (λ (d : Option CheckedPatch). TakeStay (taking kept.ids.items kept.bytes (bare patch) limits) (map bare taken) (doubt_of doubt) (bare patch) (fate_of end) (zone_point (taken_after end version taken patch) d) (answer_by end version))
                (sym (same_left doubt stands.doubt_is)) comes;
            asks = inl (record {
              version = version;
              can = next;
              end = end;
              fate_is = refl;
              answer_is = refl;
              doubt_is = same_left doubt stands.doubt_is;
              written = subst (λ (text : List ℕ). Written disks (disk_of journal) (disk_of new) zone_number (checked_texts taken) (text_in doubt) text end) payload_is written;
            });
          }

-- what is refused is a stay that changes nothing
pub took_nothing : {D : Type 0} {disks : Ghosts D} (zone : ZoneView D) (taken : List CheckedPatch) (doubt : Option CheckedPatch) (patch : CheckedPatch) (answer : TakeAnswer) → StandsForZone disks.tells (disks.past zone.disk) zone taken doubt → IsRefused answer
    → answer ≡ decided zone patch → TookOne disks zone zone taken doubt patch answer
took_nothing {D} {disks} zone taken doubt patch answer stands told made =
    let same = sym (told.same taken patch) in
    record {
      stands = subst (λ (z : List CheckedPatch × Option CheckedPatch). StandsForZone disks.tells (disks.past zone.disk) zone z.0 z.1) (λ i. (same i, sym stands.doubt_is i)) stands;
      fate = Done;
      stay = subst (λ (z : List CheckedPatch × Option CheckedPatch). TakeStay (decided zone patch) (map bare taken) (doubt_of doubt) (bare patch) Done (zone_point z.0 z.1) answer) (λ i. (same i, sym stands.doubt_is i))
          (subst (λ (d : TakeAnswer). taken_by d Done (map bare taken) (doubt_of doubt) (bare patch) ≡ (zone_point taken doubt, Some answer)) made (told.outcome Done (map bare taken) (doubt_of doubt) (bare patch)));
      asks = inr (record { told = made; never = told.no_version; same = refl; doubt_is = stands.doubt_is });
    }

-- ---- what is kept, field by field

pub brief_counted : (kept new : Kept) (patch : CheckedPatch) → new.ids.items ≡ kept.ids.items ++ patch.meaning.id ∷ [] → new.bytes ≡ kept.bytes + length patch.text → new.contents.contents ≡ apply patch.meaning.changes kept.contents.contents
    → brief_in new ≡ with_patch (brief_in kept) patch
brief_counted kept new patch ids bytes contents = λ i. record { ids = ids i; bytes = bytes i; contents = contents i }

pub brief_same : (kept new : Kept) → new.ids.items ≡ kept.ids.items → new.bytes ≡ kept.bytes → new.contents.contents ≡ kept.contents.contents → brief_in new ≡ brief_in kept
brief_same kept new ids bytes contents = λ i. record { ids = ids i; bytes = bytes i; contents = contents i }

-- what is kept may know more terms
pub terms_known : {D : Type 0} {disks : Ghosts D} (journal : Journal D disks) (kept new : Kept) (limits : LogLimits) (doubt : Option CheckedPatch) → new.ids.items ≡ kept.ids.items → new.bytes ≡ kept.bytes → new.contents.contents ≡ kept.contents.contents
    → view_of journal new limits doubt ≡ record (view_of journal kept limits doubt) { terms = new.contents.terms }
terms_known journal kept new limits doubt ids bytes contents =
    let brief = brief_same kept new ids bytes contents in
    λ i. record { brief = brief i; terms = new.contents.terms; doubt = doubt; limits = limits; disk = disk_of journal }
