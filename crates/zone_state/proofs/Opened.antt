-- A zone as it was opened.
use Rattle.std.proofs.Common.{◌≡◌, ℕ, ◌^◌, ◌<◌, ◌≤◌, List, length, map, None, refl, sym, ◌∙◌, ap, subst, arith}
use Rattle.std.proofs.lemmas.List.{length-map}
use Rattle.disk_model.specs.declared.disk.Disk.{Ghosts}
use Rattle.log_journal.specs.declared.journal.Journal.{Journal}
use Rattle.log_base.specs.Journals.{payloads_length}
use Rattle.log_journal.specs.StandsFor.{StandsFor, length_of, limit_of, count_of, disk_of}
use Rattle.log_base.specs.declared.limits.LogLimits.{LogLimits}
use Rattle.chain_core.specs.Patches.{texts_of, journal_length}
use Rattle.patch_meaning.specs.Checked.{CheckedPatch}
use Rattle.patch_log.specs.Log.{bare}
use Rattle.zone_state.proofs.Sound.{sound_checked, sound_short}
use Rattle.zone_state.specs.declared.kept.Kept.{Kept}
use Rattle.zone_state.specs.Brief.{Brief, brief_of, file_length}
use Rattle.zone_state.specs.Next.{AreFoundPatches}
use Rattle.zone_state.specs.Zone.{AreTakenPatches, StandsForZone, zone_number}
use Rattle.zone_state.specs.State.{brief_in, view_of, IsZoneKept}
use Rattle.zone_state.proofs.Growing.{bare_texts, bare_length}
use Rattle.zone_state.proofs.Standing.{counted_by, zone_stands}

texts_are : (found : List (List ℕ)) (most : ℕ) (taken : List CheckedPatch) → AreFoundPatches found most taken → texts_of (map bare taken) ≡ found
texts_are found most taken are = bare_texts taken ∙ are.texts_are

-- the length of the file
length_found : (found : List (List ℕ)) (most : ℕ) (taken : List CheckedPatch) → AreFoundPatches found most taken → payloads_length found ≡ journal_length (map bare taken)
length_found found most taken are = ap payloads_length (sym (texts_are found most taken are))

-- what was found within the limits
pub taken_found : (found : List (List ℕ)) (limits : LogLimits) (taken : List CheckedPatch) → AreFoundPatches found limits.patches taken → payloads_length found ≤ limits.bytes → AreTakenPatches limits taken
taken_found found limits taken are fits = record {
  checked = are.checked;
  log = record {
    chain = are.chain;
    few = omega (arith, are.few, length-map taken bare);
    room = omega (arith, fits, length_found found limits.patches taken are);
    short = sound_short (map bare taken) (sound_checked taken are.checked);
  };
}

module _ {D : Type 0} {disks : Ghosts D} (journal : Journal D disks) (kept : Kept) (limits : LogLimits) (found : List (List ℕ)) (taken : List CheckedPatch) (are : AreFoundPatches found limits.patches taken) (brief : brief_in kept ≡ brief_of taken)
    (stands : StandsFor journal zone_number found) (length_is : length_of journal ≡ payloads_length found) (within : length_of journal ≤ limits.bytes) where
  pub length_opened : length_of journal ≡ file_length kept.ids.items kept.bytes
  length_opened = length_is ∙ length_found found limits.patches taken are ∙ bare_length taken ∙ sym (ap (λ (b : Brief). file_length b.ids b.bytes) brief)

  taken_opened : AreTakenPatches limits taken
  taken_opened = taken_found found limits taken are (omega (arith, length_is, within))

  pub zone_opened : StandsForZone disks.tells (disks.past (disk_of journal)) (view_of journal kept limits None) taken None
  zone_opened = zone_stands journal (view_of journal kept limits None) taken None refl length_opened brief taken_opened taken_opened (subst (λ (ts : List (List ℕ)). StandsFor journal zone_number ts) (sym are.texts_are) stands)

  counted_opened : count_of journal ≡ length kept.ids.items
  counted_opened = counted_by journal taken None (subst (λ (ts : List (List ℕ)). StandsFor journal zone_number ts) (sym are.texts_are) stands) ∙ sym (ap (λ (b : Brief). length b.ids) brief)

  pub kept_opened : limit_of journal ≡ limits.bytes → limits.patches < 2 ^ 32 → kept.contents.staged ≡ None → IsZoneKept journal kept limits None
  kept_opened limit_is countable unstaged = record { counted = counted_opened; length_is = length_opened; limit_is = limit_is; settled_is = stands.0; countable = countable; unstaged = unstaged; stands = (taken, zone_opened) }
