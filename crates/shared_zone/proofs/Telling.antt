-- What a pass is told that only asks the zone.
use Rattle.std.proofs.Common.{◌≡◌, ℕ, ◌+◌, ◌^◌, ◌<◌, ◌≤◌, [], length, append-nil, ap, sym, ◌∙◌, subst, arith}
use Rattle.std.specs.Prelude.{Result, Ok, Err, IfOk, OnErr, map}
use Rattle.std.specs.List.{filter}
use Rattle.log_base.specs.declared.log_info.LogInfo.{LogInfo}
use Rattle.rdf_terms.specs.Line.{line}
use Rattle.disk_model.specs.declared.disk.Disk.{Ghosts}
use Rattle.chain_core.specs.declared.chain.Patch.{Patch}
use Rattle.chain_core.specs.Ids.{last_of}
use Rattle.patch_meaning.specs.Checked.{CheckedPatch}
use Rattle.dataset_tx.specs.Pattern.{matches}
use Rattle.dataset_tx.specs.declared.pattern.Pattern.{Pattern}
use Rattle.zone_state.specs.Zone.{doubt_of}
use Rattle.turn_cell.specs.Sights.{Made, Taken, IsGrownBy}
use Rattle.turn_cell.specs.Knowing.{IsQuiet, Wants, seen_of}
use Rattle.turn_cell.specs.Sharing.{IsPassOf, EntersTurn, LeavesTurn, FoundInTurn}
use Rattle.turn_cell.proofs.Staying as stay
use Rattle.shared_zone.specs.declared.answers.Shown.{Shown}
use Rattle.shared_zone.specs.declared.fixed.ZoneFixed.{ZoneFixed}
use Rattle.shared_zone.specs.History.{SharedZone, ZoneSight, ZoneStandsInTurn, zone_faults, brief_known, zone_fixed_of, shared_zone, version_seen}
use Rattle.shared_zone.specs.Legal.{LegalRead, LegalDescribe}

module _ {D : Type 0} (disks : Ghosts D) (made : Made (SharedZone D)) (p m q : ZoneSight) (held back : Taken CheckedPatch Patch ZoneFixed (SharedZone D)) (enters : EntersTurn (shared_zone disks) p held m) (leaves : LeavesTurn (shared_zone disks) m back q)
    (same_was : back.was ≡ held.was) (of : IsPassOf (shared_zone disks) made p) (as_found : back.value ≡ held.was) (quiet : IsQuiet m q) where
  came : stay.Finds (shared_zone disks) p held.was m
  came = stay.finds (shared_zone disks) p m held enters

  fixed : zone_fixed_of disks.mark held.was ≡ zone_fixed_of disks.mark made.origin
  fixed = stay.fixed_found (shared_zone disks) p m q held.was back came leaves same_was made of

  -- it looked, and did nothing else
  pub looked : Wants p q
  looked = stay.wants (shared_zone disks) p m q held.was back came leaves same_was (ap (λ (s : SharedZone D). s.history) as_found) quiet

  pub found_in_turn : FoundInTurn (shared_zone disks) made.origin p q
  found_in_turn = stay.stay_told (shared_zone disks) p m q held.was back came leaves same_was (λ found left. left ≡ found) made of as_found (ap (λ (s : SharedZone D). zone_fixed_of disks.mark s) as_found)

  -- what was asked is the zone that was found
  module _ (value : SharedZone D) (asked : value ≡ held.was) where
    base_is : value.base ≡ made.origin.base
    base_is = ap (λ (s : SharedZone D). s.base) asked ∙ ap (λ (f : ZoneFixed). f.base) fixed

    history_is : value.history ≡ seen_of q
    history_is = ap (λ (s : SharedZone D). s.history) (asked ∙ sym as_found) ∙ sym leaves.sees

    version_told : (version : ℕ) → version ≡ length value.base.ids + length value.history → version ≡ version_seen made.origin.base q
    version_told version e = e ∙ (λ i. length (base_is i).ids + length (history_is i))

    pub described : (info : LogInfo) → info.version ≡ length value.base.ids + length value.history → info.head ≡ last_of (brief_known value.base value.history).ids → LegalDescribe made.origin.base p info q
    described info version head = (looked, (version_told info.version version, head ∙ (λ i. last_of (brief_known (base_is i) (history_is i)).ids)))

    pub read : {E : Type 0} (pattern : Pattern) (result : Result Shown E) → IfOk result (λ (shown : Shown). shown.version ≡ length value.base.ids + length value.history)
        → IfOk result (λ (shown : Shown). shown.lines ≡ map line (filter (matches pattern) (brief_known value.base value.history).contents.quads)) → IfOk result (λ shown. LegalRead made.origin.base pattern p shown q)
    read pattern (Ok shown) version lines = (looked, (version_told shown.version version, lines ∙ (λ i. map line (filter (matches pattern) (brief_known (base_is i) (history_is i)).contents.quads))))
    read pattern (Err fault) version lines = tt

    pub wanting : {S E : Type 0} (result : Result S E) → OnErr result (Wants p q)
    wanting (Ok shown) = tt
    wanting (Err fault) = looked

-- ---- what the turn asks of a zone that is as it was found

module _ {D : Type 0} (disks : Ghosts D) (was left : SharedZone D) (stands : ZoneStandsInTurn disks was) (same : left ≡ was) where
  pub grown_none : (by : ℕ) → IsGrownBy by was.history left.history
  grown_none by = ([], ap (λ (s : SharedZone D). s.history) same ∙ sym (append-nil was.history), tt)

  pub fixed_none : zone_fixed_of disks.mark left ≡ zone_fixed_of disks.mark was
  fixed_none = ap (λ (s : SharedZone D). zone_fixed_of disks.mark s) same

  pub few_still : length left.base.ids + length left.history < 2 ^ 32
  few_still = subst (λ (s : SharedZone D). length s.base.ids + length s.history < 2 ^ 32) (sym same) stands.few

  pub faults_none : zone_faults disks was.zone ≤ zone_faults disks left.zone
  faults_none = let e = ap (λ (s : SharedZone D). zone_faults disks s.zone) same in omega (arith, e)

  pub all_none : (left.history ≡ was.history) × (zone_faults disks left.zone ≡ zone_faults disks was.zone) × (doubt_of left.zone.doubt ≡ doubt_of was.zone.doubt) × (zone_fixed_of disks.mark left ≡ zone_fixed_of disks.mark was)
  all_none = (ap (λ (s : SharedZone D). s.history) same, ap (λ (s : SharedZone D). zone_faults disks s.zone) same, ap (λ (s : SharedZone D). doubt_of s.zone.doubt) same, fixed_none)
