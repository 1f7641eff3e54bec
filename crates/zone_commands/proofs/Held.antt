-- What is read of the disks of a zone on two files is a zone's.
use Rattle.std.proofs.Common.{◌≡◌, ◌⊎◌, inl, inr, ℕ, Bool, true, false, List, Option, None, Some, sym, subst, ◌∙◌}
use Rattle.std.specs.Prelude.{if◌then◌else◌}
use Rattle.log_base.specs.declared.limits.LogLimits.{LogLimits}
use Rattle.log_base.specs.declared.limits.TheConstants.{LOG_LIMITS}
use Rattle.disk_model.specs.declared.disk.Disk.{Ghosts}
use Rattle.disk_model.specs.Past.{MayLeave, reads}
use Rattle.patch_meaning.specs.Checked.{CheckedPatch}
use Rattle.checkpoint_text.specs.Brief.{Brief}
use Rattle.zone_files.specs.Generation.{number_of}
use Rattle.zone_pairs.specs.Briefs.{with_patch}
use Rattle.zone_pairs.specs.Pair.{IsNextBrief, IsWithin, MayBeTaken, PairPoint, ZoneHolds, ZoneHoldsByRole, payloads_at}
use Rattle.zone_pairs.proofs.Together.{without_new}
use Rattle.paired_zone.specs.Zone.{PairedView, StandsAt, first_in, second_in}
use Rattle.paired_zone.proofs.Standing.{file_images}
use Rattle.zone_commands.specs.Files.{AreZoneFiles}

-- the files are those of a zone with the brief, or of one with the patch in doubt too
abbrev pub AreLeft : List ℕ → List ℕ → Brief → Option CheckedPatch → Type 0
AreLeft first second brief doubt = AreZoneFiles first second brief
    ⊎ ((one : CheckedPatch) × (doubt ≡ Some one) × AreZoneFiles first second (with_patch brief one))

module _ {D : Type 0} (disks : Ghosts D) where
  -- the current file and the other as the first and the second
  in_order : (b : Bool) (current other : D) (brief : Brief) → ZoneHoldsByRole b (reads (disks.past current)) (reads (disks.past other)) brief
      → ZoneHolds (reads (disks.past (if b then other else current))) (reads (disks.past (if b then current else other))) brief
  in_order true current other brief held = held
  in_order false current other brief held = held

  module _ (zone : PairedView D) (point : PairPoint) (at : StandsAt disks zone point) (limits : zone.limits ≡ LOG_LIMITS) (tell : disks.tells) (left : (d : D) → MayLeave (disks.past d) (reads (disks.past d))) where
    by_role : (next : Brief) × IsNextBrief zone.brief point.doubt None next × ZoneHoldsByRole point.second (reads (disks.past zone.current)) (reads (disks.past zone.other)) next
    by_role =
        let s = at.stands in
        without_new point zone.brief s.start_is s.in_first s.checked s.take zone.limits point.doubt None (reads (disks.past zone.current)) (reads (disks.past zone.other)) s.doubtful
        (file_images (disks.past zone.current) (number_of point.second) (payloads_at point) point.doubt (s.on_current tell) (reads (disks.past zone.current)) (left zone.current))
        (s.on_other tell (reads (disks.past zone.other)) (left zone.other))

    held_in_order : (next : Brief) → ZoneHoldsByRole point.second (reads (disks.past zone.current)) (reads (disks.past zone.other)) next
        → ZoneHolds (reads (disks.past (first_in zone))) (reads (disks.past (second_in zone))) next
    held_in_order next held = in_order zone.second zone.current zone.other next (subst (λ (b : Bool). ZoneHoldsByRole b (reads (disks.past zone.current)) (reads (disks.past zone.other)) next) at.second_is held)

    doubt_within : (doubt : Option CheckedPatch) (one : CheckedPatch) → doubt ≡ Some one → MayBeTaken zone.limits zone.brief doubt → IsWithin zone.limits (with_patch zone.brief one)
    doubt_within None one is may = absurd cc
    doubt_within (Some doubt) one is may = let same : doubt ≡ one = cc in subst (λ (p : CheckedPatch). IsWithin zone.limits (with_patch zone.brief p)) same may.2

    pub left_files : AreLeft (reads (disks.past (first_in zone))) (reads (disks.past (second_in zone))) zone.brief zone.doubt
    left_files = by by_role.0 by_role.1 (held_in_order by_role.0 by_role.2)
      where
        first : List ℕ
        first = reads (disks.past (first_in zone))

        second : List ℕ
        second = reads (disks.past (second_in zone))

        within : (brief : Brief) → IsWithin zone.limits brief → IsWithin LOG_LIMITS brief
        within brief is = subst (λ (l : LogLimits). IsWithin l brief) limits is

        by : (next : Brief) → IsNextBrief zone.brief point.doubt None next → ZoneHolds first second next → AreLeft first second zone.brief zone.doubt
        by next (inl same) held = inl (record { hold = subst (λ (b : Brief). ZoneHolds first second b) same held; within = within zone.brief at.stands.within })
        by next (inr (one, (inl doubtful), same)) held =
            inr (one, sym at.doubt_is ∙ doubtful, record { hold = subst (λ (b : Brief). ZoneHolds first second b) same held; within = within (with_patch zone.brief one) (doubt_within point.doubt one doubtful at.stands.doubtful) })
        by next (inr (one, (inr new), same)) held = absurd cc

    -- with none in doubt
    pub settled_files : zone.doubt ≡ None → AreZoneFiles (reads (disks.past (first_in zone))) (reads (disks.past (second_in zone))) zone.brief
    settled_files none = by left_files
      where
        by : AreLeft (reads (disks.past (first_in zone))) (reads (disks.past (second_in zone))) zone.brief zone.doubt → AreZoneFiles (reads (disks.past (first_in zone))) (reads (disks.past (second_in zone))) zone.brief
        by (inl files) = files
        by (inr (one, is, files)) = absurd (let never : None ≡ Some one = sym none ∙ is in cc)
