-- What a zone in a turn keeps, and that it stands behind an answer.
use Rattle.std.proofs.Common.{◌≡◌, ⊎_elim, ℕ, ◌+◌, ◌^◌, ◌<◌, List, [], ◌∷◌, ◌++◌, length, refl, sym, ◌∙◌, ap, subst, arith}
use Rattle.std.proofs.lemmas.List.{length_push, map-append}
use Rattle.disk_model.specs.declared.disk.Disk.{Ghosts}
use Rattle.patch_meaning.specs.Checked.{CheckedPatch, AreChecked}
use Rattle.patch_meaning.specs.Patch.{IsPatch}
use Rattle.patch_log.specs.Log.{bare}
use Rattle.checkpoint_text.specs.Brief.{Brief}
use Rattle.zone_pairs.specs.Briefs.{with_patch}
use Rattle.zone_pairs.specs.Pair.{PairPoint, Fits, TakeTo}
use Rattle.zone_pairs.proofs.Together.{taken_on, checked_on}
use Rattle.zone_state.specs.declared.answer.TakeAnswer.{TakeAnswer}
use Rattle.zone_state.specs.declared.answer.TakeAnswer.TheVariants as answers
use Rattle.zone_state.specs.Taking.{taking}
use Rattle.zone_state.proofs.Decisions.{can_be_taken}
use Rattle.paired_zone.specs.Takes.{TakesPatch}
use Rattle.paired_zone.specs.Zone.{PairedView, StandsAt}
use Rattle.turn_cell.specs.declared.view.Known.{Known}
use Rattle.shared_zone.specs.History.{SharedZone, ZoneStandsInTurn, taken_entry, taken_known, history_then, brief_behind, brief_known}

-- ---- briefs

-- what patches take a brief to is that brief with them
taken_brief : (base : Brief) (patches : List CheckedPatch) (brief : Brief) → TakeTo base patches brief → brief ≡ brief_behind base patches
taken_brief base [] brief take = take
taken_brief base (patch ∷ patches) brief take = taken_brief (with_patch base patch) patches brief take.1

-- as many ids are kept as were kept at first, and one for each entry
count_known : (base : Brief) (history : List (Known CheckedPatch)) → length (brief_known base history).ids ≡ length base.ids + length history
count_known base [] = omega arith
count_known base (known ∷ history) = let more = length_push base.ids known.content.meaning.id in omega (arith, count_known (with_patch base known.content) history, more)

known_push : (history : List (Known CheckedPatch)) (patch : CheckedPatch) (by : ℕ) → taken_known (history ++ taken_entry patch by ∷ []) ≡ taken_known history ++ patch ∷ []
known_push history patch by = map-append (λ (known : Known CheckedPatch). known.content) history (taken_entry patch by ∷ [])

last_checked : (patches : List CheckedPatch) (patch : CheckedPatch) → AreChecked (patches ++ patch ∷ []) → IsPatch patch.text patch.meaning
last_checked [] patch are = are.0
last_checked (first ∷ patches) patch are = last_checked patches patch are.1

module _ {D : Type 0} (disks : Ghosts D) where
  module _ (shared : SharedZone D) (stands : ZoneStandsInTurn disks shared) where
    -- the zone keeps what its first brief becomes by the history
    pub kept : shared.zone.brief ≡ brief_known shared.base shared.history
    kept = taken_brief shared.base (taken_known shared.history) shared.zone.brief stands.take

    pub ids_count : length shared.zone.brief.ids ≡ length shared.base.ids + length shared.history
    ids_count = ap (λ (b : Brief). length b.ids) kept ∙ count_known shared.base shared.history

  standing : (zone : PairedView D) (base : Brief) (history : List (Known CheckedPatch)) → AreChecked (taken_known history) → TakeTo base (taken_known history) zone.brief → (point : PairPoint) → StandsAt disks zone point
      → length zone.brief.ids < 2 ^ 32 → ZoneStandsInTurn disks (record { zone = zone; base = base; history = history })
  standing zone base history checked take point stands few = record {
    few = let ids = ap (λ (b : Brief). length b.ids) (taken_brief base (taken_known history) zone.brief take) ∙ count_known base history in omega (arith, few, ids);
    checked = checked;
    take = take;
    point = point;
    stands = stands;
  }

  -- before the first patch is taken
  pub stands_first : (zone : PairedView D) → (point : PairPoint) × StandsAt disks zone point → length zone.brief.ids < 2 ^ 32 → ZoneStandsInTurn disks (record { zone = zone; base = zone.brief; history = [] })
  stands_first zone at few = standing zone zone.brief [] tt refl at.0 at.1 few

  module _ (found : SharedZone D) (zone : PairedView D) (patch : CheckedPatch) (by : ℕ) (stood : ZoneStandsInTurn disks found) (few : length zone.brief.ids < 2 ^ 32) where
    abbrev behind : TakeAnswer → SharedZone D
    behind answer = record { zone = zone; base = found.base; history = history_then answer found.history patch by }

    -- nothing was taken
    same_history : (point : PairPoint) → StandsAt disks zone point → zone.brief ≡ found.zone.brief → ZoneStandsInTurn disks (record { zone = zone; base = found.base; history = found.history })
    same_history point stands same = standing zone found.base found.history stood.checked (subst (TakeTo found.base (taken_known found.history)) (sym same) stood.take) point stands few

    one_more : (version : ℕ) → TakesPatch disks found.zone zone patch (answers.Applied version) → ZoneStandsInTurn disks (behind (answers.Applied version))
    one_more version takes =
        let decided : taking found.zone.brief.ids found.zone.brief.bytes (bare patch) found.zone.limits ≡ answers.Applied version = ⊎_elim (λ same. sym same) (λ other. absurd (⊎_elim (λ z. cc) (λ z. ⊎_elim (λ y. cc) (λ y. cc) z) other.1)) takes.decided in
        let can = (can_be_taken found.zone.brief.ids found.zone.brief.bytes (bare patch) found.zone.limits version decided).0 in
        let fits : Fits found.zone.brief patch = record { follows = can.follows; new = can.new } in
        let is_patch = last_checked takes.beside.point.patches patch takes.beside.stands.stands.checked in
        let known = known_push found.history patch by in
        standing zone found.base (found.history ++ taken_entry patch by ∷ [])
        (subst AreChecked (sym known) (checked_on (taken_known found.history) patch stood.checked is_patch))
        (subst (λ (z : List CheckedPatch × Brief). TakeTo found.base z.0 z.1) (λ i. (sym known i, sym (takes.applied version refl) i)) (taken_on found.base found.zone.brief (taken_known found.history) patch stood.take fits))
        _ takes.beside.stands few

    -- behind an answer to a patch
    pub stands_behind : (answer : TakeAnswer) → TakesPatch disks found.zone zone patch answer → ZoneStandsInTurn disks (behind answer)
    stands_behind (answers.Applied version) takes = one_more version takes
    stands_behind (answers.Diverged have prev) takes = same_history _ takes.beside.stands (takes.refused (λ version is. cc))
    stands_behind (answers.Repeated at) takes = same_history _ takes.beside.stands (takes.refused (λ version is. cc))
    stands_behind (answers.Full what have limit) takes = same_history _ takes.beside.stands (takes.refused (λ version is. cc))
    stands_behind answers.TermsFull takes = same_history _ takes.beside.stands (takes.refused (λ version is. cc))
    stands_behind answers.OutOfMemory takes = same_history _ takes.beside.stands (takes.refused (λ version is. cc))
    stands_behind answers.DiskFault takes = same_history _ takes.beside.stands (takes.refused (λ version is. cc))
