-- What a pass is told that had the patch of a version, over the zone as it was found and left.
use Rattle.std.proofs.Common.{◌≡◌, ◌≢◌, ◌⊎◌, inl, inr, ⊎_elim, ℕ, ◌+◌, ◌-◌, ◌^◌, ◌<◌, ◌≤◌, List, [], ◌∷◌, length, Bool, true, false, Option, Some, None, refl, sym, ◌∙◌, ap, subst, arith}
use Rattle.std.specs.Prelude.{min, if◌then◌else◌}
use Rattle.std.proofs.lemmas.List.{length_push, append-nil}
use mathlib.Core.Logic.{dite}
use native.Mathlib.Decide.{ℕ_discrete}
use Rattle.delta_base.specs.Outside.{Rose}
use Rattle.log_base.specs.declared.limits.LogLimits.{LogLimits}
use Rattle.log_base.specs.declared.phase.Phase.{Phase}
use Rattle.log_base.specs.declared.phase.Phase.TheVariants.{Settling, Body, Gate}
use Rattle.log_journal.specs.Writing.{doubt_left}
use Rattle.disk_model.specs.declared.disk.Disk.{Ghosts}
use Rattle.chain_core.specs.declared.chain.Patch.{Patch}
use Rattle.patch_meaning.specs.Checked.{CheckedPatch}
use Rattle.patch_log.specs.Log.{bare}
use Rattle.checkpoint_text.specs.Brief.{Brief}
use Rattle.zone_state.specs.declared.answer.TakeAnswer.{TakeAnswer}
use Rattle.zone_state.specs.declared.answer.TakeAnswer.TheVariants as answers
use Rattle.zone_state.specs.Taking.{taking, IsDecidedBy}
use Rattle.zone_state.specs.Zone.{doubt_of}
use Rattle.zone_state.proofs.Decisions.{can_be_taken, decided as is_decided, IsDecided}
use Rattle.paired_journal.specs.Pair.{DisksWent}
use Rattle.paired_zone.specs.Zone.{PairedView, first_in, second_in}
use Rattle.turn_cell.specs.declared.view.Known.{Known}
use Rattle.turn_cell.specs.Turns.{own_count, Adds}
use Rattle.turn_cell.specs.Sights.{Made, Taken, IsGrownBy}
use Rattle.turn_cell.specs.Knowing.{SeesOn, IsQuiet, pass_number, seen_of, own_faults_of}
use Rattle.turn_cell.specs.Sharing.{IsPassOf, EntersTurn, LeavesTurn}
use Rattle.turn_cell.proofs.Knowing.{quiet_on, adds_same, adds_one}
use Rattle.turn_cell.proofs.Staying as stay
use Rattle.shared_zone.specs.declared.answers.Stayed.{Stayed}
use Rattle.shared_zone.specs.declared.answers.Stayed.TheVariants.{Ahead, Asked}
use Rattle.shared_zone.specs.declared.fixed.ZoneFixed.{ZoneFixed}
use Rattle.shared_zone.specs.History.{SharedZone, ZoneSight, taken_entry, history_then, brief_known, zone_faults, zone_fixed_of, shared_zone, brief_seen, version_seen}
use Rattle.shared_zone.specs.Legal.{IsNextSeen, IsTakenSo, IsStay, LegalStay, MayLeavePatch, decided_of}
use Rattle.shared_zone.specs.Stays.{DoesOnZone, HandsPatch, TakesInTurn, reaches_disks}
use Rattle.shared_zone.proofs.Standing.{kept, ids_count}

-- ---- faults and files

-- the common count rises where that of one of two disks does
rises_so : (a b c d : ℕ) → a ≤ c → b ≤ d → Rose a c ⊎ Rose b d → Rose (min (a + b) (2 ^ 64 - 1)) (min (c + d) (2 ^ 64 - 1))
rises_so a b c d first second rose = dite (ℕ_discrete (min (c + d) (2 ^ 64 - 1)) (2 ^ 64 - 1))
    (λ last. inr last)
    (λ other. inl (⊎_elim
    (⊎_elim (λ (more : a < c). omega (arith, more, second, other)) (λ (end : c ≡ 2 ^ 64 - 1). absurd (other (omega (arith, end)))))
    (⊎_elim (λ (more : b < d). omega (arith, more, first, other)) (λ (end : d ≡ 2 ^ 64 - 1). absurd (other (omega (arith, end))))) rose))

module _ {D : Type 0} (mark : D → Option (List ℕ × ℕ)) (current other current' other' : D) (here : mark current' ≡ mark current) (there : mark other' ≡ mark other) where
  marked : (second : Bool) → mark (if second then current' else other') ≡ mark (if second then current else other)
  marked true = here
  marked false = there

  marked_other : (second : Bool) → mark (if second then other' else current') ≡ mark (if second then other else current)
  marked_other true = there
  marked_other false = here

-- ---- what a stay leaves

module _ {D : Type 0} (disks : Ghosts D) (was after : SharedZone D) (by : ℕ) (patch : CheckedPatch) (had : ℕ) (answer : TakeAnswer) (hands : HandsPatch disks by patch had answer was after) where
  went : DisksWent disks (answer ≡ answers.DiskFault) was.zone.current after.zone.current was.zone.other after.zone.other
  went = hands.takes.went

  first_kept : disks.mark (first_in after.zone) ≡ disks.mark (first_in was.zone)
  first_kept = ap (λ (s : Bool). disks.mark (if s then after.zone.other else after.zone.current)) hands.takes.second
      ∙ marked_other disks.mark was.zone.current was.zone.other after.zone.current after.zone.other went.mark.0 went.mark.1 was.zone.second

  second_kept : disks.mark (second_in after.zone) ≡ disks.mark (second_in was.zone)
  second_kept = ap (λ (s : Bool). disks.mark (if s then after.zone.current else after.zone.other)) hands.takes.second
      ∙ marked disks.mark was.zone.current was.zone.other after.zone.current after.zone.other went.mark.0 went.mark.1 was.zone.second

  hands_fixed : zone_fixed_of disks.mark after ≡ zone_fixed_of disks.mark was
  hands_fixed = λ i. record { base = hands.base i; limits = hands.takes.limits i; first = first_kept i; second = second_kept i }

  hands_faults : zone_faults disks was.zone ≤ zone_faults disks after.zone
  hands_faults = let w = went.never_falls in omega (arith, w.0, w.1)

  hands_rose : answer ≡ answers.DiskFault → Rose (zone_faults disks was.zone) (zone_faults disks after.zone)
  hands_rose is = rises_so (disks.faults was.zone.current) (disks.faults was.zone.other) (disks.faults after.zone.current) (disks.faults after.zone.other) went.never_falls.0 went.never_falls.1 (went.cause is)

  -- what the turn publishes is as it was, where no disk was asked
  hands_as_found : answer ≢ answers.DiskFault → ((version : ℕ) → answer ≢ answers.Applied version) → history_then answer was.history patch by ≡ was.history
      → (after.history ≡ was.history) × (zone_faults disks after.zone ≡ zone_faults disks was.zone) × (doubt_of after.zone.doubt ≡ doubt_of was.zone.doubt) × (zone_fixed_of disks.mark after ≡ zone_fixed_of disks.mark was)
  hands_as_found no_fault no_version same =
      let zone = hands.takes.untouched no_fault no_version in
      (hands.history ∙ same, ap (λ (z : PairedView D). zone_faults disks z) zone, ap (λ (z : PairedView D). doubt_of z.doubt) zone, hands_fixed)

-- the history grows by entries of the pass's number
grown_so : (answer : TakeAnswer) (history after : List (Known CheckedPatch)) (by : ℕ) (patch : CheckedPatch) → after ≡ history_then answer history patch by → IsGrownBy by history after
grown_so (answers.Applied v) history after by patch is = (taken_entry patch by ∷ [], is, (refl, tt))
grown_so (answers.Diverged have prev) history after by patch is = ([], is ∙ sym (append-nil history), tt)
grown_so (answers.Repeated v) history after by patch is = ([], is ∙ sym (append-nil history), tt)
grown_so (answers.Full what have limit) history after by patch is = ([], is ∙ sym (append-nil history), tt)
grown_so answers.TermsFull history after by patch is = ([], is ∙ sym (append-nil history), tt)
grown_so answers.OutOfMemory history after by patch is = ([], is ∙ sym (append-nil history), tt)
grown_so answers.DiskFault history after by patch is = ([], is ∙ sym (append-nil history), tt)

module _ {D : Type 0} (disks : Ghosts D) (was after : SharedZone D) (by : ℕ) (patch : CheckedPatch) (version : ℕ) where
  pub grows : (stayed : Stayed) → DoesOnZone disks by patch version stayed was after → IsGrownBy by was.history after.history
  grows (Ahead found) does = ([], ap (λ (s : SharedZone D). s.history) does.2 ∙ sym (append-nil was.history), tt)
  grows (Asked had answer) does = grown_so answer was.history after.history by patch does.1.history

  pub fixed_still : (stayed : Stayed) → DoesOnZone disks by patch version stayed was after → zone_fixed_of disks.mark after ≡ zone_fixed_of disks.mark was
  fixed_still (Ahead found) does = ap (λ (s : SharedZone D). zone_fixed_of disks.mark s) does.2
  fixed_still (Asked had answer) does = hands_fixed disks was after by patch had answer does.1

  pub faults_on : (stayed : Stayed) → DoesOnZone disks by patch version stayed was after → zone_faults disks was.zone ≤ zone_faults disks after.zone
  faults_on (Ahead found) does = let same = ap (λ (s : SharedZone D). zone_faults disks s.zone) does.2 in omega (arith, same)
  faults_on (Asked had answer) does = hands_faults disks was after by patch had answer does.1

  all_same : after ≡ was → (after.history ≡ was.history) × (zone_faults disks after.zone ≡ zone_faults disks was.zone) × (doubt_of after.zone.doubt ≡ doubt_of was.zone.doubt) × (zone_fixed_of disks.mark after ≡ zone_fixed_of disks.mark was)
  all_same same = (ap (λ (s : SharedZone D). s.history) same, ap (λ (s : SharedZone D). zone_faults disks s.zone) same, ap (λ (s : SharedZone D). doubt_of s.zone.doubt) same, ap (λ (s : SharedZone D). zone_fixed_of disks.mark s) same)

  pub as_found : (stayed : Stayed) → reaches_disks stayed ≡ false → DoesOnZone disks by patch version stayed was after
      → (after.history ≡ was.history) × (zone_faults disks after.zone ≡ zone_faults disks was.zone) × (doubt_of after.zone.doubt ≡ doubt_of was.zone.doubt) × (zone_fixed_of disks.mark after ≡ zone_fixed_of disks.mark was)
  as_found (Ahead found) none does = all_same does.2
  as_found (Asked had (answers.Applied v)) none does = absurd (let e : true ≡ false = none in cc)
  as_found (Asked had (answers.Diverged have prev)) none does = hands_as_found disks was after by patch had _ does.1 (λ is. cc) (λ v is. cc) refl
  as_found (Asked had (answers.Repeated v)) none does = hands_as_found disks was after by patch had _ does.1 (λ is. cc) (λ v is. cc) refl
  as_found (Asked had (answers.Full what have limit)) none does = hands_as_found disks was after by patch had _ does.1 (λ is. cc) (λ v is. cc) refl
  as_found (Asked had answers.TermsFull) none does = hands_as_found disks was after by patch had _ does.1 (λ is. cc) (λ v is. cc) refl
  as_found (Asked had answers.OutOfMemory) none does = hands_as_found disks was after by patch had _ does.1 (λ is. cc) (λ v is. cc) refl
  as_found (Asked had answers.DiskFault) none does = absurd (let e : true ≡ false = none in cc)

-- a call over the zone that was found, by the number of the pass
pub in_turn : {D : Type 0} (disks : Ghosts D) (value was after : SharedZone D) (by number : ℕ) (patch : CheckedPatch) (version : ℕ) (stayed : Stayed) → by ≡ number → value ≡ was → DoesOnZone disks by patch version stayed value after → DoesOnZone disks number patch version stayed was after
in_turn {D} disks value was after by number patch version stayed one found does = subst (λ (z : ℕ × SharedZone D). DoesOnZone disks z.0 patch version stayed z.1 after) (λ i. (one i, found i)) does

-- ---- one stay

module _ {D : Type 0} (disks : Ghosts D) (made : Made (SharedZone D)) (p m q : ZoneSight) (held back : Taken CheckedPatch Patch ZoneFixed (SharedZone D)) (enters : EntersTurn (shared_zone disks) p held m) (leaves : LeavesTurn (shared_zone disks) m back q)
    (same_was : back.was ≡ held.was) (of : IsPassOf (shared_zone disks) made p) (patch : CheckedPatch) (version : ℕ) (changed : Bool)
    (quiet : changed ≡ false → IsQuiet m q) (counts : changed ≡ true → own_faults_of q ≡ own_count (own_faults_of m) (zone_faults disks back.was.zone) (zone_faults disks back.value.zone)) where
  abbrev was : SharedZone D
  was = held.was

  abbrev after : SharedZone D
  after = back.value

  abbrev base : Brief
  base = made.origin.base

  abbrev limits : LogLimits
  limits = made.origin.zone.limits

  came : stay.Finds (shared_zone disks) p was m
  came = stay.finds (shared_zone disks) p m held enters

  fixed : zone_fixed_of disks.mark was ≡ zone_fixed_of disks.mark made.origin
  fixed = stay.fixed_found (shared_zone disks) p m q was back came leaves same_was made of

  base_is : was.base ≡ base
  base_is = ap (λ (f : ZoneFixed). f.base) fixed

  limits_is : was.zone.limits ≡ limits
  limits_is = ap (λ (f : ZoneFixed). f.limits) fixed

  brief_is : was.zone.brief ≡ brief_known base was.history
  brief_is = kept disks was enters.stands ∙ ap (λ (b : Brief). brief_known b was.history) base_is

  abbrev decided : TakeAnswer
  decided = taking was.zone.brief.ids was.zone.brief.bytes (bare patch) was.zone.limits

  -- what the zone decides is what the history decides
  decided_is : decided ≡ decided_of base limits (brief_known base was.history) patch
  decided_is = λ i. taking (brief_is i).ids (brief_is i).bytes (bare patch) (limits_is i)

  no_decision : (answer : TakeAnswer) → (IsDecided answer → ⊥) → answer ≡ decided → ⊥
  no_decision answer none is = none (subst IsDecided (sym is) (is_decided was.zone.brief.ids was.zone.brief.bytes (bare patch) was.zone.limits))

  by_itself : (answer : TakeAnswer) → answer ≢ answers.DiskFault → answer ≢ answers.TermsFull → answer ≢ answers.OutOfMemory → IsDecidedBy decided answer → decided ≡ answer
  by_itself answer a b c by = ⊎_elim (λ is. sym is) (λ other. absurd (⊎_elim a (λ rest. ⊎_elim b c rest) other.1)) by

  -- an answer that no zone decides comes where the patch is the next one
  next_of : (answer : TakeAnswer) → (IsDecided answer → ⊥) → IsDecidedBy decided answer → (v : ℕ) × (decided ≡ answers.Applied v)
  next_of answer none by = ⊎_elim (λ is. absurd (no_decision answer none is)) (λ other. other.0) by

  on : (stayed : Stayed) → DoesOnZone disks (pass_number p) patch version stayed was after → SeesOn p q
  on stayed does = let grown = grows disks was after (pass_number p) patch version stayed does in
      stay.sees (shared_zone disks) p m q was back came leaves same_was (grown.0, sym grown.1)

  version_is : (had : ℕ) → had ≡ length was.zone.brief.ids → had ≡ length base.ids + length was.history
  version_is had is = is ∙ (ids_count disks was enters.stands ∙ ap (λ (b : Brief). length b.ids + length was.history) base_is)

  -- the history is as it was found
  module _ (same : after.history ≡ was.history) where
    sees_was : was.history ≡ seen_of q
    sees_was = sym (leaves.sees ∙ same)

    decided_seen : (answer : TakeAnswer) → decided ≡ answer → decided_of base limits (brief_seen base q) patch ≡ answer
    decided_seen answer is = ap (λ (h : List (Known CheckedPatch)). decided_of base limits (brief_known base h) patch) (sym sees_was) ∙ (sym decided_is ∙ is)

    had_seen : (had : ℕ) → had ≡ length was.zone.brief.ids → had ≡ version_seen base q
    had_seen had is = version_is had is ∙ ap (λ (h : List (Known CheckedPatch)). length base.ids + length h) sees_was

    next_seen : (answer : TakeAnswer) → (IsDecided answer → ⊥) → IsDecidedBy decided answer → IsNextSeen base limits patch q
    next_seen answer none by = let next = next_of answer none by in (next.0, decided_seen (answers.Applied next.0) next.1)

  quiet_so : changed ≡ false → IsQuiet p q
  quiet_so none = quiet_on p m q came.entered.quiet (quiet none)

  -- the zone refused
  refused : (had : ℕ) (answer : TakeAnswer) → HandsPatch disks (pass_number p) patch had answer was after → after.history ≡ was.history → decided ≡ answer → changed ≡ false
      → (decided_of base limits (brief_seen base q) patch ≡ answer) × (had ≡ version_seen base q) × IsQuiet p q
  refused had answer hands same is none = (decided_seen same answer is, had_seen same had hands.had_is, quiet_so none)

  -- what the patch needs wasn't there
  wanting : (had : ℕ) (answer : TakeAnswer) → HandsPatch disks (pass_number p) patch had answer was after → after.history ≡ was.history → (IsDecided answer → ⊥) → changed ≡ false
      → IsNextSeen base limits patch q × (had ≡ version_seen base q) × IsQuiet p q
  wanting had answer hands same undecided none = (next_seen same answer undecided hands.takes.decided, had_seen same had hands.had_is, quiet_so none)

  applied : (had v : ℕ) → HandsPatch disks (pass_number p) patch had (answers.Applied v) was after → IsTakenSo base limits patch had (answers.Applied v) p q
  applied had v hands =
      let known : Known CheckedPatch = taken_entry patch (pass_number p) in
      let is : decided ≡ answers.Applied v = by_itself (answers.Applied v) (λ z. cc) (λ z. cc) (λ z. cc) hands.takes.decided in
      let next = (can_be_taken was.zone.brief.ids was.zone.brief.bytes (bare patch) was.zone.limits v is).1 in
      let longer : length (seen_of q) ≡ length was.history + 1 = ap length (leaves.sees ∙ hands.history) ∙ length_push was.history known in
      let came_so = stay.brings (shared_zone disks) p m q was back came leaves same_was patch (length (seen_of q)) hands.history longer (ap doubt_of hands.takes.doubt) in
      let count = version_is had hands.had_is in
      let had_is = hands.had_is in (
        came_so.0,
        ap (λ (h : List (Known CheckedPatch)). decided_of base limits (brief_known base h) patch) came_so.1 ∙ (sym decided_is ∙ is),
        omega (arith, next, had_is, count, longer),
        omega (arith, next, had_is),
      )

  left_by : (phase : Phase) → (doubt_left (Some phase) was.zone.doubt patch ≡ was.zone.doubt) ⊎ ((doubt_left (Some phase) was.zone.doubt patch ≡ None) ⊎ (doubt_left (Some phase) was.zone.doubt patch ≡ Some patch))
  left_by Settling = inl refl
  left_by Body = inr (inl refl)
  left_by Gate = inr (inr refl)

  adds : (left : Option CheckedPatch) → after.zone.doubt ≡ left → Adds (doubt_of was.zone.doubt) (doubt_of left) p.view.failed q.view.failed
  adds left is = subst (λ (d : Option CheckedPatch). Adds (doubt_of was.zone.doubt) (doubt_of d) p.view.failed q.view.failed) is (stay.adds (shared_zone disks) p m q was back came leaves same_was)

  may_leave : (after.zone.doubt ≡ was.zone.doubt) ⊎ ((after.zone.doubt ≡ None) ⊎ (after.zone.doubt ≡ Some patch)) → MayLeavePatch base limits patch p q
  may_leave left =
      ⊎_elim (λ (is : after.zone.doubt ≡ was.zone.doubt). inl (adds_same (doubt_of was.zone.doubt) p.view.failed q.view.failed (adds was.zone.doubt is)))
      (⊎_elim (λ (is : after.zone.doubt ≡ None). inl (adds None is))
      (λ (is : after.zone.doubt ≡ Some patch). adds_one (doubt_of was.zone.doubt) (bare patch) p.view.failed q.view.failed (adds (Some patch) is))) left

  faulted : (had : ℕ) → HandsPatch disks (pass_number p) patch had answers.DiskFault was after → changed ≡ true → IsTakenSo base limits patch had answers.DiskFault p q
  faulted had hands is =
      let same : after.history ≡ was.history = hands.history in
      let phase = hands.takes.doubt in
      let left = subst (λ (d : Option CheckedPatch). (d ≡ was.zone.doubt) ⊎ ((d ≡ None) ⊎ (d ≡ Some patch))) (sym phase.1) (left_by phase.0) in (
        next_seen same answers.DiskFault (λ z. z) hands.takes.decided,
        had_seen same had hands.had_is,
        stay.rose (shared_zone disks) p m q was back came leaves same_was (counts is) (hands_rose disks was after (pass_number p) patch had answers.DiskFault hands refl),
        stay.kept_mine (shared_zone disks) p m q was back came leaves same_was same,
        may_leave left,
      )

  told : (stayed : Stayed) → changed ≡ reaches_disks stayed → DoesOnZone disks (pass_number p) patch version stayed was after → IsStay base limits patch version stayed p q
  told (Ahead found) is does = (does.0, had_seen (ap (λ (s : SharedZone D). s.history) does.2) found does.1, quiet_so is)
  told (Asked had (answers.Applied v)) is does = (does.0, applied had v does.1)
  told (Asked had (answers.Diverged have prev)) is does = (does.0, refused had _ does.1 does.1.history (by_itself _ (λ z. cc) (λ z. cc) (λ z. cc) does.1.takes.decided) is)
  told (Asked had (answers.Repeated v)) is does = (does.0, refused had _ does.1 does.1.history (by_itself _ (λ z. cc) (λ z. cc) (λ z. cc) does.1.takes.decided) is)
  told (Asked had (answers.Full what have limit)) is does = (does.0, refused had _ does.1 does.1.history (by_itself _ (λ z. cc) (λ z. cc) (λ z. cc) does.1.takes.decided) is)
  told (Asked had answers.TermsFull) is does = (does.0, wanting had answers.TermsFull does.1 does.1.history (λ z. z) is)
  told (Asked had answers.OutOfMemory) is does = (does.0, wanting had answers.OutOfMemory does.1 does.1.history (λ z. z) is)
  told (Asked had answers.DiskFault) is does = (does.0, faulted had does.1 is)

  pub legal : (stayed : Stayed) → changed ≡ reaches_disks stayed → DoesOnZone disks (pass_number p) patch version stayed was after → LegalStay base limits patch version p stayed q
  legal stayed is does = (on stayed does, told stayed is does)

  pub stays : (stayed : Stayed) → DoesOnZone disks (pass_number p) patch version stayed was after → TakesInTurn disks made.origin patch version stayed p q
  stays stayed does = stay.stay_told (shared_zone disks) p m q was back came leaves same_was (λ found left. DoesOnZone disks (pass_number p) patch version stayed found left) made of does (fixed_still disks was after (pass_number p) patch version stayed does)
