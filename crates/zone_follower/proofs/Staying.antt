-- What the text of a version tells of the pass.
use Rattle.std.proofs.Common.{◌≡◌, ◌⊎◌, inl, inr, ℕ, ◌+◌, ◌≤◌, List, [], ◌∷◌, length, length-append, Option, Result, Ok, Err, refl, sym, ◌∙◌, ap, subst, arith}
use mathlib.Core.List.{IsPrefix}
use Rattle.delta_base.specs.declared.id.Id.{Id}
use Rattle.disk_model.specs.declared.disk.Disk.{Ghosts}
use Rattle.checkpoint_text.specs.Brief.{Brief}
use Rattle.log_base.specs.declared.limits.LogLimits.{LogLimits}
use Rattle.patch_meaning.specs.Checked.{CheckedPatch, Refuses}
use Rattle.patch_meaning.specs.declared.fault.PatchFault.{PatchFault}
use Rattle.patch_meaning.specs.declared.fault.PatchFault.TheVariants as patches
use Rattle.zone_state.specs.declared.answer.TakeAnswer.{TakeAnswer}
use Rattle.zone_state.specs.declared.answer.TakeAnswer.TheVariants as answers
use Rattle.turn_cell.specs.declared.view.Known.{Known}
use Rattle.turn_cell.specs.Knowing.{SeesOn, Brought, pass_number, seen_of, own_faults_of}
use Rattle.turn_cell.proofs.Knowing.{same_on}
use Rattle.turn_cell.proofs.Views.{prefix_trans}
use Rattle.shared_zone.specs.declared.answers.Stayed.{Stayed}
use Rattle.shared_zone.specs.declared.answers.Stayed.TheVariants.{Ahead, Asked}
use Rattle.shared_zone.specs.History.{SharedZone, ZoneSight, version_seen}
use Rattle.shared_zone.specs.Legal.{IsTakenSo, LegalStay}
use Rattle.catch_up.specs.declared.end.RunEnd.{RunEnd}
use Rattle.catch_up.specs.Runs.{IsRunTo, Run, TakenText, TakesAll}
use Rattle.follower.specs.declared.ends.TextRefusal.{TextRefusal}
use Rattle.follower.specs.declared.ends.TextRefusal.TheVariants.{Diverged, Repeated, Full, TermsFull, DiskFault, OutOfMemory}
use Rattle.follower.specs.Syncing.{no_patch_at}
use Rattle.zone_follower.specs.Following.{ComesToText, IsUnaskedFor, ShowsZone, answer_told, stay_told, unasked, stayed_with}
use Rattle.zone_follower.proofs.Running.{began}

-- ---- what a pass goes through

-- it is as it was, or sees on
abbrev pub StillOrOn : ZoneSight → ZoneSight → Type 0
StillOrOn p q = (q ≡ p) ⊎ SeesOn p q

pub on_both : (p m q : ZoneSight) → SeesOn p m → SeesOn m q → SeesOn p q
on_both p m q first second =
    (same_on p m q first.0 second.0, second.1, prefix_trans (seen_of p) (seen_of m) (seen_of q) first.2 second.2, second.3, omega (arith, first.4, second.4), omega (arith, first.5, second.5))

pub then_on : (p m q : ZoneSight) → SeesOn p m → StillOrOn m q → SeesOn p q
then_on p m q first (inl same) = subst (λ (it : ZoneSight). SeesOn p it) (sym same) first
then_on p m q first (inr second) = on_both p m q first second

pub still_or_both : (p m q : ZoneSight) → StillOrOn p m → StillOrOn m q → StillOrOn p q
still_or_both p m q (inl same) second = subst (λ (it : ZoneSight). StillOrOn it q) same second
still_or_both p m q (inr first) second = inr (then_on p m q first second)

pub faults_fewer : (p q : ZoneSight) → StillOrOn p q → own_faults_of p ≤ own_faults_of q
faults_fewer p q (inl same) = let e = ap (λ (it : ZoneSight). own_faults_of it) same in omega (arith, e)
faults_fewer p q (inr sees) = sees.5

-- what the pass sees is no shorter
seen_longer : (p q : ZoneSight) → IsPrefix (seen_of p) (seen_of q) → length (seen_of p) ≤ length (seen_of q)
seen_longer p q on = let more = ap length on.1 in omega (arith, more, length-append (seen_of p) on.0)

pub version_on : (base : Brief) (p q : ZoneSight) → SeesOn p q → version_seen base p ≤ version_seen base q
version_on base p q on = let more = seen_longer p q on.2 in omega (arith, more)

-- what was brought stands behind what the pass had seen
brought_longer : (patch : CheckedPatch) (place : ℕ) (p q : ZoneSight) → Brought patch place p q → length (seen_of p) + 1 ≤ length (seen_of q)
brought_longer patch place p q b =
    let more = ap length b.had_seen.1 in
    let long = ap length b.sees in
    let one : Known CheckedPatch = record { content = patch; by = pass_number p } in
    omega (arith, more, long, length-append (seen_of p) b.had_seen.0, length-append b.before (one ∷ []))

-- ---- texts

pub refuses_text : (said : List ℕ) (version : ℕ) (fault : PatchFault) → Refuses said fault → IsUnaskedFor said version (no_patch_at version fault)
refuses_text said version patches.OutOfMemory is = tt
refuses_text said version (patches.At at kind) (inl none) = absurd (cc)
refuses_text said version (patches.At at kind) (inr is) = (refl, is)
refuses_text said version (patches.TooLong long limit) (inl none) = absurd (cc)
refuses_text said version (patches.TooLong long limit) (inr is) = (refl, is)

-- ---- answers

applied : (answer : TakeAnswer) (id : Id) (had reached : ℕ) → Ok reached ≡ answer_told answer id had → answer ≡ answers.Applied reached
applied (answers.Applied version) id had reached is = let same : ◌≡◌ {A = Result ℕ TextRefusal} (Ok reached) (Ok version) = is in cc
applied (answers.Diverged have prev) id had reached is = let same : ◌≡◌ {A = Result ℕ TextRefusal} (Ok reached) (Err (Diverged had have prev)) = is in absurd (cc)
applied (answers.Repeated version) id had reached is = let same : ◌≡◌ {A = Result ℕ TextRefusal} (Ok reached) (Err (Repeated version id)) = is in absurd (cc)
applied (answers.Full what have limit) id had reached is = let same : ◌≡◌ {A = Result ℕ TextRefusal} (Ok reached) (Err (Full what have limit)) = is in absurd (cc)
applied answers.TermsFull id had reached is = let same : ◌≡◌ {A = Result ℕ TextRefusal} (Ok reached) (Err TermsFull) = is in absurd (cc)
applied answers.OutOfMemory id had reached is = let same : ◌≡◌ {A = Result ℕ TextRefusal} (Ok reached) (Err OutOfMemory) = is in absurd (cc)
applied answers.DiskFault id had reached is = let same : ◌≡◌ {A = Result ℕ TextRefusal} (Ok reached) (Err DiskFault) = is in absurd (cc)

module _ (base : Brief) (limits : LogLimits) where
  -- what was taken is at the end of what the pass then knows
  reached_so : (patch : CheckedPatch) (id : Id) (version reached : ℕ) (stayed : Stayed) (p q : ZoneSight) → LegalStay base limits patch version p stayed q → Ok reached ≡ stay_told stayed id
      → (reached ≡ version_seen base q) × (version ≡ version_seen base p + 1 → version ≤ reached)
  reached_so patch id version reached (Ahead found) p q legal is =
      let told : ◌≡◌ {A = Result ℕ TextRefusal} (Ok reached) (Ok found) = is in
      let same : reached ≡ found = cc in
      let stay = legal.1 in
      (same ∙ stay.1, λ next. omega (arith, same, stay.0))
  reached_so patch id version reached (Asked had answer) p q legal is =
      let applied_is = applied answer id had reached is in
      let taken : IsTakenSo base limits patch had (answers.Applied reached) p q = subst (λ (a : TakeAnswer). IsTakenSo base limits patch had a p q) applied_is legal.1.1 in
      let longer = brought_longer patch (length (seen_of q)) p q taken.0 in
      (taken.2, λ next. omega (arith, taken.2, longer, next))

module _ {D : Type 0} (disks : Ghosts D) (origin : SharedZone D) where
  abbrev Comes : ZoneSight → ℕ → List ℕ → Result ℕ TextRefusal → ZoneSight → Type 0
  Comes = ComesToText disks origin

  pub comes_reached : (p q : ZoneSight) (version : ℕ) (text : List ℕ) (reached : ℕ) → Comes p version text (Ok reached) q
      → (reached ≡ version_seen origin.base q) × (version ≡ version_seen origin.base p + 1 → version ≤ reached)
  comes_reached p q version text reached (unasked refusal is ends same) = absurd (cc)
  comes_reached p q version text reached (stayed_with s) = reached_so origin.base origin.zone.limits s.patch s.patch.meaning.id version reached s.stayed p q s.legal s.told

  pub comes_on : (p q : ZoneSight) (version : ℕ) (text : List ℕ) (result : Result ℕ TextRefusal) → Comes p version text result q → StillOrOn p q
  comes_on p q version text result (unasked refusal is ends same) = inl same
  comes_on p q version text result (stayed_with s) = inr s.legal.0

  pub shown_on : (p q : ZoneSight) (version : ℕ) (head : Option Id) → ShowsZone disks origin p version head q → SeesOn p q
  shown_on p q version head shown = shown.0.0.0

  pub all_on : (theirs from : ℕ) (before : ZoneSight) (steps : List TakenText) (reached : ℕ) (after : ZoneSight) → TakesAll Comes theirs from before steps reached after → StillOrOn before after
  all_on theirs from before [] reached after all = inl all.1
  all_on theirs from before (step ∷ steps) reached after all =
      still_or_both before all.0 after (comes_on before all.0 step.version step.text (Ok step.reached) all.3) (all_on theirs step.reached all.0 steps reached after all.4)

  pub run_on : (p q : ZoneSight) (it : Run) (end : RunEnd TextRefusal) → IsRunTo Comes (ShowsZone disks origin) p it end q → SeesOn p q
  run_on p q it end is =
      let b = began Comes (ShowsZone disks origin) StillOrOn (λ a z same. inl same) still_or_both p q it end (λ text said a z version result took. comes_on a z version text result took) is in
      then_on p b.mid q (shown_on p b.mid it.mine it.have b.shown) b.goes
