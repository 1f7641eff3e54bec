-- What images of the file beside the current one hold.
use Rattle.std.proofs.Common.{◌≡◌, inl, inr, ℕ, ◌≤◌, Bool, true, false, List, [], ◌∷◌, Option, Some, None, Result, Ok, Err, refl, ◌∙◌, subst, arith}
use Rattle.std.specs.Prelude.{not, IfOk, IfErr}
use Rattle.std.proofs.lemmas.Bool.Decides.{nat_tests}
use Rattle.disk_model.specs.declared.disk.Disk.{Ghosts}
use Rattle.disk_model.specs.Past.{Past, EveryImage, LeavesOnly}
use Rattle.disk_model.proofs.Moments.{weaker, then_other}
use Rattle.log_journal.specs.File.{Holds}
use Rattle.log_journal.specs.Front.{HoldsNothing, HasFront, LeftOrNothing}
use Rattle.log_journal.specs.Filling.{HoldsNoneOrAll}
use Rattle.log_journal.specs.Written.{DiskWent}
use Rattle.delta_base.specs.Outside.{Rose}
use Rattle.log_journal.proofs.FrontLaws.{holds_front}
use Rattle.zone_files.specs.Generation.{number_of, unmarked, PayloadsShow, IsInGeneration}
use Rattle.zone_files.specs.Pair.{IsEarlier, IsBehind, MayBeOther}
use Rattle.zone_files.proofs.Generations.{shown_by}
use Rattle.zone_beside.specs.Beside.{MayHoldBeside, MayHoldWriting}

-- payloads of an earlier generation
pub held_behind : (second : Bool) (g : ℕ) (payloads : List (List ℕ)) (shown : Option ℕ) (image : List ℕ) → PayloadsShow (not second) payloads shown → IsEarlier second g shown → Holds image (number_of (not second)) payloads → IsBehind second g image
held_behind second g payloads shown image shows earlier holds = (shown, shown_by image (not second) payloads shown holds shows, earlier)

-- a file without a payload isn't current beside the current one
pub empty_earlier : (second : Bool) (g : ℕ) → (second ≡ true → 1 ≤ g) → IsEarlier second g (unmarked (not second))
empty_earlier true g some = let least = some refl in grind (arith, nat_tests)
empty_earlier false g some = refl

module _ (second : Bool) (g : ℕ) (later : second ≡ true → 1 ≤ g) where
  pub nothing_behind : (image : List ℕ) → HoldsNothing image (number_of (not second)) → IsBehind second g image
  nothing_behind image nothing = (unmarked (not second), inl (nothing, refl), empty_earlier second g later)

  behind_front : (image : List ℕ) → IsBehind second g image → HasFront image (number_of (not second))
  behind_front image behind = by behind.0 behind.1
    where
      by : (other : Option ℕ) → IsInGeneration image (not second) other → HasFront image (number_of (not second))
      by other (inl nothing) = inl nothing.0
      by other (inr first) = inr (first.0, first.1)

  -- the front of what may stand there has no fault
  pub beside_front : (doubt : Option (List ℕ)) (image : List ℕ) → MayHoldBeside second g doubt image → HasFront image (number_of (not second))
  beside_front None image behind = behind_front image behind
  beside_front (Some next) image (inl behind) = behind_front image behind
  beside_front (Some next) image (inr holds) = holds_front image (number_of (not second)) (next ∷ []) holds

  -- what leaves the current file as it is may stand there
  pub behind_held : (doubt : Option (List ℕ)) (image : List ℕ) → IsBehind second g image → MayHoldBeside second g doubt image
  behind_held None image behind = behind
  behind_held (Some next) image behind = inl behind

  -- a file that is emptied
  pub emptied : (number : ℕ) (doubt : Option (List ℕ)) (old new : Past) → number ≡ number_of (not second) → EveryImage old (MayHoldBeside second g doubt) → LeavesOnly (LeftOrNothing old number) old new → LeavesOnly (MayHoldBeside second g doubt) old new
  emptied number doubt old new is each only =
      weaker (LeftOrNothing old (number_of (not second))) (MayHoldBeside second g doubt) (λ image held. by image held) old new (subst (λ (n : ℕ). LeavesOnly (LeftOrNothing old n) old new) is only)
    where
      by : (image : List ℕ) → LeftOrNothing old (number_of (not second)) image → MayHoldBeside second g doubt image
      by image (inl left) = each image left
      by image (inr nothing) = behind_held doubt image (nothing_behind image nothing)

  -- none or the next one
  none_or_next : (next image : List ℕ) → HoldsNoneOrAll (number_of (not second)) (next ∷ []) image → MayBeOther second g next image
  none_or_next next image (inl holds) = inl (nothing_behind image (inr holds))
  none_or_next next image (inr holds) = inr holds

  pub filled_moments : (payloads : List (List ℕ)) (next : List ℕ) (old new : Past) → payloads ≡ next ∷ [] → LeavesOnly (HoldsNoneOrAll (number_of (not second)) payloads) old new → LeavesOnly (MayBeOther second g next) old new
  filled_moments payloads next old new is only =
      weaker (HoldsNoneOrAll (number_of (not second)) (next ∷ [])) (MayBeOther second g next) (λ image held. none_or_next next image held) old new
      (subst (λ (ps : List (List ℕ)). LeavesOnly (HoldsNoneOrAll (number_of (not second)) ps) old new) is only)

  -- a file that is emptied and filled
  pub written : (doubt : Option (List ℕ)) (next : List ℕ) (old mid new : Past) → LeavesOnly (MayHoldBeside second g doubt) old mid → LeavesOnly (MayBeOther second g next) mid new → LeavesOnly (MayHoldWriting second g doubt next) old new
  written doubt next old mid new emptying filling =
      then_other (MayHoldBeside second g doubt) (MayBeOther second g next) (MayHoldWriting second g doubt next) old mid new (λ image held. inl held) (λ image held. inr held) emptying filling

  -- and where emptying it failed
  pub not_written : (doubt : Option (List ℕ)) (next : List ℕ) (old new : Past) → LeavesOnly (MayHoldBeside second g doubt) old new → LeavesOnly (MayHoldWriting second g doubt next) old new
  not_written doubt next old new only = weaker (MayHoldBeside second g doubt) (MayHoldWriting second g doubt next) (λ image held. inl held) old new only

-- ---- disks

module _ {D : Type 0} (disks : Ghosts D) where
  -- one call that went well, and another one
  pub went_then : (failed : Type 0) (old mid new : D) → DiskWent disks ⊥ old mid → DiskWent disks failed mid new → DiskWent disks failed old new
  went_then failed old mid new first second = record {
    cause = λ is. subst (λ (n : ℕ). Rose n (disks.faults new)) (first.well (λ none. none)) (second.cause is);
    never_falls = omega (arith, first.never_falls, second.never_falls);
    well = λ none. second.well none ∙ first.well (λ it. it);
    stays_short = λ plans is. second.stays_short plans (first.stays_short plans is);
    mark = second.mark ∙ first.mark;
  }

-- what is said of a result in other words
pub ok_by : {T E : Type 0} (P Q : T → Type 0) (result : Result T E) → ((value : T) → P value → Q value) → IfOk result P → IfOk result Q
ok_by P Q (Ok value) implies is = implies value is
ok_by P Q (Err fault) implies is = is

pub err_by : {T E : Type 0} (P Q : E → Type 0) (result : Result T E) → ((fault : E) → P fault → Q fault) → IfErr result P → IfErr result Q
err_by P Q (Ok value) implies is = is
err_by P Q (Err fault) implies is = implies fault is
