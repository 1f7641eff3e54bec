-- Going over changes from the last one on.
use Rattle.std.proofs.Common.{◌≡◌, ℕ, Bool, true, false, cond, not, List, [], ◌∷◌, ◌++◌, refl, sym, ap, subst, ◌∙◌, append_assoc}
use Rattle.rdf_terms.specs.Dataset.{Dataset, kept, kept_behind}
use Rattle.rdf_terms.specs.declared.change.Change.{Change}
use Rattle.rdf_terms.specs.declared.change.Change.TheVariants.{Add, Delete, PrefixAdd, PrefixDelete, Begin, Commit, Abort}
use Rattle.std.proofs.lemmas.List.Concat.{flat_map-cons}
use Rattle.net_changes.proofs.Nets.{all_kept}
use Rattle.patch_meaning.specs.Patch.{Meaning, AreOutside, AreInside, IsPatch}
use Rattle.patch_algebra.specs.Nets.{run_changes}
use Rattle.patch_algebra.proofs.Runs.{kept-append}
use Rattle.patch_rows.specs.Printing.{IsWellPlaced}
use Rattle.patch_algebra.proofs.Values.{patch_placed}
use Rattle.patch_algebra.specs.Gathered.{ArePlaced, AreGathered, HasGathered, skips_from, stands_from, skips_before, stand_back}
use Rattle.patch_algebra.specs.declared.gathering.Direction.{Direction}
use Rattle.patch_algebra.specs.declared.gathering.Gathering.{Gathering}

-- what stands behind an open block: all of it, or without what is held back
abbrev left_of : Bool → List Change → List Change → List Change
left_of true held stand = stand
left_of false held stand = held ++ stand

held_more : (c : Change) (b : Bool) (held stand : List Change) → left_of b (held ++ c ∷ []) stand ≡ left_of b held (cond (not b) (c ∷ stand) stand)
held_more c true held stand = refl
held_more c false held stand = append_assoc held (c ∷ []) stand

outside_skips : (cs : List Change) → AreOutside cs → skips_before cs ≡ false
outside_skips [] o = refl
outside_skips (Begin ∷ cs) o = refl
outside_skips (Commit ∷ cs) o = absurd o
outside_skips (Abort ∷ cs) o = absurd o
outside_skips (Add q ∷ cs) o = outside_skips cs o
outside_skips (Delete q ∷ cs) o = outside_skips cs o
outside_skips (PrefixAdd p i g ∷ cs) o = outside_skips cs o
outside_skips (PrefixDelete p g ∷ cs) o = outside_skips cs o

nothing_held : (b : Bool) (stand : List Change) → left_of b [] stand ≡ stand
nothing_held true stand = refl
nothing_held false stand = refl

-- a change that stands where nothing is skipped
one_stands : (c : Change) (b : Bool) (l stand : List Change) → b ≡ false → l ≡ stand → c ∷ l ≡ cond (not b) (c ∷ stand) stand
one_stands c b l stand e f = ap (λ (k : List Change). c ∷ k) f ∙ sym (ap (λ x. cond (not x) (c ∷ stand) stand) e)

mutual
  pub outside_stand : (cs : List Change) → AreOutside cs → kept cs ≡ stand_back cs
  outside_stand [] o = refl
  outside_stand (Begin ∷ cs) o = inside_stand [] cs o ∙ nothing_held (skips_before cs) (stand_back cs)
  outside_stand (Commit ∷ cs) o = absurd o
  outside_stand (Abort ∷ cs) o = absurd o
  outside_stand (Add q ∷ cs) o = one_stands (Add q) (skips_before cs) (kept cs) (stand_back cs) (outside_skips cs o) (outside_stand cs o)
  outside_stand (Delete q ∷ cs) o = one_stands (Delete q) (skips_before cs) (kept cs) (stand_back cs) (outside_skips cs o) (outside_stand cs o)
  outside_stand (PrefixAdd p i g ∷ cs) o = one_stands (PrefixAdd p i g) (skips_before cs) (kept cs) (stand_back cs) (outside_skips cs o) (outside_stand cs o)
  outside_stand (PrefixDelete p g ∷ cs) o = one_stands (PrefixDelete p g) (skips_before cs) (kept cs) (stand_back cs) (outside_skips cs o) (outside_stand cs o)

  inside_stand : (held cs : List Change) → AreInside cs → kept_behind held cs ≡ left_of (skips_before cs) held (stand_back cs)
  inside_stand held [] o = absurd o
  inside_stand held (Begin ∷ cs) o = absurd o
  inside_stand held (Commit ∷ cs) o = ap (λ (l : List Change). held ++ l) (outside_stand cs o)
  inside_stand held (Abort ∷ cs) o = outside_stand cs o
  inside_stand held (Add q ∷ cs) o = inside_stand (held ++ Add q ∷ []) cs o ∙ held_more (Add q) (skips_before cs) held (stand_back cs)
  inside_stand held (Delete q ∷ cs) o = inside_stand (held ++ Delete q ∷ []) cs o ∙ held_more (Delete q) (skips_before cs) held (stand_back cs)
  inside_stand held (PrefixAdd p i g ∷ cs) o = inside_stand (held ++ PrefixAdd p i g ∷ []) cs o ∙ held_more (PrefixAdd p i g) (skips_before cs) held (stand_back cs)
  inside_stand held (PrefixDelete p g ∷ cs) o = inside_stand (held ++ PrefixDelete p g ∷ []) cs o ∙ held_more (PrefixDelete p g) (skips_before cs) held (stand_back cs)

-- what was gathered behind, and the changes that were gone over
abbrev pub GoesOver : Dataset → Gathering → Gathering → List Change → Type 0
GoesOver d old new passed = (behind : List Change) → ArePlaced (stand_back passed) → AreGathered d behind old → AreGathered d (stand_back passed ++ behind) new

pub over_nothing : (d : Dataset) (g : Gathering) → GoesOver d g g []
over_nothing d g behind placed h = h

-- the next one stands
pub over_taken : (d : Dataset) (old between new : Gathering) (c : Change) (passed : List Change) → GoesOver d old between passed → stands_from (skips_before passed) c ≡ true
    → ((behind : List Change) → IsWellPlaced c → AreGathered d behind between → AreGathered d (c ∷ behind) new) → GoesOver d old new (c ∷ passed)
over_taken d old between new c passed goes stands take =
    subst (λ (l : List Change). (behind : List Change) → ArePlaced l → AreGathered d behind old → AreGathered d (l ++ behind) new)
    (sym (ap (λ b. cond b (c ∷ stand_back passed) (stand_back passed)) stands))
    (λ behind placed h. take (stand_back passed ++ behind) placed.0 (goes behind placed.1 h))

-- the next one doesn't
pub over_passed : (d : Dataset) (old new : Gathering) (c : Change) (passed : List Change) → GoesOver d old new passed → stands_from (skips_before passed) c ≡ false → GoesOver d old new (c ∷ passed)
over_passed d old new c passed goes stands =
    subst (λ (l : List Change). (behind : List Change) → ArePlaced l → AreGathered d behind old → AreGathered d (l ++ behind) new)
    (sym (ap (λ b. cond b (c ∷ stand_back passed) (stand_back passed)) stands)) goes

-- ---- patches

-- one patch more is gathered
pub patch_gathered : (direction : Direction) (d : Dataset) (text : List ℕ) (m : Meaning) (behind : List Meaning) (old new : Gathering) → IsPatch text m → new.direction ≡ old.direction
    → ((cs : List Change) → AreOutside m.changes → ArePlaced (kept m.changes) → AreGathered d cs old → AreGathered d (kept m.changes ++ cs) new)
    → HasGathered direction d behind old → HasGathered direction d (m ∷ behind) new
patch_gathered direction d text m behind old new is way took h =
    let outside = is.well.blocks in
    let placed = all_kept IsWellPlaced m.changes (patch_placed text m is) in
    let parted : kept (run_changes (m ∷ behind)) ≡ kept m.changes ++ kept (run_changes behind) =
    ap kept (flat_map-cons (λ (n : Meaning). n.changes) m behind) ∙ kept-append m.changes (run_changes behind) outside in
    record {
      direction_is = way ∙ h.direction_is;
      changes_are = subst (λ (l : List Change). AreGathered d l new) (sym parted) (took (kept (run_changes behind)) outside placed h.changes_are);
    }

-- ---- the ends of the loops

pub all_changes_gone : (d : Dataset) (old new : Gathering) (cs passed : List Change) → cs ≡ passed → GoesOver d old new passed
    → (behind : List Change) → AreOutside cs → ArePlaced (kept cs) → AreGathered d behind old → AreGathered d (kept cs ++ behind) new
all_changes_gone d old new cs passed e goes behind outside placed h =
    let whole : kept cs ≡ stand_back passed = outside_stand cs outside ∙ ap stand_back e in
    subst (λ (l : List Change). AreGathered d (l ++ behind) new) (sym whole) (goes behind (subst ArePlaced whole placed) h)

pub last_before : {X : Type 0} (all rest before passed : List X) (x : X) → all ≡ rest ++ passed → rest ≡ before ++ x ∷ [] → all ≡ before ++ x ∷ passed
last_before all rest before passed x e f = e ∙ ap (λ (l : List _). l ++ passed) f ∙ append_assoc before (x ∷ []) passed

pub nothing_before : {X : Type 0} (all rest passed : List X) → all ≡ rest ++ passed → rest ≡ [] → all ≡ passed
nothing_before all rest passed e none = e ∙ ap (λ (l : List _). l ++ passed) none

-- a change itself doesn't bear on whether it stands
stands_alike : (b : Bool) (c : Change) → stands_from (skips_from b c) c ≡ stands_from b c
stands_alike b (Add q) = refl
stands_alike b (Delete q) = refl
stands_alike b (PrefixAdd p i g) = refl
stands_alike b (PrefixDelete p g) = refl
stands_alike b Begin = refl
stands_alike b Commit = refl
stands_alike b Abort = refl

pub stands_still : (new old : Bool) (c : Change) {before : Bool} → new ≡ skips_from old c → old ≡ before → stands_from new c ≡ stands_from before c
stands_still new old c e f = ap (λ b. stands_from b c) e ∙ stands_alike old c ∙ ap (λ b. stands_from b c) f
