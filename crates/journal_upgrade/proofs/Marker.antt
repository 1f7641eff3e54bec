-- What the marker holds.
use Rattle.std.proofs.Common.{◌≡◌, inl, inr, ⊎_elim, ℕ, List, [], ◌∷◌, subst}
use Rattle.disk_model.specs.Past.{Past, EveryImage, LeavesOnly}
use Rattle.disk_model.proofs.Moments.{weaker, then_other}
use Rattle.log_journal.specs.File.{Holds}
use Rattle.log_journal.specs.Front.{HoldsNothing, HasFront, LeftOrNothing}
use Rattle.log_journal.specs.Journal.{HoldsAll, HoldsWithOrWithout}
use Rattle.journal_upgrade.specs.Marker.{IsMarked, IsUnmarked, IsMarking}
use Rattle.log_journal.proofs.FrontLaws.{never_nothing}

-- the front of a marked marker has no fault
pub marked_fronts : (past : Past) (number : ℕ) → EveryImage past (λ image. IsMarked image number) → EveryImage past (λ image. HasFront image number)
marked_fronts past number marked image left = inr (marked image left)

-- a restart of one in which nothing stands
pub restarted : (old new : Past) (number : ℕ) → EveryImage old (λ image. HoldsNothing image number) → LeavesOnly (LeftOrNothing old number) old new → LeavesOnly (IsMarking number) old new
restarted old new number nothing only = weaker (LeftOrNothing old number) (IsMarking number) (λ image. ⊎_elim (λ left. inl (nothing image left)) (λ none. inl none)) old new only

-- and the mark behind it
pub then_marked : (old mid new : Past) (number : ℕ) (payload : List ℕ) → payload ≡ 85 ∷ [] → LeavesOnly (IsMarking number) old mid → LeavesOnly (HoldsWithOrWithout number [] payload) mid new → LeavesOnly (IsMarking number) old new
then_marked old mid new number payload is first second =
    then_other (IsMarking number) (HoldsWithOrWithout number [] payload) (IsMarking number) old mid new (λ image marking. marking)
    (λ image. ⊎_elim (λ none. inl (inr none)) (λ one. inr (subst (λ (p : List ℕ). Holds image number (p ∷ [])) is one))) first second

pub all_nothing : (past : Past) (end number : ℕ) → HoldsAll past end number [] → EveryImage past (λ image. HoldsNothing image number)
all_nothing past end number all image left = inr (all.each image left)

-- where nothing stands in it, no payload does
pub nothing_unmarked : (image : List ℕ) (number : ℕ) → HoldsNothing image number → IsUnmarked image number
nothing_unmarked image number nothing payload first = never_nothing image number payload nothing first
