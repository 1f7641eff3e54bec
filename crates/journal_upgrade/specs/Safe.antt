-- What an upgrade never loses.
use Rattle.std.specs.Prelude.{ℕ, ◌+◌, ◌<◌, List, length, slice_index}
use Rattle.disk_model.specs.Past.{Past, MayLeave, EveryImage}
use Rattle.log_journal.specs.File.{HoldsInEither}
use Rattle.journal_upgrade.specs.Copies.{past_at}
use Rattle.journal_upgrade.specs.Marker.{IsUnmarked, IsMarked}

-- every image of each disk holds the payloads at its place, in one form or the other; so much is
-- added to the numbers
abbrev pub AreHeld : {D : Type 0} → (D → Past) → ℕ → List ℕ → List D → (ℕ → List (List ℕ)) → Type 0
AreHeld past more numbers disks payloads = (i : ℕ) → i < length numbers
    → EveryImage (past_at past disks i)
    (λ image. HoldsInEither image (slice_index numbers i + more) (payloads i))

-- where a crash may leave the marker without a payload, the files hold the payloads whatever it
-- leaves of them; and where it may leave one in it, the spares do
pub record AreSafe {D : Type 0} (past : D → Past) (numbers : List ℕ) (files spares : List D)
    (marker : Past) (number : ℕ) (payloads : ℕ → List (List ℕ)) : Type 0 where
  pub unmarked : (image : List ℕ) → MayLeave marker image → IsUnmarked image number
      → AreHeld past 0 numbers files payloads
  pub marked : (image : List ℕ) → MayLeave marker image → IsMarked image number
      → AreHeld past 2000 numbers spares payloads
