-- What changes do to the lines of a dataset.
use Rattle.std.specs.Prelude.{◌≡◌, ◌⊎◌, ℕ, ◌+◌, ◌*◌, ◌≤◌, Bool, true, false, List, [], ◌∷◌, ◌++◌}
use Rattle.std.specs.Prelude.{Option, Some, None, map, take, length}
use Rattle.line_log.specs.Edits.{bytes_of, made}
use Rattle.line_log.specs.Sorting.{additions}
use Rattle.rdf_terms.specs.declared.change.Change.{Change}
use Rattle.rdf_terms.specs.declared.change.Change.TheVariants as change
use Rattle.rdf_terms.specs.Dataset.{Dataset, apply, effects, kept_behind}
use Rattle.rdf_terms.specs.Line.{line, lines}
use Rattle.stream_replay.specs.declared.edits.Edits.{Edits}
use Rattle.stream_replay.specs.declared.edits.TheConstants.{SPARE_BYTES, SPARE_EDITS}

-- edits, one after another, make the lines of a dataset's quads
abbrev pub MakesLines : List (Bool × List ℕ) → Dataset → Type 0
MakesLines edits d = made edits ≡ map line d.quads

-- What changes that may go on do to a dataset, without the blocks that TA ended: more changes go on
-- from there. Where a block is open, so many edits stand before it.
abbrev pub AreEditsBehind : Option ℕ → List Change → Dataset → List (Bool × List ℕ) → Type 0
AreEditsBehind None changes d edits =
    (after : Dataset) × ((more : List Change) → apply (changes ++ more) d ≡ apply more after)
    × MakesLines edits after
AreEditsBehind (Some count) changes d edits =
    (after : Dataset) × (inside : List Change)
    × ((more : List Change) → apply (changes ++ more) d ≡ effects (kept_behind inside more) after)
    × MakesLines (take count edits) after × MakesLines edits (effects inside after)
    × (count ≤ length edits)

-- the log has what these changes do to this dataset
abbrev pub HasEdits : List Change → Dataset → Edits → Type 0
HasEdits changes d e = AreEditsBehind e.before_block changes d e.log

-- ---- how much is held

-- the edits that a change is
abbrev pub edits_by : Change → List (Bool × List ℕ)
edits_by (change.Add q) = (true, line q) ∷ []
edits_by (change.Delete q) = (false, line q) ∷ []
edits_by other = []

-- the log grew by no more than these edits, and what is enough is as before
pub record GrowsBy (more : List (Bool × List ℕ)) (old new : Edits) : Type 0 where
  pub bytes : bytes_of new.log ≤ bytes_of old.log + bytes_of more
  pub edits : length new.log ≤ length old.log + length more
  pub enough_bytes_is : new.enough_bytes ≡ old.enough_bytes
  pub enough_edits_is : new.enough_edits ≡ old.enough_edits

-- the log has no more than is enough
pub record IsShort (e : Edits) : Type 0 where
  pub bytes : bytes_of e.log ≤ e.enough_bytes
  pub edits : length e.log ≤ e.enough_edits

-- what is enough is at most twice what the lines of a dataset have, and the spare
pub record IsEnoughFor (d : Dataset) (e : Edits) : Type 0 where
  pub bytes : e.enough_bytes ≤ 2 * length (lines d.quads) + SPARE_BYTES
  pub edits : e.enough_edits ≤ 2 * length d.quads + SPARE_EDITS

-- one edit is left for each line that stands, and how much the log may have goes by these lines
abbrev pub IsSettled : Edits → Edits → Type 0
IsSettled old new = (new.log ≡ additions (made old.log))
    × (new.enough_bytes ≤ 2 * bytes_of new.log + SPARE_BYTES)
    × (new.enough_edits ≤ 2 * length new.log + SPARE_EDITS)

-- the log is as it was, and what is enough; or it was settled
abbrev pub IsSettledOrShort : Edits → Edits → Type 0
IsSettledOrShort old new = ((new.log ≡ old.log) × (new.enough_bytes ≡ old.enough_bytes)
    × (new.enough_edits ≡ old.enough_edits))
    ⊎ IsSettled old new
