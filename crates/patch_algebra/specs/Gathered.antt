-- The net changes of changes of which the last ones were met, from the last one on.
use Rattle.std.specs.Prelude.{◌≡◌, ℕ, Bool, true, false, not, List, [], ◌∷◌, map, if◌then◌else◌}
use Rattle.std.specs.BTreeSet.{insert_key}
use Rattle.std.specs.Cmp.Lexicographic.{slice_cmp}
use Rattle.std.specs.List.{AllByRecursion, filter}
use Rattle.std.specs.Ordering.{nat_cmp}
use Rattle.net_changes.specs.Keys.{change_key, same_key}
use Rattle.net_changes.specs.Net.{alters, undone}
use Rattle.net_changes.specs.Writes.{last_writes, insertion_sort}
use Rattle.patch_meaning.specs.Patch.{Meaning}
use Rattle.patch_rows.specs.Printing.{IsWellPlaced}
use Rattle.rdf_terms.specs.Dataset.{Dataset, kept}
use Rattle.rdf_terms.specs.declared.change.Change.{Change}
use Rattle.rdf_terms.specs.declared.change.Change.TheVariants.{Add, Delete, PrefixAdd}
use Rattle.rdf_terms.specs.declared.change.Change.TheVariants.{PrefixDelete, Begin, Commit, Abort}
use Rattle.patch_algebra.specs.declared.gathering.Direction.{Direction}
use Rattle.patch_algebra.specs.declared.gathering.Direction.TheVariants.{Forth, Back}
use Rattle.patch_algebra.specs.declared.gathering.Gathering.{Gathering}
use Rattle.patch_algebra.specs.Names.{name_bytes}
use Rattle.patch_algebra.specs.Nets.{inverse_changes, net, net_cmp, ranked_row, run_changes}
use Rattle.patch_algebra.specs.Written.{HaveRows}

-- a change itself, or what undoes it
abbrev pub turned : Direction → Dataset → Change → Change
turned Forth d = λ c. c
turned Back d = undone d

-- of changes that stand, those that are gathered, in their order
abbrev pub gathered : Direction → Dataset → List Change → List Change
gathered direction d changes = insertion_sort net_cmp
    (map (turned direction d) (filter (alters d) (last_writes change_key same_key changes)))

-- texts in the order of their bytes, each once
abbrev pub set_of : List (List ℕ) → List (List ℕ)
set_of [] = []
set_of (text ∷ texts) = insert_key (slice_cmp nat_cmp) (set_of texts) text

-- what these changes are about was met, and the rows are those of the ones that are gathered
pub record AreGathered (d : Dataset) (changes : List Change) (g : Gathering) : Type 0 where
  pub met_is : map (λ bytes. bytes.items) g.met.keys ≡ set_of (map name_bytes changes)
  pub rows_are : map (λ bytes. bytes.items) g.rows.keys
      ≡ map ranked_row (gathered g.direction d changes)
  pub printed : HaveRows (gathered g.direction d changes)

-- what they come to: the net changes of patches, or those that undo them
abbrev pub net_turned : Direction → Dataset → List Meaning → List Change
net_turned Forth d ms = net d (run_changes ms)
net_turned Back d ms = inverse_changes d (run_changes ms)

-- so many patches were gathered, from the last one to the first
pub record HasGathered (direction : Direction) (d : Dataset) (ms : List Meaning)
    (g : Gathering) : Type 0 where
  pub direction_is : g.direction ≡ direction
  pub changes_are : AreGathered d (kept (run_changes ms)) g

-- the terms of each change may stand where they do
abbrev pub ArePlaced : List Change → Type 0
ArePlaced changes = AllByRecursion IsWellPlaced changes

-- whether changes are skipped in front of one, met from behind: a block that an Abort ends is
abbrev pub skips_from : Bool → Change → Bool
skips_from skips (Add q) = skips
skips_from skips (Delete q) = skips
skips_from skips (PrefixAdd prefix iri graph) = skips
skips_from skips (PrefixDelete prefix graph) = skips
skips_from skips Begin = false
skips_from skips Commit = false
skips_from skips Abort = true

-- whether a change stands: it isn't skipped, and is no word of a block
abbrev pub stands_from : Bool → Change → Bool
stands_from skips (Add q) = not skips
stands_from skips (Delete q) = not skips
stands_from skips (PrefixAdd prefix iri graph) = not skips
stands_from skips (PrefixDelete prefix graph) = not skips
stands_from skips Begin = false
stands_from skips Commit = false
stands_from skips Abort = false

-- from the last change on: whether those in front are skipped, and those that stand
abbrev pub skips_before : List Change → Bool
skips_before [] = false
skips_before (c ∷ cs) = skips_from (skips_before cs) c

abbrev pub stand_back : List Change → List Change
stand_back [] = []
stand_back (c ∷ cs) =
    if stands_from (skips_before cs) c then c ∷ stand_back cs else stand_back cs
