-- What is left to read of a row from a part on, and how far the reading of an unfinished
-- row is known.
use Rattle.std.specs.Prelude.{◌⊎◌, ◌↔◌, ℕ, ◌+◌, ◌*◌, ◌<◌, ◌≤◌, Bool, true, false, List, ◌++◌}
use Rattle.std.specs.Prelude.{length, drop, Option, Some, None, Result, Ok, if◌then◌else◌}
use Rattle.rdf_terms.specs.Quad.{is_iri}
use Rattle.nquads_text.specs.declared.fault.TextKind.TheVariants.{MissingDot, BadToken}
use Rattle.nquads_text.specs.Faults.{begins_term}
use Rattle.patch_rows.specs.declared.fault.RowKind.TheVariants.{Common}
use Rattle.patch_rows.specs.Fault.{Fault, ◌>>=◌}
use Rattle.patch_rows.specs.Grammar.{is_any, is_node, row_limit}
use Rattle.patch_rows.specs.Reading.{space_behind, skip_space, stands, dot_at}
use Rattle.patch_rows.specs.declared.cut.TextEnd.TheVariants.{Open}
use Rattle.patch_rows.specs.Rows.{live_row, open_key, placed_of, prefix_iri_of, prefix_of}
use Rattle.patch_rows.specs.declared.codes.Code.{Code}
use Rattle.patch_rows.specs.declared.codes.Code.TheVariants as code
use Rattle.patch_reader.specs.declared.inside.Inside.{Inside}
use Rattle.patch_reader.specs.declared.inside.Inside.TheVariants as inside
use Rattle.patch_reader.specs.declared.progress.RowPart.{RowPart}
use Rattle.patch_reader.specs.declared.progress.RowPart.TheVariants as part
use Rattle.patch_reader.specs.declared.progress.Place.{Place}
use Rattle.patch_reader.specs.declared.progress.Place.TheVariants as place
use Rattle.patch_reader.specs.declared.progress.RowProgress.{RowProgress}
use Rattle.patch_reader.specs.declared.progress.Step.{Step}
use Rattle.patch_reader.specs.declared.progress.Step.TheVariants as step
use Rattle.patch_rows.specs.Cut.{AtEnd}
use Rattle.patch_reader.specs.Inside.{OpenInside, IsInsideWithin}

-- ---- the rest of a row, of which only what stands behind it is given; white space and comments
-- are behind us

abbrev pub Rest : Type 0
Rest = Result (List ℕ) Fault

unfoldable pub end_from : List ℕ → Rest
end_from rest = dot_at (Common MissingDot) rest

unfoldable pub graph_from : List ℕ → Rest
graph_from rest =
    if stands begins_term rest then (placed_of Open is_node rest >>= λ g. end_from (skip_space g.1))
    else end_from rest

unfoldable pub object_from : List ℕ → Rest
object_from rest = placed_of Open is_any rest >>= λ t. graph_from (skip_space t.1)

unfoldable pub predicate_from : List ℕ → Rest
predicate_from rest = placed_of Open is_iri rest >>= λ t. object_from (skip_space t.1)

unfoldable pub subject_from : List ℕ → Rest
subject_from rest = placed_of Open is_node rest >>= λ t. predicate_from (skip_space t.1)

unfoldable pub value_from : List ℕ → Rest
value_from rest = placed_of Open is_any rest >>= λ v. end_from (skip_space v.1)

unfoldable pub key_from : List ℕ → Rest
key_from rest = open_key rest >>= λ k. value_from (skip_space k.1)

unfoldable pub iri_from : List ℕ → Rest
iri_from rest = prefix_iri_of Open rest >>= λ i. graph_from (skip_space i.1)

unfoldable pub added_from : List ℕ → Rest
added_from rest = prefix_of Open rest >>= λ p. iri_from (skip_space p.1)

unfoldable pub removed_from : List ℕ → Rest
removed_from rest = prefix_of Open rest >>= λ p. graph_from (skip_space p.1)

-- from a part on
abbrev pub rest_from : RowPart → List ℕ → Rest
rest_from part.Key rest = key_from rest
rest_from part.Value rest = value_from rest
rest_from part.Bare rest = dot_at (Common BadToken) rest
rest_from part.Added rest = added_from rest
rest_from part.Iri rest = iri_from rest
rest_from part.Removed rest = removed_from rest
rest_from part.Subject rest = subject_from rest
rest_from part.Predicate rest = predicate_from rest
rest_from part.Object rest = object_from rest
rest_from part.Graph rest = graph_from rest
rest_from part.End rest = end_from rest

-- the part alone; a graph is one that is there
abbrev pub part_at : RowPart → List ℕ → Rest
part_at part.Key rest = open_key rest >>= λ k. Ok k.1
part_at part.Value rest = placed_of Open is_any rest >>= λ t. Ok t.1
part_at part.Bare rest = dot_at (Common BadToken) rest
part_at part.Added rest = prefix_of Open rest >>= λ p. Ok p.1
part_at part.Iri rest = prefix_iri_of Open rest >>= λ i. Ok i.1
part_at part.Removed rest = prefix_of Open rest >>= λ p. Ok p.1
part_at part.Subject rest = placed_of Open is_node rest >>= λ t. Ok t.1
part_at part.Predicate rest = placed_of Open is_iri rest >>= λ t. Ok t.1
part_at part.Object rest = placed_of Open is_any rest >>= λ t. Ok t.1
part_at part.Graph rest = placed_of Open is_node rest >>= λ t. Ok t.1
part_at part.End rest = end_from rest

-- the part behind it; none behind the row's dot
abbrev pub part_behind : RowPart → Option RowPart
part_behind part.Key = Some part.Value
part_behind part.Value = Some part.End
part_behind part.Bare = None
part_behind part.Added = Some part.Iri
part_behind part.Iri = Some part.Graph
part_behind part.Removed = Some part.Graph
part_behind part.Subject = Some part.Predicate
part_behind part.Predicate = Some part.Object
part_behind part.Object = Some part.Graph
part_behind part.Graph = Some part.End
part_behind part.End = None

-- a term may stand there
abbrev pub takes_term : RowPart → Bool
takes_term part.Key = false
takes_term part.Value = true
takes_term part.Bare = false
takes_term part.Added = true
takes_term part.Iri = true
takes_term part.Removed = true
takes_term part.Subject = true
takes_term part.Predicate = true
takes_term part.Object = true
takes_term part.Graph = true
takes_term part.End = false

-- a blank node may
abbrev pub takes_node : RowPart → Bool
takes_node part.Key = false
takes_node part.Value = true
takes_node part.Bare = false
takes_node part.Added = false
takes_node part.Iri = false
takes_node part.Removed = false
takes_node part.Subject = true
takes_node part.Predicate = false
takes_node part.Object = true
takes_node part.Graph = true
takes_node part.End = false

-- a word may
abbrev pub takes_word : RowPart → Bool
takes_word part.Key = true
takes_word part.Value = false
takes_word part.Bare = false
takes_word part.Added = true
takes_word part.Iri = false
takes_word part.Removed = true
takes_word part.Subject = false
takes_word part.Predicate = false
takes_word part.Object = false
takes_word part.Graph = false
takes_word part.End = false

-- the part behind a row's code
abbrev pub first_part : Code → RowPart
first_part code.Header = part.Key
first_part code.Begin = part.Bare
first_part code.Commit = part.Bare
first_part code.Abort = part.Bare
first_part code.PrefixAdd = part.Added
first_part code.PrefixDelete = part.Removed
first_part code.Add = part.Subject
first_part code.Delete = part.Subject

-- what is left behind the part; behind the row's dot only the text
abbrev pub rest_behind : Option RowPart → List ℕ → Rest
rest_behind None after = Ok after
rest_behind (Some next) after = rest_from next (skip_space after)

-- ---- how far an unfinished row is known

-- what is read from a place on meets the text's end
abbrev pub OpenAt : Place → List ℕ → Type 0
OpenAt place.Row text = AtEnd (live_row text)
OpenAt (place.Gap p mark comment) text =
    AtEnd (rest_from p (space_behind comment 0 (drop mark text)))
OpenAt (place.Token p start) text = AtEnd (rest_from p (drop start text))

-- the row at the front is unfinished: reading it meets the text's end, and within its limit
abbrev pub IsUnfinished : List ℕ → Type 0
IsUnfinished text = (length text ≤ row_limit) × OpenAt place.Row text

-- however the text goes on, reading meets its end from the one place where it does from the other
abbrev pub SameOpen : List ℕ → Place → Place → Type 0
SameOpen text old new = (more : List ℕ) → OpenAt old (text ++ more) ↔ OpenAt new (text ++ more)

-- reading the row meets the end where it does from the place on, and also where the token is open
abbrev pub HasFollowed : List ℕ → RowProgress → Type 0
HasFollowed text p = SameOpen text place.Row p.place
    × ((more : List ℕ) → OpenInside p.inside (text ++ more) → OpenAt place.Row (text ++ more))

-- how many bytes of the text are known there, with the first one of a part
abbrev pub known_bytes : Place → ℕ
known_bytes place.Row = 0
known_bytes (place.Gap p mark comment) = mark
known_bytes (place.Token p start) = start + 1

-- they lie within the text
abbrev pub IsPlaceWithin : ℕ → Place → Type 0
IsPlaceWithin size p = known_bytes p ≤ size

abbrev pub IsProgressWithin : ℕ → RowProgress → Type 0
IsProgressWithin size p = IsPlaceWithin size p.place × IsInsideWithin size p.inside

-- what is read inside meets the end only where it does from further inside
abbrev pub LeadsInside : List ℕ → RowProgress → Inside → Type 0
LeadsInside text old new = (more : List ℕ) → OpenInside new (text ++ more)
    → OpenAt old.place (text ++ more) ⊎ OpenInside old.inside (text ++ more)

-- how many parts a row has at most from there on
abbrev pub parts_left : RowPart → ℕ
parts_left part.Key = 3
parts_left part.Value = 2
parts_left part.Bare = 1
parts_left part.Added = 4
parts_left part.Iri = 3
parts_left part.Removed = 3
parts_left part.Subject = 5
parts_left part.Predicate = 4
parts_left part.Object = 3
parts_left part.Graph = 2
parts_left part.End = 1

-- how many steps lead from there at most: over the code, up to each part and over it
abbrev pub steps_left : Place → ℕ
steps_left place.Row = 12
steps_left (place.Gap p mark comment) = 2 * parts_left p + 1
steps_left (place.Token p start) = 2 * parts_left p

-- One step: it goes on nearer to the row's end, reading meets the text's end there, or a row or a
-- fault is decided. Want of memory says nothing.
abbrev pub IsPartStep : List ℕ → RowProgress → Step → Type 0
IsPartStep text old (step.Goes new) = SameOpen text old.place new × IsPlaceWithin (length text) new
    × (steps_left new < steps_left old.place)
IsPartStep text old (step.Open new) =
    SameOpen text old.place new × IsPlaceWithin (length text) new × OpenAt new text
IsPartStep text old (step.Enters new) =
    LeadsInside text old new × IsInsideWithin (length text) new × OpenInside new text
IsPartStep text old step.Decided = OpenAt old.place text → ⊥
IsPartStep text old step.OutOfMemory = Unit {0}

-- the row is unfinished, and it is followed from there on; none where it isn't
abbrev pub IsFollowed : List ℕ → RowProgress → Option RowProgress → Type 0
IsFollowed text old None = HasFollowed text old → IsUnfinished text → ⊥
IsFollowed text old (Some p) =
    IsProgressWithin (length text) p
    × (HasFollowed text old → HasFollowed text p × IsUnfinished text)

-- at a place, with nothing known of what begins there
abbrev pub progress_at : Place → RowProgress
progress_at p = record { place = p; inside = inside.Nothing }
