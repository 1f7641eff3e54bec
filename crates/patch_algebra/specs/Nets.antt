-- Net changes and their inverses in the order of rows.
use Rattle.std.specs.Prelude.{ℕ, List, ◌∷◌}
use Rattle.std.specs.List.{flat_map}
use Rattle.std.specs.Ordering.{nat_cmp}
use Rattle.std.specs.declared.cmp.Ordering.{Ordering}
use Rattle.std.specs.Cmp.Lexicographic.{slice_cmp}
use Rattle.patch_meaning.specs.Patch.{Meaning}
use Rattle.patch_rows.specs.declared.row.Row.TheVariants as row
use Rattle.printed_rows.specs.Printed.{printed_line}
use Rattle.rdf_terms.specs.Dataset.{Dataset}
use Rattle.rdf_terms.specs.declared.change.Change.{Change}
use Rattle.rdf_terms.specs.declared.change.Change.TheVariants.{Add, Delete, PrefixAdd}
use Rattle.rdf_terms.specs.declared.change.Change.TheVariants.{PrefixDelete, Begin, Commit, Abort}
use Rattle.net_changes.specs.Net.{net_in, inverse_in}

-- PD, PA, D, A
abbrev pub rank : Change → ℕ
rank (PrefixDelete prefix graph) = 0
rank (PrefixAdd prefix iri graph) = 1
rank (Delete q) = 2
rank (Add q) = 3
rank Begin = 4
rank Commit = 5
rank Abort = 6

-- the canonical row of a change on its line, behind the number of its kind
abbrev pub ranked_row : Change → List ℕ
ranked_row c = rank c ∷ printed_line (row.Change c)

-- PD, PA, D, A, and among each of these the order of the bytes of canonical rows
abbrev pub net_cmp : Change → Change → Ordering
net_cmp a b = slice_cmp nat_cmp (ranked_row a) (ranked_row b)

-- of the changes at each key the last one, where it changes the dataset
abbrev pub net : Dataset → List Change → List Change
net d changes = net_in net_cmp d changes

-- the changes that undo them
abbrev pub inverse_changes : Dataset → List Change → List Change
inverse_changes d changes = inverse_in net_cmp d changes

-- the changes of patches, one after another
abbrev pub run_changes : List Meaning → List Change
run_changes ms = flat_map (λ m. m.changes) ms
