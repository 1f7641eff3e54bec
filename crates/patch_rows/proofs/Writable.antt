-- A row that stands in a text has a canonical text of its own.
use Rattle.std.proofs.Common.{◌≡◌, ℕ, true, List, Option, Some, None, refl}
use Rattle.rdf_terms.specs.declared.change.Change.{Change}
use Rattle.rdf_terms.specs.declared.change.Change.TheVariants as change
use Rattle.rdf_terms.specs.declared.term.Term.{Term}
use Rattle.rdf_terms.specs.Quad.{Statement, is_quad, may_be_graph}
use Rattle.patch_rows.specs.declared.row.Row.{Row}
use Rattle.patch_rows.specs.declared.row.Row.TheVariants as row
use Rattle.patch_rows.specs.Grammar.{GraphAt, QuadAt, ChangeAt, PartsAt, RowAt}
use Rattle.patch_rows.specs.Printing.{IsWellPlaced, IsWritable}

graph_placed : (text : List ℕ) (g : Option Term) (after : List ℕ) → GraphAt text g after → may_be_graph g ≡ true
graph_placed text None after e = refl
graph_placed text (Some g) after e = e.1.2.1

quad_placed : (text : List ℕ) (q : Statement) (after : List ℕ) → QuadAt text q after → is_quad q ≡ true
quad_placed text q after e = rw (e.3.2.1, e.4.2.1, graph_placed e.2 q.graph after e.6) refl

change_placed : (text : List ℕ) (c : Change) (after : List ℕ) → ChangeAt text c after → IsWellPlaced c
change_placed text (change.Add q) after e = quad_placed text q after e
change_placed text (change.Delete q) after e = quad_placed text q after e
change_placed text (change.PrefixAdd prefix iri g) after e = graph_placed e.1 g after e.4
change_placed text (change.PrefixDelete prefix g) after e = graph_placed e.0 g after e.2
change_placed text change.Begin after e = tt
change_placed text change.Commit after e = tt
change_placed text change.Abort after e = tt

parts_writable : (text : List ℕ) (r : Row) (after : List ℕ) → PartsAt text r after → IsWritable r
parts_writable text (row.Header key value) after e = e.2.2.0
parts_writable text (row.Change c) after e = change_placed text c after e

pub writable : (text : List ℕ) (r : Row) (after : List ℕ) → RowAt text r after → IsWritable r
unfolding RowAt
writable text r after e = parts_writable e.0 r after e.2
