-- A document in canonical form.
use Rattle.std.specs.Prelude.{◌≡◌, ◌↔◌, ℕ, List, map}
use Rattle.std.specs.List.{flat_map, Contains}
use Rattle.std.specs.Ordering.{nat_cmp}
use Rattle.std.specs.List.Sorted.{IsStrictlySortedBy}
use Rattle.std.specs.Cmp.Lexicographic.{slice_cmp}
use Rattle.rdf_terms.specs.Quad.{Statement}
use Rattle.rdf_terms.specs.Line.{line}

-- the lines of the quads, each once, in the order of their bytes
pub record AreCanonical (quads : List Statement) (lines : List (List ℕ)) : Type 0 where
  pub same : (l : List ℕ) → Contains lines l ↔ Contains (map line quads) l
  pub rising : IsStrictlySortedBy (slice_cmp nat_cmp) lines

-- these lines, one after another
pub record IsCanonical (quads : List Statement) (text : List ℕ) : Type 0 where
  pub lines : List (List ℕ)
  pub joined : text ≡ flat_map (λ l. l) lines
  pub are : AreCanonical quads lines
