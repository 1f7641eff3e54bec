-- The changes of a patch have canonical rows, so they are values.
use Rattle.std.proofs.Common.{◌≡◌, ℕ, Bool, true, false, cond, ◌||◌, List, [], ◌∷◌, ◌++◌, drop, refl, sym, subst}
use Rattle.std.specs.Prelude.{codes, nat_eq}
use Rattle.std.specs.Cmp.Lexicographic.{pointwise}
use Rattle.std.specs.List.{AllByRecursion}
use Rattle.std.proofs.lemmas.List.Concat.{flat_map-cons}
use Rattle.net_changes.specs.Values.{IsNamedValue}
use Rattle.patch_meaning.specs.Patch.{Meaning, IsPatch}
use Rattle.patch_meaning.specs.Roles.{header_role, value_id, change_of, changes_of, role, said}
use Rattle.patch_meaning.specs.declared.role.Role.{Role}
use Rattle.patch_meaning.specs.declared.role.Role.TheVariants as roles
use Rattle.patch_reader.specs.Rows.{RowsUpTo}
use Rattle.patch_reader.specs.declared.placed.PlacedRow.{PlacedRow}
use Rattle.patch_rows.proofs.Writable.{writable}
use Rattle.patch_rows.specs.Grammar.{IsRowAt}
use Rattle.patch_rows.specs.declared.row.Row.{Row}
use Rattle.patch_rows.specs.declared.row.Row.TheVariants as row
use Rattle.printed_rows.proofs.Values.{row_value}
use Rattle.printed_rows.specs.Printed.{IsPrintedRow}
use Rattle.rdf_terms.specs.declared.change.Change.{Change}
use Rattle.rdf_terms.specs.declared.change.Change.TheVariants.{Add, Delete, PrefixAdd, PrefixDelete, Begin, Commit, Abort}
use Rattle.rdf_terms.specs.declared.term.Term.{Term}
use Rattle.patch_algebra.specs.Gathered.{ArePlaced}
use Rattle.patch_algebra.specs.Laws.{PatchesAreValues, PatchesHaveRows}
use Rattle.patch_algebra.specs.Written.{HaveRows}

-- ---- rows

no_change : (a b : Bool) (x y z : Role) → change_of x ≡ [] → change_of y ≡ [] → change_of z ≡ [] → change_of (cond a x (cond b y z)) ≡ []
no_change true b x y z p q r = p
no_change false true x y z p q r = q
no_change false false x y z p q r = r

header_none : (key : List ℕ) (value : Term) → change_of (header_role key value) ≡ []
unfolding header_role
header_none key value =
    no_change (pointwise nat_eq key (codes "id")) (pointwise nat_eq key (codes "prev") || pointwise nat_eq key (codes "previous")) (roles.Id (value_id value)) (roles.Prev (value_id value)) roles.Other refl refl refl

of_row : (r : Row) → IsPrintedRow r → HaveRows (change_of (role r))
of_row (row.Header key value) p = subst HaveRows (sym (header_none key value)) tt
of_row (row.Change c) p = (p, tt)

joined : (cs ds : List Change) → HaveRows cs → HaveRows ds → HaveRows (cs ++ ds)
joined [] ds a b = b
joined (c ∷ cs) ds a b = (a.0, joined cs ds a.1 b)

row_printed : (text : List ℕ) (at end : ℕ) (r : Row) → IsRowAt text at r end → IsPrintedRow r
unfolding IsRowAt
row_printed text at end r is = record {
  value = row_value (drop at text) r (drop end text) is.0.0;
  writable = writable (drop at text) r (drop end text) is.0.0;
}

rows_printed : (text : List ℕ) (from to : ℕ) (rs : List PlacedRow) → RowsUpTo text from rs to → HaveRows (changes_of (said rs))
rows_printed text from to [] h = tt
rows_printed text from to (r ∷ rs) h =
    subst HaveRows (sym (flat_map-cons change_of (role r.row) (said rs)))
    (joined (change_of (role r.row)) (changes_of (said rs)) (of_row r.row (row_printed text r.at r.end r.row h.1)) (rows_printed text r.end to rs h.2))

pub patches_have_rows : PatchesHaveRows
patches_have_rows text m p = subst HaveRows p.well.changes_are (rows_printed text 0 p.reads.0 p.rows_ p.reads.1)

-- ---- values

named_value : (c : Change) → IsPrintedRow (row.Change c) → IsNamedValue c
named_value (Add q) p = (p.writable, p.value)
named_value (Delete q) p = (p.writable, p.value)
named_value (PrefixAdd prefix iri graph) p = record { prefix_is = p.value.0; graph_is = p.value.3 }
named_value (PrefixDelete prefix graph) p = record { prefix_is = p.value.0; graph_is = p.value.1 }
named_value Begin p = tt
named_value Commit p = tt
named_value Abort p = tt

named_values : (cs : List Change) → HaveRows cs → AllByRecursion IsNamedValue cs
named_values [] h = tt
named_values (c ∷ cs) h = (named_value c h.0, named_values cs h.1)

pub patches_are_values : PatchesAreValues
patches_are_values text m p = record { blocks = p.well.blocks; named = named_values m.changes (patches_have_rows text m p) }

-- their terms may stand where they do
rows_placed : (cs : List Change) → HaveRows cs → ArePlaced cs
rows_placed [] h = tt
rows_placed (c ∷ cs) h = (h.0.writable, rows_placed cs h.1)

pub patch_placed : (text : List ℕ) (m : Meaning) → IsPatch text m → ArePlaced m.changes
patch_placed text m p = rows_placed m.changes (patches_have_rows text m p)
