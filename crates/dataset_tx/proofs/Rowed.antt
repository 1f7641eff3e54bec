-- Changes that are sorted by their rows.
use Rattle.std.proofs.Common.{◌≡◌, ℕ, ◌<◌, ◌+◌, List, [], map, length, sym, ap, subst, ◌∙◌, arith, Bool, false, get_or}
use Rattle.std.specs.List.{All}
use Rattle.std.specs.List.Sorted.{IsPermutation, IsSorted, IsSortedBy}
use Rattle.std.specs.Ordering.{is_lt, nat_cmp}
use Rattle.std.specs.Cmp.{IsStrictWeakOrder}
use Rattle.std.specs.Cmp.Lexicographic.{nat_list_cmp_total, slice_cmp}
use Rattle.std.proofs.lemmas.List.{get_or-map, length-map}
use Rattle.std.proofs.lemmas.List.MinMax.{ranks_by}
use Rattle.std.proofs.lemmas.List.Sorted.{IsPermutation-map}
use Rattle.rdf_terms.specs.declared.change.Change.{Change}
use Rattle.dataset_tx.specs.Rows.{change_row, change_cmp, HasItsRow}

abbrev RowAndChange : Type 0
RowAndChange = List ℕ × Change

pub none_rowed : (rows : List RowAndChange) → rows ≡ [] → All HasItsRow rows
none_rowed rows e = subst (All HasItsRow) (sym e) (λ k d h. absurd (omega arith))

abbrev pub rises : RowAndChange → RowAndChange → Bool
rises a b = is_lt (slice_cmp nat_cmp a.0 b.0)

pub rises_weakly : IsStrictWeakOrder rises
rises_weakly = ranks_by nat_list_cmp_total (λ (r : RowAndChange). r.0)

pub sorted_changes : (rows : List RowAndChange) → All HasItsRow rows → IsSortedBy rises rows → IsSorted change_cmp (map (λ r. r.1) rows)
sorted_changes rows h s k d low below =
    let any : RowAndChange = (change_row d, d) in
    let inside : k + 1 < length rows = subst (λ (n : ℕ). k + 1 < n) (length-map rows (λ r. r.1)) below in
    let here : k < length rows = omega arith in
    let one = get_or-map (λ (r : RowAndChange). r.1) rows k any d here in
    let next = get_or-map (λ (r : RowAndChange). r.1) rows (k + 1) any d inside in
    rw (one, next, sym (h k any here), sym (h (k + 1) any inside)) (s k any low inside)

pub moved_changes : (before after : List RowAndChange) (wanted changes : List Change) → IsPermutation before after → map (λ r. r.1) before ≡ wanted → changes ≡ map (λ r. r.1) after → IsPermutation wanted changes
moved_changes before after wanted changes p w e =
    subst (λ (l : List Change). IsPermutation l changes) w (subst (IsPermutation (map (λ (r : RowAndChange). r.1) before)) (sym e) (IsPermutation-map (λ r. r.1) before after p))
