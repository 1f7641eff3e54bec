-- The rows of the stream are cut into its patches.
use Rattle.std.proofs.Common.{◌≡◌, ℕ, zero, suc, pred, ◌+◌, ◌/◌, ◌%◌, ◌^◌, ◌<◌, ◌≤◌, ◌==◌, ◌||◌, Bool, true, false, cond, List, [], ◌∷◌, ◌++◌, length, fold, Option, Some, None, refl, sym, ap, subst, ◌∙◌, arith, append_assoc, lit<}
use Rattle.std.specs.Prelude.{codes}
use Rattle.std.proofs.lemmas.List.{append-nil, length-append}
use Rattle.std.proofs.lemmas.Grind.{flat_map-append}
use Rattle.std.proofs.lemmas.List.Sums.{fold-append}
use Rattle.delta_base.specs.declared.id.Id.{Id}
use Rattle.delta_base.specs.Ids.{text_of}
use Rattle.delta_base.proofs.IdLemmas.{number_of-text_of}
use Rattle.rdf_terms.specs.declared.change.Change.TheVariants as change
use Rattle.rdf_terms.specs.declared.term.Term.TheVariants as term
use Rattle.patch_rows.specs.declared.row.Row.{Row}
use Rattle.patch_rows.specs.Grammar.{row_limit}
use Rattle.patch_rows.specs.Printing.{row_text}
use Rattle.patch_reader.specs.declared.placed.PlacedRow.{PlacedRow}
use Rattle.patch_meaning.specs.declared.role.Role.TheVariants as roles
use Rattle.patch_meaning.specs.Patch.{Meaning, IsWell, has_some}
use Rattle.patch_meaning.specs.Roles.{header_role, value_id, ids_of, changes_of, role, said}
use Rattle.patch_meaning.specs.Rows.{RowsTo}
use Rattle.patch_meaning.specs.Stream.{StreamPart, Cut, begins, cut_with, cut, stop_of, ArePatches, AreStream, IsStream}
use Rattle.stream_generator.specs.Generator.{patch_number, stream_text}
use Rattle.generated_replay.specs.Meanings.{quad, patch_id, meanings_from, meanings_to}
use Rattle.printed_rows.specs.Printed.{printed_line, printed_lines, placed_from}
use Rattle.generated_replay.proofs.Rows.{named, rows_behind, rows, rows_with, rows_from, patch_size, stream_lines, stream_printed, stream_within}
use Rattle.printed_rows.proofs.Lines.{placed-append, lines_read}

-- ---- the ids of headers

id_fits : (k : ℕ) → k < 2 ^ 32 → patch_number k < 2 ^ 128
id_fits k small = omega (arith, lit)
  where
    lit : 2 ^ 78 + 2 ^ 63 + 2 ^ 32 < 2 ^ 128
    lit = lit< tt

id_named : (k : ℕ) → k < 2 ^ 32 → value_id (term.Iri (codes "uuid:" ++ text_of (patch_number k))) ≡ Some (patch_id k)
unfolding value_id
id_named k small = rw (number_of-text_of (patch_number k) (id_fits k small)) refl

-- ---- one patch

-- what a patch says, whether it is the first one, and whether it deletes a quad
abbrev meaning_with : Bool → Bool → ℕ → Meaning
meaning_with first third k = record {
  id = patch_id k;
  prev = cond first None (Some (patch_id (pred k)));
  changes = change.Begin ∷ change.Add (quad k) ∷ (cond third (change.Delete (quad (k / 3)) ∷ []) [] ++ change.Commit ∷ []);
}

well_with : (first third : Bool) (k at : ℕ) → k < 2 ^ 32 → IsWell (said (placed_from at (rows_with first third k))) (meaning_with first third k)
unfolding header_role
well_with true true k at small = record {
  parted = record { headers = roles.Id (value_id (term.Iri (codes "uuid:" ++ text_of (patch_number k)))) ∷ []; changes = (meaning_with true true k).changes; parts = refl; no_change = refl };
  one_id = ap (λ (i : Option Id). i ∷ []) (id_named k small);
  prev_is = refl;
  changes_are = refl;
  blocks = tt;
}
well_with true false k at small = record {
  parted = record { headers = roles.Id (value_id (term.Iri (codes "uuid:" ++ text_of (patch_number k)))) ∷ []; changes = (meaning_with true false k).changes; parts = refl; no_change = refl };
  one_id = ap (λ (i : Option Id). i ∷ []) (id_named k small);
  prev_is = refl;
  changes_are = refl;
  blocks = tt;
}
well_with false true k at small = record {
  parted = record { headers = roles.Id (value_id (term.Iri (codes "uuid:" ++ text_of (patch_number k)))) ∷ roles.Prev (value_id (term.Iri (codes "uuid:" ++ text_of (patch_number (pred k))))) ∷ []; changes = (meaning_with false true k).changes; parts = refl; no_change = refl };
  one_id = ap (λ (i : Option Id). i ∷ []) (id_named k small);
  prev_is = ap (λ (i : Option Id). i ∷ []) (id_named (pred k) (omega arith));
  changes_are = refl;
  blocks = tt;
}
well_with false false k at small = record {
  parted = record { headers = roles.Id (value_id (term.Iri (codes "uuid:" ++ text_of (patch_number k)))) ∷ roles.Prev (value_id (term.Iri (codes "uuid:" ++ text_of (patch_number (pred k))))) ∷ []; changes = (meaning_with false false k).changes; parts = refl; no_change = refl };
  one_id = ap (λ (i : Option Id). i ∷ []) (id_named k small);
  prev_is = ap (λ (i : Option Id). i ∷ []) (id_named (pred k) (omega arith));
  changes_are = refl;
  blocks = tt;
}

-- the last patch of a cut has its id
abbrev HasId : Cut → Type 0
HasId c = has_some (ids_of (said c.last.rows_)) ≡ true

abbrev part_at : ℕ → List Row → StreamPart
part_at at rs = record { from = at; rows_ = placed_from at rs }

abbrev with_part : Cut → StreamPart → Cut
with_part c p = record { done = c.done ++ c.last ∷ []; last = p }

begun_with : (c : Cut) (r : PlacedRow) → begins (said c.last.rows_) (role r.row) ≡ true
    → cut_with c r ≡ with_part c (record { from = r.at; rows_ = r ∷ [] })
begun_with c r is = rw is refl

-- a patch's first row, at a place
abbrev first_row : ℕ → ℕ → PlacedRow
first_row k at = record { row = named k; at = at; end = at + length (row_text (named k)) }

opens_patch : (k : ℕ) (c : Cut) → HasId c → begins (said c.last.rows_) (role (named k)) ≡ true
unfolding header_role
opens_patch k c has = ap (λ (t : Bool). t || has_some (changes_of (said c.last.rows_))) has

-- the rows behind the first one belong to its patch
cut_behind : (first third : Bool) (k at to : ℕ) (c : Cut)
    → fold cut_with (with_part c (record { from = at; rows_ = first_row k at ∷ [] })) (placed_from to (rows_behind first third k))
    ≡ with_part c (record { from = at; rows_ = first_row k at ∷ placed_from to (rows_behind first third k) })
unfolding header_role
cut_behind true true k at to c = refl
cut_behind true false k at to c = refl
cut_behind false true k at to c = refl
cut_behind false false k at to c = refl

cut_patch : (first third : Bool) (k at : ℕ) (c : Cut) → HasId c
    → fold cut_with c (placed_from at (rows_with first third k)) ≡ with_part c (part_at at (rows_with first third k))
cut_patch first third k at c has =
    let to : ℕ = at + length (printed_line (named k)) in
    ap (λ (d : Cut). fold cut_with d (placed_from to (rows_behind first third k))) (begun_with c (first_row k at) (opens_patch k c has))
    ∙ cut_behind first third k at to c

has_id : (first third : Bool) (k at : ℕ) → has_some (ids_of (said (placed_from at (rows_with first third k)))) ≡ true
unfolding header_role
has_id first third k at = refl

-- ---- all patches

abbrev parts_of : Cut → List StreamPart
parts_of c = c.done ++ c.last ∷ []

-- so many patches, the first one at a place
abbrev parts_from : ℕ → ℕ → ℕ → List StreamPart
parts_from at k zero = []
parts_from at k (suc count) = part_at at (rows k) ∷ parts_from (at + length (printed_lines (rows k))) (k + 1) count

cut_all : (count k at : ℕ) (c : Cut) → HasId c
    → parts_of (fold cut_with c (placed_from at (rows_from k count))) ≡ parts_of c ++ parts_from at k count
cut_all zero k at c has = sym (append-nil (parts_of c))
cut_all (suc count) k at c has =
    let next : Cut = with_part c (part_at at (rows k)) in
    let to : ℕ = at + length (printed_lines (rows k)) in
    let split : fold cut_with c (placed_from at (rows_from k (suc count))) ≡ fold cut_with next (placed_from to (rows_from (k + 1) count)) =
    ap (fold cut_with c) (placed-append at (rows k) (rows_from (k + 1) count))
    ∙ fold-append cut_with c (placed_from at (rows k)) (placed_from to (rows_from (k + 1) count))
    ∙ ap (λ (d : Cut). fold cut_with d (placed_from to (rows_from (k + 1) count))) (cut_patch (k == 1) (k % 3 == 0) k at c has) in
    ap parts_of split ∙ cut_all count (k + 1) to next (has_id (k == 1) (k % 3 == 0) k at)
    ∙ append_assoc (parts_of c) (part_at at (rows k) ∷ []) (parts_from to (k + 1) count)

abbrev nothing_cut : Cut
nothing_cut = record { done = []; last = record { from = 0; rows_ = [] } }

cut_first : (count : ℕ) → parts_of (cut (placed_from 0 (rows_from 1 (suc count)))) ≡ parts_from 0 1 (suc count)
unfolding header_role
cut_first count =
    let to : ℕ = length (printed_lines (rows 1)) in
    let first : Cut = record { done = []; last = part_at 0 (rows 1) } in
    let split : cut (placed_from 0 (rows_from 1 (suc count))) ≡ fold cut_with first (placed_from to (rows_from 2 count)) =
    ap cut (placed-append 0 (rows 1) (rows_from 2 count) ∙ ap (λ (n : ℕ). placed_from 0 (rows 1) ++ placed_from n (rows_from 2 count)) (omega arith))
    ∙ fold-append cut_with nothing_cut (placed_from 0 (rows 1)) (placed_from to (rows_from 2 count)) in
    ap parts_of split ∙ cut_all count 2 to first (has_id true false 1 0)
    ∙ ap (λ (n : ℕ). part_at 0 (rows 1) ∷ parts_from n 2 count) (omega arith)

-- a part reaches to the next one, or to where all of them end
stop_is : (count k at : ℕ) → stop_of (parts_from at k count) (at + length (printed_lines (rows_from k count))) ≡ at
stop_is zero k at = omega arith
stop_is (suc count) k at = refl

patches_are : (count k at : ℕ) → k + count ≤ 2 ^ 32 → ArePatches (parts_from at k count) (at + length (printed_lines (rows_from k count))) (meanings_from k count)
patches_are zero k at small = tt
patches_are (suc count) k at small =
    let to : ℕ = at + length (printed_lines (rows k)) in
    let whole : to + length (printed_lines (rows_from (k + 1) count)) ≡ at + length (printed_lines (rows_from k (suc count))) =
    omega (arith, ap length (flat_map-append printed_line (rows k) (rows_from (k + 1) count)), length-append (printed_lines (rows k)) (printed_lines (rows_from (k + 1) count))) in
    let stop : ℕ = at + length (printed_lines (rows_from k (suc count))) in
    let next : stop_of (parts_from to (k + 1) count) stop ≡ to = ap (stop_of (parts_from to (k + 1) count)) (sym whole) ∙ stop_is count (k + 1) to in (
      well_with (k == 1) (k % 3 == 0) k at (omega arith),
      omega (arith, next, patch_size k (omega arith)),
      subst (λ (n : ℕ). ArePatches (parts_from to (k + 1) count) n (meanings_from (k + 1) count)) whole (patches_are count (k + 1) to (omega arith)),
    )

-- ---- the stream

stream_read : (n : ℕ) → n ≤ 65536 → RowsTo (stream_text n) 0 (placed_from 0 (rows_from 1 n)) (length (stream_text n))
stream_read n small =
    let text = stream_lines n 1 (omega arith) in
    subst (λ (t : List ℕ). RowsTo t 0 (placed_from 0 (rows_from 1 n)) (length t)) text
    (lines_read (rows_from 1 n) (stream_printed n 1 (omega arith)) (stream_within row_limit n 1 (omega arith) (omega arith)))

stream_cut : (n : ℕ) → n ≤ 65536 → AreStream (placed_from 0 (rows_from 1 n)) (length (printed_lines (rows_from 1 n))) (meanings_to n)
stream_cut zero small = refl
stream_cut (suc count) small =
    let stop : 0 + length (printed_lines (rows_from 1 (suc count))) ≡ length (printed_lines (rows_from 1 (suc count))) = omega arith in
    subst (λ (ps : List StreamPart). ArePatches ps (length (printed_lines (rows_from 1 (suc count)))) (meanings_to (suc count))) (sym (cut_first count))
    (subst (λ (n : ℕ). ArePatches (parts_from 0 1 (suc count)) n (meanings_to (suc count))) stop (patches_are (suc count) 1 0 (omega arith)))

pub stream_is : (n : ℕ) → n ≤ 65536 → IsStream (stream_text n) (meanings_to n)
stream_is n small = record {
  rows_ = placed_from 0 (rows_from 1 n);
  reads = stream_read n small;
  stream = subst (λ (k : ℕ). AreStream (placed_from 0 (rows_from 1 n)) k (meanings_to n)) (ap length (stream_lines n 1 (omega arith))) (stream_cut n small);
}
