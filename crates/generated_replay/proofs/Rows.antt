-- The rows of a patch of the stream, and their lines.
use Rattle.std.proofs.Common.{◌≡◌, ℕ, zero, suc, pred, ◌+◌, ◌*◌, ◌/◌, ◌%◌, ◌^◌, ◌<◌, ◌≤◌, ◌==◌, Bool, true, false, cond, List, [], ◌∷◌, ◌++◌, length, refl, sym, ap, ap₂, ◌∙◌, arith, append_assoc}
use Rattle.std.specs.Prelude.{codes, IsUtf8}
use Rattle.std.specs.Fmt.{decimal}
use Rattle.std.specs.List.{flat_map}
use Rattle.std.proofs.lemmas.Grind.{flat_map-append}
use Rattle.std.proofs.lemmas.List.{append-nil, length-append}
use Rattle.delta_base.specs.Ids.{text_of}
use Rattle.rdf_terms.specs.declared.change.Change.TheVariants as change
use Rattle.rdf_terms.specs.declared.term.Term.TheVariants as term
use Rattle.patch_rows.specs.declared.row.Row.{Row}
use Rattle.patch_rows.specs.declared.row.Row.TheVariants as row
use Rattle.patch_rows.specs.Grammar.{IsKey}
use Rattle.patch_rows.specs.Printing.{row_text, quad_text as terms_text, IsRowValue, IsWritable}
use Rattle.stream_generator.specs.Generator.{patch_number, id_line, quad_line, quad_row, patch_text, patches_from, stream_text}
use Rattle.stream_generator.proofs.Appending.{patch_short}
use Rattle.printed_rows.proofs.Lines.{each_within}
use Rattle.printed_rows.specs.Printed.{printed_line, printed_lines, IsPrintedRow, ArePrintedRows, AreWithin}
use Rattle.generated_replay.specs.Meanings.{quad, patch_id}
use Rattle.printed_rows.proofs.Ids.{ascii_text, header_line, id_printed}
use Rattle.generated_replay.proofs.Values.{decimal_plain, quad_values}

-- ---- the rows of a patch

abbrev pub named : ℕ → Row
named k = row.Header (codes "id") (term.Iri (codes "uuid:" ++ text_of (patch_number k)))

abbrev pub behind : ℕ → Row
behind k = row.Header (codes "prev") (term.Iri (codes "uuid:" ++ text_of (patch_number (pred k))))

abbrev pub added : ℕ → Row
added k = row.Change (change.Add (quad k))

abbrev pub deleted : ℕ → Row
deleted k = row.Change (change.Delete (quad (k / 3)))

abbrev pub begun : Row
begun = row.Change change.Begin

abbrev pub committed : Row
committed = row.Change change.Commit

-- behind the id, by whether it is the first patch, and whether it deletes a quad
abbrev pub rows_behind : Bool → Bool → ℕ → List Row
rows_behind first third k =
    cond first [] (behind k ∷ []) ++ (begun ∷ added k ∷ (cond third (deleted k ∷ []) [] ++ committed ∷ []))

abbrev pub rows_with : Bool → Bool → ℕ → List Row
rows_with first third k = named k ∷ rows_behind first third k

abbrev pub rows : ℕ → List Row
rows k = rows_with (k == 1) (k % 3 == 0) k

abbrev pub rows_from : ℕ → ℕ → List Row
rows_from k zero = []
rows_from k (suc count) = rows k ++ rows_from (k + 1) count

-- ---- their lines are the text

named_line : (k : ℕ) → printed_line (named k) ≡ id_line k
named_line k = sym (header_line (codes "id") (codes "H id <uuid:") (text_of (patch_number k)) refl)

-- the row that names the patch before
abbrev behind_row : ℕ → List ℕ
behind_row k = codes "H prev <uuid:" ++ (text_of (patch_number (pred k)) ++ codes "> .\n")

behind_line : (k : ℕ) → printed_line (behind k) ≡ behind_row k
behind_line k = sym (header_line (codes "prev") (codes "H prev <uuid:") (text_of (patch_number (pred k))) refl)

-- the texts of three terms, each behind a space, and the row's end
terms_end : (s p a b c : List ℕ)
    → ((32 ∷ (((60 ∷ (s ++ a)) ++ 62 ∷ []) ++ 32 ∷ (((60 ∷ (p ++ b)) ++ 62 ∷ []) ++ 32 ∷ ((((34 ∷ c) ++ 34 ∷ []) ++ []) ++ [])))) ++ 32 ∷ 46 ∷ []) ++ 10 ∷ []
    ≡ 32 ∷ 60 ∷ (s ++ (a ++ 62 ∷ 32 ∷ 60 ∷ (p ++ (b ++ 62 ∷ 32 ∷ 34 ∷ (c ++ 34 ∷ 32 ∷ 46 ∷ 10 ∷ [])))))
terms_end s p a b c = simp append-nil (simp append_assoc)

quad_end : (k : ℕ) → k < 2 ^ 64 → (terms_text (quad k) ++ 32 ∷ 46 ∷ []) ++ 10 ∷ [] ≡ quad_line k
quad_end k small =
    rw (decimal_plain k small) (terms_end (codes "http://g/s") (codes "http://g/p") (decimal (k % 100)) (decimal (k % 7)) (decimal k))

added_line : (k : ℕ) → k < 2 ^ 64 → printed_line (added k) ≡ quad_row (codes "A") k
unfolding row_text
added_line k small = ap (λ (t : List ℕ). 65 ∷ t) (quad_end k small)

deleted_line : (k : ℕ) → k < 2 ^ 64 → printed_line (deleted k) ≡ quad_row (codes "D") (k / 3)
unfolding row_text
deleted_line k small = ap (λ (t : List ℕ). 68 ∷ t) (quad_end (k / 3) (omega arith))

begun_line : printed_line begun ≡ codes "TX .\n"
unfolding row_text
begun_line = refl

committed_line : printed_line committed ++ [] ≡ codes "TC .\n"
unfolding row_text
committed_line = refl

-- the rows behind the headers
block_with : (third : Bool) (k : ℕ) → k < 2 ^ 64
    → printed_lines (begun ∷ added k ∷ (cond third (deleted k ∷ []) [] ++ committed ∷ []))
    ≡ codes "TX .\n" ++ (quad_row (codes "A") k ++ (cond third (quad_row (codes "D") (k / 3)) [] ++ codes "TC .\n"))
block_with true k small =
    ap₂ (λ (a b : List ℕ). a ++ b) begun_line (ap₂ (λ (a b : List ℕ). a ++ b) (added_line k small)
    (ap₂ (λ (a b : List ℕ). a ++ b) (deleted_line k small) committed_line))
block_with false k small =
    ap₂ (λ (a b : List ℕ). a ++ b) begun_line (ap₂ (λ (a b : List ℕ). a ++ b) (added_line k small) committed_line)

lines_with : (first third : Bool) (k : ℕ) → k < 2 ^ 64
    → printed_lines (rows_with first third k)
    ≡ id_line k ++ (cond first [] (behind_row k) ++ (codes "TX .\n" ++ (quad_row (codes "A") k ++ (cond third (quad_row (codes "D") (k / 3)) [] ++ codes "TC .\n"))))
lines_with true third k small = ap₂ (λ (a b : List ℕ). a ++ b) (named_line k) (block_with third k small)
lines_with false third k small =
    ap₂ (λ (a b : List ℕ). a ++ b) (named_line k) (ap₂ (λ (a b : List ℕ). a ++ b) (behind_line k) (block_with third k small))

pub patch_lines : (k : ℕ) → k < 2 ^ 64 → printed_lines (rows k) ≡ patch_text k
unfolding patch_text
patch_lines k small = lines_with (k == 1) (k % 3 == 0) k small

-- the rows of a patch take few bytes
pub patch_size : (k : ℕ) → k < 2 ^ 32 → length (printed_lines (rows k)) ≤ 256
patch_size k small = omega (arith, ap length (patch_lines k (omega arith)), patch_short k small)

lines-append : (rs ss : List Row) → printed_lines (rs ++ ss) ≡ printed_lines rs ++ printed_lines ss
lines-append rs ss = flat_map-append printed_line rs ss

pub stream_lines : (count k : ℕ) → k + count < 2 ^ 64 → printed_lines (rows_from k count) ≡ patches_from k count
stream_lines zero k small = refl
stream_lines (suc count) k small =
    lines-append (rows k) (rows_from (k + 1) count)
    ∙ ap₂ (λ (a b : List ℕ). a ++ b) (patch_lines k (omega arith)) (stream_lines count (k + 1) (omega arith))

-- ---- they are printed

plain : (r : Row) → IsRowValue r → IsWritable r → IsPrintedRow r
plain r value writable = record { value = value; writable = writable }

block_printed : (third : Bool) (k : ℕ) → k < 2 ^ 64 → ArePrintedRows (begun ∷ added k ∷ (cond third (deleted k ∷ []) [] ++ committed ∷ []))
block_printed true k small =
    (plain begun tt tt, (plain (added k) (quad_values k small) refl, (plain (deleted k) (quad_values (k / 3) (omega arith)) refl, (plain committed tt tt, tt))))
block_printed false k small = (plain begun tt tt, (plain (added k) (quad_values k small) refl, (plain committed tt tt, tt)))

printed_with : (first third : Bool) (k : ℕ) → k < 2 ^ 64 → ArePrintedRows (rows_with first third k)
printed_with true third k small = (id_printed (codes "id") (patch_id k) (ascii_text (codes "id") refl) (refl, refl), block_printed third k small)
printed_with false third k small =
    (id_printed (codes "id") (patch_id k) (ascii_text (codes "id") refl) (refl, refl), (id_printed (codes "prev") (patch_id (pred k)) (ascii_text (codes "prev") refl) (refl, refl), block_printed third k small))

printed-append : (rs ss : List Row) → ArePrintedRows rs → ArePrintedRows ss → ArePrintedRows (rs ++ ss)
printed-append [] ss first second = second
printed-append (r ∷ rs) ss first second = (first.0, printed-append rs ss first.1 second)

pub stream_printed : (count k : ℕ) → k + count < 2 ^ 64 → ArePrintedRows (rows_from k count)
stream_printed zero k small = tt
stream_printed (suc count) k small =
    printed-append (rows k) (rows_from (k + 1) count) (printed_with (k == 1) (k % 3 == 0) k (omega arith)) (stream_printed count (k + 1) (omega arith))

-- ---- each line is short

within-append : (most : ℕ) (rs ss : List Row) → AreWithin most rs → AreWithin most ss → AreWithin most (rs ++ ss)
within-append most [] ss first second = second
within-append most (r ∷ rs) ss first second = (first.0, within-append most rs ss first.1 second)

pub stream_within : (most count k : ℕ) → 256 ≤ most → k + count ≤ 2 ^ 32 → AreWithin most (rows_from k count)
stream_within most zero k enough small = tt
stream_within most (suc count) k enough small =
    within-append most (rows k) (rows_from (k + 1) count)
    (each_within most (rows k) (omega (arith, enough, patch_size k (omega arith))))
    (stream_within most count (k + 1) enough (omega arith))

short_from : (count k : ℕ) → k + count ≤ 2 ^ 32 → length (patches_from k count) ≤ 256 * count
short_from zero k small = omega arith
short_from (suc count) k small =
    omega (arith, length-append (patch_text k) (patches_from (k + 1) count), patch_short k (omega arith), short_from count (k + 1) (omega arith))

pub stream_short : (n : ℕ) → n ≤ 65536 → length (stream_text n) ≤ 256 * n
stream_short n small = short_from n 1 (omega arith)
