-- The row of a quad whose line was written.
use Rattle.std.proofs.Common.{◌≡◌, ℕ, ◌+◌, ◌<◌, ◌≤◌, Bool, true, false, List, [], ◌++◌, length, drop, Some, Ok, refl, sym, ap, subst, ◌∙◌, arith}
use Rattle.std.proofs.lemmas.List.{drop-append-le, length-append, length-drop}
use Rattle.rdf_terms.specs.Line.{line}
use Rattle.rdf_terms.specs.Quad.{Statement}
use Rattle.patch_rows.specs.declared.cut.TextEnd.TheVariants.{Open}
use Rattle.patch_rows.specs.declared.row.Row.{Row}
use Rattle.patch_rows.specs.declared.row.Row.TheVariants as row
use Rattle.patch_rows.specs.Grammar.{IsDecidedRow, IsRowAt, ShortRowAt, row_limit}
use Rattle.patch_rows.specs.Reading.{code_named, word_at}
use Rattle.patch_rows.specs.Rows.{live_row, parts_of, quad_of, row_of}
use Rattle.patch_reader.proofs.Answered.{row_there}
use Rattle.row_scan.specs.Found.{change_by, code_by}
use Rattle.row_lines.specs.Rows.{HasQuadCode, HasWrittenRow}
use Rattle.row_lines.specs.Written.{WritesRead}

live : (rest behind after word : List ℕ) (adds : Bool) (q : Statement) → word_at rest ≡ Ok (word, behind) → code_named word ≡ Some (code_by adds) → quad_of Open behind ≡ Ok (q, after)
    → live_row rest ≡ Ok (row.Change (change_by adds q), after)
unfolding row_of parts_of
live rest behind after word true q there named quad = rw (there, named, quad) refl
live rest behind after word false q there named quad = rw (there, named, quad) refl

decided : (text : List ℕ) (at end : ℕ) (r : Row) → at ≤ length text → length (drop at text) ≤ row_limit → end ≤ length text → live_row (drop at text) ≡ Ok (r, drop end text) → IsDecidedRow text at r end × (at < end)
unfolding IsRowAt
decided text at end r low short within read =
    let there = row_there text at end r short within read in (
      λ more. (
        subst (λ (t : List ℕ). ShortRowAt t r (drop end (text ++ more))) (sym (drop-append-le at text more low))
            (subst (ShortRowAt (drop at text ++ more) r) (sym (drop-append-le end text more within)) (there.0 more)),
        there.1,
        omega (arith, within, length-append text more),
      ),
      there.1,
    )

pub row_written : (text old bytes : List ℕ) (at behind end : ℕ) (adds : Bool) → old ≡ [] → at ≤ length text → length text ≤ at + row_limit → HasQuadCode text at adds behind
    → WritesRead line text old bytes (Ok end) (quad_of Open (drop behind text)) → HasWrittenRow text at bytes (record { adds = adds; end = end })
row_written text old bytes at behind end adds empty low short code p =
    let read = live (drop at text) (drop behind text) (drop end text) code.0 adds p.0 code.1 code.2 p.1 in
    let is = decided text at end (row.Change (change_by adds p.0)) low (omega (arith, short, length-drop at text)) p.2 read in
    (p.0, record { lined = p.3 ∙ ap (λ (t : List ℕ). t ++ line p.0) empty; row = is.0; further = is.1; within = p.2 })
