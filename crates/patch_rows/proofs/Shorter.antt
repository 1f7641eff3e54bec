-- What stands behind a part is no longer than the text, and behind a row it is shorter.
use Rattle.std.proofs.Common.{◌≡◌, ℕ, ◌<◌, ◌≤◌, List, ◌∷◌, ◌++◌, length, ap, arith}
use Rattle.std.proofs.lemmas.List.{length-append}
use Rattle.patch_rows.specs.declared.row.Row.{Row}
use Rattle.patch_rows.specs.Grammar.{Space, letters, code_of, RowAt}
use Rattle.patch_rows.proofs.Slices.{IsEnd, space_end, word_end, parts_dot}

end_le : (rest text : List ℕ) → IsEnd rest text → length rest ≤ length text
end_le rest text e = let l : length text ≡ length (e.0 ++ rest) = ap length e.1 in omega (arith, l, length-append e.0 rest)

pub space_le : (text after : List ℕ) → Space text after → length after ≤ length text
space_le text after s = end_le after text (space_end text after s)

pub row_shorter : (text : List ℕ) (r : Row) (after : List ℕ) → RowAt text r after → length after < length text
unfolding RowAt
row_shorter text r after e =
    let parts = end_le (46 ∷ after) e.0 (parts_dot r e.0 after e.2) in
    let word = end_le e.0 text (word_end (letters (code_of r)) text e.0 e.1) in omega arith
