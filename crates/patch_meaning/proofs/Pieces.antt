-- A patch of a stream is a patch by itself: its rows stand in its own text as they do in the stream.
use Rattle.std.proofs.Common.{◌≡◌, ℕ, ◌+◌, ◌-◌, ◌≤◌, Bool, true, false, ◌||◌, cond, List, [], ◌∷◌, ◌++◌, length, map, drop, nat_eq, refl, sym, ap, subst, ◌∙◌, arith}
use Rattle.std.specs.Prelude.{fold}
use Rattle.std.specs.List.{slice_range}
use Rattle.std.proofs.lemmas.List.{length-append, length-drop, drop-drop, drop-append-le}
use Rattle.std.proofs.lemmas.List.Folds.{drop_split}
use Rattle.nquads_text.specs.Grammar.{StartsWith}
use Rattle.patch_rows.specs.declared.row.Row.{Row}
use Rattle.patch_rows.specs.Grammar.{Space, RowAt, IsRowAt, begins_space, is_space, row_limit}
use Rattle.patch_rows.specs.Reading.{skip_space, space_behind}
use Rattle.patch_rows.proofs.SpaceLaws.{skipped, none_behind}
use Rattle.patch_reader.specs.declared.placed.PlacedRow.{PlacedRow}
use Rattle.patch_reader.specs.Rows.{Gap, RowsUpTo}
use Rattle.patch_meaning.specs.declared.role.Role.{Role}
use Rattle.log_base.specs.declared.limits.TheConstants.{PATCH_LIMIT}
use Rattle.patch_meaning.specs.Patch.{Meaning, IsPatch, IsWell}
use Rattle.patch_meaning.specs.Roles.{role, said}
use Rattle.patch_meaning.specs.Rows.{RowsTo}
use Rattle.patch_meaning.specs.Stream.{StreamPart, Cut, begins, cut, cut_with, stop_of}
use Rattle.patch_meaning.proofs.Cuts.{begun, longer, stop_more}
use Rattle.patch_meaning.proofs.Rowed.{rows_more, row_within, rows_order}
use Rattle.patch_rows.proofs.Slices.{row_shorter, space_shorter}

-- ---- places of a piece

piece_length : (text : List ℕ) (from stop : ℕ) → from ≤ stop → stop ≤ length text → length (slice_range text from stop) ≡ stop - from
piece_length text from stop low high =
    let parts = ap length (drop_split text from stop low) in
    omega (arith, parts, length-append (slice_range text from stop) (drop stop text), length-drop from text, length-drop stop text, low, high)

-- what stands from a place on is what stands from it on in the piece, and the text behind the piece
piece_drop : (text : List ℕ) (from at stop : ℕ) → from ≤ at → at ≤ stop → stop ≤ length text → drop at text ≡ drop (at - from) (slice_range text from stop) ++ drop stop text
piece_drop text from at stop low high within =
    let whole : from + (at - from) ≡ at = omega (arith, low) in
    let size = piece_length text from stop (omega (arith, low, high)) within in
    sym (drop-drop (at - from) from text ∙ ap (λ (n : ℕ). drop n text) whole)
    ∙ ap (drop (at - from)) (drop_split text from stop (omega (arith, low, high)))
    ∙ drop-append-le (at - from) (slice_range text from stop) (drop stop text) (omega (arith, size, high))

-- ---- what stands in a piece

piece_gap : (text : List ℕ) (from at to stop : ℕ) → from ≤ at → to ≤ stop → stop ≤ length text → Gap text at to → Gap (slice_range text from stop) (at - from) (to - from)
piece_gap text from at to stop low high within gap =
    let order = gap.1 in
    let size = piece_length text from stop (omega (arith, low, order, high)) within in (
      space_shorter (drop (at - from) (slice_range text from stop)) (drop stop text) (drop (to - from) (slice_range text from stop))
          (subst (λ (t : List ℕ). Space t (drop (to - from) (slice_range text from stop) ++ drop stop text)) (piece_drop text from at stop low (omega (arith, order, high)) within)
          (subst (Space (drop at text)) (piece_drop text from to stop (omega (arith, low, order)) high within) gap.0)),
      omega (arith, order),
      omega (arith, size, high),
    )

piece_row : (text : List ℕ) (from at end stop : ℕ) (r : Row) → from ≤ at → end ≤ stop → stop ≤ length text → stop ≤ from + row_limit → IsRowAt text at r end → IsRowAt (slice_range text from stop) (at - from) r (end - from)
unfolding IsRowAt
piece_row text from at end stop r low high within short is =
    let order = is.1 in
    let piece : List ℕ = slice_range text from stop in
    let size : length piece ≡ stop - from = piece_length text from stop (omega (arith, low, order, high)) within in
    let there = row_shorter (drop (at - from) piece) (drop stop text) r (drop (end - from) piece)
    (subst (λ (t : List ℕ). RowAt t r (drop (end - from) piece ++ drop stop text)) (piece_drop text from at stop low (omega (arith, order, high)) within)
    (subst (RowAt (drop at text) r) (piece_drop text from end stop (omega (arith, low, order)) high within) is.0.0)) in (
      (there, omega (arith, size, short, length-drop (at - from) piece), λ long. absurd (omega (arith, long, size, short, length-drop (at - from) piece))),
      omega (arith, low, order),
      omega (arith, size, high),
    )

-- ---- rows

-- the row, with its places in the piece that begins there
abbrev moved : ℕ → PlacedRow → PlacedRow
moved from r = record { row = r.row; at = r.at - from; end = r.end - from }

piece_rows : (text : List ℕ) (from at to stop : ℕ) (rs : List PlacedRow) → from ≤ at → to ≤ stop → stop ≤ length text → stop ≤ from + row_limit → RowsUpTo text at rs to
    → RowsUpTo (slice_range text from stop) (at - from) (map (moved from) rs) (to - from)
piece_rows text from at to stop [] low high within short up = ap (λ (n : ℕ). n - from) up
piece_rows text from at to stop (r ∷ rs) low high within short up =
    let order = up.0.1 in
    let there = row_within text r.at r.row r.end up.1 in
    let rest = rows_order text r.end to rs up.2 in (
      piece_gap text from at r.at stop low (omega (arith, there.0, rest, high)) within up.0,
      piece_row text from r.at r.end stop r.row (omega (arith, low, order)) (omega (arith, rest, high)) within short up.1,
      piece_rows text from r.end to stop rs (omega (arith, low, order, there.0)) high within short up.2,
    )

said_moved : (from : ℕ) (rs : List PlacedRow) → said (map (moved from) rs) ≡ said rs
said_moved from [] = refl
said_moved from (r ∷ rs) = ap (λ (l : List Role). role r.row ∷ l) (said_moved from rs)

pub piece_patch : (text : List ℕ) (from stop : ℕ) (rs : List PlacedRow) (m : Meaning) → RowsTo text from rs stop → stop ≤ from + PATCH_LIMIT → IsWell (said rs) m → IsPatch (slice_range text from stop) m
piece_patch text from stop rs m (behind, up, gap) short well =
    let order = rows_order text from behind rs up in
    let low = gap.1 in
    let high = gap.2 in
    let size = piece_length text from stop (omega (arith, order, low)) high in
    let none : from - from ≡ 0 = omega arith in
    record {
      short = omega (arith, size, short);
      rows_ = map (moved from) rs;
      reads = (
        behind - from,
        subst (λ (n : ℕ). RowsUpTo (slice_range text from stop) n (map (moved from) rs) (behind - from)) none (piece_rows text from from behind stop rs (omega arith) low high short up),
        subst (Gap (slice_range text from stop) (behind - from)) (sym size) (piece_gap text from behind stop stop order (omega arith) high gap),
      );
      well = subst (λ (l : List Role). IsWell l m) (sym (said_moved from rs)) well;
    }

-- ---- the rows of the last part of a cut

still : (text : List ℕ) → (StartsWith begins_space text → ⊥) → skip_space text ≡ text
unfolding space_behind
still [] none = refl
still (b ∷ rest) none = by (is_space b) (nat_eq b 35) none
  where
    by : (x y : Bool) → ((x || y) ≡ true → ⊥) → cond x (space_behind false 0 rest) (cond y (space_behind true 0 rest) (b ∷ rest)) ≡ b ∷ rest
    by true y none = absurd (none refl)
    by false true none = absurd (none refl)
    by false false none = refl

-- behind white space and comments no more of them stand
gap_there : (text : List ℕ) (from at : ℕ) → Gap text from at → Gap text at at
gap_there text from at gap =
    (subst (Space (drop at text)) (still (drop at text) (none_behind (drop from text) (drop at text) gap.0)) (skipped (drop at text)), omega arith, gap.2)

-- each part is read up to where the next one begins, or to this place
abbrev pub AreRead : List ℕ → List StreamPart → ℕ → Type 0
AreRead text [] stop = Unit {0}
AreRead text (part ∷ parts) stop = RowsTo text part.from part.rows_ (stop_of parts stop) × AreRead text parts stop

read_more : (text : List ℕ) (done : List StreamPart) (last : StreamPart) (stop : ℕ) → AreRead text done last.from → RowsTo text last.from last.rows_ stop → AreRead text (done ++ last ∷ []) stop
read_more text [] last stop are up = (up, tt)
read_more text (part ∷ done) last stop are up = (subst (RowsTo text part.from part.rows_) (sym (stop_more done last stop)) are.0, read_more text done last stop are.1 up)

-- the rows up to a place are those of the parts
pub record IsCutUp (text : List ℕ) (at : ℕ) (c : Cut) : Type 0 where
  pub done : AreRead text c.done c.last.from
  pub last : RowsUpTo text c.last.from c.last.rows_ at

fold_read : (text : List ℕ) (c : Cut) (at to : ℕ) (rs : List PlacedRow) → IsCutUp text at c → RowsUpTo text at rs to → IsCutUp text to (fold cut_with c rs)
fold_read text c at to [] k up = subst (λ (n : ℕ). IsCutUp text n c) up k
fold_read text c at to (r ∷ rs) k up = fold_read text (cut_with c r) r.end to rs (one (begins (said c.last.rows_) (role r.row))) up.2
  where
    one : (b : Bool) → IsCutUp text r.end (cond b (begun c r) (longer c r))
    one true = record { done = read_more text c.done c.last r.at k.done (at, k.last, up.0); last = (gap_there text at r.at up.0, up.1, refl) }
    one false = record { done = k.done; last = rows_more text c.last.from at c.last.rows_ r k.last up.0 up.1 }

cut_read : (text : List ℕ) (rs : List PlacedRow) (at : ℕ) → RowsUpTo text 0 rs at → IsCutUp text at (cut rs)
cut_read text rs at up = fold_read text (record { done = []; last = record { from = 0; rows_ = [] } }) 0 at rs (record { done = tt; last = refl }) up

pub last_rows : (text : List ℕ) (rs : List PlacedRow) (at : ℕ) → RowsUpTo text 0 rs at → RowsUpTo text (cut rs).last.from (cut rs).last.rows_ at
last_rows text rs at up = (cut_read text rs at up).last

pub all_read : (text : List ℕ) (rs : List PlacedRow) (stop : ℕ) → RowsTo text 0 rs stop → AreRead text ((cut rs).done ++ (cut rs).last ∷ []) stop
all_read text rs stop (behind, up, gap) = let k = cut_read text rs behind up in read_more text (cut rs).done (cut rs).last stop k.done (behind, k.last, gap)
