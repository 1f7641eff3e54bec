-- Reading the front of a longer text, by places.
use Rattle.std.proofs.Common.{◌≡◌, ℕ, ◌+◌, ◌-◌, ◌<◌, ◌≤◌, true, false, List, ◌++◌, length, take, drop, Ok, Err, nat_eq, nat_lt, eq-eqb, refl, sym, ap, ◌∙◌, arith}
use Rattle.std.proofs.lemmas.Bool.{ne_eqb, lt-ltb, le-ltb}
use Rattle.std.proofs.lemmas.List.{length-drop, length-take-le, take-append-drop, drop-append-le, drop-take, drop-drop}
use Rattle.patch_rows.specs.declared.fault.RowKind.{RowKind}
use Rattle.patch_rows.specs.declared.fault.RowKind.TheVariants.{TooLong}
use Rattle.patch_rows.specs.declared.row.Row.{Row}
use Rattle.patch_rows.specs.Fault.{Read}
use Rattle.patch_rows.specs.Grammar.{row_limit, row_front}
use Rattle.patch_rows.specs.Rows.{live_row, row_at}
use Rattle.patch_rows.specs.Cut.{ends_row}
use Rattle.patch_reader.specs.Limit.{of_front, front_row_at, limited_row_at}

-- with `size` bytes from a place on in front
module _ (text : List ℕ) (at size : ℕ) where
  inside : drop at (take (at + size) text) ≡ take size (drop at text)
  inside = drop-take at size text

  outside : (end : ℕ) → at + size ≤ length text → end ≤ at + size → drop end (take (at + size) text) ++ drop size (drop at text) ≡ drop end text
  outside end fits le =
      let count : length (take (at + size) text) ≡ at + size = length-take-le (at + size) text fits in
      let part = drop-append-le end (take (at + size) text) (drop (at + size) text) (omega (arith, count, le)) in
      ap (λ (t : List ℕ). drop end (take (at + size) text) ++ t) (behind) ∙ sym part ∙ ap (drop end) (take-append-drop (at + size) text)
    where
      behind : drop size (drop at text) ≡ drop (at + size) text
      behind = drop-drop size at text

  -- behind a place of the front less stands than the front has
  left : (end : ℕ) → at + size ≤ length text → length (drop end (take (at + size) text)) ≡ at + size - end
  left end fits = let count : length (take (at + size) text) ≡ at + size = length-take-le (at + size) text fits in omega (arith, count, length-drop end (take (at + size) text))

size_of : (text : List ℕ) (at : ℕ) → row_limit < length (drop at text) → at + (row_limit + 1) ≤ length text
size_of text at lt = omega (arith, lt, length-drop at text)

live_front : (text : List ℕ) (at : ℕ) → live_row (drop at (take (at + (row_limit + 1)) text)) ≡ live_row (row_front (drop at text))
unfolding row_front
live_front text at = ap live_row (inside text at (row_limit + 1))

module _ (text front : List ℕ) (at : ℕ) (lt : row_limit < length (drop at text)) (is : front ≡ take (at + (row_limit + 1)) text) where
  tail : List ℕ
  tail = drop (row_limit + 1) (drop at text)

  read_is : live_row (drop at front) ≡ live_row (row_front (drop at text))
  read_is = ap (λ (t : List ℕ). live_row (drop at t)) is ∙ live_front text at

  count : length front ≡ at + (row_limit + 1)
  count = ap length is ∙ length-take-le (at + (row_limit + 1)) text (size_of text at lt)

abbrev done : Row × List ℕ → Read Row
done x = Ok x

abbrev failed : RowKind → List ℕ → Read Row
failed kind rest = Err (kind, rest)

pub whole_front : (text front : List ℕ) (at end : ℕ) → row_limit < length (drop at text) → front ≡ take (at + (row_limit + 1)) text → end ≤ length front
    → drop end front ++ drop (row_limit + 1) (drop at text) ≡ drop end text
whole_front text front at end lt is le =
    ap (λ (t : List ℕ). drop end t ++ drop (row_limit + 1) (drop at text)) is ∙ outside text at (row_limit + 1) end (size_of text at lt) (let c = count text front at lt is in omega (arith, c, le))

pub front_found : (text front : List ℕ) (at end : ℕ) (r : Row) → row_limit < length (drop at text) → front ≡ take (at + (row_limit + 1)) text → live_row (drop at front) ≡ Ok (r, drop end front)
    → end ≤ length front → (end ≡ length front → ⊥) → front_row_at (drop at text) ≡ Ok (r, drop end text)
front_found text front at end r lt is e le more =
    let read = sym (read_is text front at lt is) ∙ e in
    let size : length (drop end front) ≡ length front - end = length-drop end front in
    let some : length (drop end front) ≡ 0 → ⊥ = λ none. more (omega (arith, none, size, le)) in
    let no : nat_eq (length (drop end front)) 0 ≡ false = ne_eqb (length (drop end front)) 0 some in
    ap (of_front (drop at text) (drop (row_limit + 1) (drop at text))) read ∙ rw no (ap (λ (t : List ℕ). done (r, t)) (whole_front text front at end lt is le))

pub front_full : (text front : List ℕ) (at end : ℕ) (r : Row) → row_limit < length (drop at text) → front ≡ take (at + (row_limit + 1)) text → live_row (drop at front) ≡ Ok (r, drop end front)
    → end ≡ length front → front_row_at (drop at text) ≡ Err (TooLong, drop at text)
front_full text front at end r lt is e all =
    let read = sym (read_is text front at lt is) ∙ e in
    let size : length (drop end front) ≡ 0 = omega (arith, all, length-drop end front) in
    let yes : nat_eq (length (drop end front)) 0 ≡ true = eq-eqb (length (drop end front)) 0 size in
    ap (of_front (drop at text) (drop (row_limit + 1) (drop at text))) read ∙ rw yes refl

pub front_bad : (text front : List ℕ) (at place : ℕ) (kind : RowKind) → row_limit < length (drop at text) → front ≡ take (at + (row_limit + 1)) text → live_row (drop at front) ≡ Err (kind, drop place front)
    → place ≤ length front → ends_row kind (drop place front) ≡ false → front_row_at (drop at text) ≡ Err (kind, drop place text)
front_bad text front at place kind lt is e le o =
    let read = sym (read_is text front at lt is) ∙ e in
    ap (of_front (drop at text) (drop (row_limit + 1) (drop at text))) read ∙ rw o (ap (failed kind) (whole_front text front at place lt is le))

pub front_open : (text front : List ℕ) (at place : ℕ) (kind : RowKind) → row_limit < length (drop at text) → front ≡ take (at + (row_limit + 1)) text → live_row (drop at front) ≡ Err (kind, drop place front)
    → ends_row kind (drop place front) ≡ true → front_row_at (drop at text) ≡ Err (TooLong, drop at text)
front_open text front at place kind lt is e o =
    let read = sym (read_is text front at lt is) ∙ e in
    ap (of_front (drop at text) (drop (row_limit + 1) (drop at text))) read ∙ rw o refl

pub within : (text front : List ℕ) (at end : ℕ) → row_limit < length (drop at text) → front ≡ take (at + (row_limit + 1)) text → end ≤ length front → end ≤ length text
within text front at end lt is le = let c = count text front at lt is in let s = size_of text at lt in omega (arith, c, s, le)

pub ruleset front_steps = (front_found, front_full, front_bad, front_open, within)

pub limit_front : (text : List ℕ) → row_limit < length text → limited_row_at text ≡ front_row_at text
unfolding limited_row_at
limit_front text lt = let t : nat_lt row_limit (length text) ≡ true = lt-ltb row_limit (length text) lt in rw t refl

pub limit_whole : (text : List ℕ) → length text ≤ row_limit → limited_row_at text ≡ row_at text
unfolding limited_row_at
limit_whole text le = let t : nat_lt row_limit (length text) ≡ false = le-ltb row_limit (length text) le in rw t refl

pub ruleset limit_steps = (limit_front, limit_whole)
