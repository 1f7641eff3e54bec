-- What a window holds of its text, as the text goes on and its rows are read.
use Rattle.std.proofs.Common.{◌≡◌, ℕ, ◌+◌, ◌-◌, ◌^◌, ◌<◌, ◌≤◌, false, List, [], ◌∷◌, ◌++◌, length, take, drop, Option, Some, None, Result, Ok, refl, sym, ap, subst, ◌∙◌, arith}
use Rattle.std.specs.Prelude.{count_by, ◌==◌}
use Rattle.std.proofs.lemmas.List.{length-append, length-drop, drop-append-le, drop-drop, take-append-le, take_rest}
use Rattle.patch_rows.specs.declared.cut.TextEnd.{TextEnd}
use Rattle.patch_rows.specs.declared.cut.TextEnd.TheVariants as ends
use Rattle.patch_rows.specs.declared.fault.RowFault.{RowFault}
use Rattle.patch_rows.specs.declared.row.Row.{Row}
use Rattle.patch_rows.specs.Grammar.{IsRowAt, ShortRowAt, Space}
use Rattle.patch_rows.proofs.SpaceLaws.{skipped}
use Rattle.patch_reader.specs.declared.front.Region.{Region}
use Rattle.patch_reader.specs.declared.front.Region.TheVariants as regions
use Rattle.patch_reader.specs.declared.placed.PlacedRow.{PlacedRow}
use Rattle.patch_reader.specs.declared.progress.RowProgress.{RowProgress}
use Rattle.patch_reader.specs.Held.{row_place, IsStuck, IsRest, HasAll, PassesGap, StaysThere, HoldsText}
use Rattle.patch_reader.specs.Places.{feeds_before}
use Rattle.patch_reader.specs.Rows.{Gap, GivesNext, KeepsText, RowsStand}
use Rattle.patch_reader.specs.Window.{Window, RowBegins}
use Rattle.patch_reader.proofs.LineFeeds.{feeds_more}
use Rattle.patch_reader.proofs.WindowSteps.{rest_more, keeps_behind, gives_moved, stand_now}

-- where none begins, or the row was read, there is no row that wasn't
pub was_read : (at : ℕ) (region : Region) → row_place at region ≡ None → region ≡ regions.Row None → ⊥
was_read at region none is = let some : Some at ≡ None = sym (ap (row_place at) is) ∙ none in absurd cc

-- the rest of what is kept
pub rest_is : (view kept : List ℕ) (at : ℕ) → view ≡ kept → take (length view - at) (drop at view) ≡ drop at kept
rest_is view kept at is = take_rest view at ∙ ap (drop at) is

holds_at : (text : List ℕ) (passed from : ℕ) (kept : List ℕ) (feeds at size : ℕ) (new : Region) → KeepsText text from kept → at ≤ length kept → size ≤ length (drop at kept)
    → IsRest text passed (from + at + size) (drop size (drop at kept)) new → IsStuck (drop size (drop at kept)) new → feeds ≡ feeds_before text from → length text < 2 ^ 64 - 1
    → HoldsText text passed from kept feeds (at + size) new
holds_at text passed from kept feeds at size new keeps low high rest stuck feeds_are fits =
    let there : drop size (drop at kept) ≡ drop (at + size) kept = drop-drop size at kept in
    record {
      keeps = keeps;
      within = omega (arith, low, high, length-drop at kept);
      rest = subst (λ (n : ℕ). IsRest text passed n (drop (at + size) kept) new) (let sum : from + at + size ≡ from + (at + size) = omega arith in sum)
          (subst (λ (t : List ℕ). IsRest text passed (from + at + size) t new) there rest);
      stuck = subst (λ (t : List ℕ). IsStuck t new) there stuck;
      feeds_are = feeds_are;
      fits = fits;
    }

module _ (text : List ℕ) (passed from : ℕ) (kept : List ℕ) (feeds at : ℕ) (region : Region) (h : HoldsText text passed from kept feeds at region) where
  -- a piece is fed
  pub pushed : (piece longer : List ℕ) (size : ℕ) (new : Region) → longer ≡ kept ++ piece → length (text ++ piece) < 2 ^ 64 - 1 → size ≤ length (drop at longer)
      → PassesGap (drop at longer) region size new → IsStuck (drop size (drop at longer)) new → HoldsText (text ++ piece) passed from longer feeds (at + size) new
  pushed piece longer size new is fits high passes stuck =
      let within = h.keeps.1 in
      let more : drop at kept ++ piece ≡ drop at longer = sym (drop-append-le at kept piece h.within) ∙ ap (drop at) (sym is) in
      holds_at (text ++ piece) passed from longer feeds at size new
      (drop-append-le from text piece within ∙ ap (λ (t : List ℕ). t ++ piece) h.keeps.0 ∙ sym is, omega (arith, within, length-append text piece), omega (arith, fits))
      (let low = h.within in let all : length longer ≡ length kept + length piece = ap length is ∙ length-append kept piece in omega (arith, low, all))
      high
      (passes (text ++ piece) passed (from + at) (subst (λ (t : List ℕ). IsRest (text ++ piece) passed (from + at) t region) more (rest_more text piece passed (from + at) (drop at kept) region (omega (arith, fits)) h.rest)))
      stuck
      (h.feeds_are ∙ ap (count_by (λ b. b == 10)) (sym (take-append-le from text piece within)))
      fits

  -- a row is passed
  pub row_passed : (place end size : ℕ) (new : Region) → from ≤ end → end ≤ length text → place ≡ end - from → size ≤ length (drop place kept)
      → PassesGap (drop place kept) (regions.Gap false) size new → IsStuck (drop size (drop place kept)) new → HoldsText text end from kept feeds (place + size) new
  row_passed place end size new low high is within passes stuck =
      let all : length kept ≡ length text - from = sym (ap length h.keeps.0) ∙ length-drop from text in
      let there : from + place ≡ end = omega (arith, low, is) in
      let le : place ≤ length kept = omega (arith, all, is, high, low) in
      holds_at text end from kept feeds place size new h.keeps le within
      (passes text end (from + place) (subst (λ (n : ℕ). IsRest text n (from + place) (drop place kept) (regions.Gap false)) there (keeps_behind text from kept h.keeps place le, omega arith, λ more. refl)))
      stuck h.feeds_are h.fits

  -- what was read is let go
  pub settled : HoldsText text passed (from + at) (drop at kept) (feeds + count_by (λ b. b == 10) (take at kept)) 0 region
  settled = record {
    keeps = h.rest.0;
    within = omega arith;
    rest = subst (λ (n : ℕ). IsRest text passed n (drop at kept) region) (let sum : from + at ≡ from + at + 0 = omega arith in sum) h.rest;
    stuck = h.stuck;
    feeds_are = ap (λ (n : ℕ). n + count_by (λ b. b == 10) (take at kept)) h.feeds_are ∙ feeds_more text from at kept h.keeps.0;
    fits = h.fits;
  }

  -- other things are known
  pub known_now : (new : Region) → StaysThere (drop at kept) region new → HoldsText text passed from kept feeds at new
  known_now new stays = record {
    keeps = h.keeps;
    within = h.within;
    rest = stays.1 text passed (from + at) h.rest;
    stuck = stays.0 h.stuck;
    feeds_are = h.feeds_are;
    fits = h.fits;
  }

  -- the same of what the window's bytes show
  pub followed : (new : Region) (view : List ℕ) → view ≡ kept → StaysThere (take (length view - at) (drop at view)) region new → HoldsText text passed from kept feeds at new
  followed new view is stays = known_now new (subst (λ (t : List ℕ). StaysThere t region new) (rest_is view kept at is) stays)

  -- what is answered of the row behind the last one
  pub row_given : (end : TextEnd) (new : Region) (first view : List ℕ) (answer : Result (Option PlacedRow) RowFault) → first ≡ kept → view ≡ kept
      → StaysThere (take (length first - at) (drop at first)) region new → HasAll end (take (length first - at) (drop at first)) new
      → ((whole : List ℕ) → KeepsText whole from view → GivesNext end whole (from + at) answer) → GivesNext end text passed answer
  row_given end new first view answer first_is view_is stays all given =
      let now = followed new first first_is stays in
      let within = now.rest.0.1 in
      let order = now.rest.1 in
      gives_moved end text passed (from + at) answer within (omega (arith, order, within))
      (subst (λ (t : List ℕ). HasAll end t new) (rest_is first kept at first_is) all text passed (from + at) now.rest now.stuck)
      (given text (subst (λ (t : List ℕ). KeepsText text from t) (sym view_is) h.keeps))

-- a row stands behind that place, within the text
pub row_within : (end : TextEnd) (text : List ℕ) (from : ℕ) (r : PlacedRow) → GivesNext end text from (Ok (Some r)) → (r.at < r.end) × (r.end ≤ length text) × (from ≤ r.at)
unfolding IsRowAt
row_within end text from r is =
    let stands = stand_now end text from r.end (r ∷ []) is in
    let high = stands.1.2 in (stands.1.1, omega (arith, high, length-append text []), stands.0.1)

-- where a row begins
pub begins : (text : List ℕ) (passed at : ℕ) (rest : List ℕ) (progress : Option RowProgress) → IsRest text passed at rest (regions.Row progress) → ((more : List ℕ) → Gap (text ++ more) passed at) × (at < length text)
begins text passed at rest progress (keeps, order, is) = (
  λ more. (
    subst (λ (t : List ℕ). Space (drop passed (text ++ more)) t) (is.0 more) (skipped (drop passed (text ++ more))),
    order,
    (let within = keeps.1 in omega (arith, within, length-append text more)),
  ),
  is.2,
)

-- a row that the bytes at the front of the next one decide stands in the text
pub row_there : (w : Window) (start end : ℕ) (r : Row) → RowBegins w start → ((more : List ℕ) → IsRowAt (drop start w.fed ++ more) 0 r end)
    → RowsStand ends.Open w.fed w.passed (record { row = r; at = start; end = start + end } ∷ []) (start + end)
unfolding IsRowAt
row_there w start end r begins found = λ more.
    let within = begins.2 in
    let front : drop start w.fed ++ more ≡ drop start (w.fed ++ more) = sym (drop-append-le start w.fed more (omega (arith, within))) in
    let row = subst (λ (t : List ℕ). ShortRowAt t r (drop end t) × (0 < end) × (end ≤ length t)) front (found more) in
    let some = row.1 in
    let high = row.2 in (
      begins.0 more,
      (
        subst (λ (t : List ℕ). ShortRowAt (drop start (w.fed ++ more)) r t) (drop-drop end start (w.fed ++ more)) row.0,
        omega (arith, some),
        omega (arith, high, within, length-drop start (w.fed ++ more), length-append w.fed more),
      ),
      refl,
    )
