-- A text that comes in pieces, and the rest of it, as its rows are read.
use Rattle.std.proofs.Common.{◌≡◌, ◌↔◌, ℕ, ◌+◌, ◌-◌, ◌^◌, ◌<◌, ◌≤◌, List, [], ◌∷◌, ◌++◌, length, drop, true, false, Bool, Option, Some, None, Result, Ok, Err, refl, sym, ap, subst, ◌∙◌, append_assoc, append-nil, arith}
use Rattle.std.specs.Option.{IfSome}
use Rattle.std.proofs.lemmas.Bool.{false≢true}
use Rattle.std.proofs.lemmas.List.{length-append, length-drop, drop-append-le, drop-drop}
use Rattle.patch_rows.specs.declared.fault.RowFault.{RowFault}
use Rattle.patch_rows.specs.declared.fault.RowFault.TheVariants as faults
use Rattle.patch_rows.specs.declared.fault.RowKind.{RowKind}
use Rattle.patch_rows.specs.Fault.{Read}
use Rattle.patch_rows.specs.declared.row.Row.{Row}
use Rattle.patch_rows.specs.Grammar.{Space}
use Rattle.patch_rows.specs.Reading.{space_behind, skip_space}
use Rattle.patch_rows.specs.Rows.{live_row}
use Rattle.patch_rows.proofs.Shorter.{space_le}
use Rattle.patch_rows.proofs.SpaceLaws.{skipped, skips}
use Rattle.patch_reader.specs.declared.placed.PlacedRow.{PlacedRow}
use Rattle.patch_rows.specs.declared.cut.TextEnd.{TextEnd}
use Rattle.patch_rows.specs.declared.cut.TextEnd.TheVariants as ends
use Rattle.patch_reader.specs.declared.front.Region.{Region}
use Rattle.patch_reader.specs.declared.front.Region.TheVariants as regions
use Rattle.patch_reader.specs.declared.progress.RowProgress.{RowProgress}
use Rattle.patch_rows.specs.Cut.{AtEnd}
use Rattle.patch_reader.specs.Decided.{MoreDecides}
use Rattle.patch_reader.specs.Held.{IsRegion, IsRest, IsSameGap, DecidesNothing, HasAll, PassesGap}
use Rattle.patch_reader.specs.Inside.{OpenInside}
use Rattle.patch_reader.specs.Progress.{OpenAt, HasFollowed, IsUnfinished}
use Rattle.patch_reader.specs.declared.progress.Place.TheVariants as place
use Rattle.patch_reader.specs.Rows.{Gap, RowsUpTo, RowsDecided, NextRowFault, NothingDecided, RowsStand, StopsRows, GivesNext, KeepsText}
use Rattle.patch_reader.proofs.Kept.{none_next}
use Rattle.patch_reader.proofs.Limits.{more_decides}
use Rattle.patch_reader.proofs.ProgressSteps.{gap_cut}
use Rattle.patch_reader.proofs.RowEnds.{cut_row, cut_short}

-- ---- the text goes on

follows_more : (kept piece : List ℕ) (p : RowProgress) → HasFollowed kept p → HasFollowed (kept ++ piece) p
follows_more kept piece p f = (
  (λ more. subst (λ (t : List ℕ). OpenAt place.Row t ↔ OpenAt p.place t) (sym (append_assoc kept piece more)) (f.0 (piece ++ more))),
  (λ more. subst (λ (t : List ℕ). OpenInside p.inside t → OpenAt place.Row t) (sym (append_assoc kept piece more)) (f.1 (piece ++ more))),
)

region_more : (text piece : List ℕ) (passed at : ℕ) (rest : List ℕ) (region : Region) → IsRegion text passed at rest region → IsRegion (text ++ piece) passed at (rest ++ piece) region
region_more text piece passed at rest (regions.Gap comment) is = λ more.
    subst (λ (t : List ℕ). skip_space (drop passed t) ≡ space_behind comment 0 (drop at t)) (sym (append_assoc text piece more)) (is (piece ++ more))
region_more text piece passed at rest (regions.Row progress) is = (
  (λ more. subst (λ (t : List ℕ). skip_space (drop passed t) ≡ drop at t) (sym (append_assoc text piece more)) (is.0 (piece ++ more))),
  (λ more. subst (λ (t : List ℕ). skip_space (drop at t) ≡ drop at t) (sym (append_assoc text piece more)) (is.1 (piece ++ more))),
  (let lt = is.2 in omega (arith, lt, length-append text piece)),
  followed progress is.3,
)
  where
    followed : (o : Option RowProgress) → IfSome o (HasFollowed rest) → IfSome o (HasFollowed (rest ++ piece))
    followed None f = f
    followed (Some p) f = follows_more rest piece p f

pub rest_more : (text piece : List ℕ) (passed at : ℕ) (rest : List ℕ) (region : Region) → length (text ++ piece) < 2 ^ 64 → IsRest text passed at rest region → IsRest (text ++ piece) passed at (rest ++ piece) region
rest_more text piece passed at rest region fits (keeps, le, is) = (
  (drop-append-le at text piece keeps.1 ∙ ap (λ (t : List ℕ). t ++ piece) keeps.0, (let within = keeps.1 in omega (arith, within, length-append text piece)), fits),
  le,
  region_more text piece passed at rest region is,
)

-- ---- white space and comments are passed

module _ (text : List ℕ) (from : ℕ) (kept : List ℕ) (keeps : KeepsText text from kept) where
  behind : (at : ℕ) (more : List ℕ) → at ≤ length kept → drop (from + at) (text ++ more) ≡ drop at (kept ++ more)
  behind at more le =
      sym (drop-drop at from (text ++ more)) ∙ ap (drop at) (drop-append-le from text more keeps.1 ∙ ap (λ (t : List ℕ). t ++ more) keeps.0)

  whole : (more : List ℕ) → drop from (text ++ more) ≡ kept ++ more
  whole more = drop-append-le from text more keeps.1 ∙ ap (λ (t : List ℕ). t ++ more) keeps.0

  pub keeps_behind : (at : ℕ) → at ≤ length kept → KeepsText text (from + at) (drop at kept)
  keeps_behind at le = (
    sym (drop-drop at from text) ∙ ap (drop at) keeps.0,
    (let s : length kept ≡ length text - from = sym (ap length keeps.0) ∙ length-drop from text in omega (arith, s, le, keeps.1)),
    keeps.2,
  )

module _ (rest : List ℕ) (old new : Bool) (size : ℕ) (le : size ≤ length rest) (same : (more : List ℕ) → space_behind old 0 (rest ++ more) ≡ space_behind new 0 (drop size (rest ++ more))) where
  pub gap_passes : PassesGap rest (regions.Gap old) size (regions.Gap new)
  gap_passes = λ text passed at (keeps, order, is). (
    keeps_behind text at rest keeps size le,
    omega (arith, order),
    λ more. is more ∙ ap (space_behind old 0) (whole text at rest keeps more) ∙ same more ∙ ap (space_behind new 0) (sym (behind text at rest keeps size more le)),
  )

  pub row_passes : size < length rest → ((comment : Bool) → (comment ≡ true → new ≡ true) → (more : List ℕ) → space_behind comment 0 (drop size (rest ++ more)) ≡ drop size (rest ++ more)) → PassesGap rest (regions.Gap old) size (regions.Row None)
  row_passes lt over = λ text passed at (keeps, order, is).
      let gap = gap_passes text passed at (keeps, order, is) in
      let here = λ (more : List ℕ). behind text at rest keeps size more le in
      let count : length rest ≡ length text - at = sym (ap length keeps.0) ∙ length-drop at text in (
        gap.0,
        gap.1,
        (
          (λ more. gap.2 more ∙ ap (space_behind new 0) (here more) ∙ over new (λ is. is) more ∙ sym (here more)),
          (λ more. ap skip_space (here more) ∙ over false (λ is. absurd (false≢true is)) more ∙ sym (here more)),
          omega (arith, count, lt),
          tt,
        ),
      )

-- ---- nothing is decided

none_there : (rest : List ℕ) → IsUnfinished rest → MoreDecides rest
none_there rest unfinished = by (live_row rest) refl unfinished.1
  where
    by : (r : Read Row) → live_row rest ≡ r → AtEnd r → MoreDecides rest
    by (Ok x) e a = absurd a
    by (Err f) e a = more_decides rest f unfinished.0 e a

none_behind : (text : List ℕ) (passed from : ℕ) (kept : List ℕ) → KeepsText text from kept → passed ≤ from → skip_space (drop passed text) ≡ kept → IsUnfinished kept → NothingDecided text passed
none_behind text passed from kept keeps order is unfinished =
    let start : ℕ = from - passed in
    let tail : List ℕ = drop passed text in
    let there : drop start tail ≡ kept = drop-drop start passed text ∙ ap (λ (n : ℕ). drop n text) (let sum : passed + (from - passed) ≡ from = omega (arith, order) in sum) ∙ keeps.0 in
    let within : start ≤ length tail = omega (arith, length-drop passed text, keeps.1, order) in
    let space : Space (drop 0 tail) (drop start tail) = subst (λ (t : List ℕ). Space tail t) (is ∙ sym there) (skipped tail) in
    subst (λ (n : ℕ). NothingDecided text n) (let sum : passed + 0 ≡ passed = omega arith in sum)
    (none_next text tail passed (refl, omega (arith, keeps.1, order), keeps.2) 0 start (omega arith) within space (subst (λ (t : List ℕ). MoreDecides t) (sym there) (none_there kept unfinished)))

now : (text : List ℕ) (passed from : ℕ) (kept : List ℕ) (f : List ℕ → List ℕ) → ((more : List ℕ) → skip_space (drop passed (text ++ more)) ≡ f (drop from (text ++ more))) → KeepsText text from kept → skip_space (drop passed text) ≡ f kept
now text passed from kept f is keeps =
    subst (λ (t : List ℕ). skip_space (drop passed t) ≡ f (drop from t)) (append-nil text) (is []) ∙ ap f keeps.0

pub cut_none : (rest : List ℕ) (comment : Bool) → DecidesNothing rest (regions.Gap comment)
cut_none rest comment = λ text passed at (keeps, order, is) cut.
    none_behind text passed at rest keeps order (now text passed at rest (space_behind comment 0) is keeps ∙ gap_cut comment rest cut) (cut_short rest cut, cut_row rest cut)

pub row_none : (rest : List ℕ) (p : RowProgress) → (HasFollowed rest p → IsUnfinished rest) → DecidesNothing rest (regions.Row (Some p))
row_none rest p unfinished = λ text passed at (keeps, order, is) stuck. none_behind text passed at rest keeps order (now text passed at rest (λ t. t) is.0 keeps) (unfinished is.3)

-- ---- the same stands behind white space and comments

pub all_known : (rest : List ℕ) (region : Region) → HasAll ends.Known rest region
all_known rest (regions.Gap comment) = λ text passed at (keeps, order, is) cut.
    now text passed at rest (space_behind comment 0) is keeps ∙ gap_cut comment rest cut ∙ sym (gap_cut false rest cut) ∙ ap skip_space (sym keeps.0)
all_known rest (regions.Row progress) = λ text passed at (keeps, order, is) stuck.
    now text passed at rest (λ t. t) is.0 keeps ∙ sym (subst (λ (t : List ℕ). skip_space (drop at t) ≡ drop at t) (append-nil text) (is.1 []) ∙ keeps.0)

-- ---- what stands there, from the one place as from the other

gap_moved : (text : List ℕ) (a b to : ℕ) → skip_space (drop a text) ≡ skip_space (drop b text) → b ≤ length text → Gap text a to → Gap text b to
gap_moved text a b to e within g =
    let is = skips (drop a text) (drop to text) g.0 in
    let space : Space (drop b text) (drop to text) = subst (λ (t : List ℕ). Space (drop b text) t) (sym e ∙ is) (skipped (drop b text)) in
    let less = space_le (drop b text) (drop to text) space in
    let high = g.2 in
    (space, omega (arith, less, high, within, length-drop b text, length-drop to text), high)

within_more : (text more : List ℕ) (b : ℕ) → b ≤ length text → b ≤ length (text ++ more)
within_more text more b le = omega (arith, le, length-append text more)

module _ (text : List ℕ) (a b : ℕ) (a_within : a ≤ length text) (within : b ≤ length text) where
  open_row : ((more : List ℕ) → skip_space (drop a (text ++ more)) ≡ skip_space (drop b (text ++ more))) → (r : PlacedRow) (rows_ : List PlacedRow) (to : ℕ) → RowsDecided text a (r ∷ rows_) to → RowsDecided text b (r ∷ rows_) to
  open_row same r rows_ to d = λ more. let up = d more in (gap_moved (text ++ more) a b r.at (same more) (within_more text more b within) up.0, up.1, up.2)

  open_fault : ((more : List ℕ) → skip_space (drop a (text ++ more)) ≡ skip_space (drop b (text ++ more))) → (kind : RowKind) (at : ℕ) → NextRowFault text a kind at → NextRowFault text b kind at
  open_fault same kind at (to, bad) = (to, λ more. (gap_moved (text ++ more) a b to (same more) (within_more text more b within) (bad more).0, (bad more).1))

pub stops_moved : (end : TextEnd) (text : List ℕ) (passed from : ℕ) (o : Option RowFault) → from ≤ length text → passed ≤ length text → IsSameGap end text passed from → StopsRows end text from o → StopsRows end text passed o
stops_moved ends.Open text passed from None low high same none = (
  (λ r d. none.0 r (open_row text passed from high low same r [] r.end d)),
  (λ kind at bad. none.1 kind at (open_fault text passed from high low same kind at bad)),
)
stops_moved ends.Known text passed from None low high same gap = gap_moved text from passed (length text) (sym same) high gap
stops_moved ends.Open text passed from (Some (faults.At at kind)) low high same bad = open_fault text from passed low high (λ more. sym (same more)) kind at bad
stops_moved ends.Known text passed from (Some (faults.At at kind)) low high same (to, gap, there) = (to, gap_moved text from passed to (sym same) high gap, there)
stops_moved end text passed from (Some faults.OutOfMemory) low high same bad = tt

pub stand_moved : (end : TextEnd) (text : List ℕ) (passed from to : ℕ) (r : PlacedRow) (rows_ : List PlacedRow) → from ≤ length text → passed ≤ length text → IsSameGap end text passed from → RowsStand end text from (r ∷ rows_) to → RowsStand end text passed (r ∷ rows_) to
stand_moved ends.Open text passed from to r rows_ low high same up = open_row text from passed low high (λ more. sym (same more)) r rows_ to up
stand_moved ends.Known text passed from to r rows_ low high same up = (gap_moved text from passed r.at (sym same) high up.0, up.1, up.2)

pub gives_moved : (end : TextEnd) (text : List ℕ) (passed at : ℕ) (answer : Result (Option PlacedRow) RowFault) → at ≤ length text → passed ≤ length text → IsSameGap end text passed at → GivesNext end text at answer → GivesNext end text passed answer
gives_moved end text passed at (Ok (Some r)) low high same is = stand_moved end text passed at r.end r [] low high same is
gives_moved end text passed at (Ok None) low high same is = stops_moved end text passed at None low high same is
gives_moved end text passed at (Err fault) low high same is = stops_moved end text passed at (Some fault) low high same is

pub stand_now : (end : TextEnd) (text : List ℕ) (from to : ℕ) (rows_ : List PlacedRow) → RowsStand end text from rows_ to → RowsUpTo (text ++ []) from rows_ to
stand_now ends.Open text from to rows_ up = up []
stand_now ends.Known text from to rows_ up = subst (λ (t : List ℕ). RowsUpTo t from rows_ to) (sym (append-nil text)) up
