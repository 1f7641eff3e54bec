-- What is decided of a text of which only the end is kept.
use Rattle.std.proofs.Common.{◌≡◌, ℕ, ◌+◌, ◌-◌, ◌^◌, ◌<◌, ◌≤◌, true, List, [], ◌∷◌, ◌++◌, length, drop, Option, Some, None, Result, Ok, Err, refl, sym, ap, subst, ◌∙◌, append-nil, arith}
use Rattle.std.proofs.lemmas.Bool.{false≢true}
use Rattle.std.proofs.lemmas.List.{length-append, length-drop, drop-append-le, drop-drop}
use Rattle.patch_rows.specs.declared.fault.RowFault.{RowFault}
use Rattle.patch_rows.specs.declared.fault.RowFault.TheVariants as faults
use Rattle.patch_rows.specs.declared.fault.RowKind.{RowKind}
use Rattle.patch_rows.specs.declared.row.Row.{Row}
use Rattle.patch_rows.specs.Fault.{Fault, RowFailsBy}
use Rattle.patch_rows.specs.Faults.{FirstFault}
use Rattle.patch_rows.specs.Grammar.{Space, ShortRowAt, IsRowAt}
use Rattle.patch_rows.specs.Reading.{skip_space}
use Rattle.patch_rows.proofs.SpaceLaws.{skips}
use Rattle.patch_reader.specs.declared.placed.PlacedRow.{PlacedRow}
use Rattle.patch_rows.specs.declared.cut.TextEnd.{TextEnd}
use Rattle.patch_rows.specs.declared.cut.TextEnd.TheVariants as ends
use Rattle.patch_rows.specs.Cut.{AtEnd, is_cut}
use Rattle.patch_reader.specs.Decided.{ShortRowDecided, FirstFaultDecided, MoreDecides, ReadsRow, GivesRow}
use Rattle.patch_reader.specs.Places.{further_place, moved_fault, placed_row}
use Rattle.patch_reader.specs.Rows.{Gap, RowsUpTo, NoRowAt, FaultBehind, RowsDecided, NextRowFault, NothingDecided, GivesNext, KeepsText}
use Rattle.patch_reader.proofs.Limits.{any_length}
use Rattle.patch_reader.proofs.RowEnds.{space_there, cut_row, cut_short}
use Rattle.patch_reader.proofs.Settled.{only_row, only_fault}

-- ---- what is cut begins nothing that is decided

row_not_cut : (from : List ℕ) (r : Row) (after : List ℕ) → ShortRowDecided from r after → is_cut from ≡ true → ⊥
row_not_cut from r after d cut = subst AtEnd (only_row from r after (λ more. (d more).0)) (cut_row from cut)

fault_not_cut : (from : List ℕ) (f : Fault) → FirstFaultDecided from f → is_cut from ≡ true → ⊥
fault_not_cut from f d cut =
    let o = only_fault from f (any_length from f (cut_short from cut) d) in false≢true (sym o.1 ∙ subst AtEnd o.0 (cut_row from cut))

-- ---- places

-- a text that is kept from a place on: what stands in what is kept stands in the text
module _ (text kept : List ℕ) (base : ℕ) (same : drop base text ≡ kept) (within : base ≤ length text) where
  size : length kept ≡ length text - base
  size = sym (ap length same) ∙ length-drop base text

  here : (at : ℕ) → drop (base + at) text ≡ drop at kept
  here at = sym (drop-drop at base text) ∙ ap (drop at) same

  gap_there : (at start : ℕ) → Gap kept at start → Gap text (base + at) (base + start)
  gap_there at start gap = (rw (here at, here start) gap.0, omega (arith, gap.1), omega (arith, size, within, gap.2))

  row_there : (start end : ℕ) (r : Row) → IsRowAt kept start r end → IsRowAt text (base + start) r (base + end)
  unfolding IsRowAt
  row_there start end r is = (rw (here start, here end) is.0, omega (arith, is.1), omega (arith, size, within, is.2))

  none_there : (start place : ℕ) (kind : RowKind) → NoRowAt kept start kind place → NoRowAt text (base + start) kind (base + place)
  none_there start place kind bad = (omega (arith, size, within, bad.0), rw (here start, here place) bad.1, omega (arith, size, within, bad.2))

module _ (text kept : List ℕ) (base : ℕ) (k : KeepsText text base kept) where
  pub far : (at : ℕ) → at ≤ length kept → further_place base at ≡ base + at
  far at le =
      let s = size text kept base k.0 k.1 in let within = k.1 in let fits = k.2 in
      let low : base + at ≤ 2 ^ 64 - 1 = omega (arith, s, within, fits, le) in grind (arith, low)

  placed_is : (r : Row) (start end : ℕ) → start ≤ length kept → end ≤ length kept → placed_row base r start end ≡ record { row = r; at = base + start; end = base + end }
  placed_is r start end low high =
      let make = λ (a b : ℕ). let p : PlacedRow = record { row = r; at = a; end = b } in p in
      ap (λ (a : ℕ). make a (further_place base end)) (far start low) ∙ ap (make (base + start)) (far end high)

  -- so it is with more text behind
  kept_more : (more : List ℕ) → drop base (text ++ more) ≡ kept ++ more
  kept_more more = drop-append-le base text more k.1 ∙ ap (λ (t : List ℕ). t ++ more) k.0

  longer : (more : List ℕ) → base ≤ length (text ++ more)
  longer more = omega (arith, k.1, length-append text more)

  -- ---- where the text may go on

  module _ (at start : ℕ) (low : at ≤ start) (high : start ≤ length kept) (space : Space (drop at kept) (drop start kept)) where
    skipped : skip_space (drop at kept) ≡ drop start kept
    skipped = skips (drop at kept) (drop start kept) space

    front : (place : ℕ) (more : List ℕ) → place ≤ length kept → drop place (kept ++ more) ≡ drop place kept ++ more
    front place more le = drop-append-le place kept more le

    gap_stays : (is_cut (drop start kept) ≡ true → ⊥) → (more : List ℕ) → Gap (text ++ more) (base + at) (base + start)
    gap_stays some more = gap_there (text ++ more) (kept ++ more) base (kept_more more) (longer more) at start
        (rw (front at more (omega (arith, low, high)), front start more high) (rw skipped at (space_there (drop at kept) (λ cut. some (ap is_cut (sym skipped) ∙ cut)) more)), low, omega (arith, high, length-append kept more))

    row_next : (end : ℕ) (r : Row) → start < end → end ≤ length kept → ShortRowDecided (drop start kept) r (drop end kept) → RowsDecided text (base + at) (placed_row base r start end ∷ []) (further_place base end)
    unfolding IsRowAt
    row_next end r lt le d = subst (λ (p : PlacedRow). RowsDecided text (base + at) (p ∷ []) p.end) (sym (placed_is r start end high le)) (λ more. (
      gap_stays (row_not_cut (drop start kept) r (drop end kept) d) more,
      row_there (text ++ more) (kept ++ more) base (kept_more more) (longer more) start end r
          (rw (front start more high, front end more le) (d more), lt, omega (arith, le, length-append kept more)),
      refl,
    ))

    fault_next : (place : ℕ) (kind : RowKind) → start < length kept → place ≤ length kept → FirstFaultDecided (drop start kept) (kind, drop place kept) → NextRowFault text (base + at) kind (further_place base place)
    fault_next place kind lt le d = subst (λ (n : ℕ). NextRowFault text (base + at) kind n) (sym (far place le)) (
      base + start,
      λ more. (
        gap_stays (fault_not_cut (drop start kept) (kind, drop place kept) d) more,
        none_there (text ++ more) (kept ++ more) base (kept_more more) (longer more) start place kind
            (omega (arith, lt, length-append kept more), rw (front start more high, front place more le) (d more), omega (arith, le, length-append kept more)),
      ),
    )

    -- what is decided of the whole text is decided of what is kept
    begins_here : (to : ℕ) → ((more : List ℕ) → Gap (text ++ more) (base + at) to) → (drop to text ≡ drop start kept) × (to ≤ length text)
    begins_here to gap =
        let g = gap [] in
        let within : to ≤ length text = omega (arith, g.2, length-append text []) in
        let is = skips (drop at kept ++ []) (drop to text ++ []) (
        subst (λ (t : List ℕ). Space t (drop to text ++ [])) (here (text ++ []) (kept ++ []) base (kept_more []) (longer []) at ∙ front at [] (omega (arith, low, high)))
        (subst (λ (t : List ℕ). Space (drop (base + at) (text ++ [])) t) (drop-append-le to text [] within) g.0)) in
        (sym (append-nil (drop to text)) ∙ sym is ∙ ap skip_space (append-nil (drop at kept)) ∙ skipped, within)

    row_was : (r : PlacedRow) → MoreDecides (drop start kept) → RowsDecided text (base + at) (r ∷ []) r.end → ⊥
    unfolding IsRowAt
    row_was r none d =
        let b = begins_here r.at (λ more. (d more).0) in
        let ends_within : r.end ≤ length text = omega (arith, (d []).1.2, length-append text []) in
        none.0 r.row (drop r.end text) (λ more.
        subst (λ (t : List ℕ). ShortRowAt (t ++ more) r.row (drop r.end text ++ more)) b.0
        (subst (λ (t : List ℕ). ShortRowAt t r.row (drop r.end text ++ more)) (drop-append-le r.at text more b.1)
        (subst (λ (t : List ℕ). ShortRowAt (drop r.at (text ++ more)) r.row t) (drop-append-le r.end text more ends_within) (d more).1.0)))

    fault_was : (kind : RowKind) (place : ℕ) → MoreDecides (drop start kept) → NextRowFault text (base + at) kind place → ⊥
    fault_was kind place none (to, d) =
        let b = begins_here to (λ more. (d more).0) in
        let within : place ≤ length text = omega (arith, (d []).1.2, length-append text []) in
        none.1 (kind, drop place text) (λ more.
        subst (λ (t : List ℕ). FirstFault (t ++ more) (kind, drop place text ++ more)) b.0
        (subst (λ (t : List ℕ). FirstFault t (kind, drop place text ++ more)) (drop-append-le to text more b.1)
        (subst (λ (t : List ℕ). FirstFault (drop to (text ++ more)) (kind, t)) (drop-append-le place text more within) (d more).1.1)))

    pub none_next : MoreDecides (drop start kept) → NothingDecided text (base + at)
    none_next none = ((λ r d. row_was r none d), (λ kind place d. fault_was kind place none d))

    -- ---- where it is whole

    gap_known : Gap text (base + at) (base + start)
    gap_known = gap_there text kept base k.0 k.1 at start (space, low, high)

    row_known : (end : ℕ) (r : Row) → IsRowAt kept start r end → RowsUpTo text (base + at) (placed_row base r start end ∷ []) (further_place base end)
    unfolding IsRowAt
    row_known end r is = subst (λ (p : PlacedRow). RowsUpTo text (base + at) (p ∷ []) p.end) (sym (placed_is r start end high is.2)) (gap_known, row_there text kept base k.0 k.1 start end r is, refl)

    fault_known : (place : ℕ) (kind : RowKind) → NoRowAt kept start kind place → FaultBehind text (base + at) kind (further_place base place)
    fault_known place kind bad = subst (λ (n : ℕ). FaultBehind text (base + at) kind n) (sym (far place bad.2)) (base + start, gap_known, none_there text kept base k.0 k.1 start place kind bad)

    none_known : start ≡ length kept → Gap text (base + at) (length text)
    none_known all =
        let s = size text kept base k.0 k.1 in let within = k.1 in
        let last : base + start ≡ length text = omega (arith, s, within, all) in
        subst (λ (n : ℕ). Gap text (base + at) n) last gap_known

-- ---- what is answered of the next row

abbrev pub moved : ℕ → ℕ → Result (Option (Row × ℕ)) RowFault → Result (Option PlacedRow) RowFault
moved base start (Ok (Some x)) = Ok (Some (placed_row base x.0 start x.1))
moved base start (Ok None) = Ok None
moved base start (Err fault) = Err (moved_fault base fault)

pub next_given : (end : TextEnd) (text kept : List ℕ) (base at start : ℕ) (answer : Result (Option (Row × ℕ)) RowFault) → at ≤ start → start ≤ length kept → Space (drop at kept) (drop start kept)
    → GivesRow end kept start answer → KeepsText text base kept → GivesNext end text (base + at) (moved base start answer)
next_given ends.Open text kept base at start (Ok (Some x)) low high space d k = row_next text kept base k at start low high space x.1 x.0 d.1 d.2 d.0
next_given ends.Open text kept base at start (Ok None) low high space d k = none_next text kept base k at start low high space d
next_given ends.Open text kept base at start (Err (faults.At place kind)) low high space d k = fault_next text kept base k at start low high space place kind d.1 d.2 d.0
next_given ends.Open text kept base at start (Err faults.OutOfMemory) low high space d k = tt
next_given ends.Known text kept base at start (Ok (Some x)) low high space d k = row_known text kept base k at start low high space x.1 x.0 d
next_given ends.Known text kept base at start (Ok None) low high space d k = none_known text kept base k at start low high space d
next_given ends.Known text kept base at start (Err (faults.At place kind)) low high space d k = fault_known text kept base k at start low high space place kind (d.1, d.0, d.2)
next_given ends.Known text kept base at start (Err faults.OutOfMemory) low high space d k = tt

pub whole_fault : (text : List ℕ) (at : ℕ) (fault : RowFault) → at ≤ length text → (at ≡ length text → ⊥) → RowFailsBy (FirstFault (drop at text)) text fault → ReadsRow text at (Err fault)
whole_fault text at (faults.At place kind) le ne bad = (bad.0, omega (arith, le, ne), bad.1)
whole_fault text at faults.OutOfMemory le ne bad = tt
