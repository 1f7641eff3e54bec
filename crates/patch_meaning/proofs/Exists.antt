-- Every text is a patch or has a first fault, and every text is a stream or has one.
use Rattle.std.proofs.Common.{◌≡◌, ℕ, zero, suc, ◌+◌, ◌<◌, ◌≤◌, Bool, true, false, List, [], ◌∷◌, ◌++◌, length, drop, Option, Some, None, refl, sym, ap, subst, ◌∙◌, ◌⊎◌, inl, inr, arith}
use Rattle.std.proofs.lemmas.Bool.{cases_lt}
use Rattle.std.proofs.lemmas.List.{length-drop}
use Rattle.patch_rows.specs.declared.fault.RowKind.{RowKind}
use Rattle.patch_rows.specs.declared.row.Row.{Row}
use Rattle.patch_rows.specs.Fault.{Fault}
use Rattle.patch_rows.specs.Faults.{FirstFault}
use Rattle.patch_rows.specs.Grammar.{ShortRowAt, IsRowAt}
use Rattle.patch_rows.proofs.Shorter.{row_shorter}
use Rattle.patch_reader.specs.declared.placed.PlacedRow.{PlacedRow}
use Rattle.patch_reader.specs.Rows.{Gap, RowsUpTo, NoRowAt}
use Rattle.patch_reader.proofs.RowAnswers.{settled}
use Rattle.patch_meaning.specs.declared.fault.PatchFault.{PatchFault}
use Rattle.patch_meaning.specs.declared.fault.PatchKind.{PatchKind}
use Rattle.patch_meaning.specs.declared.fault.PatchKind.TheVariants as kinds
use Rattle.patch_meaning.specs.PartRead.{LacksEnd}
use Rattle.log_base.specs.declared.limits.TheConstants.{PATCH_LIMIT}
use Rattle.patch_meaning.specs.Patch.{Meaning, IsWell, IsPatch, IsPatchFault, AreTaken, refusal, has_some}
use Rattle.patch_meaning.specs.Patch as patch
use Rattle.patch_meaning.specs.Roles.{role, said}
use Rattle.patch_meaning.specs.Stream.{Cut, ArePatches, IsStream, IsStreamFault, begins, cut}
use Rattle.patch_meaning.specs.Stream as stream
use Rattle.patch_meaning.proofs.Cuts.{begun, longer, cut_begun, cut_longer, not_empty, patches_more, refused_with, stream_by}
use Rattle.patch_meaning.proofs.Drafts.{taken_with, ends, part_settled}
use Rattle.patch_rows.proofs.FaultPlaces.{first_end}
use Rattle.patch_meaning.proofs.Read.{lacks_text}
use Rattle.patch_meaning.proofs.Rowed.{gap_there, rows_more}
use Rattle.patch_meaning.proofs.StreamFaults.{refused_fault, no_row_fault, end_fault}
use Rattle.patch_rows.proofs.Slices.{end_place, row_end}

-- ---- the next row

-- what stands at a place: nothing more, a row, or no row
pub data There (text : List ℕ) (at : ℕ) : Type 0 where
  over : at ≡ length text → There text at
  row_ : (r : Row) (end : ℕ) → IsRowAt text at r end → at < end → end ≤ length text → There text at
  no_row : (kind : RowKind) (place : ℕ) → NoRowAt text at kind place → There text at

make_row : (text : List ℕ) (at : ℕ) (r : Row) (end : ℕ) → ShortRowAt (drop at text) r (drop end text) → at < end → end ≤ length text → IsRowAt text at r end
unfolding IsRowAt
make_row text at r end short low high = (short, low, high)

stands_there : (text : List ℕ) (at : ℕ) → at < length text → There text at
stands_there text at lt = by (settled (drop at text))
  where
    by : ((r : Row) × (after : List ℕ) × ShortRowAt (drop at text) r after) ⊎ ((f : Fault) × FirstFault (drop at text) f) → There text at
    by (inl s) =
        let p = end_place text at s.1 (omega (arith, lt)) (row_end (drop at text) s.0 s.1 s.2.0) in
        let less = row_shorter (drop at text) s.0 s.1 s.2.0 in
        let further : at < p.0 = omega (arith, less, ap length p.1, length-drop at text, length-drop p.0 text, lt, p.3) in
        row_ s.0 p.0 (make_row text at s.0 p.0 (subst (ShortRowAt (drop at text) s.0) (sym p.1) s.2) further p.3) further p.3
    by (inr f) =
        let p = end_place text at f.0.1 (omega (arith, lt)) (first_end (drop at text) f.0 f.1) in
        no_row f.0.0 p.0 (lt, subst (λ (t : List ℕ). FirstFault (drop at text) (f.0.0, t)) (sym p.1) f.1, p.3)

found : (text : List ℕ) (at : ℕ) → at ≤ length text → There text at
found text at le = by (cases_lt at (length text))
  where
    by : (at < length text) ⊎ (length text ≤ at) → There text at
    by (inl lt) = stands_there text at lt
    by (inr ge) = over (omega (arith, le, ge))

pub next_there : (text : List ℕ) (at : ℕ) → at ≤ length text → (to : ℕ) × Gap text at to × There text to
next_there text at within = let gap = gap_there text at within in (gap.0, gap.1, found text gap.0 gap.1.2)

-- ---- patches

abbrev pub PatchOr : List ℕ → Type 0
PatchOr text = ((m : Meaning) × IsPatch text m) ⊎ ((fault : PatchFault) × IsPatchFault text fault)

-- the rows up to a place may stand
abbrev HasRead : List ℕ → ℕ → List PlacedRow → Type 0
HasRead text at rs = RowsUpTo text 0 rs at × AreTaken (said rs)

abbrev placed : Row → ℕ → ℕ → PlacedRow
placed r at end = record { row = r; at = at; end = end }

module _ (text : List ℕ) (short : length text ≤ PATCH_LIMIT) where
  ended : (at to : ℕ) (rs : List PlacedRow) → HasRead text at rs → Gap text at to → to ≡ length text → PatchOr text
  ended at to rs h gap last = by (ends (said rs) to h.1)
    where
      by : ((m : Meaning) × IsWell (said rs) m) ⊎ ((fault : PatchFault) × LacksEnd (said rs) to fault) → PatchOr text
      by (inl m) = inl (m.0, record { short = short; rows_ = rs; reads = (at, h.0, subst (Gap text at) last gap); well = m.1 })
      by (inr lacks) = inr (lacks.0, lacks_text text rs to lacks.0 short (at, h.0, gap) last lacks.1)

  -- the next row, if the rest of the text is settled behind it
  step : (at : ℕ) (rs : List PlacedRow) → at ≤ length text → HasRead text at rs
      → ((r : PlacedRow) → HasRead text r.end (rs ++ r ∷ []) → at < r.end → r.end ≤ length text → PatchOr text) → PatchOr text
  step at rs within h further = by (next_there text at within)
    where
      by : (to : ℕ) × Gap text at to × There text to → PatchOr text
      by (to, gap, over last) = ended at to rs h gap last
      by (to, gap, no_row kind place none) = inr (_, patch.rows_ rs to short (at, h.0, gap) h.1 (patch.no_row place kind none refl))
      by (to, gap, row_ r end is low high) = may (refusal (said rs) (role r)) refl
        where
          may : (o : Option PatchKind) → refusal (said rs) (role r) ≡ o → PatchOr text
          may (Some why) refuses = inr (_, patch.rows_ rs to short (at, h.0, gap) h.1 (patch.refused r end why is refuses refl))
          may None free =
              let order = gap.1 in
              further (placed r to end) (rows_more text 0 at rs (placed r to end) h.0 gap is, taken_with rs (placed r to end) h.1 free) (omega (arith, order, low)) high

  walk : (fuel at : ℕ) (rs : List PlacedRow) → at ≤ length text → length text ≤ at + fuel → HasRead text at rs → PatchOr text
  walk zero at rs within enough h = step at rs within h (λ r more low high. absurd (omega (arith, low, high, enough)))
  walk (suc fuel) at rs within enough h = step at rs within h (λ r more low high. walk fuel r.end (rs ++ r ∷ []) high (omega (arith, low, enough)) more)

pub patch_or : (text : List ℕ) → PatchOr text
patch_or text = by (cases_lt PATCH_LIMIT (length text))
  where
    by : (PATCH_LIMIT < length text) ⊎ (length text ≤ PATCH_LIMIT) → PatchOr text
    by (inl long) = inr (_, patch.too_long long refl)
    by (inr short) = walk text short (length text) 0 [] (omega arith) (omega arith) (refl, tt)

-- ---- streams

not_both : (r : PlacedRow) (rs : List PlacedRow) → r ∷ rs ≡ [] → ⊥
not_both r rs e = cc

abbrev pub StreamOr : List ℕ → Type 0
StreamOr text = ((ms : List Meaning) × IsStream text ms) ⊎ ((fault : PatchFault) × IsStreamFault text fault)

-- the rows up to a place were cut, all patches but the last are complete, and its rows may stand
abbrev HasCutUp : List ℕ → ℕ → List PlacedRow → List Meaning → Type 0
HasCutUp text at rs ms = RowsUpTo text 0 rs at × ArePatches (cut rs).done (cut rs).last.from ms × AreTaken (said (cut rs).last.rows_) × ((cut rs).last.rows_ ≡ [] → rs ≡ [])

module _ (text : List ℕ) where
  empty : (at : ℕ) (rs : List PlacedRow) (ms : List Meaning) → RowsUpTo text 0 rs at → Gap text at (length text) → rs ≡ [] → StreamOr text
  empty at [] ms up gap none = inl ([], record { rows_ = []; reads = (at, up, gap); stream = refl })
  empty at (r ∷ rs) ms up gap none = absurd cc

  stream_ended : (at to : ℕ) (rs : List PlacedRow) (ms : List Meaning) → HasCutUp text at rs ms → Gap text at to → to ≡ length text → StreamOr text
  stream_ended at to rs ms h gap last = by (cut rs).last.rows_ refl
    where
      whole : has_some (cut rs).last.rows_ ≡ true → ((cut rs).last.rows_ ≡ [] → ⊥)
          → ((m : Meaning) × IsWell (said (cut rs).last.rows_) m × (to ≤ (cut rs).last.from + PATCH_LIMIT)) ⊎ ((fault : PatchFault) × stream.IsEndFault (cut rs).last to fault) → StreamOr text
      whole some not_none (inl m) = inl (
        ms ++ m.0 ∷ [],
        record {
          rows_ = rs;
          reads = (at, h.0, subst (Gap text at) last gap);
          stream = stream_by rs (length text) (ms ++ m.0 ∷ []) some (subst (λ (n : ℕ). ArePatches ((cut rs).done ++ (cut rs).last ∷ []) n (ms ++ m.0 ∷ [])) last (patches_more (cut rs).done (cut rs).last ms m.0 to h.1 m.1 m.2));
        },
      )
      whole some not_none (inr fault) = inr (fault.0, end_fault text rs to ms fault.0 (at, h.0, gap) h.1 (stream.over last not_none) (h.2, fault.1))

      by : (l : List PlacedRow) → (cut rs).last.rows_ ≡ l → StreamOr text
      by [] none = empty at rs ms h.0 (subst (Gap text at) last gap) (h.3 none)
      by (r ∷ l) is = whole (ap has_some is) (λ none. not_both r l (sym is ∙ none)) (part_settled (cut rs).last to h.2)

  -- one more row of the last patch of a cut, where it may stand or not
  one_more : (at : ℕ) (rs : List PlacedRow) (ms : List Meaning) (r : PlacedRow) (c : Cut) (front : List PlacedRow) → RowsUpTo text 0 (rs ++ r ∷ []) r.end → r.end ≤ length text → cut (rs ++ r ∷ []) ≡ c
      → ArePatches c.done c.last.from ms → c.last.rows_ ≡ front ++ r ∷ [] → AreTaken (said front) → ((ns : List Meaning) → HasCutUp text r.end (rs ++ r ∷ []) ns → StreamOr text) → StreamOr text
  one_more at rs ms r c front up high e before parts taken further = by (refusal (said front) (role r.row)) refl
    where
      by : (o : Option PatchKind) → refusal (said front) (role r.row) ≡ o → StreamOr text
      by (Some kind) refuses =
          let why = refused_with rs r c ms front kind (stream.within c.last.from r.at kind) e before parts taken refuses refl in
          inr (stream.within c.last.from r.at kind, refused_fault text (rs ++ r ∷ []) r.end (stream.within c.last.from r.at kind) up high why)
      by None free =
          further ms (
            up,
            subst (λ (k : Cut). ArePatches k.done k.last.from ms) (sym e) before,
            subst (λ (l : List PlacedRow). AreTaken (said l)) (sym (ap (λ (k : Cut). k.last.rows_) e ∙ parts)) (taken_with front r taken free),
            λ none. absurd (not_empty front r (sym (ap (λ (k : Cut). k.last.rows_) e ∙ parts) ∙ none)),
          )

  with_row : (at : ℕ) (rs : List PlacedRow) (ms : List Meaning) (r : PlacedRow) → HasCutUp text at rs ms → Gap text at r.at → IsRowAt text r.at r.row r.end → r.end ≤ length text → (b : Bool)
      → begins (said (cut rs).last.rows_) (role r.row) ≡ b → ((ns : List Meaning) → HasCutUp text r.end (rs ++ r ∷ []) ns → StreamOr text) → StreamOr text
  with_row at rs ms r h gap is high false same further =
      one_more at rs ms r (longer (cut rs) r) (cut rs).last.rows_ (rows_more text 0 at rs r h.0 gap is) high (cut_longer rs r same) h.1 refl h.2 further
  with_row at rs ms r h gap is high true first further = by (part_settled (cut rs).last r.at h.2)
    where
      by : ((m : Meaning) × IsWell (said (cut rs).last.rows_) m × (r.at ≤ (cut rs).last.from + PATCH_LIMIT)) ⊎ ((fault : PatchFault) × stream.IsEndFault (cut rs).last r.at fault) → StreamOr text
      by (inr fault) = inr (fault.0, end_fault text rs r.at ms fault.0 (at, h.0, gap) h.1 (stream.next r.row r.end is first) (h.2, fault.1))
      by (inl m) =
          one_more at rs (ms ++ m.0 ∷ []) r (begun (cut rs) r) [] (rows_more text 0 at rs r h.0 gap is) high (cut_begun rs r first) (patches_more (cut rs).done (cut rs).last ms m.0 r.at h.1 m.1 m.2) refl tt further

  stream_step : (at : ℕ) (rs : List PlacedRow) (ms : List Meaning) → at ≤ length text → HasCutUp text at rs ms
      → ((r : PlacedRow) (ns : List Meaning) → HasCutUp text r.end (rs ++ r ∷ []) ns → at < r.end → r.end ≤ length text → StreamOr text) → StreamOr text
  stream_step at rs ms within h further = by (next_there text at within)
    where
      by : (to : ℕ) × Gap text at to × There text to → StreamOr text
      by (to, gap, over last) = stream_ended at to rs ms h gap last
      by (to, gap, no_row kind place none) = inr (_, no_row_fault text rs to ms place kind (stream.within (cut rs).last.from place (kinds.Row kind)) (at, h.0, gap) h.1 none (h.2, refl))
      by (to, gap, row_ r end is low high) =
          let order = gap.1 in
          with_row at rs ms (placed r to end) h gap is high (begins (said (cut rs).last.rows_) (role r)) refl (λ ns more. further (placed r to end) ns more (omega (arith, order, low)) high)

  stream_walk : (fuel at : ℕ) (rs : List PlacedRow) (ms : List Meaning) → at ≤ length text → length text ≤ at + fuel → HasCutUp text at rs ms → StreamOr text
  stream_walk zero at rs ms within enough h = stream_step at rs ms within h (λ r ns more low high. absurd (omega (arith, low, high, enough)))
  stream_walk (suc fuel) at rs ms within enough h = stream_step at rs ms within h (λ r ns more low high. stream_walk fuel r.end (rs ++ r ∷ []) ns high (omega (arith, low, enough)) more)

pub stream_or : (text : List ℕ) → StreamOr text
stream_or text = stream_walk text (length text) 0 [] [] (omega arith) (omega arith) (refl, tt, tt, λ none. refl)
