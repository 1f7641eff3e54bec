-- One step through an unfinished row, by places.
use Rattle.std.proofs.Common.{◌≡◌, ◌↔◌, ℕ, ◌+◌, ◌<◌, ◌≤◌, Bool, true, false, cond, List, [], ◌∷◌, ◌++◌, length, drop, get_or, Option, Some, None, Result, Ok, Err, nat_eq, refl, sym, ap, subst, ◌∙◌, inl, ⊎_elim, append-nil, arith}
use Rattle.std.specs.Char.{is_ascii_alphabetic}
use Rattle.std.proofs.lemmas.Bool.{false≢true, cases_lt, eqb-true}
use Rattle.std.proofs.lemmas.Bool.Decides.{nat_tests}
use Rattle.std.proofs.lemmas.List.{drop-append-le, drop_more, drop_all}
use Rattle.rdf_terms.specs.Names.{begins_name}
use Rattle.nquads_text.specs.Faults.{begins_term}
use Rattle.nquads_text.specs.Fault.{TextFault}
use Rattle.nquads_text.specs.Reading.{char_at}
use Rattle.patch_rows.specs.declared.fault.RowKind.{RowKind}
use Rattle.patch_rows.specs.Fault.{Fault}
use Rattle.patch_rows.specs.Grammar.{row_limit, is_space}
use Rattle.patch_rows.specs.Reading.{space_behind, stands, word_at, code_named}
use Rattle.patch_rows.specs.Rows.{live_row}
use Rattle.patch_rows.specs.declared.codes.Code.{Code}
use Rattle.patch_reader.specs.declared.inside.Inside.{Inside}
use Rattle.patch_reader.specs.declared.inside.Inside.TheVariants as inside
use Rattle.patch_reader.specs.declared.progress.RowPart.{RowPart}
use Rattle.patch_reader.specs.declared.progress.RowPart.TheVariants as part
use Rattle.patch_reader.specs.declared.progress.Place.{Place}
use Rattle.patch_reader.specs.declared.progress.Place.TheVariants as place
use Rattle.patch_reader.specs.declared.progress.RowProgress.{RowProgress}
use Rattle.patch_reader.specs.declared.progress.Step.{Step}
use Rattle.patch_reader.specs.declared.progress.Step.TheVariants as step
use Rattle.patch_rows.specs.Cut.{AtEnd, is_cut, ends_row}
use Rattle.patch_reader.specs.Inside.{OpenInside, IsInsideWithin, IsFurther}
use Rattle.patch_reader.specs.Progress.{rest_from, part_at, part_behind, rest_behind, takes_term, takes_node, takes_word, first_part, parts_left, OpenAt, SameOpen, LeadsInside, HasFollowed, IsPlaceWithin, IsPartStep, IsFollowed, progress_at}
use Rattle.patch_reader.proofs.Begun.{letters_open, string_opens, iri_opens, label_opens, word_opens}
use Rattle.patch_rows.proofs.GapSteps.{char_longer}
use Rattle.nquads_text.proofs.Fronts.{char_at-ascii}
use Rattle.patch_reader.proofs.InsideSteps.{first_there, two_there}
use Rattle.patch_reader.proofs.RowParts.{part_over, part_fails, cut_rest, no_graph, row_over, word_fails, no_code}
use Rattle.patch_reader.proofs.RowStays.{cut_char, space_stays}

-- ---- where the text ends

-- bytes with which no character begins end white space and comments
stuck_there : (comment : Bool) (rest : List ℕ) (f : TextFault) → char_at rest ≡ Err f → space_behind comment 0 rest ≡ rest
unfolding space_behind
stuck_there comment [] f e = refl
stuck_there true (b ∷ rest) f e = rw e refl
stuck_there false (b ∷ rest) f e = by (is_space b) refl (nat_eq b 35) refl
  where
    low : (b < 128 → ⊥)
    low lt = let both = sym (char_at-ascii b rest lt) ∙ e in absurd cc

    by : (space : Bool) → is_space b ≡ space → (hash : Bool) → nat_eq b 35 ≡ hash → cond space (space_behind false 0 rest) (cond hash (space_behind true 0 rest) (b ∷ rest)) ≡ b ∷ rest
    by true is hash h = absurd (low (grind (arith, nat_tests, is)))
    by false is true h = absurd (low (grind (arith, nat_tests, h)))
    by false is false h = refl

pub gap_cut : (comment : Bool) (rest : List ℕ) → is_cut rest ≡ true → space_behind comment 0 rest ≡ rest
gap_cut comment rest cut = let c = cut_char rest cut in stuck_there comment rest (c.0, rest) c.1

-- whatever follows, where that isn't a cut
stuck_longer : (comment : Bool) (rest more : List ℕ) (f : TextFault) → char_at rest ≡ Err f → is_cut rest ≡ false → space_behind comment 0 (rest ++ more) ≡ rest ++ more
stuck_longer comment rest more f e whole =
    let here = stuck_there comment rest f e in
    ⊎_elim (λ cut. absurd (false≢true (sym whole ∙ ap is_cut (sym here) ∙ cut))) (λ same. same ∙ ap (λ (t : List ℕ). t ++ more) here) (space_stays more comment 0 rest)

-- ---- reading that meets the end alike

alike : {X : Type 0} {r s : Result X Fault} → r ≡ s → AtEnd r ↔ AtEnd s
alike e = (subst AtEnd e, subst AtEnd (sym e))

-- ---- parts

behind : (text more : List ℕ) (at : ℕ) → at ≤ length text → drop at text ++ more ≡ drop at (text ++ more)
behind text more at le = sym (drop-append-le at text more le)

module _ (text : List ℕ) (p : RowPart) (start : ℕ) (low : start ≤ length text) (g : p ≡ part.Graph → stands begins_term (drop start text) ≡ true) where
  over : (after : ℕ) (more : List ℕ) → after ≤ length text → part_at p (drop start text) ≡ Ok (drop after text) → rest_from p (drop start (text ++ more)) ≡ rest_behind (part_behind p) (drop after (text ++ more))
  over after more high e =
      ap (rest_from p) (sym (behind text more start low)) ∙ part_over p (drop start text) (drop after text) more g e ∙ ap (rest_behind (part_behind p)) (behind text more after high)

  pub part_leads : (next : RowPart) (after : ℕ) → after ≤ length text → part_behind p ≡ Some next → part_at p (drop start text) ≡ Ok (drop after text) → SameOpen text (place.Token p start) (place.Gap next after false)
  part_leads next after high n e = λ more. alike (over after more high e ∙ ap (λ (o : Option RowPart). rest_behind o (drop after (text ++ more))) n)

  pub part_done : (after : ℕ) → after ≤ length text → part_behind p ≡ None → part_at p (drop start text) ≡ Ok (drop after text) → OpenAt (place.Token p start) text → ⊥
  part_done after high n e o = subst AtEnd (over after [] high e ∙ ap (λ (o : Option RowPart). rest_behind o (drop after (text ++ []))) n) (subst (OpenAt (place.Token p start)) (sym (append-nil text)) o)

  pub part_met : (at : ℕ) (kind : RowKind) → part_at p (drop start text) ≡ Err (kind, drop at text) → OpenAt (place.Token p start) text ↔ (ends_row kind (drop at text) ≡ true)
  part_met at kind e = alike (part_fails p (drop start text) (kind, drop at text) g e)

pub next_left : (p next : RowPart) → part_behind p ≡ Some next → parts_left next < parts_left p
next_left p next e = grind (arith, e)

stands_here : (test : ℕ → Bool) (rest more : List ℕ) → (rest ≡ [] → ⊥) → stands test (rest ++ more) ≡ stands test rest
stands_here test [] more some = absurd (some refl)
stands_here test (b ∷ rest) more some = refl

some_there : (text : List ℕ) (at : ℕ) → at < length text → drop at text ≡ [] → ⊥
some_there text at lt none = let e = sym (drop_more text at 0 lt) ∙ none in absurd cc

pub graph_is_none : (text : List ℕ) (start : ℕ) → start < length text → stands begins_term (drop start text) ≡ false → SameOpen text (place.Token part.Graph start) (place.Token part.End start)
graph_is_none text start lt e = λ more.
    let none : stands begins_term (drop start (text ++ more)) ≡ false =
    ap (stands begins_term) (sym (behind text more start (omega (arith, lt)))) ∙ stands_here begins_term (drop start text) more (some_there text start lt) ∙ e in
    alike (no_graph (drop start (text ++ more)) none)

-- ---- what begins

pub letters_lead : (text more : List ℕ) → stands is_ascii_alphabetic text ≡ true → OpenInside (inside.Letters 1) (text ++ more) → OpenAt place.Row (text ++ more)
letters_lead [] more is o = absurd (false≢true is)
letters_lead (b ∷ rest) more is o = letters_open b (rest ++ more) is o

pub quote_leads : (text more : List ℕ) (p : RowPart) (start : ℕ) → takes_term p ≡ true → start < length text → get_or text start 0 ≡ 34 → OpenInside (inside.String (start + 1)) (text ++ more) → OpenAt (place.Token p start) (text ++ more)
quote_leads text more p start t lt is o = string_opens p (drop start (text ++ more)) (drop (start + 1) (text ++ more)) t (first_there text more start 34 lt is) o

pub bracket_leads : (text more : List ℕ) (p : RowPart) (start : ℕ) → takes_term p ≡ true → start < length text → get_or text start 0 ≡ 60 → OpenInside (inside.Iri (start + 1)) (text ++ more) → OpenAt (place.Token p start) (text ++ more)
bracket_leads text more p start t lt is o = iri_opens p (drop start (text ++ more)) (drop (start + 1) (text ++ more)) t (first_there text more start 60 lt is) o

pub word_leads : (text more : List ℕ) (p : RowPart) (start : ℕ) → takes_word p ≡ true → start < length text → is_ascii_alphabetic (get_or text start 0) ≡ true
    → OpenInside (inside.Word (start + 1)) (text ++ more) → OpenAt (place.Token p start) (text ++ more)
word_leads text more p start t lt letter o =
    subst (λ (r : List ℕ). AtEnd (rest_from p r)) (sym (first_there text more start (get_or text start 0) lt refl)) (word_opens p (get_or text start 0) (drop (start + 1) (text ++ more)) t letter o)

pub label_leads : (text more : List ℕ) (p : RowPart) (start next c : ℕ) → takes_node p ≡ true → start + 1 < length text → get_or text start 0 ≡ 95 → stands (λ b. nat_eq b 58) (drop (start + 1) text) ≡ true
    → next ≤ length text → char_at (drop (start + 2) text) ≡ Ok (c, drop next text) → begins_name c ≡ true
    → OpenInside (inside.Label next) (text ++ more) → OpenAt (place.Token p start) (text ++ more)
label_leads text more p start next c t lt line is high e begins o =
    let colon : get_or text (start + 1) 0 ≡ 58 = eqb-true (get_or text (start + 1) 0) 58 (ap (stands (λ (b : ℕ). nat_eq b 58)) (sym (drop_more text (start + 1) 0 lt)) ∙ is) in
    subst (λ (r : List ℕ). AtEnd (rest_from p r)) (sym (two_there text more start 95 58 lt line colon))
    (label_opens p (drop (start + 2) (text ++ more)) c (drop next (text ++ more)) t (char_longer text more (start + 2) next c (omega (arith, lt)) high e) begins o)

-- ---- what is known inside

-- what is open there is from the place, or as it was known
pub enters : (text : List ℕ) (old : RowProgress) (begun new : Inside) → LeadsInside text old begun → IsFurther text begun new → IsInsideWithin (length text) new → OpenInside new text → IsPartStep text old (step.Enters new)
enters text old begun new leads further within open_there = ((λ more o. leads more (further more o)), within, open_there)

-- what leads from the place leads from it with what is known inside
pub from_place : (text : List ℕ) (old : Place) (known : Inside) (s : Step) → IsPartStep text (progress_at old) s → IsPartStep text (record { place = old; inside = known }) s
from_place text old known (step.Goes new) is = is
from_place text old known (step.Open new) is = is
from_place text old known (step.Enters new) is = ((λ more o. ⊎_elim (λ a. inl a) (λ b. absurd b) (is.0 more o)), is.1, is.2)
from_place text old known step.Decided is = is
from_place text old known step.OutOfMemory is = tt

-- ---- a row's code

pub code_leads : (text letters : List ℕ) (after : ℕ) (c : Code) → after ≤ length text → word_at text ≡ Ok (letters, drop after text) → code_named letters ≡ Some c → SameOpen text place.Row (place.Gap (first_part c) after false)
code_leads text letters after c high e named = λ more.
    subst (λ (t : List ℕ). AtEnd (live_row (text ++ more)) ↔ AtEnd (rest_behind (Some (first_part c)) t)) (behind text more after high) (row_over text more letters (drop after text) c e named)

pub first_left : (c : Code) → parts_left (first_part c) ≤ 5
first_left c = grind arith

pub word_met : (text : List ℕ) (at : ℕ) (kind : RowKind) → word_at text ≡ Err (kind, drop at text) → OpenAt place.Row text ↔ (ends_row kind (drop at text) ≡ true)
word_met text at kind e = alike (word_fails text (kind, drop at text) e)

pub code_is_none : (text letters : List ℕ) (after : ℕ) → word_at text ≡ Ok (letters, drop after text) → code_named letters ≡ None → OpenAt place.Row text → ⊥
unfolding ends_row
code_is_none text letters after e named o = false≢true (subst AtEnd (no_code text letters (drop after text) e named) o)

-- ---- white space and comments

pub gap_ends : (text : List ℕ) (p : RowPart) (at : ℕ) (comment : Bool) → is_cut (drop at text) ≡ true → OpenAt (place.Gap p at comment) text
gap_ends text p at comment cut = subst (λ (t : List ℕ). AtEnd (rest_from p t)) (sym (gap_cut comment (drop at text) cut)) (cut_rest p (drop at text) cut)

pub gap_leads : (text : List ℕ) (p : RowPart) (from at : ℕ) (comment now : Bool) → ((more : List ℕ) → space_behind comment 0 (drop from (text ++ more)) ≡ space_behind now 0 (drop at (text ++ more)))
    → SameOpen text (place.Gap p from comment) (place.Gap p at now)
gap_leads text p from at comment now same = λ more. alike (ap (rest_from p) (same more))

-- behind them something else stands, and it isn't cut
module _ (text : List ℕ) (at : ℕ) (comment : Bool) (le : at ≤ length text) (stuck : comment ≡ true → (f : TextFault) × (char_at (drop at text) ≡ Err f))
    (stops : comment ≡ false → at < length text → (more : List ℕ) → space_behind false 0 (drop at (text ++ more)) ≡ drop at (text ++ more)) (whole : is_cut (drop at text) ≡ false) where
  pub some_here : at < length text
  some_here = ⊎_elim (λ lt. lt) (λ none. absurd (false≢true (sym whole ∙ ap is_cut (drop_all at text none)))) (cases_lt at (length text))

  pub gap_over : (inside : Bool) → (inside ≡ true → comment ≡ true) → (more : List ℕ) → space_behind inside 0 (drop at (text ++ more)) ≡ drop at (text ++ more)
  gap_over inside only more = by comment refl inside only
    where
      by : (c : Bool) → comment ≡ c → (i : Bool) → (i ≡ true → comment ≡ true) → space_behind i 0 (drop at (text ++ more)) ≡ drop at (text ++ more)
      by true is i only = subst (λ (t : List ℕ). space_behind i 0 t ≡ t) (behind text more at le) (stuck_longer i (drop at text) more (stuck is).0 (stuck is).1 whole)
      by false is true only = absurd (false≢true (sym is ∙ only refl))
      by false is false only = stops is some_here more

pub gap_passed : (text : List ℕ) (p : RowPart) (from at : ℕ) (comment now : Bool) → ((more : List ℕ) → space_behind comment 0 (drop from (text ++ more)) ≡ space_behind now 0 (drop at (text ++ more)))
    → ((more : List ℕ) → space_behind now 0 (drop at (text ++ more)) ≡ drop at (text ++ more)) → SameOpen text (place.Gap p from comment) (place.Token p at)
gap_passed text p from at comment now same over = λ more. alike (ap (rest_from p) (same more ∙ over more))

-- ---- the row is unfinished

-- what is known of every longer text is known now
now : (text : List ℕ) (P Q : List ℕ → Type 0) → ((more : List ℕ) → P (text ++ more) → Q (text ++ more)) → P text → Q text
now text P Q leads there = subst Q (append-nil text) (leads [] (subst P (sym (append-nil text)) there))

module _ (text : List ℕ) (first old : RowProgress) (so_far : HasFollowed text first → HasFollowed text old) where
  pub goes_on : (new : Place) → SameOpen text old.place new → HasFollowed text first → HasFollowed text (progress_at new)
  goes_on new same f = let here = so_far f in ((λ more. ((λ o. (same more).0 ((here.0 more).0 o)), (λ o. (here.0 more).1 ((same more).1 o)))), λ more o. absurd o)

  pub followed_open : (new : Place) → length text ≤ row_limit → IsPartStep text old (step.Open new) → IsFollowed text first (Some (progress_at new))
  followed_open new short is = (
    (is.1, omega arith),
    λ f. let there = goes_on new is.0 f in (there, (short, now text (OpenAt new) (OpenAt place.Row) (λ more. (there.0 more).1) is.2)),
  )

  pub followed_inside : (new : Inside) → length text ≤ row_limit → IsPlaceWithin (length text) old.place → IsPartStep text old (step.Enters new) → IsFollowed text first (Some (record { place = old.place; inside = new }))
  followed_inside new short within is = (
    (within, is.1),
    λ f.
        let here = so_far f in
        let leads : (more : List ℕ) → OpenInside new (text ++ more) → OpenAt place.Row (text ++ more) = λ more o. ⊎_elim (λ a. (here.0 more).1 a) (λ b. here.1 more b) (is.0 more o) in
        ((here.0, leads), (short, now text (OpenInside new) (OpenAt place.Row) leads is.2)),
  )

  pub followed_none : IsPartStep text old step.Decided → IsFollowed text first None
  followed_none is f unfinished = is (now text (OpenAt place.Row) (OpenAt old.place) (λ more. ((so_far f).0 more).0) unfinished.1)
