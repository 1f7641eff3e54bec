-- Steps within a token whose text may go on.
use Rattle.std.proofs.Common.{◌≡◌, ℕ, suc, ◌+◌, ◌-◌, ◌<◌, ◌≤◌, Bool, true, false, cond, List, [], ◌∷◌, ◌++◌, length, drop, get_or, Option, Some, None, Ok, Err, nat_eq, ◌&&◌, ◌⊎◌, inl, inr, refl, sym, ap, subst, ◌∙◌, arith}
use Rattle.std.specs.Char.{encode_utf8, to_ascii_lowercase}
use Rattle.std.specs.List.{list_all, prefix_len}
use Rattle.std.proofs.lemmas.Bool.{false≢true, eqb-true, eq-eqb, and_parts}
use Rattle.std.proofs.lemmas.Bool.Decides.{nat_tests}
use Rattle.std.proofs.lemmas.List.{length-append, drop-append-le, drop-drop, drop_more, drop_all, get_or_append_left}
use Rattle.rdf_terms.specs.Names.{is_name_char}
use Rattle.nquads_text.specs.declared.fault.TextKind.{TextKind}
use Rattle.nquads_text.specs.Fault.{TextRead, ◌>>=◌}
use Rattle.nquads_text.specs.Grammar.{is_blank}
use Rattle.nquads_text.specs.Reading.{char_at, iri_body_at, string_body_at, iri_piece, string_piece, with_front, pieces_at}
use Rattle.nquads_text.specs.Terms.{name_len, is_tag_byte, tag_at, skip_blanks, typed_at, datatype_at, iri_at, iri_needed}
use Rattle.nquads_text.proofs.Fronts.{char_at-ascii}
use Rattle.nquads_text.proofs.NameRuns.{name_more, name_dots, name-none}
use Rattle.nquads_text.proofs.Plain.{with_nothing, string_piece-nil, iri_piece-nil}
use Rattle.nquads_text.proofs.Runs.{more as piece_more, last as piece_last, pieces-fault}
use Rattle.patch_rows.specs.declared.fault.RowKind.TheVariants.{Common}
use Rattle.patch_reader.specs.declared.inside.Inside.TheVariants as inside
use Rattle.patch_rows.specs.Cut.{leads, is_front, is_cut, ends_text, ends_row, TextAtEnd, label_open, begins_name_char}
use Rattle.patch_reader.specs.Inside.{IsLabelOpen, AreBlanksOpen, IsTagOpen, IsStringOpen, OpenInside}
use Rattle.patch_rows.proofs.GapSteps.{char_longer}
use Rattle.patch_reader.proofs.RowStays.{cut_char}
use Rattle.patch_reader.proofs.Stays.{Stays, string_piece_stays, iri_piece_stays}
use Rattle.patch_reader.proofs.TokenStays.{dot_front}

-- ---- bytes of a text that goes on

pub first_there : (text more : List ℕ) (at b : ℕ) → at < length text → get_or text at 0 ≡ b → drop at (text ++ more) ≡ b ∷ drop (at + 1) (text ++ more)
first_there text more at b lt is =
    drop_more (text ++ more) at 0 (omega (arith, lt, length-append text more)) ∙ ap (λ (c : ℕ). c ∷ drop (at + 1) (text ++ more)) (get_or_append_left text more 0 at lt ∙ is)

pub two_there : (text more : List ℕ) (at b c : ℕ) → at + 1 < length text → get_or text at 0 ≡ b → get_or text (at + 1) 0 ≡ c → drop at (text ++ more) ≡ b ∷ c ∷ drop (at + 2) (text ++ more)
two_there text more at b c lt first second =
    let sum : at + 1 + 1 ≡ at + 2 = omega arith in
    first_there text more at b (omega (arith, lt)) first
    ∙ ap (λ (t : List ℕ). b ∷ t) (first_there text more (at + 1) c lt second ∙ ap (λ (k : ℕ). c ∷ drop k (text ++ more)) sum)

nothing_there : (text : List ℕ) (at : ℕ) → at ≡ length text → drop at text ≡ []
nothing_there text at e = drop_all at text (omega (arith, e))

-- ---- words

run_behind : (test : ℕ → Bool) (xs more : List ℕ) → list_all test (drop (prefix_len test xs) xs ++ more) ≡ true → list_all test (xs ++ more) ≡ true
run_behind test [] more all = all
run_behind test (b ∷ xs) more all = by (test b) refl (run_behind test xs more) all
  where
    one_more : (n : ℕ) → 1 + n ≡ suc n
    one_more n = omega arith

    by : (fits : Bool) → test b ≡ fits → (list_all test (drop (prefix_len test xs) xs ++ more) ≡ true → list_all test (xs ++ more) ≡ true)
        → list_all test (drop (cond fits (1 + prefix_len test xs) 0) (b ∷ xs) ++ more) ≡ true → (fits && list_all test (xs ++ more)) ≡ true
    by true e others all = others (subst (λ (n : ℕ). list_all test (drop n (b ∷ xs) ++ more) ≡ true) (one_more (prefix_len test xs)) all)
    by false e others all = absurd (false≢true (subst (λ (t : Bool). (t && list_all test (xs ++ more)) ≡ true) e all))

pub run_over : (test : ℕ → Bool) (text more : List ℕ) (from end : ℕ) → from ≤ length text → end ≤ length text → end ≡ from + prefix_len test (drop from text)
    → list_all test (drop end (text ++ more)) ≡ true → list_all test (drop from (text ++ more)) ≡ true
run_over test text more from end low high e all =
    let n = prefix_len test (drop from text) in
    let there : drop end (text ++ more) ≡ drop n (drop from text) ++ more =
    drop-append-le end text more high ∙ ap (λ (t : List ℕ). t ++ more) (ap (λ (k : ℕ). drop k text) e ∙ sym (drop-drop n from text)) in
    ap (list_all test) (drop-append-le from text more low) ∙ run_behind test (drop from text) more (ap (list_all test) (sym there) ∙ all)

-- ---- labels

label_char : (text : List ℕ) (at next c : ℕ) → at < next → next ≤ length text → char_at (drop at text) ≡ Ok (c, drop next text) → is_name_char c ≡ true → IsLabelOpen (drop next text) → IsLabelOpen (drop at text)
label_char text at next c lt le e named o =
    let n = name_len 0 (drop next text) in
    let sum : at + (next - at + n) ≡ next + n = omega (arith, lt) in
    let same : drop (name_len 0 (drop at text)) (drop at text) ≡ drop n (drop next text) =
    ap (λ (k : ℕ). drop k (drop at text)) (name_more text at next c lt le e named) ∙ drop-drop (next - at + n) at text ∙ ap (λ (k : ℕ). drop k text) sum ∙ sym (drop-drop n next text) in
    ap label_open same ∙ o

dot_there : (text : List ℕ) (at next c : ℕ) → at < length text → char_at (drop at text) ≡ Ok (c, drop next text) → nat_eq c 46 ≡ true → drop at text ≡ 46 ∷ drop next text
dot_there text at next c lt e dot =
    let here = drop_more text at 0 lt in
    let d = dot_front (get_or text at 0) (drop (at + 1) text) c (drop next text) (ap char_at (sym here) ∙ e) dot in
    here ∙ ap (λ (b : ℕ). b ∷ drop (at + 1) text) d.0 ∙ ap (λ (t : List ℕ). 46 ∷ t) d.1

label_dot : (text : List ℕ) (at next c : ℕ) → at < next → next ≤ length text → char_at (drop at text) ≡ Ok (c, drop next text) → nat_eq c 46 ≡ true → IsLabelOpen (drop next text) → IsLabelOpen (drop at text)
unfolding label_open
label_dot text at next c lt le e dot o = by (nat_eq n 0) refl
  where
    n : ℕ
    n = name_len 0 (drop next text)

    dots : name_len 0 (drop at text) ≡ cond (nat_eq n 0) 0 (next - at + n)
    dots = name_dots text at next c lt le e dot

    by : (none : Bool) → nat_eq n 0 ≡ none → IsLabelOpen (drop at text)
    by true z =
        let is : name_len 0 (drop at text) ≡ 0 = dots ∙ ap (λ (t : Bool). cond t 0 (next - at + n)) z in
        let here = dot_there text at next c (omega (arith, lt, le)) e dot in
        let same : drop (name_len 0 (drop at text)) (drop at text) ≡ 46 ∷ drop next text = ap (λ (k : ℕ). drop k (drop at text)) is ∙ here in
        let behind : drop n (drop next text) ≡ drop next text = ap (λ (k : ℕ). drop k (drop next text)) (eqb-true n 0 z) in
        ap label_open same ∙ ap label_open (sym behind) ∙ o
    by false z =
        let is : name_len 0 (drop at text) ≡ next - at + n = dots ∙ ap (λ (t : Bool). cond t 0 (next - at + n)) z in
        let sum : at + (next - at + n) ≡ next + n = omega (arith, lt) in
        let same : drop (name_len 0 (drop at text)) (drop at text) ≡ drop n (drop next text) =
        ap (λ (k : ℕ). drop k (drop at text)) is ∙ drop-drop (next - at + n) at text ∙ ap (λ (k : ℕ). drop k text) sum ∙ sym (drop-drop n next text) in
        ap label_open same ∙ o

pub label_over : (text more : List ℕ) (at next c : ℕ) → at < next → next ≤ length text → char_at (drop at text) ≡ Ok (c, drop next text) → (c ≡ 46) ⊎ (is_name_char c ≡ true)
    → OpenInside (inside.Label next) (text ++ more) → OpenInside (inside.Label at) (text ++ more)
label_over text more at next c lt le e (inl dot) o =
    label_dot (text ++ more) at next c lt (omega (arith, le, length-append text more)) (char_longer text more at next c (omega (arith, lt, le)) le e) (eq-eqb c 46 dot) o
label_over text more at next c lt le e (inr named) o =
    label_char (text ++ more) at next c lt (omega (arith, le, length-append text more)) (char_longer text more at next c (omega (arith, lt, le)) le e) named o

pub label_ends : (text : List ℕ) (at : ℕ) → at ≡ length text → OpenInside (inside.Label at) text
unfolding label_open name_len
label_ends text at e = let none = nothing_there text at e in subst IsLabelOpen (sym none) refl

pub label_cut : (rest : List ℕ) → begins_name_char rest ≡ true → IsLabelOpen rest
unfolding label_open
label_cut [] e = absurd (false≢true e)
label_cut (b ∷ bs) e =
    let front = (and_parts (is_front (b ∷ bs)) _ e).0 in
    let led = (and_parts (leads b) _ front).0 in
    let dot : nat_eq b 46 ≡ false = grind (arith, nat_tests, led) in
    let cut = cut_char (b ∷ bs) front in
    let none : name_len 0 (b ∷ bs) ≡ 0 = name-none (b ∷ bs) (cut.0, b ∷ bs) cut.1 in
    let whole : label_open (b ∷ bs) ≡ true = rw dot e in
    ap (λ (k : ℕ). label_open (drop k (b ∷ bs))) none ∙ whole

-- ---- strings and IRIREFs

module _ (piece : List ℕ → TextRead (Option ℕ)) (stays : (more rest : List ℕ) → Stays more (piece rest) (piece (rest ++ more))) where
  piece_longer : (text more : List ℕ) (at next : ℕ) (o : Option ℕ) → at ≤ length text → next ≤ length text → piece (drop at text) ≡ Ok (o, drop next text) → piece (drop at (text ++ more)) ≡ Ok (o, drop next (text ++ more))
  piece_longer text more at next o low high e =
      ap piece (drop-append-le at text more low) ∙ by (subst (λ (r : TextRead (Option ℕ)). Stays more r (piece (drop at text ++ more))) e (stays more (drop at text)))
    where
      by : Stays more (Ok (o, drop next text)) (piece (drop at text ++ more)) → piece (drop at text ++ more) ≡ Ok (o, drop next (text ++ more))
      by (inl h) = absurd h
      by (inr h) = h ∙ ap (λ (t : List ℕ). Ok (o, t)) (sym (drop-append-le next text more high))

  more_there : (text more : List ℕ) (at next c : ℕ) → at < next → next ≤ length text → piece (drop at text) ≡ Ok (Some c, drop next text)
      → with_front (encode_utf8 c) (pieces_at piece 0 (drop next (text ++ more))) ≡ pieces_at piece 0 (drop at (text ++ more))
  more_there text more at next c lt le e =
      piece_more piece (text ++ more) [] at next c (pieces_at piece 0 (drop at (text ++ more))) lt (omega (arith, le, length-append text more))
      (piece_longer text more at next (Some c) (omega (arith, lt, le)) le e) (sym (with_nothing (pieces_at piece 0 (drop at (text ++ more)))))

  last_there : (text more : List ℕ) (at next : ℕ) → at < next → next ≤ length text → piece (drop at text) ≡ Ok (None, drop next text) → pieces_at piece 0 (drop at (text ++ more)) ≡ Ok ([], drop next (text ++ more))
  last_there text more at next lt le e =
      piece_last piece (text ++ more) [] at next (pieces_at piece 0 (drop at (text ++ more))) lt (omega (arith, le, length-append text more))
      (piece_longer text more at next None (omega (arith, lt, le)) le e) (sym (with_nothing (pieces_at piece 0 (drop at (text ++ more)))))

string_front : (front : List ℕ) (r : TextRead (List ℕ)) → IsStringOpen r → IsStringOpen (with_front front r)
string_front front (Ok x) o = o
string_front front (Err f) o = o

front_end : (front : List ℕ) (r : TextRead (List ℕ)) → TextAtEnd r → TextAtEnd (with_front front r)
front_end front (Ok x) o = absurd o
front_end front (Err f) o = o

pub string_over : (text more : List ℕ) (at next c : ℕ) → at < next → next ≤ length text → string_piece (drop at text) ≡ Ok (Some c, drop next text)
    → OpenInside (inside.String next) (text ++ more) → OpenInside (inside.String at) (text ++ more)
string_over text more at next c lt le e o =
    subst IsStringOpen (more_there string_piece string_piece_stays text more at next c lt le e) (string_front (encode_utf8 c) (string_body_at (drop next (text ++ more))) o)

pub string_shut : (text more : List ℕ) (at next : ℕ) → at < next → next ≤ length text → string_piece (drop at text) ≡ Ok (None, drop next text)
    → OpenInside (inside.Suffix next) (text ++ more) → OpenInside (inside.String at) (text ++ more)
string_shut text more at next lt le e o = subst IsStringOpen (sym (last_there string_piece string_piece_stays text more at next lt le e)) o

pub string_ends : (text : List ℕ) (at place : ℕ) (kind : TextKind) → string_piece (drop at text) ≡ Err (kind, drop place text) → ends_row (Common kind) (drop place text) ≡ true → OpenInside (inside.String at) text
unfolding ends_row
string_ends text at place kind e o = subst IsStringOpen (sym (pieces-fault string_piece (drop at text) (kind, drop place text) string_piece-nil e)) o

pub iri_over : (text more : List ℕ) (at next c : ℕ) → at < next → next ≤ length text → iri_piece (drop at text) ≡ Ok (Some c, drop next text)
    → OpenInside (inside.Iri next) (text ++ more) → OpenInside (inside.Iri at) (text ++ more)
iri_over text more at next c lt le e o =
    subst TextAtEnd (more_there iri_piece iri_piece_stays text more at next c lt le e) (front_end (encode_utf8 c) (iri_body_at (drop next (text ++ more))) o)

pub iri_ends : (text : List ℕ) (at place : ℕ) (kind : TextKind) → iri_piece (drop at text) ≡ Err (kind, drop place text) → ends_row (Common kind) (drop place text) ≡ true → OpenInside (inside.Iri at) text
unfolding ends_row
iri_ends text at place kind e o = subst TextAtEnd (sym (pieces-fault iri_piece (drop at text) (kind, drop place text) iri_piece-nil e)) o

-- ---- behind a string

pub tag_begins : (text more : List ℕ) (at : ℕ) → at < length text → get_or text at 0 ≡ 64 → OpenInside (inside.Tag (at + 1) true false) (text ++ more) → OpenInside (inside.Suffix at) (text ++ more)
tag_begins text more at lt is o = inr (drop (at + 1) (text ++ more), first_there text more at 64 lt is, o)

skips_twice : (xs more : List ℕ) → skip_blanks (xs ++ more) ≡ skip_blanks (skip_blanks xs ++ more)
unfolding skip_blanks
skips_twice [] more = refl
skips_twice (b ∷ xs) more = by (is_blank b) refl (skips_twice xs more)
  where
    by : (blank : Bool) → is_blank b ≡ blank → skip_blanks (xs ++ more) ≡ skip_blanks (skip_blanks xs ++ more)
        → cond blank (skip_blanks (xs ++ more)) (b ∷ (xs ++ more)) ≡ skip_blanks (cond blank (skip_blanks xs) (b ∷ xs) ++ more)
    by true e others = others
    by false e others = ap (λ (t : Bool). cond t (skip_blanks (xs ++ more)) (b ∷ (xs ++ more))) (sym e)

all_behind : (xs more : List ℕ) → list_all is_blank (skip_blanks xs ++ more) ≡ true → list_all is_blank (xs ++ more) ≡ true
unfolding skip_blanks
all_behind [] more all = all
all_behind (b ∷ xs) more all = by (is_blank b) refl (all_behind xs more) all
  where
    by : (blank : Bool) → is_blank b ≡ blank → (list_all is_blank (skip_blanks xs ++ more) ≡ true → list_all is_blank (xs ++ more) ≡ true)
        → list_all is_blank (cond blank (skip_blanks xs) (b ∷ xs) ++ more) ≡ true → (blank && list_all is_blank (xs ++ more)) ≡ true
    by true e others all = others all
    by false e others all = absurd (false≢true (ap (λ (t : Bool). t && list_all is_blank (xs ++ more)) (sym e) ∙ all))

blanks_before : (xs more : List ℕ) → AreBlanksOpen (skip_blanks xs ++ more) → AreBlanksOpen (xs ++ more)
blanks_before xs more (inl all) = inl (all_behind xs more all)
blanks_before xs more (inr end) = inr (λ start text. subst (λ (t : List ℕ). TextAtEnd (typed_at start text t)) (sym (skips_twice xs more)) (end start text))

-- what stands behind blanks, of a text that goes on
blanks_there : (text more : List ℕ) (from at : ℕ) → at ≤ length text → drop at text ≡ skip_blanks (drop from text) → drop at (text ++ more) ≡ skip_blanks (drop from text) ++ more
blanks_there text more from at high is = drop-append-le at text more high ∙ ap (λ (t : List ℕ). t ++ more) is

pub blanks_over : (text more : List ℕ) (from at : ℕ) → from ≤ length text → at ≤ length text → drop at text ≡ skip_blanks (drop from text)
    → OpenInside (inside.Blanks at) (text ++ more) → OpenInside (inside.Blanks from) (text ++ more)
blanks_over text more from at low high is o =
    subst AreBlanksOpen (sym (drop-append-le from text more low)) (blanks_before (drop from text) more (subst AreBlanksOpen (blanks_there text more from at high is) o))

pub text_end_then : {X Y : Type 0} (r : TextRead X) (f : X × List ℕ → TextRead Y) → TextAtEnd r → TextAtEnd (r >>= f)
text_end_then (Ok x) f a = absurd a
text_end_then (Err e) f a = a

hats_end : (start text rest : List ℕ) → TextAtEnd (iri_needed (skip_blanks rest)) → TextAtEnd (typed_at start text (skip_blanks (94 ∷ 94 ∷ rest)))
unfolding skip_blanks typed_at datatype_at
hats_end start text rest a = rw (char_at-ascii 94 rest (omega arith)) (text_end_then (iri_needed (skip_blanks rest)) _ a)

pub hats_lead : (text more : List ℕ) (at : ℕ) → at + 1 < length text → get_or text at 0 ≡ 94 → get_or text (at + 1) 0 ≡ 94
    → OpenInside (inside.Datatype (at + 2)) (text ++ more) → OpenInside (inside.Blanks at) (text ++ more)
hats_lead text more at lt first second o =
    subst AreBlanksOpen (sym (two_there text more at 94 94 lt first second)) (inr (λ start whole. hats_end start whole (drop (at + 2) (text ++ more)) o))

pub blanks_end : (text : List ℕ) (at : ℕ) → at ≡ length text → OpenInside (inside.Blanks at) text
blanks_end text at e = let none = nothing_there text at e in subst AreBlanksOpen (sym none) (inl refl)

hat_end : (start text : List ℕ) → TextAtEnd (typed_at start text (skip_blanks (94 ∷ [])))
unfolding skip_blanks typed_at datatype_at char_at ends_text
hat_end start text = refl

pub hat_ends : (text : List ℕ) (at : ℕ) → at + 1 ≡ length text → nat_eq (get_or text at 0) 94 ≡ true → OpenInside (inside.Blanks at) text
hat_ends text at last is =
    let there : drop at text ≡ 94 ∷ [] = drop_more text at 0 (omega (arith, last)) ∙ ap (λ (b : ℕ). b ∷ drop (at + 1) text) (eqb-true (get_or text at 0) 94 is) ∙ ap (λ (t : List ℕ). 94 ∷ t) (nothing_there text (at + 1) last) in
    subst AreBlanksOpen (sym there) (inr hat_end)

-- ---- tags

tag_front : (front : List ℕ) (r : TextRead (List ℕ)) → IsTagOpen r → IsTagOpen (with_front front r)
tag_front front (Ok x) o = o
tag_front front (Err f) o = o

letter_first : (first some : Bool) (start : List ℕ) (b : ℕ) (rest : List ℕ) → is_tag_byte first b ≡ true → IsTagOpen (tag_at first true start rest) → IsTagOpen (tag_at first some start (b ∷ rest))
unfolding tag_at
letter_first first some start b rest e o = rw e (tag_front (to_ascii_lowercase b ∷ []) (tag_at first true start rest) o)

dash_first : (first : Bool) (start rest : List ℕ) → is_tag_byte first 45 ≡ false → IsTagOpen (tag_at false false start rest) → IsTagOpen (tag_at first true start (45 ∷ rest))
unfolding tag_at
dash_first first start rest e o = rw e (tag_front (45 ∷ []) (tag_at false false start rest) o)

pub letter_over : (text more : List ℕ) (at : ℕ) (first some : Bool) → at < length text → is_tag_byte first (get_or text at 0) ≡ true
    → OpenInside (inside.Tag (at + 1) first true) (text ++ more) → OpenInside (inside.Tag at first some) (text ++ more)
letter_over text more at first some lt e o = λ start.
    subst (λ (t : List ℕ). IsTagOpen (tag_at first some start t)) (sym (first_there text more at (get_or text at 0) lt refl)) (letter_first first some start (get_or text at 0) (drop (at + 1) (text ++ more)) e (o start))

pub dash_over : (text more : List ℕ) (at : ℕ) (first : Bool) → at < length text → is_tag_byte first (get_or text at 0) ≡ false → get_or text at 0 ≡ 45
    → OpenInside (inside.Tag (at + 1) false false) (text ++ more) → OpenInside (inside.Tag at first true) (text ++ more)
dash_over text more at first lt e dash o = λ start.
    subst (λ (t : List ℕ). IsTagOpen (tag_at first true start t)) (sym (first_there text more at 45 lt dash))
    (dash_first first start (drop (at + 1) (text ++ more)) (ap (is_tag_byte first) (sym dash) ∙ e) (o start))

none_left : (first some : Bool) (start : List ℕ) → IsTagOpen (tag_at first some start [])
unfolding tag_at ends_text
none_left first true start = refl
none_left first false start = refl

pub tag_ends : (text : List ℕ) (at : ℕ) (first some : Bool) → at ≡ length text → OpenInside (inside.Tag at first some) text
tag_ends text at first some e = λ start. let none = nothing_there text at e in subst (λ (t : List ℕ). IsTagOpen (tag_at first some start t)) (sym none) (none_left first some start)

-- ---- datatypes

pub datatype_over : (text more : List ℕ) (from at : ℕ) → from ≤ length text → at ≤ length text → drop at text ≡ skip_blanks (drop from text)
    → OpenInside (inside.Datatype at) (text ++ more) → OpenInside (inside.Datatype from) (text ++ more)
datatype_over text more from at low high is o =
    let same : skip_blanks (drop from (text ++ more)) ≡ skip_blanks (drop at (text ++ more)) =
    ap skip_blanks (drop-append-le from text more low) ∙ skips_twice (drop from text) more ∙ ap skip_blanks (sym (blanks_there text more from at high is)) in
    subst (λ (t : List ℕ). TextAtEnd (iri_needed t)) (sym same) o

less_first : (rest : List ℕ) → TextAtEnd (iri_body_at rest) → TextAtEnd (iri_needed (skip_blanks (60 ∷ rest)))
unfolding skip_blanks iri_needed iri_at
less_first rest a = rw (char_at-ascii 60 rest (omega arith)) (text_end_then (iri_body_at rest) _ a)

pub less_leads : (text more : List ℕ) (at : ℕ) → at < length text → get_or text at 0 ≡ 60 → OpenInside (inside.Iri (at + 1)) (text ++ more) → OpenInside (inside.Datatype at) (text ++ more)
less_leads text more at lt is o =
    subst (λ (t : List ℕ). TextAtEnd (iri_needed (skip_blanks t))) (sym (first_there text more at 60 lt is)) (less_first (drop (at + 1) (text ++ more)) o)

cut_stands_first : (rest : List ℕ) → is_cut rest ≡ true → skip_blanks rest ≡ rest
unfolding skip_blanks
cut_stands_first [] cut = refl
cut_stands_first (b ∷ bs) cut =
    let led = (and_parts (leads b) _ cut).0 in
    let no : is_blank b ≡ false = grind (arith, nat_tests, led) in
    rw no refl

pub datatype_cut : (rest : List ℕ) → is_cut rest ≡ true → TextAtEnd (iri_needed (skip_blanks rest))
unfolding iri_needed
datatype_cut rest cut = let c = cut_char rest cut in rw (cut_stands_first rest cut) (rw c.1 c.2)
