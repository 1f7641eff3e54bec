-- The same of labels, tags, literals and terms, but for those that more text may change.
use Rattle.std.proofs.Common.{◌≡◌, ℕ, zero, suc, ◌+◌, ◌-◌, ◌<◌, ◌≤◌, Bool, true, false, cond, List, [], ◌∷◌, ◌++◌, length, Option, Some, None, Result, Ok, Err, nat_eq, nat_lt, refl, sym, ap, subst, ◌∙◌, ◌⊎◌, inl, inr, ⊎_elim, arith, append_assoc, slice_index, take, drop, ◌&&◌, not}
use Rattle.std.specs.Char.{encode_utf8, to_ascii_lowercase}
use Rattle.std.specs.List.{list_all}
use Rattle.std.proofs.lemmas.Bool.{false≢true, eqb-true, and_parts, not-false, cases_Bool}
use Rattle.std.proofs.lemmas.Bool.Decides.{nat_tests}
use Rattle.std.proofs.lemmas.List.{length-append, get_or_append_left, drop_all, drop_at, drop-drop, take-append-le, drop-append-le}
use Rattle.bstr.specs.Utf8.{Decoded, decoded, decoded_by, second, continues, code_of_3, code_of_4}
use Rattle.bstr.proofs.lemmas.PieceLemmas.{by-shape}
use Rattle.rdf_terms.specs.Names.{is_name_char}
use Rattle.rdf_terms.specs.declared.term.LiteralKind.{LiteralKind}
use Rattle.rdf_terms.specs.declared.term.LiteralKind.TheVariants.{Plain, Tagged}
use Rattle.rdf_terms.specs.declared.term.Literal.{Literal}
use Rattle.rdf_terms.specs.declared.term.Term.{Term}
use Rattle.rdf_terms.specs.declared.term.Term.TheVariants as term
use Rattle.nquads_text.specs.declared.fault.TextKind.TheVariants.{BadLang, BadToken, Truncated}
use Rattle.nquads_text.specs.Fault.{TextRead, ◌>>=◌}
use Rattle.nquads_text.specs.Grammar.{is_blank}
use Rattle.nquads_text.specs.Reading.{char_at, string_piece, pieces_at}
use Rattle.nquads_text.specs.Terms.{name_step, name_len, name_at, label_at, is_tag_byte, tag_at, iri_at, iri_needed, skip_blanks, kind_given, datatype_at, typed_at, suffix_at, literal_at, term_at}
use Rattle.nquads_text.proofs.Fronts.{char_spelled}
use Rattle.nquads_text.proofs.NameRuns.{name-none}
use Rattle.nquads_text.proofs.LabelLaws.{inner_taken}
use Rattle.nquads_text.proofs.LiteralReads.{string_found}
use Rattle.patch_rows.specs.Cut.{leads, is_front, ends_text, TextAtEnd, no_name_begins, begins_name_char, label_open, ends_quoted, literal_open, blank_open}
use Rattle.patch_reader.proofs.Stays.{Stays, stays_then, stays_if, ok_stays, err_stays, char_stays, ok_char, bad_char, good_char, still_bad, rooms_same, string_body_stays, iri_stays}

-- ---- readings whose value may be open

-- reading stays, or it gives a value of which this is known, and of the longer reading
abbrev pub Late : {X : Type 0} → (X × List ℕ → TextRead X → Type 0) → List ℕ → TextRead X → TextRead X → Type 0
Late P more r longer = Stays more r longer ⊎ ((x : _) × (r ≡ Ok x) × P x longer)

late_then : {X Y : Type 0} (P : Y × List ℕ → TextRead Y → Type 0) (more : List ℕ) (r longer : TextRead X) (f g : X × List ℕ → TextRead Y)
    → Stays more r longer → ((x : X × List ℕ) → r ≡ Ok x → Late P more (f x) (g (x.0, x.1 ++ more))) → Late P more (r >>= f) (longer >>= g)
late_then P more (Ok x) longer f g (inl h) step = absurd h
late_then P more (Ok x) longer f g (inr h) step = rw h (step x refl)
late_then P more (Err e) longer f g (inl h) step = inl (inl h)
late_then P more (Err e) longer f g (inr h) step = inl (inr (rw h refl))

late_if : {X : Type 0} (P : X × List ℕ → TextRead X → Type 0) (more : List ℕ) (b : Bool) (x y f g : TextRead X) → (b ≡ true → Late P more x f) → (b ≡ false → Late P more y g) → Late P more (cond b x y) (cond b f g)
late_if P more true x y f g h k = h refl
late_if P more false x y f g h k = k refl

-- a value made of another one
late_map : {X Y : Type 0} (P : X × List ℕ → TextRead X → Type 0) (Q : Y × List ℕ → TextRead Y → Type 0) (more : List ℕ) (r longer : TextRead X) (made : X → Y)
    → ((x : X × List ℕ) → P x longer → Q (made x.0, x.1) (longer >>= λ x. Ok (made x.0, x.1))) → Late P more r longer → Late Q more (r >>= λ x. Ok (made x.0, x.1)) (longer >>= λ x. Ok (made x.0, x.1))
late_map P Q more r longer made to (inl h) = inl (stays_then more r longer (λ x. Ok (made x.0, x.1)) (λ x. Ok (made x.0, x.1)) h (λ x e. ok_stays more (made x.0) x.1))
late_map P Q more r longer made to (inr h) = inr ((made h.0.0, h.0.1), rw h.1 refl, to h.0 h.2)

-- ---- labels

-- no character of a label, and no dot
abbrev NoLabelChar : ℕ → Type 0
NoLabelChar c = (is_name_char c ≡ false) × (nat_eq c 46 ≡ false)

-- none stands in these blocks
abbrev NoName : ℕ → Type 0
NoName c = ((0x2190 ≤ c) × (c < 0x2C00)) ⊎ (((0xE000 ≤ c) × (c < 0xF900)) ⊎ (0xF_0000 ≤ c))

no_name : (c : ℕ) → NoName c → NoLabelChar c
unfolding is_name_char
no_name c block = grind (arith, nat_tests, block)

-- what a front becomes that begins no character of a label, by its first two bytes
module _ (size b second_byte : ℕ) (none : no_name_begins size b second_byte ≡ true) where
  not_two : b < 0xE0 → ⊥
  not_two high = grind (arith, nat_tests, none)

  of_three : (c d : ℕ) → (1 < size → c ≡ second_byte) → 0xE0 ≤ b → b < 0xF0 → second b c ≡ true → continues d ≡ true → NoName (code_of_3 b c d)
  of_three c d same low high sec go = grind (arith, nat_tests, none, sec, go)

  of_four : (c d e : ℕ) → (1 < size → c ≡ second_byte) → 0xF0 ≤ b → second b c ≡ true → NoName (code_of_4 b c d e)
  of_four c d e same low sec = inr (inr (grind (arith, nat_tests, none, sec)))

  no_name_decoded : (n c d e x : ℕ) → (1 < size → c ≡ second_byte) → 0x80 ≤ b → (decoded_by n b c d e).char ≡ Some x → NoName x
  no_name_decoded n c d e x same low is =
      let char = λ (p : Decoded) (q : decoded_by n b c d e ≡ p). sym (ap (λ (r : Decoded). r.char) q) ∙ is in
      by-shape n b c d e
      (λ h. let some = char _ h.1 in absurd cc)
      (λ h. absurd (omega (arith, h.1, low)))
      (λ h. let some = char _ h.3 in absurd cc)
      (λ h. let some = char _ h.2 in absurd cc)
      (λ h. let some = char _ h.4 in absurd cc)
      (λ h. let some = char _ h.4 in absurd cc)
      (λ h. absurd (not_two h.2))
      (λ h. let some = char _ h.5 in absurd cc)
      (λ h. let some = char _ h.5 in absurd cc)
      (λ h. let some = char _ h.5 in let v : code_of_3 b c d ≡ x = cc in subst NoName v (of_three c d same h.1 h.2 h.3 h.4))
      (λ h. let some = char _ h.6 in absurd cc)
      (λ h. let some = char _ h.6 in absurd cc)
      (λ h. let some = char _ h.6 in let v : code_of_4 b c d e ≡ x = cc in subst NoName v (of_four c d e same h.1 h.3))

name_stops : (rest : List ℕ) (c : ℕ) (after : List ℕ) → char_at rest ≡ Ok (c, after) → NoLabelChar c → name_len 0 rest ≡ 0
unfolding name_len
name_stops [] c after e shut = refl
name_stops (b ∷ rest) c after e shut = rw (e, shut.1, shut.0) refl

-- such a front is no part of a label, whatever makes it whole
no_name_longer : (b : ℕ) (bs more : List ℕ) → is_front (b ∷ bs) ≡ true → begins_name_char (b ∷ bs) ≡ false → name_len 0 ((b ∷ bs) ++ more) ≡ 0
no_name_longer b bs more front shut = by (decoded ((b ∷ bs) ++ more)).char refl
  where
    none : no_name_begins (length (b ∷ bs)) b (slice_index (b ∷ bs) 1) ≡ true
    none = not-false _ (rw front at shut)

    low : 0x80 ≤ b
    low = let led = (and_parts (leads b) _ front).0 in grind (arith, nat_tests, led)

    by : (o : Option ℕ) → (decoded ((b ∷ bs) ++ more)).char ≡ o → name_len 0 ((b ∷ bs) ++ more) ≡ 0
    by None e = name-none ((b ∷ bs) ++ more) _ (bad_char b (bs ++ more) e)
    by (Some c) e =
        name_stops ((b ∷ bs) ++ more) c _ (good_char b (bs ++ more) c e)
        (no_name c (no_name_decoded (length (b ∷ bs)) b (slice_index (b ∷ bs) 1) none (length ((b ∷ bs) ++ more)) (slice_index ((b ∷ bs) ++ more) 1) (slice_index ((b ∷ bs) ++ more) 2) (slice_index ((b ∷ bs) ++ more) 3) c
        (λ lt. get_or_append_left (b ∷ bs) more 0 1 lt) low e))

-- ---- the end of a label

drop_none : (n : ℕ) → drop {A = ℕ} n [] ≡ []
drop_none n = drop_all n [] (omega arith)

pub dot_front : (b : ℕ) (rest : List ℕ) (c : ℕ) (after : List ℕ) → char_at (b ∷ rest) ≡ Ok (c, after) → nat_eq c 46 ≡ true → (b ≡ 46) × (rest ≡ after)
unfolding encode_utf8
dot_front b rest c after e dot =
    let s = char_spelled (b ∷ rest) c after e in
    let is : c ≡ 46 = eqb-true c 46 dot in
    let whole : b ∷ rest ≡ 46 ∷ after = s.1 ∙ ap (λ (k : ℕ). encode_utf8 k ++ after) is in
    (cc, cc)

-- the steps on a character that was read, with and without more text
module _ (b : ℕ) (rest : List ℕ) where
  -- what stands behind them stands behind the character too
  pub open_behind : (dot name : Bool) (k m : ℕ) → (dot ≡ true → (b ≡ 46) × (k ≡ 0)) → (dot ≡ true) ⊎ (name ≡ true)
      → label_open (drop (0 + cond dot (cond (nat_eq m 0) 0 (suc k + m)) (cond name (suc k + m) 0)) (b ∷ rest)) ≡ label_open (drop (k + m) rest)
  unfolding label_open
  open_behind false false k m dots which = ⊎_elim (λ e. absurd (false≢true e)) (λ e. absurd (false≢true e)) which
  open_behind false true k m dots which = ap (λ (n : ℕ). label_open (drop n (b ∷ rest))) (let t : 0 + (suc k + m) ≡ suc (k + m) = omega arith in t)
  open_behind true name k m dots which = ⊎_elim
      (λ none.
      let d = dots refl in let k_is = d.1 in let m_is : m ≡ 0 = eqb-true m 0 none in let none_left : 0 ≡ k + m = omega arith in
      rw (none, ap (λ (x : ℕ). nat_eq x 46) d.0) (ap (λ (n : ℕ). label_open (drop n rest)) none_left))
      (λ some. rw some (ap (λ (n : ℕ). label_open (drop n (b ∷ rest))) (let t : 0 + (suc k + m) ≡ suc (k + m) = omega arith in t)))
      (cases_Bool (nat_eq m 0))

  step_by : (dot name : Bool) (k m longer : ℕ) → (dot ≡ true → (b ≡ 46) × (k ≡ 0)) → (label_open (drop (k + m) rest) ≡ false → longer ≡ m)
      → label_open (drop (0 + cond dot (cond (nat_eq m 0) 0 (suc k + m)) (cond name (suc k + m) 0)) (b ∷ rest)) ≡ false
      → cond dot (cond (nat_eq longer 0) 0 (suc k + longer)) (cond name (suc k + longer) 0) ≡ cond dot (cond (nat_eq m 0) 0 (suc k + m)) (cond name (suc k + m) 0)
  step_by false false k m longer dots same shut = refl
  step_by false true k m longer dots same shut = rw (same (sym (open_behind false true k m dots (inr refl)) ∙ shut)) refl
  step_by true name k m longer dots same shut = rw (same (sym (open_behind true name k m dots (inl refl)) ∙ shut)) refl

pub names_stay : (more : List ℕ) (skip : ℕ) (rest : List ℕ) → label_open (drop (skip + name_len skip rest) rest) ≡ false → name_len skip (rest ++ more) ≡ name_len skip rest
unfolding name_len label_open
names_stay more zero [] shut = absurd (false≢true (sym shut ∙ ap label_open (drop_none (0 + name_len 0 []))))
names_stay more (suc skip) [] shut = absurd (false≢true (sym shut ∙ ap label_open (drop_none (suc skip + name_len (suc skip) []))))
names_stay more (suc skip) (b ∷ rest) shut =
    names_stay more skip rest (ap (λ (n : ℕ). label_open (drop n (b ∷ rest))) (let t : suc (skip + name_len skip rest) ≡ suc skip + name_len skip rest = omega arith in t) ∙ shut)
names_stay more zero (b ∷ rest) shut = by (λ k. names_stay more k rest) (decoded (b ∷ rest)).char (is_front (b ∷ rest)) refl refl shut
  where
    not_dot : leads b ≡ true → nat_eq b 46 ≡ false
    not_dot led = grind (arith, nat_tests, led)

    by : ((k : ℕ) → label_open (drop (k + name_len k rest) rest) ≡ false → name_len k (rest ++ more) ≡ name_len k rest) → (o : Option ℕ) (cut : Bool) → (decoded (b ∷ rest)).char ≡ o → is_front (b ∷ rest) ≡ cut
        → label_open (drop (0 + name_len 0 (b ∷ rest)) (b ∷ rest)) ≡ false → name_len 0 ((b ∷ rest) ++ more) ≡ name_len 0 (b ∷ rest)
    by others None false e f shut =
        name-none ((b ∷ rest) ++ more) _ (bad_char b (rest ++ more) (ap (λ (d : Decoded). d.char) (still_bad b rest more e f) ∙ e)) ∙ sym (name-none (b ∷ rest) _ (bad_char b rest e))
    by others None true e f shut =
        let nothing = name-none (b ∷ rest) _ (bad_char b rest e) in
        let here : label_open (b ∷ rest) ≡ false = ap (λ (n : ℕ). label_open (drop n (b ∷ rest))) (let t : 0 ≡ 0 + name_len 0 (b ∷ rest) = omega (arith, nothing) in t) ∙ shut in
        let led = not_dot ((and_parts (leads b) _ f).0) in
        no_name_longer b rest more f (subst (λ (t : Bool). cond t (label_open rest) (begins_name_char (b ∷ rest)) ≡ false) led here) ∙ sym nothing
    by others (Some c) cut e f shut =
        let is = good_char b rest c e in
        let after = drop (decoded (b ∷ rest)).size (b ∷ rest) in
        spelled others c after is shut
      where
        spelled : ((k : ℕ) → label_open (drop (k + name_len k rest) rest) ≡ false → name_len k (rest ++ more) ≡ name_len k rest) → (c : ℕ) (after : List ℕ) → char_at (b ∷ rest) ≡ Ok (c, after)
            → label_open (drop (0 + name_len 0 (b ∷ rest)) (b ∷ rest)) ≡ false → name_len 0 ((b ∷ rest) ++ more) ≡ name_len 0 (b ∷ rest)
        spelled others c after is shut =
            let s = char_spelled (b ∷ rest) c after is in
            let longer : char_at ((b ∷ rest) ++ more) ≡ Ok (c, after ++ more) = ok_char (b ∷ rest) c after more is in
            let k : ℕ = length rest - length after in
            let one : name_len 0 (b ∷ rest) ≡ name_step (Ok (c, after)) (length rest) (λ k. name_len k rest) = ap (λ (r : TextRead ℕ). name_step r (length rest) (λ k. name_len k rest)) is in
            let two : name_len 0 ((b ∷ rest) ++ more) ≡ name_step (Ok (c, after ++ more)) (length (rest ++ more)) (λ k. name_len k (rest ++ more)) = ap (λ (r : TextRead ℕ). name_step r (length (rest ++ more)) (λ k. name_len k (rest ++ more))) longer in
            two
            ∙ ap (λ (j : ℕ). cond (nat_eq c 46) (cond (nat_eq (name_len j (rest ++ more)) 0) 0 (suc j + name_len j (rest ++ more))) (cond (is_name_char c) (suc j + name_len j (rest ++ more)) 0)) (rooms_same rest after more)
            ∙ step_by b rest (nat_eq c 46) (is_name_char c) k (name_len k rest) (name_len k (rest ++ more))
            (λ dot. let d = dot_front b rest c after is dot in let same = ap length d.1 in (d.0, omega (arith, same)))
            (others k)
            (ap (λ (n : ℕ). label_open (drop (0 + n) (b ∷ rest))) (sym one) ∙ shut)
            ∙ sym one

pub drop_back : (rest front after : List ℕ) → rest ≡ front ++ after → drop (length rest - length after) rest ≡ after
drop_back rest front after e =
    let l : length rest ≡ length front + length after = ap length e ∙ length-append front after in
    let n : length rest - length after ≡ length front = omega arith in
    ap (λ (k : ℕ). drop k rest) n ∙ ap (drop (length front)) e ∙ drop_at front after (length front) refl

-- a label whose text may go on; then too a label is read
abbrev OpenLabel : List ℕ × List ℕ → TextRead (List ℕ) → Type 0
OpenLabel x longer = (label_open x.1 ≡ true) × ((y : List ℕ × List ℕ) × (longer ≡ Ok y))

-- how many bytes the label behind `_:` has
abbrev pub label_size : List ℕ → ℕ × List ℕ → ℕ
label_size rest first = (length rest - length first.1) + name_len 0 first.1

abbrev pub label_read : List ℕ → ℕ → TextRead (List ℕ)
label_read rest size = Ok (take size rest, drop size rest)

pub fits : (rest : List ℕ) (first : ℕ × List ℕ) → char_at rest ≡ Ok first → label_size rest first ≤ length rest
fits rest first e =
    let s = char_spelled rest first.0 first.1 e in
    let i = inner_taken 0 first.1 in
    let whole : length rest ≡ length (encode_utf8 first.0) + length first.1 = ap length s.1 ∙ length-append (encode_utf8 first.0) first.1 in
    let inner : length first.1 ≡ name_len 0 first.1 + length i.after = ap length i.parts ∙ length-append _ i.after ∙ ap (λ (n : ℕ). n + length i.after) (sym i.size) in
    omega (arith, whole, inner)

-- what stands behind the label
pub label_rest : (rest : List ℕ) (first : ℕ × List ℕ) → char_at rest ≡ Ok first → drop (label_size rest first) rest ≡ drop (name_len 0 first.1) first.1
label_rest rest first e =
    let s = char_spelled rest first.0 first.1 e in
    sym (drop-drop (name_len 0 first.1) (length rest - length first.1) rest) ∙ ap (drop (name_len 0 first.1)) (drop_back rest (encode_utf8 first.0) first.1 s.1)

same_size : (more rest : List ℕ) (first : ℕ × List ℕ) → char_at rest ≡ Ok first → label_open (drop (label_size rest first) rest) ≡ false → name_len 0 (first.1 ++ more) ≡ name_len 0 first.1
same_size more rest first e shut =
    let none : 0 + name_len 0 first.1 ≡ name_len 0 first.1 = omega arith in
    names_stay more 0 first.1 (ap (λ (n : ℕ). label_open (drop n first.1)) none ∙ ap label_open (sym (label_rest rest first e)) ∙ shut)

sized : (more rest : List ℕ) (first : ℕ × List ℕ) → char_at rest ≡ Ok first
    → Late OpenLabel more (label_read rest (label_size rest first)) (label_read (rest ++ more) (label_size (rest ++ more) (first.0, first.1 ++ more)))
sized more rest first e = ⊎_elim
    (λ o. inr ((take (label_size rest first) rest, drop (label_size rest first) rest), refl, (o, (_, refl))))
    (λ o.
    let n = same_size more rest first e o in let r = rooms_same rest first.1 more in
    let same : label_size (rest ++ more) (first.0, first.1 ++ more) ≡ label_size rest first = omega (arith, n, r) in
    let le = fits rest first e in
    inl (inr (rw (same, take-append-le (label_size rest first) rest more le, drop-append-le (label_size rest first) rest more le) refl)))
    (cases_Bool (label_open (drop (label_size rest first) rest)))

name_late : (more start rest : List ℕ) → Late OpenLabel more (name_at start rest) (name_at (start ++ more) (rest ++ more))
unfolding name_at
name_late more start rest = search (late_then, late_if, char_stays, sized, inl, err_stays)

pub label_late : (more start rest : List ℕ) → Late OpenLabel more (label_at start rest) (label_at (start ++ more) (rest ++ more))
unfolding label_at
label_late more start rest = search (late_then, late_if, char_stays, name_late, inl, err_stays)

-- ---- tags

abbrev AllRead : {X : Type 0} → X × List ℕ → TextRead X → Type 0
AllRead x longer = x.1 ≡ []

tag_late : (more : List ℕ) (first some : Bool) (start rest : List ℕ) → Late AllRead more (tag_at first some start rest) (tag_at first some (start ++ more) (rest ++ more))
unfolding tag_at ends_text
tag_late more first true start [] = inr (([], []), refl, refl)
tag_late more first false start [] = inl (inl refl)
tag_late more first some start (b ∷ rest) =
    late_if AllRead more (is_tag_byte first b) _ _ _ _
    (λ _. late_map AllRead AllRead more (tag_at first true start rest) (tag_at first true (start ++ more) (rest ++ more)) (λ t. (to_ascii_lowercase b ∷ []) ++ t) (λ x p. p) (tag_late more first true start rest))
    (λ _. late_if AllRead more (not some) _ _ _ _
    (λ _. inl (stays_then more (char_at (b ∷ rest)) (char_at (b ∷ (rest ++ more))) _ _ (char_stays more (b ∷ rest)) (λ c e. err_stays more BadLang start)))
    (λ _. late_if AllRead more (nat_eq b 45) _ _ _ _
    (λ _. late_map AllRead AllRead more (tag_at false false start rest) (tag_at false false (start ++ more) (rest ++ more)) (λ t. (45 ∷ []) ++ t) (λ x p. p) (tag_late more false false start rest))
    (λ _. inl (ok_stays more [] (b ∷ rest)))))

-- ---- what stands behind a string

blanks_stay : (rest more : List ℕ) (b : ℕ) (after : List ℕ) → skip_blanks rest ≡ b ∷ after → skip_blanks (rest ++ more) ≡ b ∷ (after ++ more)
unfolding skip_blanks
blanks_stay [] more b after e = absurd cc
blanks_stay (x ∷ rest) more b after e = by (λ e. blanks_stay rest more b after e) (is_blank x) e
  where
    by : (skip_blanks rest ≡ b ∷ after → skip_blanks (rest ++ more) ≡ b ∷ (after ++ more)) → (blank : Bool) → cond blank (skip_blanks rest) (x ∷ rest) ≡ b ∷ after
        → cond blank (skip_blanks (rest ++ more)) (x ∷ (rest ++ more)) ≡ b ∷ (after ++ more)
    by others true e = others e
    by others false e = let h : x ≡ b = cc in let t : rest ≡ after = cc in rw (h, t) refl

all_blank : (rest : List ℕ) → skip_blanks rest ≡ [] → list_all is_blank rest ≡ true
unfolding skip_blanks
all_blank [] e = refl
all_blank (x ∷ rest) e = by (λ e. all_blank rest e) (is_blank x) refl e
  where
    by : (skip_blanks rest ≡ [] → list_all is_blank rest ≡ true) → (blank : Bool) → is_blank x ≡ blank → cond blank (skip_blanks rest) (x ∷ rest) ≡ [] → (is_blank x && list_all is_blank rest) ≡ true
    by others true is e = rw is (others e)
    by others false is e = absurd cc

needed_stays : (more rest : List ℕ) → Stays more (iri_needed rest) (iri_needed (rest ++ more))
unfolding iri_needed
needed_stays more rest = search (stays_then, stays_if, char_stays, iri_stays, err_stays)

needed_at_end : ends_text Truncated [] ≡ true → TextAtEnd (iri_needed [])
unfolding iri_needed char_at
needed_at_end e = e

spaced_iri_stays : (more rest : List ℕ) → Stays more (iri_needed (skip_blanks rest)) (iri_needed (skip_blanks (rest ++ more)))
unfolding ends_text
spaced_iri_stays more rest = by (skip_blanks rest) refl
  where
    by : (s : List ℕ) → skip_blanks rest ≡ s → Stays more (iri_needed (skip_blanks rest)) (iri_needed (skip_blanks (rest ++ more)))
    by [] e = inl (subst (λ (s : List ℕ). TextAtEnd (iri_needed s)) (sym e) (needed_at_end refl))
    by (b ∷ after) e = rw (e, blanks_stay rest more b after e) (needed_stays more (b ∷ after))

kind_stays : (more start iri after : List ℕ) → Stays more (kind_given start iri after) (kind_given (start ++ more) iri (after ++ more))
unfolding kind_given
kind_stays more start iri after = search (stays_if, ok_stays, err_stays)

datatype_stays : (more start rest : List ℕ) → Stays more (datatype_at start rest) (datatype_at (start ++ more) (rest ++ more))
unfolding datatype_at
datatype_stays more start rest = search (stays_then, stays_if, char_stays, spaced_iri_stays, kind_stays, err_stays) depth 7

-- nothing but blanks stands behind the string, or a tag reaches the text's end
abbrev pub OpenKind : List ℕ → LiteralKind × List ℕ → Type 0
OpenKind text x = ((x.0 ≡ Plain) × (x.1 ≡ text) × (list_all is_blank x.1 ≡ true)) ⊎ ((tag : List ℕ) × (x.0 ≡ Tagged tag) × (x.1 ≡ []))

abbrev LateKind : List ℕ → LiteralKind × List ℕ → TextRead LiteralKind → Type 0
LateKind text x longer = OpenKind text x

typed_late : (more start text skipped : List ℕ) → skip_blanks text ≡ skipped → Late (LateKind text) more (typed_at start text skipped) (typed_at (start ++ more) (text ++ more) (skip_blanks (text ++ more)))
unfolding typed_at
typed_late more start text [] e = inr ((Plain, text), refl, inl (refl, refl, all_blank text e))
typed_late more start text (b ∷ after) e =
    rw (blanks_stay text more b after e) (inl (stays_if more (nat_eq b 94) _ _ _ _ (datatype_stays more start after) (ok_stays more Plain text)))

suffix_late : (more start text : List ℕ) → Late (LateKind text) more (suffix_at start text) (suffix_at (start ++ more) (text ++ more))
unfolding suffix_at
suffix_late more start [] = inr ((Plain, []), refl, inl (refl, refl, refl))
suffix_late more start (b ∷ rest) =
    late_if (LateKind (b ∷ rest)) more (nat_eq b 64) _ _ _ _
    (λ _. late_map AllRead (LateKind (b ∷ rest)) more (tag_at true false (b ∷ rest) rest) (tag_at true false (b ∷ (rest ++ more)) (rest ++ more)) (λ t. Tagged t) (λ x p. inr (x.0, refl, p)) (tag_late more true false (b ∷ rest) rest))
    (λ _. typed_late more start (b ∷ rest) (skip_blanks (b ∷ rest)) refl)

-- ---- literals and terms

pub string_last : (rest : List ℕ) (string after : List ℕ) → pieces_at string_piece 0 rest ≡ Ok (string, after) → ends_quoted (34 ∷ rest) after ≡ true
string_last rest string after e =
    let s = string_found rest string after e in
    let front : List ℕ = 34 ∷ s.1.0 in
    let whole : 34 ∷ rest ≡ front ++ (34 ∷ after) = s.2 ∙ ap (λ (t : List ℕ). t ++ after) s.1.2 ∙ append_assoc front (34 ∷ []) after in
    let sizes : length (34 ∷ rest) ≡ length front + suc (length after) = ap length whole ∙ length-append front (34 ∷ after) in
    let at : length (34 ∷ rest) - length after - 1 ≡ length front = omega (arith, sizes) in
    let less : length after < length (34 ∷ rest) = omega (arith, sizes) in
    let smaller : nat_lt (length after) (length (34 ∷ rest)) ≡ true = grind (arith, nat_tests, less) in
    let byte : slice_index (34 ∷ rest) (length (34 ∷ rest) - length after - 1) ≡ 34 =
    ap (λ (k : ℕ). slice_index (34 ∷ rest) k) at ∙ ap (λ (t : List ℕ). slice_index t (length front)) whole ∙ there front after in
    rw (smaller, byte) refl
  where
    there : (front after : List ℕ) → slice_index (front ++ (34 ∷ after)) (length front) ≡ 34
    there [] after = refl
    there (x ∷ front) after = there front after

pub kind_is_open : (start text : List ℕ) (x : LiteralKind × List ℕ) (lexical : List ℕ) → ends_quoted start text ≡ true → OpenKind text x
    → literal_open start (term.Literal (record { lexical = lexical; kind = x.0 })) x.1 ≡ true
kind_is_open start text x lexical last (inl h) = rw (h.0, h.1) (rw last (ap (λ (t : List ℕ). list_all is_blank t) (sym h.1) ∙ h.2))
kind_is_open start text x lexical last (inr h) = rw (h.1, h.2) refl

abbrev OpenLiteral : List ℕ → Literal × List ℕ → TextRead Literal → Type 0
OpenLiteral start x longer = literal_open start (term.Literal x.0) x.1 ≡ true

literal_late : (more rest : List ℕ) → Late (OpenLiteral (34 ∷ rest)) more (literal_at (34 ∷ rest) rest) (literal_at (34 ∷ (rest ++ more)) (rest ++ more))
unfolding literal_at
literal_late more rest =
    late_then (OpenLiteral (34 ∷ rest)) more (pieces_at string_piece 0 rest) (pieces_at string_piece 0 (rest ++ more)) _ _ (string_body_stays more rest) (λ text e.
    late_map (LateKind text.1) (OpenLiteral (34 ∷ rest)) more (suffix_at (34 ∷ rest) text.1) (suffix_at (34 ∷ (rest ++ more)) (text.1 ++ more)) (λ kind. record { lexical = text.0; kind = kind })
    (λ x p. kind_is_open (34 ∷ rest) text.1 x text.0 (string_last rest text.0 text.1 e) p)
    (suffix_late more (34 ∷ rest) text.1))

-- whatever its label, this is a blank node
abbrev pub IsBlank : Term → Type 0
IsBlank t = (label : List ℕ) × (t ≡ term.Blank label)

-- a literal or a label that more text may change; in the place of the label stands one then too
abbrev pub OpenTerm : {F : Type 0} → List ℕ → Term × List ℕ → Result (Term × List ℕ) F → Type 0
OpenTerm start x longer = (literal_open start x.0 x.1 ≡ true) ⊎ ((blank_open start x.0 x.1 ≡ true) × ((y : Term × List ℕ) × (longer ≡ Ok y) × IsBlank y.0))

pub quote_front : (b : ℕ) (rest : List ℕ) (c : ℕ) (after : List ℕ) → char_at (b ∷ rest) ≡ Ok (c, after) → nat_eq c 34 ≡ true → (b ≡ 34) × (rest ≡ after)
unfolding encode_utf8
quote_front b rest c after e quote =
    let s = char_spelled (b ∷ rest) c after e in
    let whole : b ∷ rest ≡ 34 ∷ after = s.1 ∙ ap (λ (k : ℕ). encode_utf8 k ++ after) (eqb-true c 34 quote) in
    (cc, cc)

pub line_front : (b : ℕ) (rest : List ℕ) (c : ℕ) (after : List ℕ) → char_at (b ∷ rest) ≡ Ok (c, after) → nat_eq c 95 ≡ true → b ≡ 95
unfolding encode_utf8
line_front b rest c after e line =
    let s = char_spelled (b ∷ rest) c after e in
    let whole : b ∷ rest ≡ 95 ∷ after = s.1 ∙ ap (λ (k : ℕ). encode_utf8 k ++ after) (eqb-true c 95 line) in
    cc

pub term_late : (more rest : List ℕ) → Late (OpenTerm rest) more (term_at rest) (term_at (rest ++ more))
unfolding term_at char_at ends_text
term_late more [] = inl (inl refl)
term_late more (b ∷ bs) = late_then (OpenTerm (b ∷ bs)) more (char_at (b ∷ bs)) (char_at (b ∷ (bs ++ more))) _ _ (char_stays more (b ∷ bs)) (λ c e.
    late_if (OpenTerm (b ∷ bs)) more (nat_eq c.0 60) _ _ _ _
    (λ _. inl (stays_then more (iri_at (b ∷ bs) c.1) (iri_at (b ∷ (bs ++ more)) (c.1 ++ more)) _ _ (iri_stays more (b ∷ bs) c.1) (λ iri f. ok_stays more (term.Iri iri.0) iri.1)))
    (λ _. late_if (OpenTerm (b ∷ bs)) more (nat_eq c.0 95) _ _ _ _
    (λ line. late_map OpenLabel (OpenTerm (b ∷ bs)) more (label_at (b ∷ bs) c.1) (label_at (b ∷ (bs ++ more)) (c.1 ++ more)) (λ l. term.Blank l) (blank (line_front b bs c.0 c.1 e line)) (label_late more (b ∷ bs) c.1))
    (λ _. late_if (OpenTerm (b ∷ bs)) more (nat_eq c.0 34) _ _ _ _
    (λ quote. late_map (OpenLiteral (b ∷ bs)) (OpenTerm (b ∷ bs)) more (literal_at (b ∷ bs) c.1) (literal_at (b ∷ (bs ++ more)) (c.1 ++ more)) (λ l. term.Literal l) (λ x p. inl p) (quoted c.1 (quote_front b bs c.0 c.1 e quote)))
    (λ _. inl (err_stays more BadToken (b ∷ bs))))))
  where
    quoted : (after : List ℕ) → (b ≡ 34) × (bs ≡ after) → Late (OpenLiteral (b ∷ bs)) more (literal_at (b ∷ bs) after) (literal_at (b ∷ (bs ++ more)) (after ++ more))
    quoted after f = rw (f.0, sym f.1) (literal_late more bs)

    blank : b ≡ 95 → {longer : TextRead (List ℕ)} (x : List ℕ × List ℕ) → OpenLabel x longer → OpenTerm (b ∷ bs) (term.Blank x.0, x.1) (longer >>= λ l. Ok (term.Blank l.0, l.1))
    blank is x (o, (y, same)) = inr (rw (is, o) refl, ((term.Blank y.0, y.1), rw same refl, (y.0, refl)))
