-- What more text may change: behind an open literal or tag two bytes follow that no text has there, behind an open label a character and such a byte.
use Rattle.std.proofs.Common.{◌≡◌, ℕ, zero, suc, ◌+◌, ◌-◌, ◌≤◌, Bool, true, false, cond, List, [], ◌∷◌, ◌++◌, length, Option, Some, None, Result, Ok, Err, nat_eq, nat_lt, refl, sym, ap, subst, ◌∙◌, ◌⊎◌, inl, inr, ⊎_elim, arith, append_assoc, slice_index, take, drop, ◌&&◌, not}
use Rattle.std.specs.Char.{to_ascii_lowercase, encode_utf8}
use Rattle.std.specs.Str.{bytes_eq}
use Rattle.rdf_terms.specs.Datatype.{xsd_string, lang_string}
use Rattle.std.specs.List.{list_all}
use Rattle.std.proofs.lemmas.Bool.{and_parts, false≢true, eqb-true, cases_Bool}
use Rattle.std.proofs.lemmas.Bool.Decides.{nat_tests}
use Rattle.std.proofs.lemmas.List.{nil_from_length, length-append, drop_at}
use Rattle.bstr.specs.Utf8.{decoded}
use Rattle.rdf_terms.specs.Names.{is_name_char, begins_name}
use Rattle.rdf_terms.specs.declared.term.Literal.{Literal}
use Rattle.rdf_terms.specs.declared.term.Term.{Term}
use Rattle.rdf_terms.specs.declared.term.Term.TheVariants as term
use Rattle.rdf_terms.specs.declared.term.LiteralKind.{LiteralKind}
use Rattle.rdf_terms.specs.declared.term.LiteralKind.TheVariants.{Plain, Typed, Tagged}
use Rattle.nquads_text.specs.declared.fault.TextKind.TheVariants.{NotUtf8, BadLabel, BadLang, LangStringWithoutTag, BadToken, Truncated}
use Rattle.nquads_text.specs.Fault.{TextFault, TextRead, ◌>>=◌}
use Rattle.nquads_text.specs.Grammar.{is_blank}
use Rattle.nquads_text.specs.Reading.{char_at, with_front, string_piece, pieces_at}
use Rattle.nquads_text.specs.Terms.{name_step, name_len, name_at, label_at, is_tag_byte, tag_at, iri_needed, skip_blanks, kind_given, datatype_at, typed_at, suffix_at, iri_at, literal_at, term_at}
use Rattle.nquads_text.proofs.Fronts.{char_spelled, char_at-ascii}
use Rattle.nquads_text.proofs.NameRuns.{name-char, name-none}
use Rattle.nquads_text.proofs.BlankRuns.{blanks_parted, blanks_skipped}
use Rattle.nquads_text.proofs.LiteralReads.{iri_found, string_found}
use Rattle.patch_rows.specs.Cut.{TextAtEnd, ends_quoted, kind_open, literal_open, blank_open, label_open, is_front, begins_name_char}
use Rattle.patch_reader.proofs.Stays.{with_more, string_body_stays, ok_char, bad_char, good_char, rooms_same}
use Rattle.patch_reader.proofs.TokenStays.{open_behind, dot_front, IsBlank, quote_front, label_rest, label_size, label_read}
use Rattle.patch_reader.proofs.Completions.{stop, Completed, completed, front_parts}

abbrev pub stopped : {X : Type 0} → TextRead X
stopped = Err (NotUtf8, stop)

no_char : char_at stop ≡ stopped
unfolding char_at
no_char = refl

abbrev got : {X : Type 0} → X → Result X TextFault
got x = Ok x

ok_is_text : {X : Type 0} (x y : X) → got x ≡ Ok y → x ≡ y
ok_is_text x y e = cc

ok_no_fault : {X : Type 0} (x : X) (f : TextFault) → got x ≡ Err f → ⊥
ok_no_fault x f e = absurd cc

-- what was read behind a front
front_ok : (front : List ℕ) (r : TextRead (List ℕ)) (after : List ℕ) (x : List ℕ) → with_front front r ≡ Ok (x, after) → (y : List ℕ) × (r ≡ Ok (y, after))
front_ok front (Ok z) after x e = let same = ap (λ (p : List ℕ × List ℕ). p.1) (ok_is_text _ _ e) in (z.0, ap (λ (t : List ℕ). Ok (z.0, t)) same)
front_ok front (Err f) after x e = absurd (ok_no_fault _ f (sym e))

abbrev no_part : List ℕ → TextRead ℕ → TextRead (List ℕ)
no_part start r = r >>= λ c. Err (BadLang, start)

-- a tag that reaches the text's end is none before a dash and such a byte
tag_breaks : (first some : Bool) (start longer rest tag : List ℕ) → tag_at first some start rest ≡ Ok (tag, []) → tag_at first some longer (rest ++ (45 ∷ stop)) ≡ stopped
unfolding tag_at char_at
tag_breaks first true start longer [] tag e = dash first
  where
    dash : (first : Bool) → tag_at first true longer (45 ∷ stop) ≡ stopped
    dash true = refl
    dash false = refl
tag_breaks first false start longer [] tag e = absurd (ok_no_fault _ _ (sym e))
tag_breaks first some start longer (b ∷ rest) tag e =
    by (λ t e. tag_breaks first true start longer rest t e) (λ t e. tag_breaks false false start longer rest t e) (is_tag_byte first b) some (nat_eq b 45) e
  where
    no_tag : (r : TextRead ℕ) → no_part start r ≡ Ok (tag, []) → ⊥
    no_tag (Ok c) e = ok_no_fault (tag, []) (BadLang, start) (sym e)
    no_tag (Err f) e = ok_no_fault (tag, []) f (sym e)

    no_rest : b ∷ rest ≡ [] → ⊥
    no_rest e = absurd cc

    by : ((t : List ℕ) → tag_at first true start rest ≡ Ok (t, []) → tag_at first true longer (rest ++ (45 ∷ stop)) ≡ stopped)
        → ((t : List ℕ) → tag_at false false start rest ≡ Ok (t, []) → tag_at false false longer (rest ++ (45 ∷ stop)) ≡ stopped)
        → (fits had dash : Bool) → cond fits (with_front (to_ascii_lowercase b ∷ []) (tag_at first true start rest)) (cond (not had) (no_part start (char_at (b ∷ rest))) (cond dash (with_front (45 ∷ []) (tag_at false false start rest)) (Ok ([], b ∷ rest)))) ≡ Ok (tag, [])
        → cond fits (with_front (to_ascii_lowercase b ∷ []) (tag_at first true longer (rest ++ (45 ∷ stop)))) (cond (not had) (no_part longer (char_at (b ∷ (rest ++ (45 ∷ stop))))) (cond dash (with_front (45 ∷ []) (tag_at false false longer (rest ++ (45 ∷ stop)))) (Ok ([], b ∷ (rest ++ (45 ∷ stop)))))) ≡ stopped
    by goes parts true had dash e = let t = front_ok (to_ascii_lowercase b ∷ []) (tag_at first true start rest) [] tag e in rw (goes t.0 t.1) refl
    by goes parts false false dash e = absurd (no_tag (char_at (b ∷ rest)) e)
    by goes parts false true true e = let t = front_ok (45 ∷ []) (tag_at false false start rest) [] tag e in rw (parts t.0 t.1) refl
    by goes parts false true false e = absurd (no_rest (ap (λ (p : List ℕ × List ℕ). p.1) (ok_is_text ([], b ∷ rest) (tag, []) e)))

-- ---- what stands behind a string

bind_ok : {X Y : Type 0} (r : TextRead X) (f : X × List ℕ → TextRead Y) (y : Y × List ℕ) → (r >>= f) ≡ Ok y → (x : X × List ℕ) × (r ≡ Ok x) × (f x ≡ Ok y)
bind_ok (Ok x) f y e = (x, refl, e)
bind_ok (Err g) f y e = absurd (ok_no_fault y g (sym e))

-- a text that stands at the end of another one
abbrev Behind : List ℕ → List ℕ → Type 0
Behind text tail = (front : List ℕ) × (text ≡ front ++ tail)

behind_twice : (a b c : List ℕ) → Behind a b → Behind b c → Behind a c
behind_twice a b c p q = (p.0 ++ q.0, p.1 ∙ ap (λ (t : List ℕ). p.0 ++ t) q.1 ∙ sym (append_assoc p.0 q.0 c))

-- what ends in `>` ends in no quote
no_quote : (start after : List ℕ) → Behind start (62 ∷ after) → ends_quoted start after ≡ false
no_quote start after p =
    let sizes : length start ≡ length p.0 + suc (length after) = ap length p.1 ∙ length-append p.0 (62 ∷ after) in
    let at : length start - length after - 1 ≡ length p.0 = omega (arith, sizes) in
    let byte : slice_index start (length start - length after - 1) ≡ 62 =
    ap (λ (k : ℕ). slice_index start k) at ∙ ap (λ (t : List ℕ). slice_index t (length p.0)) p.1 ∙ there p.0 after in
    let no : nat_eq (slice_index start (length start - length after - 1)) 34 ≡ false = ap (λ (x : ℕ). nat_eq x 34) byte in
    by (nat_lt (length after) (length start)) (nat_eq (slice_index start (length start - length after - 1)) 34) no
  where
    there : (front after : List ℕ) → slice_index (front ++ (62 ∷ after)) (length front) ≡ 62
    there [] after = refl
    there (x ∷ front) after = there front after

    by : (x y : Bool) → y ≡ false → (x && y) ≡ false
    by true y e = e
    by false y e = refl

abbrev kind_by : List ℕ → List ℕ → List ℕ → Bool → Bool → TextRead LiteralKind
kind_by start iri after lang string = cond lang (Err (LangStringWithoutTag, start)) (cond string (Ok (Plain, after)) (Ok (Typed iri, after)))

-- behind a datatype there is `>`
kind_gives : (start iri after : List ℕ) (x : LiteralKind × List ℕ) → kind_given start iri after ≡ Ok x → (x.1 ≡ after) × ((tag : List ℕ) → x.0 ≡ Tagged tag → ⊥)
unfolding kind_given
kind_gives start iri after x e = by (bytes_eq iri lang_string) (bytes_eq iri xsd_string) e
  where
    by : (lang string : Bool) → kind_by start iri after lang string ≡ Ok x → (x.1 ≡ after) × ((tag : List ℕ) → x.0 ≡ Tagged tag → ⊥)
    by true string e = absurd (ok_no_fault x (LangStringWithoutTag, start) (sym e))
    by false true e = let same = ok_is_text (Plain, after) x e in (cc, λ tag is. let both : Plain ≡ Tagged tag = cc in absurd cc)
    by false false e = let same = ok_is_text (Typed iri, after) x e in (cc, λ tag is. let both : Typed iri ≡ Tagged tag = cc in absurd cc)

datatype_gives : (start rest : List ℕ) (x : LiteralKind × List ℕ) → datatype_at start rest ≡ Ok x → Behind rest (62 ∷ x.1) × ((tag : List ℕ) → x.0 ≡ Tagged tag → ⊥)
unfolding datatype_at
datatype_gives start rest x e =
    let h = bind_ok (char_at rest) _ x e in
    by h.0 h.1 (nat_eq h.0.0 94) h.2
  where
    by : (hat : ℕ × List ℕ) → char_at rest ≡ Ok hat → (is : Bool) → cond is (iri_needed (skip_blanks hat.1) >>= λ iri. kind_given start iri.0 iri.1) (Err (BadToken, rest)) ≡ Ok x
        → Behind rest (62 ∷ x.1) × ((tag : List ℕ) → x.0 ≡ Tagged tag → ⊥)
    by hat c false e = absurd (ok_no_fault x (BadToken, rest) (sym e))
    by hat c true e =
        let i = bind_ok (iri_needed (skip_blanks hat.1)) (λ iri. kind_given start iri.0 iri.1) x e in
        let k = kind_gives start i.0.0 i.0.1 x i.2 in
        let ref = iri_found (skip_blanks hat.1) i.0.0 i.0.1 i.1 in
        let spelled = char_spelled rest hat.0 hat.1 c in
        let blanks = blanks_parted hat.1 in
        let whole : skip_blanks hat.1 ≡ (60 ∷ ref.1.0) ++ (62 ∷ x.1) =
        ref.2 ∙ ap (λ (t : List ℕ). t ++ i.0.1) ref.1.2 ∙ append_assoc (60 ∷ ref.1.0) (62 ∷ []) i.0.1 ∙ ap (λ (t : List ℕ). (60 ∷ ref.1.0) ++ (62 ∷ t)) (sym k.0) in (
          behind_twice rest hat.1 (62 ∷ x.1) (encode_utf8 hat.0, spelled.1)
              (behind_twice hat.1 (skip_blanks hat.1) (62 ∷ x.1) (blanks.0, blanks.1) (60 ∷ ref.1.0, whole)),
          k.1,
        )

-- ---- what breaks a literal

-- with these bytes behind it the reading meets a byte with which no character begins
abbrev pub Broken : {X : Type 0} → (List ℕ → TextRead X) → Type 0
Broken longer = (bytes : List ℕ) × (2 ≤ length bytes) × (longer bytes ≡ stopped)

hat_breaks : (start text : List ℕ) → list_all is_blank text ≡ true → suffix_at start (text ++ (94 ∷ stop)) ≡ stopped
unfolding suffix_at typed_at datatype_at skip_blanks char_at
hat_breaks start [] all = refl
hat_breaks start (b ∷ rest) all =
    let p = and_parts (is_blank b) (list_all is_blank rest) all in
    let no_at : nat_eq b 64 ≡ false = blank_no_at b p.0 in
    let skipped : skip_blanks ((b ∷ rest) ++ (94 ∷ stop)) ≡ 94 ∷ stop = blanks_skipped (b ∷ rest) (94 ∷ stop) all (λ blank. false≢true blank) in
    rw no_at (ap (λ (s : List ℕ). typed_at start ((b ∷ rest) ++ (94 ∷ stop)) s) skipped)
  where
    blank_no_at : (b : ℕ) → is_blank b ≡ true → nat_eq b 64 ≡ false
    blank_no_at b e = grind (arith, nat_tests, e)

-- no datatype: nothing but blanks stands there
plain_open : (whole text : List ℕ) (x : LiteralKind × List ℕ) → got (Plain, text) ≡ Ok x → kind_open x.0 (ends_quoted whole x.1) x.1 ≡ true → list_all is_blank text ≡ true
plain_open whole text x e is =
    let t = subst (λ (y : LiteralKind × List ℕ). kind_open y.0 (ends_quoted whole y.1) y.1 ≡ true) (sym (ok_is_text (Plain, text) x e)) is in
    (and_parts (ends_quoted whole text) (list_all is_blank text) t).1

typed_open : (whole start text : List ℕ) (x : LiteralKind × List ℕ) → Behind whole text → (skipped : List ℕ) → skip_blanks text ≡ skipped → typed_at start text skipped ≡ Ok x
    → kind_open x.0 (ends_quoted whole x.1) x.1 ≡ true → list_all is_blank text ≡ true
unfolding typed_at
typed_open whole start text x front [] s e is = plain_open whole text x e is
typed_open whole start text x front (c ∷ more) s e is = ⊎_elim
    (λ hat.
    let d = datatype_gives start more x (rw hat at e) in
    let blanks = blanks_parted text in
    let behind_text = behind_twice whole text (skip_blanks text) front (blanks.0, blanks.1) in
    let behind_hat : Behind (skip_blanks text) more = (c ∷ [], s) in
    let far_behind = behind_twice whole (skip_blanks text) (62 ∷ x.1) behind_text (behind_twice (skip_blanks text) more (62 ∷ x.1) behind_hat d.0) in
    absurd (closed x.0 x.1 d.1 (no_quote whole x.1 far_behind) is))
    (λ hat. plain_open whole text x (rw hat at e) is)
    (cases_Bool (nat_eq c 94))
  where
    closed : (k : LiteralKind) (after : List ℕ) → ((tag : List ℕ) → k ≡ Tagged tag → ⊥) → ends_quoted whole after ≡ false → kind_open k (ends_quoted whole after) after ≡ true → ⊥
    closed Plain after no_tag no_end is = false≢true (sym (ap (λ (q : Bool). q && list_all is_blank after) no_end) ∙ is)
    closed (Typed iri) after no_tag no_end is = false≢true is
    closed (Tagged tag) after no_tag no_end is = no_tag tag refl

-- a suffix that more text may change: no datatype stands there, or a tag reaches the text's end
suffix_breaks : (whole start : List ℕ) (longer : List ℕ → List ℕ) (text : List ℕ) (x : LiteralKind × List ℕ) → Behind whole text → suffix_at start text ≡ Ok x → kind_open x.0 (ends_quoted whole x.1) x.1 ≡ true
    → Broken (λ bytes. suffix_at (longer bytes) (text ++ bytes))
unfolding suffix_at typed_at
suffix_breaks whole start longer [] x front e is = (94 ∷ stop, omega arith, hat_breaks (longer (94 ∷ stop)) [] refl)
suffix_breaks whole start longer (b ∷ rest) x front e is = ⊎_elim
    (λ is_at. let t = tagged (rw is_at at e) in (45 ∷ stop, omega arith, rw is_at (rw (tag_breaks true false (b ∷ rest) (b ∷ (rest ++ (45 ∷ stop))) rest t.0 t.1) refl)))
    (λ is_at. (94 ∷ stop, omega arith, hat_breaks (longer (94 ∷ stop)) (b ∷ rest) (typed_open whole start (b ∷ rest) x front (skip_blanks (b ∷ rest)) refl (rw is_at at e) is)))
    (cases_Bool (nat_eq b 64))
  where
    tagged : (tag_at true false (b ∷ rest) rest >>= λ tag. Ok (Tagged tag.0, tag.1)) ≡ Ok x → (t : List ℕ) × (tag_at true false (b ∷ rest) rest ≡ Ok (t, []))
    tagged e =
        let t = bind_ok (tag_at true false (b ∷ rest) rest) (λ tag. Ok (Tagged tag.0, tag.1)) x e in
        let same = ok_is_text (Tagged t.0.0, t.0.1) x t.2 in
        let none : nat_eq (length t.0.1) 0 ≡ true = subst (λ (y : LiteralKind × List ℕ). kind_open y.0 (ends_quoted whole y.1) y.1 ≡ true) (sym same) is in
        (t.0.0, t.1 ∙ ap (λ (s : List ℕ). Ok (t.0.0, s)) (nil_from_length t.0.1 (eqb-true (length t.0.1) 0 none)))

literal_breaks : (rest : List ℕ) (x : Literal × List ℕ) → literal_at (34 ∷ rest) rest ≡ Ok x → literal_open (34 ∷ rest) (term.Literal x.0) x.1 ≡ true
    → Broken (λ bytes. literal_at (34 ∷ (rest ++ bytes)) (rest ++ bytes))
unfolding literal_at
literal_breaks rest x e is =
    let text = bind_ok (pieces_at string_piece 0 rest) (λ t. suffix_at (34 ∷ rest) t.1 >>= λ k. Ok (record { lexical = t.0; kind = k.0 }, k.1)) x e in
    let kind = bind_ok (suffix_at (34 ∷ rest) text.0.1) (λ k. Ok (record { lexical = text.0.0; kind = k.0 }, k.1)) x text.2 in
    let same = ok_is_text (record { lexical = text.0.0; kind = kind.0.0 }, kind.0.1) x kind.2 in
    let found = string_found rest text.0.0 text.0.1 text.1 in
    let broken = suffix_breaks (34 ∷ rest) (34 ∷ rest) (λ bytes. 34 ∷ (rest ++ bytes)) text.0.1 kind.0 (found.0, found.2) kind.1
    (subst (λ (y : Literal × List ℕ). kind_open y.0.kind (ends_quoted (34 ∷ rest) y.1) y.1 ≡ true) (sym same) is) in
    (broken.0, broken.1, rw (string_again broken.0 text.0 text.1) (rw broken.2 refl))
  where
    string_again : (more : List ℕ) (t : List ℕ × List ℕ) → pieces_at string_piece 0 rest ≡ Ok t → pieces_at string_piece 0 (rest ++ more) ≡ Ok (t.0, t.1 ++ more)
    string_again more t e = ⊎_elim (λ end. absurd (subst TextAtEnd e end)) (λ same. same ∙ ap (with_more more) e) (string_body_stays more rest)

-- ---- what goes on with a label

open_front : (b : ℕ) (rest : List ℕ) → label_open (b ∷ rest) ≡ true → (nat_eq b 46 ≡ true) ⊎ (begins_name_char (b ∷ rest) ≡ true)
unfolding label_open
open_front b rest e = ⊎_elim (λ dot. inl dot) (λ dot. inr (rw dot at e)) (cases_Bool (nat_eq b 46))

dot_read : (b : ℕ) (rest : List ℕ) → nat_eq b 46 ≡ true → char_at (b ∷ rest) ≡ Ok (46, rest)
dot_read b rest e = let is : b ≡ 46 = eqb-true b 46 e in ap (λ (x : ℕ). char_at (x ∷ rest)) is ∙ char_at-ascii 46 rest (omega arith)

-- the steps on a character that was read, with these bytes behind the text
goes_by : (rest : List ℕ) (dot name : Bool) (k longer size : ℕ) → k ≤ length rest → 1 ≤ size → longer ≡ (length rest - k) + size → (dot ≡ true) ⊎ (name ≡ true)
    → cond dot (cond (nat_eq longer 0) 0 (suc k + longer)) (cond name (suc k + longer) 0) ≡ (suc (length rest) - 0) + size
goes_by rest dot name k longer size le some is which = grind (arith, nat_tests, which)

still_open : (b : ℕ) (rest : List ℕ) (dot name : Bool) (k m : ℕ) → (dot ≡ true → (b ≡ 46) × (k ≡ 0)) → (dot ≡ false → name ≡ false → label_open (b ∷ rest) ≡ true → ⊥)
    → label_open (drop (0 + cond dot (cond (nat_eq m 0) 0 (suc k + m)) (cond name (suc k + m) 0)) (b ∷ rest)) ≡ true
    → (label_open (drop (k + m) rest) ≡ true) × ((dot ≡ true) ⊎ (name ≡ true))
still_open b rest false false k m dots shut e = absurd (shut refl refl e)
still_open b rest false true k m dots shut e = (sym (open_behind b rest false true k m dots (inr refl)) ∙ e, inr refl)
still_open b rest true name k m dots shut e = (sym (open_behind b rest true name k m dots (inl refl)) ∙ e, inl refl)

is_letter : is_name_char 97 ≡ true
unfolding is_name_char
is_letter = refl

front_is_bad : (b : ℕ) (bs : List ℕ) → begins_name_char (b ∷ bs) ≡ true → (decoded (b ∷ bs)).char ≡ None
front_is_bad b bs e = (front_parts b bs (and_parts (is_front (b ∷ bs)) _ e).0).2

no_stop : (b : ℕ) (rest : List ℕ) (c : ℕ) (after : List ℕ) → char_at (b ∷ rest) ≡ Ok (c, after) → nat_eq c 46 ≡ false → is_name_char c ≡ false → label_open (b ∷ rest) ≡ true → ⊥
no_stop b rest c after is no_dot no_name e = ⊎_elim
    (λ dot. let same = ok_is_text (c, after) (46, rest) (sym is ∙ dot_read b rest dot) in let c_is = ap (λ (p : ℕ × List ℕ). p.0) same in false≢true (sym no_dot ∙ ap (λ (x : ℕ). nat_eq x 46) c_is))
    (λ begins. let f = front_is_bad b rest begins in ok_no_fault (c, after) (NotUtf8, b ∷ rest) (sym is ∙ bad_char b rest f))
    (open_front b rest e)

abbrev GoesOn : ℕ → List ℕ → Type 0
GoesOn skip rest = (bytes : List ℕ) × (1 ≤ length bytes) × (name_len skip (rest ++ (bytes ++ stop)) ≡ (length rest - skip) + length bytes)

name_goes_on : (skip : ℕ) (rest : List ℕ) → skip ≤ length rest → label_open (drop (skip + name_len skip rest) rest) ≡ true → GoesOn skip rest
unfolding name_len
name_goes_on zero [] le e = (97 ∷ [], omega arith, letter)
  where
    letter : name_len 0 (97 ∷ stop) ≡ (0 - 0) + 1
    letter = name-char (97 ∷ stop) 97 1 (omega arith) (omega arith) (char_at-ascii 97 stop (omega arith)) is_letter ∙ ap (λ (n : ℕ). 1 + n) (name-none stop (NotUtf8, stop) no_char)
name_goes_on (suc skip) [] le e = absurd (omega (arith, le))
name_goes_on (suc skip) (b ∷ rest) le e =
    let sum : suc (skip + name_len skip rest) ≡ suc skip + name_len skip rest = omega arith in
    let g = name_goes_on skip rest (omega (arith, le)) (ap (λ (n : ℕ). label_open (drop n (b ∷ rest))) sum ∙ e) in
    (g.0, g.1, g.2 ∙ omega (arith, le))
name_goes_on zero (b ∷ rest) le e = by (λ k. name_goes_on k rest) (decoded (b ∷ rest)).char refl e
  where
    by : ((k : ℕ) → k ≤ length rest → label_open (drop (k + name_len k rest) rest) ≡ true → GoesOn k rest) → (o : Option ℕ) → (decoded (b ∷ rest)).char ≡ o
        → label_open (drop (0 + name_len 0 (b ∷ rest)) (b ∷ rest)) ≡ true → GoesOn zero (b ∷ rest)
    by others None d e =
        let nothing = name-none (b ∷ rest) (NotUtf8, b ∷ rest) (bad_char b rest d) in
        let zero_is : 0 ≡ 0 + name_len 0 (b ∷ rest) = omega (arith, nothing) in
        let here : label_open (b ∷ rest) ≡ true = ap (λ (n : ℕ). label_open (drop n (b ∷ rest))) zero_is ∙ e in
        ⊎_elim
        (λ dot. absurd (ok_no_fault (46, rest) (NotUtf8, b ∷ rest) (sym (dot_read b rest dot) ∙ bad_char b rest d)))
        (λ begins. finish begins (completed b rest (and_parts (is_front (b ∷ rest)) _ begins).0))
        (open_front b rest here)
      where
        finish : begins_name_char (b ∷ rest) ≡ true → Completed (b ∷ rest) → GoesOn zero (b ∷ rest)
        finish begins c =
            let size : ℕ = length (b ∷ rest) + length c.0 in
            let whole : (b ∷ rest) ++ (c.0 ++ stop) ≡ ((b ∷ rest) ++ c.0) ++ stop = sym (append_assoc (b ∷ rest) c.0 stop) in
            let sized : size ≡ length ((b ∷ rest) ++ c.0) = sym (length-append (b ∷ rest) c.0) in
            let behind : drop size ((b ∷ rest) ++ (c.0 ++ stop)) ≡ stop = ap (drop size) whole ∙ drop_at ((b ∷ rest) ++ c.0) stop size (sym sized) in
            let l = length-append (b ∷ rest) (c.0 ++ stop) in let m = length-append c.0 stop in (
              c.0,
              c.3,
              name-char ((b ∷ rest) ++ (c.0 ++ stop)) c.1 size (omega arith) (omega (arith, l, m)) (c.2 ∙ ap (λ (t : List ℕ). Ok (c.1, t)) (sym behind)) (c.4 begins).0
                  ∙ ap (λ (n : ℕ). size + n) (ap (name_len 0) behind ∙ name-none stop (NotUtf8, stop) no_char) ∙ omega arith,
            )
    by others (Some c) d e = spelled c (drop (decoded (b ∷ rest)).size (b ∷ rest)) (good_char b rest c d)
      where
        spelled : (c : ℕ) (after : List ℕ) → char_at (b ∷ rest) ≡ Ok (c, after) → GoesOn zero (b ∷ rest)
        spelled c after is =
            let k : ℕ = length rest - length after in
            let one : name_len 0 (b ∷ rest) ≡ name_step (Ok (c, after)) (length rest) (λ k. name_len k rest) = ap (λ (r : TextRead ℕ). name_step r (length rest) (λ k. name_len k rest)) is in
            let dots : nat_eq c 46 ≡ true → (b ≡ 46) × (k ≡ 0) = λ dot. let f = dot_front b rest c after is dot in let same = ap length f.1 in (f.0, omega (arith, same)) in
            let o = still_open b rest (nat_eq c 46) (is_name_char c) k (name_len k rest) dots (no_stop b rest c after is) (ap (λ (n : ℕ). label_open (drop (0 + n) (b ∷ rest))) (sym one) ∙ e) in
            let g = others k (omega arith) o.0 in
            let more : List ℕ = g.0 ++ stop in
            let longer : char_at ((b ∷ rest) ++ more) ≡ Ok (c, after ++ more) = ok_char (b ∷ rest) c after more is in
            let two : name_len 0 ((b ∷ rest) ++ more) ≡ name_step (Ok (c, after ++ more)) (length (rest ++ more)) (λ k. name_len k (rest ++ more)) = ap (λ (r : TextRead ℕ). name_step r (length (rest ++ more)) (λ k. name_len k (rest ++ more))) longer in (
              g.0,
              g.1,
              two
                  ∙ ap (λ (j : ℕ). cond (nat_eq c 46) (cond (nat_eq (name_len j (rest ++ more)) 0) 0 (suc j + name_len j (rest ++ more))) (cond (is_name_char c) (suc j + name_len j (rest ++ more)) 0)) (rooms_same rest after more)
                  ∙ goes_by rest (nat_eq c 46) (is_name_char c) k (name_len k (rest ++ more)) (length g.0) (omega arith) g.1 g.2 o.1,
            )

-- with these bytes behind it another label is read, up to a byte with which no character begins
abbrev pub Longer : (List ℕ → TextRead (List ℕ)) → Type 0
Longer longer = (bytes : List ℕ) × (2 ≤ length bytes) × ((label : List ℕ) × (longer bytes ≡ Ok (label, stop)))

name_breaks : (start : List ℕ) (longer : List ℕ → List ℕ) (rest : List ℕ) (x : List ℕ × List ℕ) → name_at start rest ≡ Ok x → label_open x.1 ≡ true → Longer (λ bytes. name_at (longer bytes) (rest ++ bytes))
unfolding name_at
name_breaks start longer rest x e is =
    let first = bind_ok (char_at rest) _ x e in
    by first.0 first.1 (begins_name first.0.0) refl first.2
  where
    no_label : (k : ℕ × List ℕ) → cond {A = TextRead (List ℕ)} false (label_read rest (label_size rest k)) (Err (BadLabel, start)) ≡ Ok x → ⊥
    no_label k e = ok_no_fault x (BadLabel, start) (sym e)

    by : (first : ℕ × List ℕ) → char_at rest ≡ Ok first → (begins : Bool) → begins_name first.0 ≡ begins → cond begins (label_read rest (label_size rest first)) (Err (BadLabel, start)) ≡ Ok x
        → Longer (λ bytes. name_at (longer bytes) (rest ++ bytes))
    by first c false b e = absurd (no_label first e)
    by first c true b e =
        let same = ok_is_text (take (label_size rest first) rest, drop (label_size rest first) rest) x e in
        let s = char_spelled rest first.0 first.1 c in
        let none : 0 + name_len 0 first.1 ≡ name_len 0 first.1 = omega arith in
        let open_there : label_open (drop (0 + name_len 0 first.1) first.1) ≡ true =
        ap (λ (n : ℕ). label_open (drop n first.1)) none ∙ ap label_open (sym (label_rest rest first c)) ∙ subst (λ (y : List ℕ × List ℕ). label_open y.1 ≡ true) (sym same) is in
        let g = name_goes_on 0 first.1 (omega arith) open_there in
        let bytes : List ℕ = g.0 ++ stop in
        let again : char_at (rest ++ bytes) ≡ Ok (first.0, first.1 ++ bytes) = ok_char rest first.0 first.1 bytes c in
        let shorter : length first.1 ≤ length rest = let l = ap length s.1 in let m = length-append (encode_utf8 first.0) first.1 in omega (arith, l, m) in
        let rooms = rooms_same rest first.1 bytes in
        let size : label_size (rest ++ bytes) (first.0, first.1 ++ bytes) ≡ length rest + length g.0 = let goes = g.2 in omega (arith, goes, rooms, shorter) in
        let whole : rest ++ bytes ≡ (rest ++ g.0) ++ stop = sym (append_assoc rest g.0 stop) in
        let behind : drop (label_size (rest ++ bytes) (first.0, first.1 ++ bytes)) (rest ++ bytes) ≡ stop =
        ap (λ (n : ℕ). drop n (rest ++ bytes)) size ∙ ap (drop (length rest + length g.0)) whole ∙ drop_at (rest ++ g.0) stop (length rest + length g.0) (length-append rest g.0) in
        let l = length-append g.0 stop in let some = g.1 in (
          bytes,
          omega (arith, l, some),
          (
            take (label_size (rest ++ bytes) (first.0, first.1 ++ bytes)) (rest ++ bytes),
            rw (again, b) (ap (λ (t : List ℕ). Ok (take (label_size (rest ++ bytes) (first.0, first.1 ++ bytes)) (rest ++ bytes), t)) behind),
          ),
        )

label_breaks : (start : List ℕ) (longer : List ℕ → List ℕ) (rest : List ℕ) (x : List ℕ × List ℕ) → label_at start rest ≡ Ok x → label_open x.1 ≡ true → Longer (λ bytes. label_at (longer bytes) (rest ++ bytes))
unfolding label_at
label_breaks start longer rest x e is =
    let colon = bind_ok (char_at rest) _ x e in ⊎_elim
    (λ there.
    let n = name_breaks start longer colon.0.1 x (rw there at colon.2) is in
    let again : char_at (rest ++ n.0) ≡ Ok (colon.0.0, colon.0.1 ++ n.0) = ok_char rest colon.0.0 colon.0.1 n.0 colon.1 in
    (n.0, n.1, (n.2.0, rw (again, there) n.2.1)))
    (λ there. absurd (ok_no_fault x (BadLabel, start) (sym (rw there at colon.2))))
    (cases_Bool (nat_eq colon.0.0 58))

-- ---- terms

-- what more text does to a literal or a label that is open
pub data TermBreaks {F : Type 0} (stopped : F) (t : Term) (longer : List ℕ → Result (Term × List ℕ) F) : Type 0 where
  broken : (bytes : List ℕ) → 2 ≤ length bytes → longer bytes ≡ Err stopped → TermBreaks stopped t longer
  gone_on : (bytes : List ℕ) → 2 ≤ length bytes → (label : List ℕ) → longer bytes ≡ Ok (term.Blank label, stop) → IsBlank t → TermBreaks stopped t longer

abbrev pub IsOpen : List ℕ → Term × List ℕ → Type 0
IsOpen start x = (literal_open start x.0 x.1 ≡ true) ⊎ (blank_open start x.0 x.1 ≡ true)

no_iri : (start iri after : List ℕ) → IsOpen start (term.Iri iri, after) → ⊥
no_iri start iri after (inl e) = false≢true e
no_iri start iri after (inr e) = false≢true e

abbrev iri_term : TextRead (List ℕ) → TextRead Term
iri_term r = r >>= λ iri. Ok (term.Iri iri.0, iri.1)

abbrev blank_term : TextRead (List ℕ) → TextRead Term
blank_term r = r >>= λ label. Ok (term.Blank label.0, label.1)

abbrev literal_term : TextRead Literal → TextRead Term
literal_term r = r >>= λ literal. Ok (term.Literal literal.0, literal.1)

pub term_breaks : (rest : List ℕ) (x : Term × List ℕ) → term_at rest ≡ Ok x → IsOpen rest x → TermBreaks (NotUtf8, stop) x.0 (λ bytes. term_at (rest ++ bytes))
unfolding term_at char_at
term_breaks [] x e is = absurd (ok_no_fault x (Truncated, []) (sym e))
term_breaks (b ∷ bs) x e is =
    let c = bind_ok (char_at (b ∷ bs)) _ x e in
    by c.0 c.1 (nat_eq c.0.0 60) (nat_eq c.0.0 95) (nat_eq c.0.0 34) refl refl refl c.2
  where
    ok_again : (c : ℕ × List ℕ) (more : List ℕ) → char_at (b ∷ bs) ≡ Ok c → char_at (b ∷ (bs ++ more)) ≡ Ok (c.0, c.1 ++ more)
    ok_again c more e = ok_char (b ∷ bs) c.0 c.1 more e

    by : (c : ℕ × List ℕ) → char_at (b ∷ bs) ≡ Ok c → (less line quote : Bool) → nat_eq c.0 60 ≡ less → nat_eq c.0 95 ≡ line → nat_eq c.0 34 ≡ quote
        → cond less (iri_term (iri_at (b ∷ bs) c.1)) (cond line (blank_term (label_at (b ∷ bs) c.1)) (cond quote (literal_term (literal_at (b ∷ bs) c.1)) (Err (BadToken, b ∷ bs)))) ≡ Ok x
        → TermBreaks (NotUtf8, stop) x.0 (λ bytes. term_at ((b ∷ bs) ++ bytes))
    by c read true line quote l n q e =
        let i = bind_ok (iri_at (b ∷ bs) c.1) (λ iri. Ok (term.Iri iri.0, iri.1)) x e in
        absurd (no_iri (b ∷ bs) i.0.0 i.0.1 (subst (IsOpen (b ∷ bs)) (sym (ok_is_text (term.Iri i.0.0, i.0.1) x i.2)) is))
    by c read false true quote l n q e =
        let i = bind_ok (label_at (b ∷ bs) c.1) (λ label. Ok (term.Blank label.0, label.1)) x e in
        let still = label_still i.0.0 i.0.1 (subst (IsOpen (b ∷ bs)) (sym (ok_is_text (term.Blank i.0.0, i.0.1) x i.2)) is) in
        let g = label_breaks (b ∷ bs) (λ bytes. b ∷ (bs ++ bytes)) c.1 i.0 i.1 still in
        TermBreaks.gone_on g.0 g.1 g.2.0 (rw (ok_again c g.0 read, l, n) (rw g.2.1 refl)) (i.0.0, ap (λ (y : Term × List ℕ). y.0) (sym (ok_is_text (term.Blank i.0.0, i.0.1) x i.2)))
      where
        label_still : (label after : List ℕ) → IsOpen (b ∷ bs) (term.Blank label, after) → label_open after ≡ true
        label_still label after (inl e) = absurd (false≢true e)
        label_still label after (inr e) = (and_parts (nat_eq b 95) (label_open after) e).1
    by c read false false true l n q e =
        let i = bind_ok (literal_at (b ∷ bs) c.1) (λ literal. Ok (term.Literal literal.0, literal.1)) x e in
        let f = quote_front b bs c.0 c.1 read q in
        let still = literal_still i.0.0 i.0.1 (subst (IsOpen (b ∷ bs)) (sym (ok_is_text (term.Literal i.0.0, i.0.1) x i.2)) is) in
        let g = literal_breaks bs i.0 (ap (λ (t : List ℕ). literal_at (34 ∷ bs) t) f.1 ∙ ap (λ (k : ℕ). literal_at (k ∷ bs) c.1) (sym f.0) ∙ i.1) (ap (λ (k : ℕ). literal_open (k ∷ bs) (term.Literal i.0.0) i.0.1) (sym f.0) ∙ still) in
        let there : literal_at (b ∷ (bs ++ g.0)) (c.1 ++ g.0) ≡ stopped = ap (λ (k : ℕ). literal_at (k ∷ (bs ++ g.0)) (c.1 ++ g.0)) f.0 ∙ ap (λ (t : List ℕ). literal_at (34 ∷ (bs ++ g.0)) (t ++ g.0)) (sym f.1) ∙ g.2 in
        TermBreaks.broken g.0 g.1 (rw (ok_again c g.0 read, l, n, q) (rw there refl))
      where
        literal_still : (literal : Literal) (after : List ℕ) → IsOpen (b ∷ bs) (term.Literal literal, after) → literal_open (b ∷ bs) (term.Literal literal) after ≡ true
        literal_still literal after (inl e) = e
        literal_still literal after (inr e) = absurd (false≢true e)
    by c read false false false l n q e = absurd (ok_no_fault x (BadToken, b ∷ bs) (sym e))
