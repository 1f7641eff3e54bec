-- A language tag is read exactly where the grammar has one, and its fault is met exactly where the table has one.
use Rattle.std.proofs.Common.{◌≡◌, ℕ, ◌<◌, ◌≤◌, Bool, true, false, cond, ◌||◌, List, [], ◌∷◌, ◌++◌, length, take, Ok, Err, nat_eq, refl, sym, ap, subst, ◌∙◌, inl, inr, ⊎_elim, arith, append_assoc}
use Rattle.std.specs.List.{list_all}
use Rattle.std.specs.Char.{is_ascii_alphabetic, is_ascii_alphanumeric, to_ascii_lowercase}
use Rattle.std.proofs.lemmas.Bool.{eqb-true, and_parts, cases_lt, false≢true}
use Rattle.std.proofs.lemmas.Bool.Decides.{nat_tests}
use Rattle.std.proofs.lemmas.List.{map-append, length-map, length-append, append-nil, take_at}
use Rattle.std.proofs.lemmas.List.Folds.{list_all-append}
use Rattle.rdf_terms.specs.Tag.{IsWord, AreWords, TagForm, lower}
use Rattle.nquads_text.specs.declared.fault.TextKind.TheVariants.{Truncated, BadLang}
use Rattle.nquads_text.specs.Fault.{TextFault, TextRead, ◌>>=◌}
use Rattle.nquads_text.specs.Reading.{char_at, with_front}
use Rattle.nquads_text.specs.Terms.{tag_at, is_tag_byte}
use Rattle.nquads_text.specs.Grammar.{CharAt, StartsWith, Longest, LangTag}
use Rattle.nquads_text.specs.Faults.{NoCharacter, Lacks, TagFault}
use Rattle.nquads_text.proofs.Fronts.{char_at-ascii, char_spelled}
use Rattle.nquads_text.proofs.Steps.{bind_ok, bind_err, chosen, ok_is, not_both, err_is}
use Rattle.nquads_text.proofs.Plain.{with_nothing}
use Rattle.nquads_text.proofs.Runs.{with_front-twice}
use Rattle.nquads_text.proofs.Inside.{low_char}
use Rattle.rdf_terms.proofs.Tags.{dashed}
use Rattle.nquads_text.proofs.TagLaws.{tag_found}
use Rattle.nquads_text.proofs.Needed.{char_fault, no_character, char_stands}

-- ---- words are read whatever follows

nothing_there : 0 < 0 → ⊥
nothing_there lt = omega arith

letters_read : (first : Bool) (start word more : List ℕ) → list_all (is_tag_byte first) word ≡ true → tag_at first true start (word ++ more) ≡ with_front (lower word) (tag_at first true start more)
unfolding tag_at
letters_read first start [] more e = with_nothing (tag_at first true start more)
letters_read first start (b ∷ word) more e =
    let p = and_parts (is_tag_byte first b) (list_all (is_tag_byte first) word) e in
    rw p.0 (ap (with_front (to_ascii_lowercase b ∷ [])) (letters_read first start word more p.1) ∙ with_front-twice (to_ascii_lowercase b ∷ []) (lower word) (tag_at first true start more))

word_read : (first some : Bool) (start word more : List ℕ) → IsWord (is_tag_byte first) word → tag_at first some start (word ++ more) ≡ with_front (lower word) (tag_at first true start more)
unfolding tag_at
word_read first some start [] more w = absurd (nothing_there w.0)
word_read first some start (b ∷ word) more w =
    let p = and_parts (is_tag_byte first b) (list_all (is_tag_byte first) word) w.1 in
    rw p.0 (ap (with_front (to_ascii_lowercase b ∷ [])) (letters_read first start word more p.1) ∙ with_front-twice (to_ascii_lowercase b ∷ []) (lower word) (tag_at first true start more))

dash_none : (first : Bool) → is_tag_byte first 45 ≡ false
dash_none true = refl
dash_none false = refl

dash_read : (first : Bool) (start more : List ℕ) → tag_at first true start (45 ∷ more) ≡ with_front (45 ∷ []) (tag_at false false start more)
unfolding tag_at
dash_read first start more = rw (dash_none first) refl

-- whether the last word is the first, of letters alone
abbrev alone : Bool → List (List ℕ) → Bool
alone first [] = first
alone first (part ∷ parts) = false

alone_false : (parts : List (List ℕ)) → alone false parts ≡ false
alone_false [] = refl
alone_false (part ∷ parts) = refl

parts_read : (first : Bool) (start : List ℕ) (parts : List (List ℕ)) (more : List ℕ) → AreWords is_ascii_alphanumeric parts
    → tag_at first true start (dashed parts ++ more) ≡ with_front (lower (dashed parts)) (tag_at (alone first parts) true start more)
parts_read first start [] more w = with_nothing (tag_at first true start more)
parts_read first start (part ∷ parts) more w =
    let left : List ℕ = dashed parts ++ more in
    let end : TextRead (List ℕ) = tag_at false true start more in
    dash_read first start ((part ++ dashed parts) ++ more)
    ∙ ap (λ (t : List ℕ). with_front (45 ∷ []) (tag_at false false start t)) (append_assoc part (dashed parts) more)
    ∙ ap (with_front (45 ∷ [])) (word_read false false start part left w.0 ∙ ap (with_front (lower part)) (parts_read false start parts more w.1 ∙ ap (λ (k : Bool). with_front (lower (dashed parts)) (tag_at k true start more)) (alone_false parts)) ∙ with_front-twice (lower part) (lower (dashed parts)) end)
    ∙ with_front-twice (45 ∷ []) (lower part ++ lower (dashed parts)) end
    ∙ ap (λ (t : List ℕ). with_front (45 ∷ t) end) (sym (map-append to_ascii_lowercase part (dashed parts)))

pub tag_front : (start tag more : List ℕ) (t : TagForm tag) → tag_at true false start (tag ++ more) ≡ with_front (lower tag) (tag_at (alone true t.1) true start more)
tag_front start tag more t =
    let first = t.0 in let parts = t.1 in
    let end : TextRead (List ℕ) = tag_at (alone true parts) true start more in
    ap (λ (s : List ℕ). tag_at true false start (s ++ more)) t.4
    ∙ ap (tag_at true false start) (append_assoc first (dashed parts) more)
    ∙ word_read true false start first (dashed parts ++ more) t.2
    ∙ ap (with_front (lower first)) (parts_read true start parts more t.3)
    ∙ with_front-twice (lower first) (lower (dashed parts)) end
    ∙ ap (λ (s : List ℕ). with_front s end) (sym (map-append to_ascii_lowercase first (dashed parts)) ∙ ap lower (sym t.4))

-- ---- a byte that fits goes on with a tag

longer_word : (test : ℕ → Bool) (word : List ℕ) (b : ℕ) → IsWord test word → test b ≡ true → IsWord test (word ++ b ∷ [])
longer_word test word b w fits = (omega (arith, length-append word (b ∷ [])), list_all-append test word (b ∷ []) ∙ rw (w.1, fits) refl)

longer_parts : (part : List ℕ) (parts : List (List ℕ)) (b : ℕ) → AreWords is_ascii_alphanumeric (part ∷ parts) → is_ascii_alphanumeric b ≡ true
    → (more : List (List ℕ)) × AreWords is_ascii_alphanumeric more × (dashed more ≡ dashed (part ∷ parts) ++ b ∷ [])
longer_parts part [] b w fits = (
  (part ++ b ∷ []) ∷ [],
  (longer_word is_ascii_alphanumeric part b w.0 fits, tt),
  ap (λ (t : List ℕ). 45 ∷ t) (append-nil (part ++ b ∷ [])) ∙ ap (λ (t : List ℕ). 45 ∷ (t ++ b ∷ [])) (sym (append-nil part)),
)
longer_parts part (next ∷ parts) b w fits =
    let o = longer_parts next parts b w.1 fits in
    (part ∷ o.0, (w.0, o.1), ap (λ (t : List ℕ). (45 ∷ part) ++ t) o.2 ∙ sym (append_assoc (45 ∷ part) (dashed (next ∷ parts)) (b ∷ [])))

longer_tag : (tag : List ℕ) (b : ℕ) (first : List ℕ) (parts : List (List ℕ)) → IsWord is_ascii_alphabetic first → AreWords is_ascii_alphanumeric parts → tag ≡ first ++ dashed parts
    → is_tag_byte (alone true parts) b ≡ true → TagForm (tag ++ b ∷ [])
longer_tag tag b first [] w others e fits =
    (first ++ b ∷ [], [], longer_word is_ascii_alphabetic first b w fits, tt, ap (λ (t : List ℕ). t ++ b ∷ []) (e ∙ append-nil first) ∙ sym (append-nil (first ++ b ∷ [])))
longer_tag tag b first (part ∷ parts) w others e fits =
    let o = longer_parts part parts b others fits in
    (first, o.0, w, o.1, ap (λ (t : List ℕ). t ++ b ∷ []) e ∙ append_assoc first (dashed (part ∷ parts)) (b ∷ []) ∙ ap (λ (t : List ℕ). first ++ t) (sym o.2))

one_longer : (tag : List ℕ) (b : ℕ) → length (tag ++ b ∷ []) ≤ length tag → ⊥
one_longer tag b le = omega (arith, length-append tag (b ∷ []))

tag_stops : (start behind tag after : List ℕ) (l : Longest TagForm behind tag after) → (StartsWith (λ b. nat_eq b 45) after → ⊥) → tag_at (alone true l.0.1) true start after ≡ Ok ([], after)
unfolding tag_at
tag_stops start behind tag [] l no_dash = refl
tag_stops start behind tag (b ∷ rest) l no_dash = by (is_tag_byte (alone true l.0.1) b) (nat_eq b 45) refl refl
  where
    by : (fits dash : Bool) → is_tag_byte (alone true l.0.1) b ≡ fits → nat_eq b 45 ≡ dash → tag_at (alone true l.0.1) true start (b ∷ rest) ≡ Ok ([], b ∷ rest)
    by true dash e d = absurd (one_longer tag b (l.2 (tag ++ b ∷ []) rest (longer_tag tag b l.0.0 l.0.1 l.0.2 l.0.3 l.0.4 e) (l.1 ∙ sym (append_assoc tag (b ∷ []) rest))))
    by false true e d = absurd (no_dash d)
    by false false e d = rw (e, d) refl

pub tag_is_read : (start behind tag after : List ℕ) → Longest TagForm behind tag after → (StartsWith (λ b. nat_eq b 45) after → ⊥) → tag_at true false start behind ≡ Ok (lower tag, after)
tag_is_read start behind tag after l no_dash =
    ap (tag_at true false start) l.1
    ∙ tag_front start tag after l.0
    ∙ ap (with_front (lower tag)) (tag_stops start behind tag after l no_dash)
    ∙ ap (λ (t : List ℕ). Ok (t, after)) (append-nil (lower tag))

pub lang_tag_is_read : (rest tag after : List ℕ) → LangTag (64 ∷ rest) tag after → tag_at true false (64 ∷ rest) rest ≡ Ok (lower tag, after)
lang_tag_is_read rest tag after t =
    let opened = t.1 in
    let same : rest ≡ t.0 = cc in
    ap (tag_at true false (64 ∷ rest)) same ∙ tag_is_read (64 ∷ rest) t.0 tag after t.2 t.3

-- ---- what is read is the longest tag

front_short : (front : List ℕ) (read : TextRead (List ℕ)) (y : List ℕ × List ℕ) → with_front front read ≡ Ok y → length front ≤ length y.0
front_short front read y e =
    let p = bind_ok read (λ (x : List ℕ × List ℕ). Ok (front ++ x.0, x.1)) y e in
    let l : length (front ++ p.0.0) ≡ length y.0 = ap (λ (v : List ℕ × List ℕ). length v.0) (ok_is (front ++ p.0.0, p.0.1) y p.2) in
    omega (arith, length-append front p.0.0)

lower_length : (tag : List ℕ) → length (lower tag) ≡ length tag
lower_length tag = length-map tag to_ascii_lowercase

pub tag_is_longest : (start rest value after : List ℕ) → tag_at true false start rest ≡ Ok (value, after) → (tag : List ℕ) × LangTag (64 ∷ rest) tag after × (value ≡ lower tag)
tag_is_longest start rest value after e =
    let f = tag_found start rest value after e in
    let tag = f.0 in
    let size : length value ≡ length tag = ap length f.3 ∙ lower_length tag in (
      tag,
      (
        rest,
        refl,
        (
          f.1,
          f.2,
          λ longer more form parts.
              let le = front_short (lower longer) (tag_at (alone true form.1) true start more) (value, after) (sym (tag_front start longer more form) ∙ ap (tag_at true false start) (sym parts) ∙ e) in
              omega (arith, le, size, lower_length longer),
        ),
        no_dash after f.2,
      ),
      f.3,
    )
  where
    no_dash : (after' : List ℕ) → rest ≡ (tag_found start rest value after e).0 ++ after' → StartsWith (λ b. nat_eq b 45) after' → ⊥
    no_dash [] parts s = s
    no_dash (b ∷ more) parts s =
        let f = tag_found start rest value after e in
        let tag = f.0 in
        let size : length value ≡ length tag = ap length f.3 ∙ lower_length tag in
        let k = alone true f.1.1 in
        let is : b ≡ 45 = eqb-true b 45 s in
        let read : with_front (lower tag ++ 45 ∷ []) (tag_at false false start more) ≡ Ok (value, after) =
        sym (with_front-twice (lower tag) (45 ∷ []) (tag_at false false start more))
        ∙ ap (with_front (lower tag)) (sym (dash_read k start more))
        ∙ ap (λ (d : ℕ). with_front (lower tag) (tag_at k true start (d ∷ more))) (sym is)
        ∙ sym (tag_front start tag (b ∷ more) f.1)
        ∙ ap (tag_at true false start) (sym parts) ∙ e in
        let le = front_short (lower tag ++ 45 ∷ []) (tag_at false false start more) (value, after) read in
        omega (arith, le, size, lower_length tag, length-append (lower tag) (45 ∷ []))

-- what follows a tag and is no letter, digit or dash ends it
stop_here : (first : Bool) (b : ℕ) → (is_ascii_alphanumeric b || nat_eq b 45) ≡ false → (is_tag_byte first b ≡ false) × (nat_eq b 45 ≡ false)
stop_here true b e = (grind (arith, nat_tests), grind (arith, nat_tests))
stop_here false b e = (grind (arith, nat_tests), grind (arith, nat_tests))

ended_here : (first : Bool) (start rest : List ℕ) → (StartsWith (λ b. is_ascii_alphanumeric b || nat_eq b 45) rest → ⊥) → tag_at first true start rest ≡ Ok ([], rest)
unfolding tag_at
ended_here first start [] ends = refl
ended_here first start (b ∷ rest) ends = by (is_ascii_alphanumeric b || nat_eq b 45) refl
  where
    by : (more : Bool) → (is_ascii_alphanumeric b || nat_eq b 45) ≡ more → tag_at first true start (b ∷ rest) ≡ Ok ([], b ∷ rest)
    by true e = absurd (ends e)
    by false e = let t = stop_here first b e in rw (t.0, t.1) refl

pub tag_ended : (tag rest : List ℕ) → TagForm tag → (StartsWith (λ b. is_ascii_alphanumeric b || nat_eq b 45) rest → ⊥) → LangTag (64 ∷ (tag ++ rest)) tag rest
tag_ended tag rest form ends =
    let start : List ℕ = 64 ∷ (tag ++ rest) in
    let read : tag_at true false start (tag ++ rest) ≡ Ok (lower tag, rest) =
    tag_front start tag rest form ∙ ap (with_front (lower tag)) (ended_here (alone true form.1) start rest ends) ∙ ap (λ (t : List ℕ). Ok (t, rest)) (append-nil (lower tag)) in
    let l = tag_is_longest start (tag ++ rest) (lower tag) rest read in
    let size : length l.0 ≡ length tag = sym (lower_length l.0) ∙ sym (ap length l.2) ∙ lower_length tag in
    let opened = l.1.1 in
    let whole : tag ++ rest ≡ l.1.0 = cc in
    let same : l.0 ≡ tag =
    sym (take_at l.0 rest (length tag) size) ∙ ap (take (length tag)) (sym l.1.2.1 ∙ sym whole) ∙ take_at tag rest (length tag) refl in
    subst (λ (t : List ℕ). LangTag (64 ∷ (tag ++ rest)) t rest) same l.1

-- ---- the fault

long_letter : (c : ℕ) → 128 ≤ c → is_ascii_alphabetic c ≡ false
long_letter c le = grind (arith, nat_tests)

low_letter : (c : ℕ) → is_ascii_alphabetic c ≡ true → c < 128
low_letter c e = grind (arith, nat_tests)

low_sign : (c : ℕ) → is_ascii_alphanumeric c ≡ true → c < 128
low_sign c e = grind (arith, nat_tests)

long_sign : (c : ℕ) → 128 ≤ c → is_ascii_alphanumeric c ≡ false
long_sign c le = grind (arith, nat_tests)

abbrev failure : TextFault → TextRead (List ℕ)
failure g = Err g

-- whether a byte or a character of a word stands there is the same
char_fits : (first : Bool) (b : ℕ) (rest : List ℕ) (x : ℕ × List ℕ) → char_at (b ∷ rest) ≡ Ok x → is_tag_byte first b ≡ false → is_tag_byte first x.0 ≡ false
char_fits first b rest x read no_byte =
    elim (cases_lt x.0 128) [
      | inl low ↦
          let shape : b ∷ rest ≡ x.0 ∷ x.1 = low_char (b ∷ rest) x x.0 read refl low in
          let same : b ≡ x.0 = cc in
          subst (λ (c : ℕ). is_tag_byte first c ≡ false) same no_byte
      | inr high ↦ long_none first x.0 high
    ]
  where
    long_none : (first : Bool) (c : ℕ) → 128 ≤ c → is_tag_byte first c ≡ false
    long_none true c le = long_letter c le
    long_none false c le = long_sign c le

-- where the rest of a tag stops
data TagStops (first some : Bool) (start rest : List ℕ) (f : TextFault) : Type 0 where
  at_once : some ≡ false → Lacks (is_tag_byte first) rest (BadLang, start) f → TagStops first some start rest f
  behind_dash : (word after : List ℕ) (parts : List (List ℕ)) → rest ≡ (word ++ dashed parts) ++ 45 ∷ after → list_all (is_tag_byte first) word ≡ true → (some ≡ false → 0 < length word)
      → AreWords is_ascii_alphanumeric parts → Lacks is_ascii_alphanumeric after (BadLang, start) f → TagStops first some start rest f

fine_end : (start : List ℕ) (f : TextFault) (first : Bool) → tag_at first true start [] ≡ Err f → ⊥
unfolding tag_at
fine_end start f first e = not_both ([], []) f e

inner_fault : (front : List ℕ) (read : TextRead (List ℕ)) (f : TextFault) → with_front front read ≡ Err f → read ≡ Err f
inner_fault front (Ok x) f e = absurd (not_both (front ++ x.0, x.1) f e)
inner_fault front (Err g) f e = ap failure (err_is g f (same g f e))
  where
    same : (g f : TextFault) → with_front front (Err g) ≡ Err f → failure g ≡ Err f
    same g f e = e

with_letter : (first some : Bool) (start : List ℕ) (b : ℕ) (rest : List ℕ) (f : TextFault) → is_tag_byte first b ≡ true → TagStops first true start rest f → TagStops first some start (b ∷ rest) f
with_letter first some start b rest f fits (TagStops.at_once bad l) = absurd (false≢true (sym bad))
with_letter first some start b rest f fits (TagStops.behind_dash word after parts shape letters enough others l) =
    TagStops.behind_dash (b ∷ word) after parts (ap (λ (t : List ℕ). b ∷ t) shape) (rw (fits, letters) refl) (λ _. omega arith) others l

with_dash : (first some : Bool) (start : List ℕ) (b : ℕ) (rest : List ℕ) (f : TextFault) → some ≡ true → b ≡ 45 → TagStops false false start rest f → TagStops first some start (b ∷ rest) f
with_dash first some start b rest f is_some dash (TagStops.at_once none l) =
    TagStops.behind_dash [] rest [] (ap (λ (d : ℕ). d ∷ rest) dash) refl (λ none. absurd (false≢true (sym none ∙ is_some))) tt l
with_dash first some start b rest f is_some dash (TagStops.behind_dash word after parts shape letters enough others l) =
    TagStops.behind_dash [] after (word ∷ parts) (ap (λ (t : List ℕ). b ∷ t) shape ∙ ap (λ (d : ℕ). d ∷ ((word ++ dashed parts) ++ 45 ∷ after)) dash) refl
    (λ none. absurd (false≢true (sym none ∙ is_some))) ((enough refl, letters), others) l

no_letter_there : (first : Bool) (start : List ℕ) (b : ℕ) (rest : List ℕ) (f : TextFault) → is_tag_byte first b ≡ false → (char_at (b ∷ rest) >>= λ (c : ℕ × List ℕ). failure (BadLang, start)) ≡ Err f → TagStops first false start (b ∷ rest) f
no_letter_there first start b rest f no_byte e =
    TagStops.at_once refl (⊎_elim
    (λ none. Lacks.nothing (char_fault (b ∷ rest) f none))
    (λ there. Lacks.another there.0.0 there.0.1 (char_spelled (b ∷ rest) there.0.0 there.0.1 there.1) (char_fits first b rest there.0 there.1 no_byte) (sym (err_is (BadLang, start) f there.2)))
    (bind_err (char_at (b ∷ rest)) (λ (c : ℕ × List ℕ). Err (BadLang, start)) f e))

tag_fault_by : (first some : Bool) (start rest : List ℕ) (f : TextFault) → tag_at first some start rest ≡ Err f → TagStops first some start rest f
unfolding tag_at
tag_fault_by first true start [] f e = absurd (fine_end start f first e)
tag_fault_by first false start [] f e = TagStops.at_once refl (Lacks.nothing (NoCharacter.ends refl (sym (err_is (Truncated, []) f e))))
tag_fault_by first true start (b ∷ rest) f e =
    ⊎_elim
    (λ letter. with_letter first true start b rest f letter.0 (tag_fault_by first true start rest f (inner_fault (to_ascii_lowercase b ∷ []) (tag_at first true start rest) f letter.1)))
    (λ other. ⊎_elim
    (λ dash. with_dash first true start b rest f refl (eqb-true b 45 dash.0) (tag_fault_by false false start rest f (inner_fault (45 ∷ []) (tag_at false false start rest) f dash.1)))
    (λ stop. absurd (not_both ([], b ∷ rest) f stop.1))
    (chosen (nat_eq b 45) (with_front (45 ∷ []) (tag_at false false start rest)) (Ok ([], b ∷ rest)) (Err f) other.1))
    (chosen (is_tag_byte first b) (with_front (to_ascii_lowercase b ∷ []) (tag_at first true start rest)) (cond (nat_eq b 45) (with_front (45 ∷ []) (tag_at false false start rest)) (Ok ([], b ∷ rest))) (Err f) e)
tag_fault_by first false start (b ∷ rest) f e =
    ⊎_elim
    (λ letter. with_letter first false start b rest f letter.0 (tag_fault_by first true start rest f (inner_fault (to_ascii_lowercase b ∷ []) (tag_at first true start rest) f letter.1)))
    (λ other. no_letter_there first start b rest f other.0 other.1)
    (chosen (is_tag_byte first b) (with_front (to_ascii_lowercase b ∷ []) (tag_at first true start rest)) (char_at (b ∷ rest) >>= λ (c : ℕ × List ℕ). Err (BadLang, start)) (Err f) e)

pub tag_fault : (rest : List ℕ) (f : TextFault) → tag_at true false (64 ∷ rest) rest ≡ Err f → TagFault (64 ∷ rest) f
tag_fault rest f e = by (tag_fault_by true false (64 ∷ rest) rest f e)
  where
    by : TagStops true false (64 ∷ rest) rest f → TagFault (64 ∷ rest) f
    by (TagStops.at_once none l) = TagFault.first rest refl l
    by (TagStops.behind_dash word after parts shape letters enough others l) =
        TagFault.part (word ++ dashed parts) after (ap (λ (t : List ℕ). 64 ∷ t) shape) (word, parts, (enough refl, letters), others, refl) l

-- ---- and the other way round

no_text : (c : ℕ) (after : List ℕ) → CharAt [] c after → ⊥
no_text c after at = absurd (not_both (c, after) (Truncated, []) (sym (char_stands [] c after at) ∙ no_character [] (Truncated, []) (NoCharacter.ends refl refl)))

low_fits : (first : Bool) (b : ℕ) → is_tag_byte first b ≡ true → b < 128
low_fits true b e = low_letter b e
low_fits false b e = low_sign b e

tag_lacks_by : (first : Bool) (start rest : List ℕ) (f : TextFault) → Lacks (is_tag_byte first) rest (BadLang, start) f → tag_at first false start rest ≡ Err f
unfolding tag_at
tag_lacks_by first start [] f (Lacks.nothing n) = ap failure (err_is (Truncated, []) f (sym (no_character [] (Truncated, []) (NoCharacter.ends refl refl)) ∙ no_character [] f n))
tag_lacks_by first start [] f (Lacks.another c after at misfit is) = absurd (no_text c after at)
tag_lacks_by first start (b ∷ rest) f (Lacks.nothing n) = by (is_tag_byte first b) refl
  where
    by : (fits : Bool) → is_tag_byte first b ≡ fits → tag_at first false start (b ∷ rest) ≡ Err f
    by true e = absurd (not_both (b, rest) f (sym (char_at-ascii b rest (low_fits first b e)) ∙ no_character (b ∷ rest) f n))
    by false e = rw (e, no_character (b ∷ rest) f n) refl
tag_lacks_by first start (b ∷ rest) f (Lacks.another c after at misfit is) = by (is_tag_byte first b) refl
  where
    by : (fits : Bool) → is_tag_byte first b ≡ fits → tag_at first false start (b ∷ rest) ≡ Err f
    by true e =
        let same : (b, rest) ≡ (c, after) = ok_is (b, rest) (c, after) (sym (char_at-ascii b rest (low_fits first b e)) ∙ char_stands (b ∷ rest) c after at) in
        absurd (false≢true (sym misfit ∙ ap (λ (x : ℕ × List ℕ). is_tag_byte first x.0) (sym same) ∙ e))
    by false e = rw (e, char_stands (b ∷ rest) c after at) (ap (λ (g : TextFault). Err g) (sym is))

pub tag_lacks : (rest : List ℕ) (f : TextFault) → TagFault (64 ∷ rest) f → tag_at true false (64 ∷ rest) rest ≡ Err f
tag_lacks rest f (TagFault.first there shape l) =
    let same : there ≡ rest = cc in
    tag_lacks_by true (64 ∷ rest) rest f (subst (λ (t : List ℕ). Lacks is_ascii_alphabetic t (BadLang, 64 ∷ rest) f) same l)
tag_lacks rest f (TagFault.part tag after shape form l) =
    let parts : rest ≡ tag ++ 45 ∷ after = cc in
    ap (tag_at true false (64 ∷ rest)) parts
    ∙ tag_front (64 ∷ rest) tag (45 ∷ after) form
    ∙ ap (with_front (lower tag)) (dash_read (alone true form.1) (64 ∷ rest) after ∙ ap (with_front (45 ∷ [])) (tag_lacks_by false (64 ∷ rest) after f l))
