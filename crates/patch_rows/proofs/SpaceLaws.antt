-- White space and comments are skipped, and no more than they.
use Rattle.std.proofs.Common.{◌≡◌, ℕ, zero, suc, ◌-◌, ◌<◌, drop, Ok, Err, ◌≤◌, Bool, true, false, cond, ◌||◌, List, [], ◌∷◌, ◌++◌, length, nat_eq, not, Result, refl, sym, ap, subst, ◌∙◌, inl, inr, arith, append_assoc}
use Rattle.std.specs.List.{list_all, flat_map}
use Rattle.std.specs.Char.{IsScalar, encode_utf8}
use Rattle.std.specs.Str.{encode_utf8_all, IsUtf8}
use Rattle.std.proofs.lemmas.Bool.Decides.{nat_tests}
use Rattle.std.proofs.lemmas.List.Folds.{list_all-append}
use Rattle.std.proofs.lemmas.Str.{encode_ascii}
use lib.Utf8.{scalar, scalars}
use Rattle.nquads_text.specs.Fault.{TextRead}
use Rattle.nquads_text.specs.Reading.{char_at}
use Rattle.nquads_text.proofs.CommentBodies.{line_end_low}
use Rattle.nquads_text.proofs.Fronts.{char_spelled, char_again, char_at-ascii}
use Rattle.nquads_text.proofs.Steps.{not_both as text_not_both}
use Rattle.patch_rows.proofs.SpaceSteps.{behind_first, first_byte, in_comment}
use Rattle.std.proofs.lemmas.List.{length-append}
use Rattle.std.proofs.lemmas.Bool.{and_parts, false≢true, eqb-true}
use Rattle.nquads_text.specs.Grammar.{StartsWith, is_line_end}
use Rattle.nquads_text.proofs.LabelReads.{longest_same}
use Rattle.patch_rows.specs.Fault.{Fault}
use Rattle.patch_rows.specs.Grammar.{is_space, IsGap, AreGaps, IsSpace, Space, begins_space}
use Rattle.patch_rows.specs.Reading.{comment_step, space_behind, skip_space}
use Rattle.patch_rows.proofs.Exact.{Exact}

-- ---- what is skipped is white space and comments

abbrev in_line : ℕ → Bool
in_line c = not (is_line_end c)

-- the rest of a comment first, if one is open
abbrev Skipped : Bool → List ℕ → Type 0
Skipped false bytes = IsSpace bytes
Skipped true bytes = (cs rest : List ℕ) × (bytes ≡ encode_utf8_all cs ++ rest) × (scalars cs ≡ true) × (list_all in_line cs ≡ true) × IsSpace rest

-- the text is what is skipped, and what is behind it
abbrev Parts : Bool → List ℕ → List ℕ → Type 0
Parts comment text left = (taken : List ℕ) × (text ≡ taken ++ left) × Skipped comment taken

no_space : IsSpace []
no_space = ([], tt, refl)

blank_before : (b : ℕ) (bytes : List ℕ) → is_space b ≡ true → IsSpace bytes → IsSpace (b ∷ bytes)
blank_before b bytes e s = ((b ∷ []) ∷ s.0, (inl (b, refl, e), s.1), ap (λ (t : List ℕ). b ∷ t) s.2)

comment_before : (cs rest : List ℕ) → scalars cs ≡ true → list_all in_line cs ≡ true → IsSpace rest → IsSpace (35 ∷ (encode_utf8_all cs ++ rest))
comment_before cs rest scalar all s =
    ((35 ∷ encode_utf8_all cs) ∷ s.0, (inr (cs, refl, scalar, all), s.1), ap (λ (t : List ℕ). 35 ∷ (encode_utf8_all cs ++ t)) s.2)

line_end_is_space : (b : ℕ) → is_line_end b ≡ true → is_space b ≡ true
line_end_is_space b e = by (nat_eq b 32) (nat_eq b 9) (is_line_end b) e
  where
    by : (x y z : Bool) → z ≡ true → (x || y || z) ≡ true
    by true y z e = refl
    by false true z e = refl
    by false false z e = e

-- a character of a comment, or its line's end
char_before : (c : ℕ) (after left : List ℕ) (ends : Bool) → IsScalar c → is_line_end c ≡ ends → Parts (not ends) after left → Parts true (encode_utf8 c ++ after) left
char_before c after left true scalar e p =
    let one : encode_utf8 c ≡ c ∷ [] = encode_ascii c (line_end_low c e) in
    (c ∷ p.0, ap (λ (t : List ℕ). t ++ after) one ∙ ap (λ (t : List ℕ). c ∷ t) p.1, ([], c ∷ p.0, refl, refl, refl, blank_before c p.0 (line_end_is_space c e) p.2))
char_before c after left false scalar e p = (
  encode_utf8 c ++ p.0,
  ap (λ (t : List ℕ). encode_utf8 c ++ t) p.1 ∙ sym (append_assoc (encode_utf8 c) p.0 left),
  (c ∷ p.2.0, p.2.1, ap (λ (t : List ℕ). encode_utf8 c ++ t) p.2.2 ∙ sym (append_assoc (encode_utf8 c) (encode_utf8_all p.2.0) p.2.1), rw (scalar, p.2.3) refl, rw (e, p.2.4) refl, p.2.5),
)

blank_outside : (b : ℕ) (rest left : List ℕ) → is_space b ≡ true → Parts false rest left → Parts false (b ∷ rest) left
blank_outside b rest left e p = (b ∷ p.0, ap (λ (t : List ℕ). b ∷ t) p.1, blank_before b p.0 e p.2)

hash_outside : (b : ℕ) (rest left : List ℕ) → nat_eq b 35 ≡ true → Parts true rest left → Parts false (b ∷ rest) left
hash_outside b rest left h q =
    let hash : b ≡ 35 = eqb-true b 35 h in
    let s = comment_before q.2.0 q.2.1 q.2.3 q.2.4 q.2.5 in
    (b ∷ q.0, ap (λ (t : List ℕ). b ∷ t) q.1, subst (λ (t : List ℕ). IsSpace t) (ap (λ (c : ℕ). c ∷ (encode_utf8_all q.2.0 ++ q.2.1)) (sym hash) ∙ ap (λ (t : List ℕ). b ∷ t) (sym q.2.2)) s)

outside : (b : ℕ) (rest : List ℕ) (blank hash : Bool) → is_space b ≡ blank → nat_eq b 35 ≡ hash → Parts false rest (space_behind false 0 rest) → Parts true rest (space_behind true 0 rest)
    → Parts false (b ∷ rest) (cond blank (space_behind false 0 rest) (cond hash (space_behind true 0 rest) (b ∷ rest)))
outside b rest true hash e h p q = blank_outside b rest (space_behind false 0 rest) e p
outside b rest false true e h p q = hash_outside b rest (space_behind true 0 rest) h q
outside b rest false false e h p q = ([], refl, no_space)

nothing_taken : (text : List ℕ) → Parts true text text
nothing_taken text = ([], refl, ([], [], refl, refl, refl, no_space))

inside : (b : ℕ) (rest : List ℕ) (r : TextRead ℕ) → char_at (b ∷ rest) ≡ r
    → ((goes_on : Bool) (k : ℕ) → Parts goes_on (drop k rest) (space_behind goes_on k rest))
    → Parts true (b ∷ rest) (comment_step r (b ∷ rest) (length rest) (λ goes_on k. space_behind goes_on k rest))
inside b rest (Ok x) e others =
    let s = char_spelled (b ∷ rest) x.0 x.1 e in
    let there : drop (length rest - length x.1) rest ≡ x.1 = behind_first b rest (encode_utf8 x.0) x.1 s.1 (first_byte b rest x.0 x.1 e) in
    let goes_on : Bool = not (is_line_end x.0) in
    let left : List ℕ = space_behind goes_on (length rest - length x.1) rest in
    let p : Parts goes_on x.1 left = subst (λ (t : List ℕ). Parts goes_on t left) there (others goes_on (length rest - length x.1)) in
    subst (λ (t : List ℕ). Parts true t left) (sym s.1) (char_before x.0 x.1 left (is_line_end x.0) s.0 refl p)
inside b rest (Err f) e others = nothing_taken (b ∷ rest)

parted : (comment : Bool) (skip : ℕ) (text : List ℕ) → Parts comment (drop skip text) (space_behind comment skip text)
unfolding space_behind
parted false zero [] = ([], refl, no_space)
parted false (suc skip) [] = ([], refl, no_space)
parted true zero [] = nothing_taken []
parted true (suc skip) [] = nothing_taken []
parted comment (suc skip) (b ∷ rest) = parted comment skip rest
parted true zero (b ∷ rest) = inside b rest (char_at (b ∷ rest)) refl (λ goes_on k. parted goes_on k rest)
parted false zero (b ∷ rest) = outside b rest (is_space b) (nat_eq b 35) refl refl (parted false 0 rest) (parted true 0 rest)

-- ---- and nothing else is

not_true : (b : Bool) → not b ≡ true → b ≡ false
not_true true e = absurd (false≢true e)
not_true false e = refl

-- what follows some bytes is skipped to the same end as from there on
abbrev Passes : Bool → List ℕ → List ℕ → Type 0
Passes comment bytes rest = (after : Bool) × (space_behind comment 0 (bytes ++ rest) ≡ space_behind after 0 rest)

-- a comment goes on to the end of its line
behind_line : (cs rest : List ℕ) → scalars cs ≡ true → list_all in_line cs ≡ true → space_behind true 0 (encode_utf8_all cs ++ rest) ≡ space_behind true 0 rest
behind_line [] rest s all = refl
behind_line (c ∷ cs) rest s all =
    let p = and_parts (scalar c) (scalars cs) s in
    let t = and_parts (in_line c) (list_all in_line cs) all in
    let more : List ℕ = encode_utf8_all cs ++ rest in
    ap (space_behind true 0) (append_assoc (encode_utf8 c) (encode_utf8_all cs) rest)
    ∙ in_comment (encode_utf8 c ++ more) c more (char_again c more p.0)
    ∙ ap (λ (b : Bool). space_behind (not b) 0 more) (not_true (is_line_end c) t.0)
    ∙ behind_line cs rest p.1 t.1

char_in_line : (c : ℕ) → list_all in_line (encode_utf8 c) ≡ true → in_line c ≡ true
char_in_line c all = by (is_line_end c) refl
  where
    by : (ends : Bool) → is_line_end c ≡ ends → not ends ≡ true
    by false e = refl
    by true e = ap not (sym e) ∙ (and_parts (in_line c) true (ap (list_all in_line) (sym (encode_ascii c (line_end_low c e))) ∙ all)).0

chars_in_line : (cs : List ℕ) → list_all in_line (encode_utf8_all cs) ≡ true → list_all in_line cs ≡ true
chars_in_line [] all = refl
chars_in_line (c ∷ cs) all =
    let p = and_parts (list_all in_line (encode_utf8 c)) (list_all in_line (encode_utf8_all cs)) (sym (list_all-append in_line (encode_utf8 c) (encode_utf8_all cs)) ∙ all) in
    rw (char_in_line c p.0, chars_in_line cs p.1) refl

-- the same by bytes
pub behind_body : (body rest : List ℕ) → IsUtf8 body → list_all in_line body ≡ true → space_behind true 0 (body ++ rest) ≡ space_behind true 0 rest
behind_body body rest u all =
    ap (λ (b : List ℕ). space_behind true 0 (b ++ rest)) (sym u.1.1) ∙ behind_line u.0 rest u.1.0 (chars_in_line u.0 (ap (list_all in_line) u.1.1 ∙ all))

space_low : (b : ℕ) → is_space b ≡ true → b < 128
space_low b e = grind (arith, nat_tests)

blank_over : (b : ℕ) (rest : List ℕ) → is_space b ≡ true → space_behind false 0 (b ∷ rest) ≡ space_behind false 0 rest
unfolding space_behind
blank_over b rest e = rw e refl

blank_passes : (comment : Bool) (b : ℕ) (rest : List ℕ) → is_space b ≡ true → Passes comment (b ∷ []) rest
blank_passes true b rest e = (not (is_line_end b), in_comment (b ∷ rest) b rest (char_at-ascii b rest (space_low b e)))
blank_passes false b rest e = (false, blank_over b rest e)

hash_opens : (rest : List ℕ) → space_behind false 0 (35 ∷ rest) ≡ space_behind true 0 rest
unfolding space_behind
hash_opens rest = refl

hash_passes : (comment : Bool) (rest : List ℕ) → space_behind comment 0 (35 ∷ rest) ≡ space_behind true 0 rest
hash_passes true rest = in_comment (35 ∷ rest) 35 rest (char_at-ascii 35 rest (omega arith))
hash_passes false rest = hash_opens rest

gap_passes : (comment : Bool) (gap rest : List ℕ) → IsGap gap → Passes comment gap rest
gap_passes comment gap rest (inl g) = subst (λ (t : List ℕ). Passes comment t rest) (sym g.1) (blank_passes comment g.0 rest g.2)
gap_passes comment gap rest (inr g) =
    (true, ap (λ (t : List ℕ). space_behind comment 0 (t ++ rest)) g.1 ∙ hash_passes comment (encode_utf8_all g.0 ++ rest) ∙ behind_line g.0 rest g.2 g.3)

gaps_pass : (comment : Bool) (gaps : List (List ℕ)) (rest : List ℕ) → AreGaps gaps → Passes comment (flat_map (λ gap. gap) gaps) rest
gaps_pass comment [] rest all = (comment, refl)
gaps_pass comment (gap ∷ gaps) rest all =
    let others : List ℕ = flat_map (λ gap. gap) gaps in
    let one = gap_passes comment gap (others ++ rest) all.0 in
    let more = gaps_pass one.0 gaps rest all.1 in
    (more.0, ap (space_behind comment 0) (append_assoc gap others rest) ∙ one.1 ∙ more.1)

shorter : (comment : Bool) (text : List ℕ) → length (space_behind comment 0 text) ≤ length text
shorter comment text =
    let p = parted comment 0 text in
    let l : length text ≡ length (p.0 ++ space_behind comment 0 text) = ap length p.1 in
    omega (arith, l, length-append p.0 (space_behind comment 0 text))

-- ---- so the longest is

pub skipped : (text : List ℕ) → Space text (skip_space text)
skipped text =
    let p = parted false 0 text in (
      p.0,
      (
        p.2,
        p.1,
        λ longer rest s shape.
            let g = gaps_pass false s.0 rest s.1 in
            let same : skip_space text ≡ space_behind g.0 0 rest = ap (space_behind false 0) (shape ∙ ap (λ (t : List ℕ). t ++ rest) s.2) ∙ g.1 in
            let le : length (skip_space text) ≤ length rest = subst (λ (t : List ℕ). length t ≤ length rest) (sym same) (shorter g.0 rest) in
            let l : length text ≡ length (p.0 ++ skip_space text) = ap length p.1 in
            let m : length text ≡ length (longer ++ rest) = ap length shape in
            omega (arith, le, l, m, length-append p.0 (skip_space text), length-append longer rest),
      ),
    )

pub skips : (text after : List ℕ) → Space text after → skip_space text ≡ after
skips text after s = let t = skipped text in (longest_same IsSpace text t.0 (skip_space text) s.0 after t.1 s.1).1

abbrev NoneBegins : List ℕ → Type 0
NoneBegins text = StartsWith begins_space text → ⊥

stop_here : (b : ℕ) (rest : List ℕ) (blank hash : Bool) → is_space b ≡ blank → nat_eq b 35 ≡ hash → NoneBegins (space_behind false 0 rest)
    → NoneBegins (space_behind true 0 rest) → NoneBegins (cond blank (space_behind false 0 rest) (cond hash (space_behind true 0 rest) (b ∷ rest)))
stop_here b rest true hash e h plain comment begins = plain begins
stop_here b rest false true e h plain comment begins = comment begins
stop_here b rest false false e h plain comment begins =
    let none : begins_space b ≡ false = rw (e, h) refl in false≢true (sym none ∙ begins)

begins_low : (b : ℕ) → begins_space b ≡ true → b < 128
begins_low b e = grind (arith, nat_tests)

stop_inside : (b : ℕ) (rest : List ℕ) (r : TextRead ℕ) → char_at (b ∷ rest) ≡ r → ((goes_on : Bool) (k : ℕ) → NoneBegins (space_behind goes_on k rest))
    → NoneBegins (comment_step r (b ∷ rest) (length rest) (λ goes_on k. space_behind goes_on k rest))
stop_inside b rest (Ok x) e others begins = others (not (is_line_end x.0)) (length rest - length x.1) begins
stop_inside b rest (Err f) e others begins = text_not_both (b, rest) f (sym (char_at-ascii b rest (begins_low b begins)) ∙ e)

stops : (comment : Bool) (skip : ℕ) (text : List ℕ) → NoneBegins (space_behind comment skip text)
unfolding space_behind
stops comment zero [] e = e
stops comment (suc skip) [] e = e
stops comment (suc skip) (b ∷ rest) e = stops comment skip rest e
stops true zero (b ∷ rest) e = stop_inside b rest (char_at (b ∷ rest)) refl (λ goes_on k. stops goes_on k rest) e
stops false zero (b ∷ rest) e = stop_here b rest (is_space b) (nat_eq b 35) refl refl (stops false 0 rest) (stops true 0 rest) e

pub none_behind : (text after : List ℕ) → Space text after → StartsWith begins_space after → ⊥
none_behind text after s begins = stops false 0 text (subst (StartsWith begins_space) (sym (skips text after s)) begins)

-- ---- a part behind them is read as exactly as the part itself

module _ {X : Type 0} (read : List ℕ → Result X Fault) (P : List ℕ → X → Type 0) (F : List ℕ → Fault → Type 0) where
  abbrev pub Behind : List ℕ → X → Type 0
  Behind text x = (from : List ℕ) × Space text from × P from x

  abbrev pub BehindFault : List ℕ → Fault → Type 0
  BehindFault text f = (from : List ℕ) × Space text from × F from f

  pub exact_behind : (text : List ℕ) → Exact (read (skip_space text)) (P (skip_space text)) (F (skip_space text)) → Exact (read (skip_space text)) (Behind text) (BehindFault text)
  exact_behind text e = record {
    found = λ x is. (skip_space text, skipped text, e.found x is);
    again = λ x t. e.again x (subst (λ (s : List ℕ). P s x) (sym (skips text t.0 t.1)) t.2);
    fault = λ f is. (skip_space text, skipped text, e.fault f is);
    only = λ f t. e.only f (subst (λ (s : List ℕ). F s f) (sym (skips text t.0 t.1)) t.2);
  }
