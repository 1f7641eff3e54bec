-- The same of rows: what is read of a row whose text may go on is what is read of every longer text, unless reading met the end.
use Rattle.std.proofs.Common.{◌≡◌, ℕ, zero, suc, ◌-◌, ◌≤◌, Bool, true, false, cond, List, [], ◌∷◌, ◌++◌, length, Option, Some, None, Result, Ok, Err, nat_eq, refl, sym, ap, subst, ◌∙◌, ◌⊎◌, inl, inr, ⊎_elim, arith, drop, ◌||◌, not, is_none}
use Rattle.std.specs.Char.{is_ascii_alphabetic}
use Rattle.std.specs.List.{prefix_len}
use Rattle.std.proofs.lemmas.Bool.{and_parts, false≢true, cases_Bool, ne_eqb}
use Rattle.std.proofs.lemmas.Bool.Decides.{nat_tests}
use Rattle.std.proofs.lemmas.List.{drop_all, take-append-le, drop-append-le}
use Rattle.std.proofs.lemmas.List.Folds.{prefix_len-append}
use Rattle.std.proofs.lemmas.List.Sums.{prefix_len-le-length}
use Rattle.bstr.specs.Utf8.{decoded}
use Rattle.rdf_terms.specs.Quad.{is_iri}
use Rattle.rdf_terms.specs.declared.term.Term.{Term}
use Rattle.rdf_terms.specs.declared.term.Term.TheVariants as term
use Rattle.nquads_text.specs.declared.fault.TextKind.{TextKind}
use Rattle.nquads_text.specs.declared.fault.TextKind.TheVariants.{NotUtf8, BadLabel, BadPosition, MissingDot, BadToken, Truncated}
use Rattle.nquads_text.specs.Fault.{TextRead}
use Rattle.nquads_text.specs.Faults.{begins_term}
use Rattle.nquads_text.specs.Reading.{char_at}
use Rattle.nquads_text.specs.Terms.{term_at}
use Rattle.patch_rows.specs.declared.fault.RowKind.{RowKind}
use Rattle.patch_rows.specs.declared.fault.RowKind.TheVariants.{Common, WrongCount}
use Rattle.patch_rows.specs.Fault.{Fault, Read, ◌>>=◌, in_row}
use Rattle.patch_rows.specs.Faults.{is_dot}
use Rattle.nquads_text.specs.Grammar.{is_line_end}
use Rattle.patch_rows.specs.Grammar.{is_space, is_word_byte, is_any, is_node}
use Rattle.patch_rows.specs.Reading.{comment_step, space_behind, stands, other, whole_label, bracketed, bracket_at, row_term_at, needed_term_at, run_of, key_at, past_colon, plain_text, or_bad_position, iri_of_string, iri_of_term, dot_at, uncut, word_at}
use Rattle.patch_rows.specs.declared.cut.TextEnd.{TextEnd}
use Rattle.patch_rows.specs.declared.cut.TextEnd.TheVariants.{Open, Known}
use Rattle.patch_rows.specs.Rows.{graph_or_dot_of, key_of, open_key, open_term, open_word_prefix, placed_of, prefix_iri_of, prefix_of, quoted_of, term_of, word_prefix_of}
use Rattle.patch_rows.specs.Cut.{leads, is_front, is_cut, ends_text, ends_row, TextAtEnd, AtEnd, literal_open, blank_open}
use Rattle.patch_reader.proofs.Stays.{with_more as text_with_more, Stays, char_stays, bad_char, good_char, rooms_same, iri_body_stays}
use Rattle.patch_reader.proofs.TokenStays.{Late, IsBlank, OpenTerm, term_late}

-- ---- one reading behind another

abbrev pub with_more : {X : Type 0} → List ℕ → Read X → Read X
with_more more (Ok x) = Ok (x.0, x.1 ++ more)
with_more more (Err f) = Err (f.0, f.1 ++ more)

abbrev pub Keeps : {X : Type 0} → List ℕ → Read X → Read X → Type 0
Keeps more read longer = AtEnd read ⊎ (longer ≡ with_more more read)

pub chained : {X Y : Type 0} (more : List ℕ) (r longer : Read X) (f g : X × List ℕ → Read Y)
    → Keeps more r longer → ((x : X × List ℕ) → r ≡ Ok x → Keeps more (f x) (g (x.0, x.1 ++ more))) → Keeps more (r >>= f) (longer >>= g)
chained more (Ok x) longer f g (inl h) step = absurd h
chained more (Ok x) longer f g (inr h) step = rw h (step x refl)
chained more (Err e) longer f g (inl h) step = inl h
chained more (Err e) longer f g (inr h) step = inr (rw h refl)

pub choice : {X : Type 0} (more : List ℕ) (b : Bool) (x y f g : Read X) → Keeps more x f → Keeps more y g → Keeps more (cond b x y) (cond b f g)
choice more true x y f g h k = h
choice more false x y f g h k = k

pub value : {X : Type 0} (more : List ℕ) (x : X) (after : List ℕ) → Keeps more (Ok (x, after)) (Ok (x, after ++ more))
value more x after = inr refl

fault : {X : Type 0} (more : List ℕ) (kind : RowKind) (place : List ℕ) → Keeps {X = X} more (Err (kind, place)) (Err (kind, place ++ more))
fault more kind place = inr refl

-- what is at the end stays there
pub end_then : {X Y : Type 0} (r : Result X Fault) (f : X → Result Y Fault) → AtEnd r → AtEnd (r >>= f)
end_then (Ok x) f h = absurd h
end_then (Err e) f h = h

pub text_at_end : {X : Type 0} (r : TextRead X) → TextAtEnd r → AtEnd (in_row r)
unfolding ends_row
text_at_end (Ok x) h = absurd h
text_at_end (Err f) h = h

in_row_keeps : {X : Type 0} (more : List ℕ) (r longer : TextRead X) → Stays more r longer → Keeps more (in_row r) (in_row longer)
in_row_keeps more r longer (inl h) = inl (text_at_end r h)
in_row_keeps more r longer (inr h) = inr (ap in_row h ∙ same r)
  where
    same : {X : Type 0} (r : TextRead X) → in_row (text_with_more more r) ≡ with_more more (in_row r)
    same (Ok x) = refl
    same (Err f) = refl

-- ---- where the text ends, or within a character

pub cut_char : (rest : List ℕ) → is_cut rest ≡ true → (kind : TextKind) × (char_at rest ≡ Err (kind, rest)) × (ends_text kind rest ≡ true)
unfolding char_at ends_text
cut_char [] e = (Truncated, refl, refl)
cut_char (b ∷ bs) e = (NotUtf8, none (and_parts _ _ (and_parts (leads b) _ e).1).0, e)
  where
    none_of : (o : Option ℕ) → is_none o ≡ true → o ≡ None
    none_of (Some c) e = absurd (false≢true e)
    none_of None e = refl

    none : is_none (decoded (b ∷ bs)).char ≡ true → char_at (b ∷ bs) ≡ Err (NotUtf8, b ∷ bs)
    none t = bad_char b bs (none_of _ t)

pub cut_stands : (test : ℕ → Bool) (rest : List ℕ) → ((b : ℕ) → 0x80 ≤ b → test b ≡ false) → is_cut rest ≡ true → stands test rest ≡ false
cut_stands test [] none e = refl
cut_stands test (b ∷ bs) none e = let led = (and_parts (leads b) _ e).0 in none b (grind (arith, nat_tests, led))

pub no_dot : (b : ℕ) → 0x80 ≤ b → is_dot b ≡ false
no_dot b low = grind (arith, nat_tests, low)

pub no_colon : (b : ℕ) → 0x80 ≤ b → nat_eq b 58 ≡ false
no_colon b low = grind (arith, nat_tests, low)

pub no_letter : (b : ℕ) → 0x80 ≤ b → is_ascii_alphabetic b ≡ false
no_letter b low = grind (arith, nat_tests, low)

pub no_term : (b : ℕ) → 0x80 ≤ b → begins_term b ≡ false
no_term b low = grind (arith, nat_tests, low)

pub no_less : (b : ℕ) → 0x80 ≤ b → nat_eq b 60 ≡ false
no_less b low = grind (arith, nat_tests, low)

pub cut_other : (kind : RowKind) (rest : List ℕ) → is_cut rest ≡ true → ends_row (other kind rest).0 (other kind rest).1 ≡ true
unfolding other ends_row
cut_other kind rest e = let c = cut_char rest e in rw c.1 c.2

pub cut_term : (rest : List ℕ) → is_cut rest ≡ true → AtEnd (row_term_at rest)
unfolding row_term_at term_at
cut_term rest e = by rest e
  where
    text_end : (rest : List ℕ) → is_cut rest ≡ true → TextAtEnd (term_at rest)
    text_end rest e = let c = cut_char rest e in rw c.1 c.2

    by : (rest : List ℕ) → is_cut rest ≡ true → AtEnd (row_term_at rest)
    by [] e = text_at_end (term_at []) (text_end [] e)
    by (b ∷ bs) e = let led = (and_parts (leads b) _ e).0 in let ne : nat_eq b 60 ≡ false = no_less b (grind (arith, nat_tests, led)) in
        rw ne (text_at_end (term_at (b ∷ bs)) (text_end (b ∷ bs) e))

pub cut_needed : (rest : List ℕ) → is_cut rest ≡ true → AtEnd (needed_term_at rest)
unfolding needed_term_at
cut_needed rest e = rw (cut_stands is_dot rest no_dot e) (cut_term rest e)

pub cut_term_of : (end : TextEnd) (rest : List ℕ) → is_cut rest ≡ true → AtEnd (term_of end rest)
unfolding open_term
cut_term_of Known rest e = cut_needed rest e
cut_term_of Open rest e = end_then (needed_term_at rest) _ (cut_needed rest e)

pub cut_placed : (end : TextEnd) (fits : Term → Bool) (rest : List ℕ) → is_cut rest ≡ true → AtEnd (placed_of end fits rest)
unfolding placed_of
cut_placed end fits rest e = end_then (term_of end rest) _ (cut_term_of end rest e)

pub cut_key : (end : TextEnd) (rest : List ℕ) → is_cut rest ≡ true → AtEnd (key_of end rest)
unfolding open_key key_at
cut_key end rest e = by end (rw (cut_stands is_dot rest no_dot e, cut_stands is_ascii_alphabetic rest no_letter e) (cut_other (Common BadToken) rest e))
  where
    by : (end : TextEnd) → AtEnd (key_at rest) → AtEnd (key_of end rest)
    by Known a = a
    by Open a = end_then (key_at rest) _ a

pub cut_prefix : (end : TextEnd) (rest : List ℕ) → is_cut rest ≡ true → AtEnd (prefix_of end rest)
unfolding prefix_of
cut_prefix end rest e =
    rw (cut_stands (λ b. nat_eq b 58) rest no_colon e, cut_stands is_ascii_alphabetic rest no_letter e, cut_stands is_dot rest no_dot e, cut_stands begins_term rest no_term e)
    (cut_other (Common BadToken) rest e)

pub cut_prefix_iri : (end : TextEnd) (rest : List ℕ) → is_cut rest ≡ true → AtEnd (prefix_iri_of end rest)
unfolding prefix_iri_of
cut_prefix_iri end rest e = end_then (term_of end rest) _ (cut_term_of end rest e)

pub cut_dot : (missing : RowKind) (rest : List ℕ) → is_cut rest ≡ true → AtEnd (dot_at missing rest)
unfolding dot_at
cut_dot missing rest e = rw (cut_stands is_dot rest no_dot e, cut_stands begins_term rest no_term e) (cut_other missing rest e)

pub cut_graph : (end : TextEnd) (rest : List ℕ) → is_cut rest ≡ true → AtEnd (graph_or_dot_of end rest)
unfolding graph_or_dot_of
cut_graph end rest e = rw (cut_stands begins_term rest no_term e) (end_then (dot_at (Common MissingDot) rest) _ (cut_dot (Common MissingDot) rest e))

-- ---- white space and comments

abbrev good : ℕ × List ℕ → TextRead ℕ
good x = Ok x

pub good_no_fault : (x : ℕ × List ℕ) (f : TextKind × List ℕ) → good x ≡ Err f → ⊥
good_no_fault x f e = absurd cc

abbrev CommentGoal : List ℕ → List ℕ → List ℕ → TextRead ℕ → TextRead ℕ → Type 0
CommentGoal more here rest r longer =
    (is_cut (comment_step r here (length rest) (λ goes k. space_behind goes k rest)) ≡ true)
    ⊎ (comment_step longer (here ++ more) (length (rest ++ more)) (λ goes k. space_behind goes k (rest ++ more)) ≡ comment_step r here (length rest) (λ goes k. space_behind goes k rest) ++ more)

pub space_stays : (more : List ℕ) (comment : Bool) (skip : ℕ) (rest : List ℕ) → (is_cut (space_behind comment skip rest) ≡ true) ⊎ (space_behind comment skip (rest ++ more) ≡ space_behind comment skip rest ++ more)
unfolding space_behind char_at ends_text
space_stays more comment zero [] = inl refl
space_stays more comment (suc skip) [] = inl refl
space_stays more comment (suc skip) (b ∷ rest) = space_stays more comment skip rest
space_stays more false zero (b ∷ rest) = by (is_space b) (nat_eq b 35) (space_stays more false 0 rest) (space_stays more true 0 rest)
  where
    by : (space hash : Bool) → (is_cut (space_behind false 0 rest) ≡ true) ⊎ (space_behind false 0 (rest ++ more) ≡ space_behind false 0 rest ++ more)
        → (is_cut (space_behind true 0 rest) ≡ true) ⊎ (space_behind true 0 (rest ++ more) ≡ space_behind true 0 rest ++ more)
        → (is_cut (cond space (space_behind false 0 rest) (cond hash (space_behind true 0 rest) (b ∷ rest))) ≡ true)
        ⊎ (cond space (space_behind false 0 (rest ++ more)) (cond hash (space_behind true 0 (rest ++ more)) (b ∷ (rest ++ more))) ≡ cond space (space_behind false 0 rest) (cond hash (space_behind true 0 rest) (b ∷ rest)) ++ more)
    by true hash out inside = out
    by false true out inside = inside
    by false false out inside = inr refl
space_stays more true zero (b ∷ rest) = by (λ goes k. space_stays more goes k rest) (char_at (b ∷ rest)) refl (char_stays more (b ∷ rest))
  where
    at_cut : (f : TextKind × List ℕ) → char_at (b ∷ rest) ≡ Err f → ends_text f.0 f.1 ≡ true → is_cut (b ∷ rest) ≡ true
    at_cut f e end = by (is_front (b ∷ rest)) refl (decoded (b ∷ rest)).char refl
      where
        by : (front : Bool) → is_front (b ∷ rest) ≡ front → (o : Option ℕ) → (decoded (b ∷ rest)).char ≡ o → is_front (b ∷ rest) ≡ true
        by true is o d = is
        by false is (Some c) d = absurd (good_no_fault (c, drop (decoded (b ∷ rest)).size (b ∷ rest)) f (sym (good_char b rest c d) ∙ e))
        by false is None d = let same = ap fault_of (sym (bad_char b rest d) ∙ e) in subst (λ (g : TextKind × List ℕ). ends_text g.0 g.1 ≡ true) (sym same) end
          where
            fault_of : TextRead ℕ → TextKind × List ℕ
            fault_of (Ok x) = (NotUtf8, b ∷ rest)
            fault_of (Err g) = g

    by : ((goes : Bool) (k : ℕ) → (is_cut (space_behind goes k rest) ≡ true) ⊎ (space_behind goes k (rest ++ more) ≡ space_behind goes k rest ++ more))
        → (r : TextRead ℕ) → char_at (b ∷ rest) ≡ r → Stays more (char_at (b ∷ rest)) (char_at ((b ∷ rest) ++ more)) → CommentGoal more (b ∷ rest) rest (char_at (b ∷ rest)) (char_at ((b ∷ rest) ++ more))
    by others (Err f) e (inl end) = let ended = subst TextAtEnd e end in inl (rw e (at_cut f e ended))
    by others (Err f) e (inr same) = let longer = same ∙ ap (text_with_more more) e in inr (rw (e, longer) refl)
    by others (Ok x) e (inl end) = absurd (subst TextAtEnd e end)
    by others (Ok x) e (inr same) =
        let longer = same ∙ ap (text_with_more more) e in
        rw (e, longer, rooms_same rest x.1 more) (others (not (is_line_end x.0)) (length rest - length x.1))

-- ---- terms

-- reading stays, or it gives a label that more text may change, in whose place stands one chained too
abbrev LateTerm : List ℕ → List ℕ → Read Term → Read Term → Type 0
LateTerm start more r longer = Keeps more r longer
    ⊎ ((x : Term × List ℕ) × (r ≡ Ok x) × IsBlank x.0 × (blank_open start x.0 x.1 ≡ true) × ((y : Term × List ℕ) × (longer ≡ Ok y) × IsBlank y.0))

is_blank_term : (start : List ℕ) (t : Term) (after : List ℕ) → blank_open start t after ≡ true → IsBlank t
is_blank_term start (term.Iri iri) after e = absurd (false≢true e)
is_blank_term start (term.Blank label) after e = (label, refl)
is_blank_term start (term.Literal literal) after e = absurd (false≢true e)

abbrev LateRowTerm : List ℕ → List ℕ → Read Term → Read Term → Type 0
LateRowTerm start more r longer = Keeps more r longer ⊎ ((x : Term × List ℕ) × (r ≡ Ok x) × OpenTerm start x longer)

in_row_late : (start more : List ℕ) (r longer : TextRead Term) → Late (OpenTerm start) more r longer → LateRowTerm start more (in_row r) (in_row longer)
in_row_late start more r longer (inl h) = inl (in_row_keeps more r longer h)
in_row_late start more r longer (inr h) = inr (h.0, ap in_row h.1, ⊎_elim (λ l. inl l) (λ b. inr (b.0, (b.1.0, ap in_row b.1.1, b.1.2))) h.2)

whole_stays : (more start after : List ℕ) (r : TextRead (List ℕ)) → Keeps more (whole_label start after r) (whole_label (start ++ more) (after ++ more) r)
whole_stays more start after (Ok x) = choice more (nat_eq (length x.1) 0) _ _ _ _ (value more (term.Blank x.0) after) (fault more (Common BadLabel) start)
whole_stays more start after (Err f) = fault more (Common BadLabel) start

bracketed_stays : (more start bytes after : List ℕ) → Keeps more (bracketed start bytes after) (bracketed (start ++ more) bytes (after ++ more))
unfolding bracketed
bracketed_stays more start bytes after = search (choice, whole_stays, value, fault)

bracket_stays : (more start rest : List ℕ) → Keeps more (bracket_at start rest) (bracket_at (start ++ more) (rest ++ more))
unfolding bracket_at
bracket_stays more start rest = search (chained, in_row_keeps, iri_body_stays, bracketed_stays)

row_term_late : (more rest : List ℕ) → (rest ≡ [] → ⊥) → LateRowTerm rest more (row_term_at rest) (row_term_at (rest ++ more))
unfolding row_term_at
row_term_late more [] some = absurd (some refl)
row_term_late more (b ∷ bs) some = ⊎_elim
    (λ less. rw less (inl (bracket_stays more (b ∷ bs) bs)))
    (λ less. rw less (in_row_late (b ∷ bs) more (term_at (b ∷ bs)) (term_at (b ∷ (bs ++ more))) (term_late more (b ∷ bs))))
    (cases_Bool (nat_eq b 60))

needed_late : (more rest : List ℕ) → (rest ≡ [] → ⊥) → LateRowTerm rest more (needed_term_at rest) (needed_term_at (rest ++ more))
unfolding needed_term_at
needed_late more [] some = absurd (some refl)
needed_late more (b ∷ bs) some = ⊎_elim (λ dot. rw dot (inl (fault more WrongCount (b ∷ bs)))) (λ dot. rw dot (row_term_late more (b ∷ bs) some)) (cases_Bool (is_dot b))

abbrev settled : List ℕ → Read Term → Read Term
settled start r = r >>= λ t. cond (literal_open start t.0 t.1) (Err (Common Truncated, [])) (Ok t)

pub cut_end : ends_row (Common Truncated) [] ≡ true
unfolding ends_row ends_text
cut_end = refl

pub blank_is_no_literal : (start : List ℕ) (t : Term) (after : List ℕ) → IsBlank t → literal_open start t after ≡ false
blank_is_no_literal start t after b = rw b.1 refl

settled_late : (start more : List ℕ) (r longer : Read Term) → LateRowTerm start more r longer → LateTerm start more (settled start r) longer
settled_late start more (Ok x) longer (inl (inl h)) = absurd h
settled_late start more (Ok x) longer (inl (inr h)) = by (literal_open start x.0 x.1) h
  where
    by : (still_open : Bool) → longer ≡ Ok (x.0, x.1 ++ more) → LateTerm start more (cond still_open (Err (Common Truncated, [])) (Ok x)) longer
    by true h = inl (inl cut_end)
    by false h = inl (inr h)
settled_late start more (Err f) longer (inl h) = inl h
settled_late start more r longer (inr (x, e, inl literal)) = rw (e, literal) (inl (inl cut_end))
settled_late start more r longer (inr (x, e, inr (still_open, y))) =
    let blank = is_blank_term start x.0 x.1 still_open in
    let none = blank_is_no_literal start x.0 x.1 blank in
    rw (e, none) (inr (x, refl, blank, still_open, y))

pub live_term_late : (more rest : List ℕ) → LateTerm rest more (open_term rest) (needed_term_at (rest ++ more))
unfolding open_term
live_term_late more [] = inl (inl (cut_term_of Open [] refl))
live_term_late more (b ∷ bs) = settled_late (b ∷ bs) more (needed_term_at (b ∷ bs)) (needed_term_at ((b ∷ bs) ++ more)) (needed_late more (b ∷ bs) (λ none. absurd cc))

-- what is made of a term, where all labels are treated alike
late_then : {X : Type 0} (start more : List ℕ) (r longer : Read Term) (f g : Term × List ℕ → Read X) → LateTerm start more r longer
    → ((x : Term × List ℕ) → Keeps more (f x) (g (x.0, x.1 ++ more)))
    → ((x y : Term × List ℕ) → IsBlank x.0 → IsBlank y.0 → blank_open start x.0 x.1 ≡ true → Keeps more (f x) (g y))
    → Keeps more (r >>= f) (longer >>= g)
late_then start more r longer f g (inl h) stays still_open = chained more r longer f g h (λ x e. stays x)
late_then start more r longer f g (inr (x, e, blank, is, rest)) stays still_open = let f_is = rest.1 in rw (e, f_is) (still_open x rest.0 blank rest.2 is)

pub placed_stays : (fits : Term → Bool) (more rest : List ℕ) → ((a b : List ℕ) → fits (term.Blank a) ≡ fits (term.Blank b)) → Keeps more (placed_of Open fits rest) (placed_of Known fits (rest ++ more))
unfolding placed_of
placed_stays fits more rest alike =
    late_then rest more (open_term rest) (needed_term_at (rest ++ more)) _ _ (live_term_late more rest)
    (λ x. closed x (fits x.0) (blank_open rest x.0 x.1))
    (λ x y a b is. still_open x y a b is)
  where
    closed : (x : Term × List ℕ) (fit o : Bool) → Keeps more (cond fit (cond o (Err (Common Truncated, [])) (Ok x)) (Err (Common BadPosition, rest))) (cond fit (Ok (x.0, x.1 ++ more)) (Err (Common BadPosition, rest ++ more)))
    closed x true true = inl cut_end
    closed x true false = value more x.0 x.1
    closed x false o = fault more (Common BadPosition) rest

    by : (x y : Term × List ℕ) (fit : Bool) → Keeps more (cond fit (Err (Common Truncated, [])) (Err (Common BadPosition, rest))) (cond fit (Ok y) (Err (Common BadPosition, rest ++ more)))
    by x y true = inl cut_end
    by x y false = fault more (Common BadPosition) rest

    still_open : (x y : Term × List ℕ) → IsBlank x.0 → IsBlank y.0 → blank_open rest x.0 x.1 ≡ true
        → Keeps more (cond (fits x.0) (cond (blank_open rest x.0 x.1) (Err (Common Truncated, [])) (Ok x)) (Err (Common BadPosition, rest))) (cond (fits y.0) (Ok y) (Err (Common BadPosition, rest ++ more)))
    still_open x y a b is =
        let same : fits y.0 ≡ fits x.0 = ap fits b.1 ∙ alike b.0 a.0 ∙ ap fits (sym a.1) in
        rw (is, same) (by x y (fits x.0))

position_stays : (more : List ℕ) (o : Option (List ℕ)) (start after : List ℕ) → Keeps more (or_bad_position o start after) (or_bad_position o (start ++ more) (after ++ more))
position_stays more (Some text) start after = value more text after
position_stays more None start after = fault more (Common BadPosition) start

pub quoted_stays : (more rest : List ℕ) → Keeps more (quoted_of Open rest) (quoted_of Known (rest ++ more))
unfolding quoted_of
quoted_stays more rest =
    late_then rest more (open_term rest) (needed_term_at (rest ++ more)) _ _ (live_term_late more rest)
    (λ x. position_stays more (plain_text x.0) rest x.1)
    (λ x y a b is. rw (a.1, b.1) (fault more (Common BadPosition) rest))

string_iri_stays : (more start string after : List ℕ) → Keeps more (iri_of_string start string after) (iri_of_string (start ++ more) string (after ++ more))
unfolding iri_of_string
string_iri_stays more start string after = search (choice, value, fault)

iri_of_term_stays : (more start : List ℕ) (t : Term) (after : List ℕ) → Keeps more (iri_of_term start t after) (iri_of_term (start ++ more) t (after ++ more))
iri_of_term_stays more start (term.Iri iri) after = value more iri after
iri_of_term_stays more start (term.Blank label) after = fault more (Common BadPosition) start
iri_of_term_stays more start (term.Literal literal) after = search (chained, position_stays, string_iri_stays)

pub prefix_iri_stays : (more rest : List ℕ) → Keeps more (prefix_iri_of Open rest) (prefix_iri_of Known (rest ++ more))
unfolding prefix_iri_of
prefix_iri_stays more rest =
    late_then rest more (open_term rest) (needed_term_at (rest ++ more)) _ _ (live_term_late more rest)
    (λ x. iri_of_term_stays more rest x.0 x.1)
    (λ x y a b is. rw (a.1, b.1) (fault more (Common BadPosition) rest))

-- ---- words

other_stays : (X : Type 0) (more : List ℕ) (kind : RowKind) (rest : List ℕ) → Keeps {X = X} more (Err (other kind rest)) (Err (other kind (rest ++ more)))
unfolding other ends_row
other_stays X more kind rest = by (char_at rest) refl (char_stays more rest)
  where
    by : (r : TextRead ℕ) → char_at rest ≡ r → Stays more (char_at rest) (char_at (rest ++ more)) → Keeps {X = X} more (Err (other kind rest)) (Err (other kind (rest ++ more)))
    by (Err f) e (inl end) = let ended = subst TextAtEnd e end in inl (rw e ended)
    by (Err f) e (inr same) = let longer = same ∙ ap (text_with_more more) e in inr (rw (e, longer) refl)
    by (Ok x) e (inl end) = absurd (subst TextAtEnd e end)
    by (Ok x) e (inr same) = let longer = same ∙ ap (text_with_more more) e in inr (rw (e, longer) refl)

-- a run that doesn't reach the text's end
run_there : (test : ℕ → Bool) (rest more : List ℕ) → ((run_of test rest).1 ≡ [] → ⊥) → run_of test (rest ++ more) ≡ ((run_of test rest).0, (run_of test rest).1 ++ more)
run_there test rest more some =
    let le = prefix_len-le-length test rest in
    let apart = ne_eqb (prefix_len test rest) (length rest) (λ all. some (drop_all (prefix_len test rest) rest (omega (arith, all)))) in
    rw (prefix_len-append, apart, take-append-le (prefix_len test rest) rest more le, drop-append-le (prefix_len test rest) rest more le) refl

-- a word that the text's end cuts, and one that it doesn't
pub uncut_cases : (word : List ℕ × List ℕ) → (AtEnd (uncut word) × (word.1 ≡ [])) ⊎ ((uncut word ≡ Ok word) × (word.1 ≡ [] → ⊥))
uncut_cases (word, []) = inl (cut_end, refl)
uncut_cases (word, b ∷ after) = inr (rw (ne_eqb (suc (length after)) 0 (λ none. omega (arith, none))) refl, λ none. absurd cc)

run_stays : (test : ℕ → Bool) (more rest : List ℕ) → Keeps more (uncut (run_of test rest)) (Ok (run_of test (rest ++ more)))
run_stays test more rest = ⊎_elim (λ cut. inl cut.0) (λ apart. inr (rw apart.0 (ap (λ (word : List ℕ × List ℕ). Ok word) (run_there test rest more apart.1)))) (uncut_cases (run_of test rest))

pub uncut_longer : (word after more : List ℕ) → (after ≡ [] → ⊥) → uncut (word, after ++ more) ≡ Ok (word, after ++ more)
uncut_longer word [] more some = absurd (some refl)
uncut_longer word (b ∷ after) more some = rw (ne_eqb (suc (length (after ++ more))) 0 (λ none. omega (arith, none))) refl

pub word_run_stays : (test : ℕ → Bool) (more rest : List ℕ) → Keeps more (uncut (run_of test rest)) (uncut (run_of test (rest ++ more)))
word_run_stays test more rest = ⊎_elim (λ cut. inl cut.0) (λ apart. inr (rw apart.0 (ap uncut (run_there test rest more apart.1) ∙ uncut_longer (run_of test rest).0 (run_of test rest).1 more apart.1))) (uncut_cases (run_of test rest))

pub word_stays : (more rest : List ℕ) → Keeps more (word_at rest) (word_at (rest ++ more))
unfolding word_at
word_stays more [] = inl (cut_other (Common BadToken) [] refl)
word_stays more (b ∷ bs) = choice more (is_ascii_alphabetic b) _ _ _ _ (word_run_stays is_ascii_alphabetic more (b ∷ bs)) (other_stays (List ℕ) more (Common BadToken) (b ∷ bs))

pub key_stays : (more rest : List ℕ) → Keeps more (open_key rest) (key_at (rest ++ more))
unfolding open_key key_at
key_stays more [] = inl (cut_key Open [] refl)
key_stays more (b ∷ bs) = ⊎_elim
    (λ dot. rw dot (fault more WrongCount (b ∷ bs)))
    (λ dot. rw dot (⊎_elim (λ letter. rw letter (run_stays is_word_byte more (b ∷ bs))) (λ letter. rw letter (other_stays (List ℕ) more (Common BadToken) (b ∷ bs))) (cases_Bool (is_ascii_alphabetic b))))
    (cases_Bool (is_dot b))

pub past_more : (after more : List ℕ) → (after ≡ [] → ⊥) → past_colon (after ++ more) ≡ past_colon after ++ more
past_more [] more some = absurd (some refl)
past_more (b ∷ after) more some = elim (nat_eq b 58) as (λ colon. cond colon (after ++ more) (b ∷ (after ++ more)) ≡ cond colon after (b ∷ after) ++ more) [ true ↦ refl | false ↦ refl ]

word_prefix_stays : (more rest : List ℕ) → Keeps more (open_word_prefix rest) (word_prefix_of Known (rest ++ more))
unfolding open_word_prefix
word_prefix_stays more rest = ⊎_elim
    (λ cut. inl (end_then (uncut (run_of is_word_byte rest)) _ cut.0))
    (λ apart. inr (rw apart.0
    (ap (λ (word : List ℕ × List ℕ). Ok (word.0, past_colon word.1)) (run_there is_word_byte rest more apart.1) ∙ ap (λ (t : List ℕ). Ok ((run_of is_word_byte rest).0, t)) (past_more (run_of is_word_byte rest).1 more apart.1))))
    (uncut_cases (run_of is_word_byte rest))

pub prefix_stays : (more rest : List ℕ) → Keeps more (prefix_of Open rest) (prefix_of Known (rest ++ more))
unfolding prefix_of
prefix_stays more [] = inl (cut_prefix Open [] refl)
prefix_stays more (b ∷ bs) =
    choice more (nat_eq b 58) _ _ _ _ (value more [] bs)
    (choice more (is_ascii_alphabetic b) _ _ _ _ (word_prefix_stays more (b ∷ bs))
    (choice more (is_dot b || begins_term b) _ _ _ _ (quoted_stays more (b ∷ bs)) (other_stays (List ℕ) more (Common BadToken) (b ∷ bs))))

-- ---- the ends of rows

-- what stands behind the last part of a row
pub dot_stays : {X : Type 0} (more : List ℕ) (missing : RowKind) (x : X) (rest : List ℕ) → Keeps more (dot_at missing rest >>= λ after. Ok (x, after)) (dot_at missing (rest ++ more) >>= λ after. Ok (x, after))
unfolding dot_at
dot_stays more missing x [] = inl (cut_other missing [] refl)
dot_stays {X} more missing x (b ∷ bs) = ⊎_elim
    (λ dot. rw dot (value more x bs))
    (λ dot. rw dot (⊎_elim (λ term. rw term (fault more WrongCount (b ∷ bs))) (λ term. rw term (other_stays X more missing (b ∷ bs))) (cases_Bool (begins_term b))))
    (cases_Bool (is_dot b))

pub node_alike : (a b : List ℕ) → is_node (term.Blank a) ≡ is_node (term.Blank b)
node_alike a b = refl

pub iri_alike : (a b : List ℕ) → is_iri (term.Blank a) ≡ is_iri (term.Blank b)
iri_alike a b = refl

pub any_alike : (a b : List ℕ) → is_any (term.Blank a) ≡ is_any (term.Blank b)
any_alike a b = refl
