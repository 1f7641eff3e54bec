-- What reading leaves open, more text decides: reading meets the text's end, or two bytes and more behind it break it.
use Rattle.std.proofs.Common.{◌≡◌, ℕ, ◌≤◌, Bool, true, false, cond, List, [], ◌∷◌, ◌++◌, length, Option, Some, None, Ok, Err, nat_eq, refl, sym, ap, subst, ◌∙◌, ◌⊎◌, inl, inr, ⊎_elim, arith, append-nil, take, drop, ◌||◌, not}
use Rattle.std.specs.Char.{is_ascii_alphabetic}
use Rattle.std.specs.List.{list_all, prefix_len}
use Rattle.std.proofs.lemmas.Bool.{and_parts, false≢true, eqb-true, cases_Bool, cond_both}
use Rattle.std.proofs.Math.Path.{fun_ext}
use Rattle.std.proofs.lemmas.Bool.Decides.{nat_tests}
use Rattle.rdf_terms.specs.Iri.{has_scheme, is_forbidden}
use Rattle.rdf_terms.specs.Quad.{statement, is_iri}
use Rattle.rdf_terms.specs.declared.change.Change.TheVariants as change
use Rattle.rdf_terms.specs.declared.term.Term.{Term}
use Rattle.rdf_terms.specs.declared.term.Term.TheVariants as term
use Rattle.nquads_text.specs.declared.fault.TextKind.TheVariants.{NotUtf8, RelativeIri, BadLabel, BadPosition, MissingDot, BadToken, Truncated}
use Rattle.nquads_text.specs.Fault.{TextRead}
use Rattle.nquads_text.specs.Faults.{begins_term}
use Rattle.nquads_text.specs.Reading.{char_at, iri_piece, pieces_at}
use Rattle.nquads_text.specs.Terms.{label_at, term_at}
use Rattle.patch_rows.specs.declared.codes.Code.{Code}
use Rattle.patch_rows.specs.declared.codes.Code.TheVariants as code
use Rattle.patch_rows.specs.declared.fault.RowKind.{RowKind}
use Rattle.patch_rows.specs.declared.fault.RowKind.TheVariants.{Common, WrongCount}
use Rattle.patch_rows.specs.declared.row.Row.{Row}
use Rattle.patch_rows.specs.declared.row.Row.TheVariants as row
use Rattle.patch_rows.specs.Fault.{Fault, Read, ◌>>=◌, in_row}
use Rattle.patch_rows.specs.Faults.{is_dot, FaultDecided}
use Rattle.patch_rows.specs.Grammar.{is_space, is_word_byte, is_any, is_node, RowDecided}
use Rattle.patch_rows.proofs.WholeRow.{exact_row}
use Rattle.patch_rows.specs.Reading.{space_behind, skip_space, stands, other, begins_blank, whole_label, bracketed, bracket_at, row_term_at, needed_term_at, key_at, past_colon, plain_text, plain_of, or_bad_position, iri_of_string, iri_of_term, dot_at, end_at, code_named, uncut, run_of, word_at}
use Rattle.patch_rows.specs.declared.cut.TextEnd.{TextEnd}
use Rattle.patch_rows.specs.declared.cut.TextEnd.TheVariants.{Open, Known}
use Rattle.patch_rows.specs.Rows.{key_of, added_of, bare_at, by_code, graph_of, graph_or_dot_of, header_of, live_row, open_key, open_term, open_word_prefix, parts_of, placed_of, prefix_iri_of, prefix_of, quad_of, quoted_of, removed_of, row_at, row_of}
use Rattle.patch_rows.specs.Cut.{AtEnd, leads, is_cut, ends_text, ends_row, literal_open, blank_open}
use Rattle.patch_reader.proofs.Completions.{stop}
use Rattle.patch_reader.proofs.Breaks.{TermBreaks, IsOpen, term_breaks}
use Rattle.patch_reader.proofs.RowStays.{with_more, Keeps, chained, choice, value, end_then, cut_placed, cut_key, cut_prefix, cut_prefix_iri, cut_dot, cut_graph, space_stays, blank_is_no_literal, placed_stays, prefix_iri_stays, uncut_cases, word_stays, key_stays, prefix_stays, dot_stays, node_alike, iri_alike, any_alike}

-- ---- what comes of a reading that is at the end

-- a byte stands there with which no character begins
abbrev pub row_stop : Fault
row_stop = (Common NotUtf8, stop)

-- what the whole readings of this text and of longer ones give: one is at the end, or one is broken, or else
pub data Outcome {X : Type 0} (longer : List ℕ → Read X) (Else : Type 0) : Type 0 where
  ended : AtEnd (longer []) → Outcome longer Else
  broken : (bytes : List ℕ) → 2 ≤ length bytes → longer bytes ≡ Err row_stop → Outcome longer Else
  otherwise : Else → Outcome longer Else

-- one goes on, up to such a byte
abbrev pub GoesOn : {X : Type 0} → (List ℕ → Read X) → Type 0
GoesOn longer = (bytes : List ℕ) × (2 ≤ length bytes) × (x : _) × (longer bytes ≡ Ok (x, stop))

-- a word is cut
abbrev pub CutsWord : {X : Type 0} → (List ℕ → Read X) → Type 0
CutsWord longer = (x : _) × (longer [] ≡ Ok x) × (is_cut x.1 ≡ true)

abbrev pub Ends : {X : Type 0} → Read X → (List ℕ → Read X) → Type 0
Ends live longer = AtEnd live → Outcome longer ⊥

pub widened : {X A B : Type 0} (longer : List ℕ → Read X) → (A → B) → Outcome longer A → Outcome longer B
widened longer to (Outcome.ended a) = Outcome.ended a
widened longer to (Outcome.broken bytes two is) = Outcome.broken bytes two is
widened longer to (Outcome.otherwise x) = Outcome.otherwise (to x)

pub went_on : {X : Type 0} (x : X × List ℕ) (more : List ℕ) (longer : Read X) → Keeps more (Ok x) longer → longer ≡ Ok (x.0, x.1 ++ more)
went_on x more longer (inl h) = absurd h
went_on x more longer (inr h) = h

-- one reading behind another: the outcome of the first one
module _ {X Y A : Type 0} (longer : List ℕ → Read X) (g : List ℕ → X × List ℕ → Read Y) (other : A → Outcome (λ more. longer more >>= g more) ⊥) where
  carried : Outcome longer A → Outcome (λ more. longer more >>= g more) ⊥
  carried (Outcome.ended a) = Outcome.ended (end_then (longer []) (g []) a)
  carried (Outcome.broken bytes two is) = Outcome.broken bytes two (rw is refl)
  carried (Outcome.otherwise x) = other x

  then_ends : (r : Read X) (f : X × List ℕ → Read Y) → ((more : List ℕ) → Keeps more r (longer more)) → (AtEnd r → Outcome longer A)
      → ((x : X × List ℕ) → Ends (f x) (λ more. g more (x.0, x.1 ++ more))) → Ends (r >>= f) (λ more. longer more >>= g more)
  then_ends (Err e) f keeps opens next h = carried (opens h)
  then_ends (Ok x) f keeps opens next h =
      subst (λ (l : List ℕ → Read Y). Outcome l ⊥) (fun_ext (λ more. ap (λ (r : Read X). r >>= g more) (sym (went_on x more (longer more) (keeps more))))) (next x h)

  -- what follows is never at the end
  then_sure : (r : Read X) (f : X × List ℕ → Read Y) → (AtEnd r → Outcome longer A) → ((x : X × List ℕ) → AtEnd (f x) → ⊥) → Ends (r >>= f) (λ more. longer more >>= g more)
  then_sure (Ok x) f opens sure h = absurd (sure x h)
  then_sure (Err e) f opens sure h = carried (opens h)

-- a reading that is the whole one
whole_ends : {X : Type 0} (whole : List ℕ → Read X) (rest : List ℕ) → Ends (whole rest) (λ more. whole (rest ++ more))
whole_ends whole rest h = Outcome.ended (subst (λ (t : List ℕ). AtEnd (whole t)) (sym (append-nil rest)) h)

-- ---- at a cut, and before the byte that stops

cut_space : (rest : List ℕ) → is_cut rest ≡ true → is_cut (skip_space rest) ≡ true
unfolding space_behind
cut_space [] e = refl
cut_space (b ∷ rest) e =
    let led = (and_parts (leads b) _ e).0 in
    let low : 0x80 ≤ b = grind (arith, nat_tests, led) in
    rw (no_space b low, no_hash b low) e
  where
    no_space : (b : ℕ) → 0x80 ≤ b → is_space b ≡ false
    no_space b low = grind (arith, nat_tests, low)

    no_hash : (b : ℕ) → 0x80 ≤ b → nat_eq b 35 ≡ false
    no_hash b low = grind (arith, nat_tests, low)

stop_space : skip_space stop ≡ stop
unfolding space_behind
stop_space = refl

needed_stops : needed_term_at stop ≡ Err row_stop
unfolding needed_term_at row_term_at term_at char_at
needed_stops = refl

placed_stops : (fits : Term → Bool) → placed_of Known fits stop ≡ Err row_stop
unfolding placed_of
placed_stops fits = rw needed_stops refl

prefix_iri_stops : prefix_iri_of Known stop ≡ Err row_stop
unfolding prefix_iri_of
prefix_iri_stops = rw needed_stops refl

dot_stops : (missing : RowKind) → dot_at missing stop ≡ Err row_stop
unfolding dot_at other char_at
dot_stops missing = refl

graph_stops : graph_or_dot_of Known stop ≡ Err row_stop
unfolding graph_or_dot_of dot_at other char_at
graph_stops = refl

-- ---- terms

abbrev got : Term × List ℕ → Read Term
got x = Ok x

none_read : (x : Term × List ℕ) → got x ≡ row_term_at [] → ⊥
unfolding row_term_at term_at char_at
none_read x e = absurd cc

in_row_ok : (r : TextRead Term) (x : Term × List ℕ) → in_row r ≡ Ok x → r ≡ Ok x
in_row_ok (Ok y) x e = ap back e
  where
    back : Read Term → TextRead Term
    back (Ok z) = Ok z
    back (Err f) = Ok y
in_row_ok (Err f) x e = absurd cc

-- what brackets hold is open in no way
bracket_shut : (start bytes after : List ℕ) (x : Term × List ℕ) → bracketed start bytes after ≡ Ok x → (stands (λ b. nat_eq b 95) start ≡ false) → IsOpen start x → ⊥
unfolding bracketed
bracket_shut start bytes after x e first is = by (begins_blank bytes) (has_scheme bytes) (label_at bytes (drop 1 bytes)) e
  where
    blank_shut : (label : List ℕ) (rest : List ℕ) → IsOpen start (term.Blank label, rest) → ⊥
    blank_shut label rest (inl e) = false≢true e
    blank_shut label rest (inr e) = false≢true (sym first ∙ (and_parts (stands (λ b. nat_eq b 95) start) _ e).0)

    iri_shut : (iri : List ℕ) (rest : List ℕ) → IsOpen start (term.Iri iri, rest) → ⊥
    iri_shut iri rest (inl e) = false≢true e
    iri_shut iri rest (inr e) = false≢true e

    whole : (empty : Bool) (label : List ℕ) → cond {A = Read Term} empty (Ok (term.Blank label, after)) (Err (Common BadLabel, start)) ≡ Ok x → ⊥
    whole true label e = let same : (term.Blank label, after) ≡ x = cc in blank_shut label after (subst (IsOpen start) (sym same) is)
    whole false label e = absurd cc

    by : (blank scheme : Bool) (r : TextRead (List ℕ)) → cond {A = Read Term} blank (whole_label start after r) (cond scheme (Ok (term.Iri bytes, after)) (Err (Common RelativeIri, start))) ≡ Ok x → ⊥
    by true scheme (Ok l) e = whole (nat_eq (length l.1) 0) l.0 e
    by true scheme (Err f) e = absurd cc
    by false true r e = let same : (term.Iri bytes, after) ≡ x = cc in iri_shut bytes after (subst (IsOpen start) (sym same) is)
    by false false r e = absurd cc

row_bind_ok : {X Y : Type 0} (r : Read X) (f : X × List ℕ → Read Y) (y : Y × List ℕ) → (r >>= f) ≡ Ok y → (x : X × List ℕ) × (r ≡ Ok x) × (f x ≡ Ok y)
row_bind_ok (Ok x) f y e = (x, refl, e)
row_bind_ok (Err g) f y e = absurd cc

row_term_breaks : (rest : List ℕ) (x : Term × List ℕ) → row_term_at rest ≡ Ok x → IsOpen rest x → TermBreaks row_stop x.0 (λ bytes. row_term_at (rest ++ bytes))
unfolding row_term_at bracket_at term_at char_at
row_term_breaks [] x e is = absurd cc
row_term_breaks (b ∷ bs) x e is = ⊎_elim
    (λ less.
    let p = row_bind_ok (in_row (pieces_at iri_piece 0 bs)) (λ y. bracketed (b ∷ bs) y.0 y.1) x (rw less at e) in
    absurd (bracket_shut (b ∷ bs) p.0.0 p.0.1 x p.2 (ap (λ (k : ℕ). nat_eq k 95) (eqb-true b 60 less)) is))
    (λ less. rw less (as_row (term_breaks (b ∷ bs) x (in_row_ok (term_at (b ∷ bs)) x (rw less at e)) is)))
    (cases_Bool (nat_eq b 60))
  where
    as_row : TermBreaks (NotUtf8, stop) x.0 (λ bytes. term_at ((b ∷ bs) ++ bytes)) → TermBreaks row_stop x.0 (λ bytes. in_row (term_at ((b ∷ bs) ++ bytes)))
    as_row (TermBreaks.broken bytes two is) = TermBreaks.broken bytes two (ap in_row is)
    as_row (TermBreaks.gone_on bytes two label is blank) = TermBreaks.gone_on bytes two label (ap in_row is) blank

needed_breaks : (rest : List ℕ) (x : Term × List ℕ) → needed_term_at rest ≡ Ok x → IsOpen rest x → TermBreaks row_stop x.0 (λ bytes. needed_term_at (rest ++ bytes))
unfolding needed_term_at
needed_breaks [] x e is = absurd (none_read x (sym e))
needed_breaks (b ∷ bs) x e is = ⊎_elim
    (λ dot. let none : got x ≡ Err (WrongCount, b ∷ bs) = sym (rw dot at e) in absurd cc)
    (λ dot. rw dot (row_term_breaks (b ∷ bs) x (rw dot at e) is))
    (cases_Bool (is_dot b))

abbrev settled : List ℕ → Read Term → Read Term
settled start r = r >>= λ t. cond (literal_open start t.0 t.1) (Err (Common Truncated, [])) (Ok t)

term_ends : (rest : List ℕ) → Ends (open_term rest) (λ bytes. needed_term_at (rest ++ bytes))
unfolding open_term
term_ends rest h = by (needed_term_at rest) refl h
  where
    breaks : (x : Term × List ℕ) → literal_open rest x.0 x.1 ≡ true → TermBreaks row_stop x.0 (λ bytes. needed_term_at (rest ++ bytes)) → Outcome (λ bytes. needed_term_at (rest ++ bytes)) ⊥
    breaks x o (TermBreaks.broken bytes two is) = Outcome.broken bytes two is
    breaks x o (TermBreaks.gone_on bytes two label is blank) = absurd (false≢true (sym (blank_is_no_literal rest x.0 x.1 blank) ∙ o))

    by : (r : Read Term) → needed_term_at rest ≡ r → AtEnd (settled rest r) → Outcome (λ bytes. needed_term_at (rest ++ bytes)) ⊥
    by (Err f) e h = whole_ends needed_term_at rest (subst AtEnd (sym e) h)
    by (Ok x) e h = ⊎_elim (λ o. breaks x o (needed_breaks rest x e (inl o))) (λ o. absurd (rw o at h)) (cases_Bool (literal_open rest x.0 x.1))

-- a term that is read is the one that is needed
live_is_needed : (rest : List ℕ) (x : Term × List ℕ) → open_term rest ≡ Ok x → needed_term_at rest ≡ Ok x
unfolding open_term
live_is_needed rest x e =
    let p = row_bind_ok (needed_term_at rest) (λ t. cond (literal_open rest t.0 t.1) (Err (Common Truncated, [])) (Ok t)) x e in
    p.1 ∙ by p.0 (literal_open rest p.0.0 p.0.1) p.2
  where
    by : (t : Term × List ℕ) (o : Bool) → cond {A = Read Term} o (Err (Common Truncated, [])) (Ok t) ≡ Ok x → got t ≡ Ok x
    by t true e = absurd cc
    by t false e = e

no_position_end : (rest : List ℕ) → ends_row (Common BadPosition) rest ≡ true → ⊥
unfolding ends_row ends_text
no_position_end rest e = false≢true e

abbrev pub OpenPlaced : (Term → Bool) → List ℕ → Type 0
OpenPlaced fits rest = Outcome (λ bytes. placed_of Known fits (rest ++ bytes)) (GoesOn (λ bytes. placed_of Known fits (rest ++ bytes)))

pub placed_ends : (fits : Term → Bool) (rest : List ℕ) → ((a b : List ℕ) → fits (term.Blank a) ≡ fits (term.Blank b)) → AtEnd (placed_of Open fits rest) → OpenPlaced fits rest
unfolding placed_of
placed_ends fits rest alike h = by (open_term rest) refl h
  where
    final : Outcome (λ bytes. needed_term_at (rest ++ bytes)) ⊥ → OpenPlaced fits rest
    final (Outcome.ended a) = Outcome.ended (end_then (needed_term_at (rest ++ [])) _ a)
    final (Outcome.broken bytes two is) = Outcome.broken bytes two (rw is refl)
    final (Outcome.otherwise x) = absurd x

    breaks : (x : Term × List ℕ) → fits x.0 ≡ true → TermBreaks row_stop x.0 (λ bytes. needed_term_at (rest ++ bytes)) → OpenPlaced fits rest
    breaks x fit (TermBreaks.broken bytes two is) = Outcome.broken bytes two (rw is refl)
    breaks x fit (TermBreaks.gone_on bytes two label is blank) =
        let same : fits (term.Blank label) ≡ true = alike label blank.0 ∙ ap fits (sym blank.1) ∙ fit in
        Outcome.otherwise (bytes, two, term.Blank label, rw is (rw same refl))

    chosen : (x : Term × List ℕ) → open_term rest ≡ Ok x → (fit o : Bool) → fits x.0 ≡ fit → blank_open rest x.0 x.1 ≡ o
        → AtEnd (cond {A = Read Term} fit (cond o (Err (Common Truncated, [])) (Ok x)) (Err (Common BadPosition, rest))) → OpenPlaced fits rest
    chosen x e true true f o h = breaks x f (needed_breaks rest x (live_is_needed rest x e) (inr o))
    chosen x e true false f o h = absurd h
    chosen x e false o f p h = absurd (no_position_end rest h)

    by : (r : Read Term) → open_term rest ≡ r → AtEnd (r >>= λ t. cond (fits t.0) (cond (blank_open rest t.0 t.1) (Err (Common Truncated, [])) (Ok t)) (Err (Common BadPosition, rest))) → OpenPlaced fits rest
    by (Err f) e h = final (term_ends rest (subst AtEnd (sym e) h))
    by (Ok x) e h = chosen x e (fits x.0) (blank_open rest x.0 x.1) refl refl h

no_end_position : (o : Option (List ℕ)) (start after : List ℕ) → AtEnd (or_bad_position o start after) → ⊥
no_end_position (Some text) start after h = h
no_end_position None start after h = no_position_end start h

pub quoted_ends : (rest : List ℕ) → Ends (quoted_of Open rest) (λ bytes. quoted_of Known (rest ++ bytes))
unfolding quoted_of
quoted_ends rest = then_sure (λ bytes. needed_term_at (rest ++ bytes)) (λ bytes t. or_bad_position (plain_text t.0) (rest ++ bytes) t.1) absurd (open_term rest) _ (term_ends rest)
    (λ x h. no_end_position (plain_text x.0) rest x.1 h)

no_end_iri : (start string after : List ℕ) → AtEnd (iri_of_string start string after) → ⊥
unfolding iri_of_string ends_row ends_text
no_end_iri start string after = cond_both (list_all (λ b. not (is_forbidden b)) string) _ _ never (λ _. cond_both (has_scheme string) _ _ never (λ _ h. h) (λ _ h. false≢true h)) (λ _ h. false≢true h)
  where
    never : Read (List ℕ) → Type 0
    never r = AtEnd r → ⊥

no_end_iri_of_term : (start : List ℕ) (t : Term) (after : List ℕ) → AtEnd (iri_of_term start t after) → ⊥
no_end_iri_of_term start (term.Iri iri) after h = h
no_end_iri_of_term start (term.Blank label) after h = no_position_end start h
no_end_iri_of_term start (term.Literal literal) after h = by (plain_of literal.kind literal.lexical) h
  where
    by : (o : Option (List ℕ)) → AtEnd (or_bad_position o start after >>= λ string. iri_of_string start string.0 string.1) → ⊥
    by (Some text) h = no_end_iri start text after h
    by None h = no_position_end start h

pub prefix_iri_ends : (rest : List ℕ) → Ends (prefix_iri_of Open rest) (λ bytes. prefix_iri_of Known (rest ++ bytes))
unfolding prefix_iri_of
prefix_iri_ends rest = then_sure (λ bytes. needed_term_at (rest ++ bytes)) (λ bytes t. iri_of_term (rest ++ bytes) t.0 t.1) absurd (open_term rest) _ (term_ends rest)
    (λ x h. no_end_iri_of_term rest x.0 x.1 h)

-- ---- words

-- a word that the text's end cuts is read whole
cut_word : (word : List ℕ × List ℕ) → AtEnd (uncut word) → word.1 ≡ []
cut_word word h = ⊎_elim (λ cut. cut.1) (λ apart. absurd (subst AtEnd apart.0 h)) (uncut_cases word)

key_ends : (rest : List ℕ) → AtEnd (open_key rest) → Outcome (λ bytes. key_at (rest ++ bytes)) (CutsWord (λ bytes. key_at (rest ++ bytes)))
unfolding open_key
key_ends rest h = by (key_at rest) refl h
  where
    by : (r : Read (List ℕ)) → key_at rest ≡ r → AtEnd (r >>= λ k. uncut k) → Outcome (λ bytes. key_at (rest ++ bytes)) (CutsWord (λ bytes. key_at (rest ++ bytes)))
    by (Err f) e h = widened (λ bytes. key_at (rest ++ bytes)) absurd (whole_ends key_at rest (subst AtEnd (sym e) h))
    by (Ok k) e h = Outcome.otherwise (k, ap key_at (append-nil rest) ∙ e, ap is_cut (cut_word k h))

-- a reading of which only the value is changed is at the end
before_value : {X Y : Type 0} (r : Read X) (to : X × List ℕ → Y × List ℕ) → AtEnd (r >>= λ x. Ok (to x)) → AtEnd r
before_value (Ok x) to h = absurd h
before_value (Err f) to h = h

abbrev OpenPrefix : List ℕ → Type 0
OpenPrefix rest = Outcome (λ bytes. prefix_of Known (rest ++ bytes)) (CutsWord (λ bytes. prefix_of Known (rest ++ bytes)))

prefix_ends : (rest : List ℕ) → AtEnd (prefix_of Open rest) → OpenPrefix rest
unfolding prefix_of open_word_prefix
prefix_ends [] h = Outcome.ended (cut_prefix Known [] refl)
prefix_ends (b ∷ bs) h = by (nat_eq b 58) (is_ascii_alphabetic b) (is_dot b || begins_term b) refl refl refl h
  where
    by : (colon letter term : Bool) → nat_eq b 58 ≡ colon → is_ascii_alphabetic b ≡ letter → (is_dot b || begins_term b) ≡ term
        → AtEnd (cond {A = Read (List ℕ)} colon (Ok ([], bs)) (cond letter (open_word_prefix (b ∷ bs)) (cond term (quoted_of Open (b ∷ bs)) (Err (other (Common BadToken) (b ∷ bs)))))) → OpenPrefix (b ∷ bs)
    by true letter term c l t h = absurd h
    by false true term c l t h =
        let none = cut_word (run_of is_word_byte (b ∷ bs)) (before_value (uncut (run_of is_word_byte (b ∷ bs))) _ h) in
        let word : List ℕ = take (prefix_len is_word_byte (b ∷ bs)) (b ∷ bs) in
        Outcome.otherwise ((word, []), ap (prefix_of Known) (append-nil (b ∷ bs)) ∙ rw (c, l) (ap (λ (s : List ℕ). Ok (word, past_colon s)) none), refl)
    by false false true c l t h = rw (c, l, t) (widened _ absurd (quoted_ends (b ∷ bs) h))
    by false false false c l t h = widened (λ bytes. prefix_of Known ((b ∷ bs) ++ bytes)) absurd (whole_ends (prefix_of Known) (b ∷ bs) (rw (c, l, t) h))

-- ---- parts, and what closes a row

-- what is known of a reading at the end of its text and of longer ones
pub record Reads {X : Type 0} (Else : (List ℕ → Read X) → Type 0) (read : TextEnd → List ℕ → Read X) : Type 0 where
  pub stays : (more rest : List ℕ) → Keeps more (read Open rest) (read Known (rest ++ more))
  pub ends : (rest : List ℕ) → AtEnd (read Open rest) → Outcome (λ more. read Known (rest ++ more)) (Else (λ more. read Known (rest ++ more)))
  pub cut : (end : TextEnd) (rest : List ℕ) → is_cut rest ≡ true → AtEnd (read end rest)
  pub stops : read Known stop ≡ Err row_stop

abbrev RowPart : {X : Type 0} → (TextEnd → List ℕ → Read X) → Type 0
RowPart read = Reads (λ longer. GoesOn longer ⊎ CutsWord longer) read

abbrev Closes : {X : Type 0} → (TextEnd → List ℕ → Read X) → Type 0
Closes read = Reads (λ longer. ⊥) read

key_reads : RowPart key_of
unfolding key_at other char_at
key_reads = record {
  stays = key_stays;
  ends = λ rest h. widened (λ more. key_at (rest ++ more)) (λ cut. inr cut) (key_ends rest h);
  cut = cut_key;
  stops = refl;
}

placed_reads : (fits : Term → Bool) → ((a b : List ℕ) → fits (term.Blank a) ≡ fits (term.Blank b)) → RowPart (λ end rest. placed_of end fits rest)
unfolding placed_of
placed_reads fits alike = record {
  stays = λ more rest. placed_stays fits more rest alike;
  ends = λ rest h. widened (λ more. placed_of Known fits (rest ++ more)) (λ on. inl on) (placed_ends fits rest alike h);
  cut = λ end. cut_placed end fits;
  stops = rw needed_stops refl;
}

prefix_reads : RowPart prefix_of
unfolding prefix_of other char_at
prefix_reads = record {
  stays = prefix_stays;
  ends = λ rest h. widened (λ more. prefix_of Known (rest ++ more)) (λ cut. inr cut) (prefix_ends rest h);
  cut = cut_prefix;
  stops = refl;
}

prefix_iri_reads : RowPart prefix_iri_of
unfolding prefix_iri_of
prefix_iri_reads = record {
  stays = prefix_iri_stays;
  ends = λ rest h. widened (λ more. prefix_iri_of Known (rest ++ more)) absurd (prefix_iri_ends rest h);
  cut = cut_prefix_iri;
  stops = rw needed_stops refl;
}

dot_reads : {X : Type 0} (missing : RowKind) (x : X) → Closes (λ end rest. dot_at missing rest >>= λ after. Ok (x, after))
dot_reads missing x = record {
  stays = λ more rest. dot_stays more missing x rest;
  ends = whole_ends (λ rest. dot_at missing rest >>= λ after. Ok (x, after));
  cut = λ end rest e. end_then (dot_at missing rest) _ (cut_dot missing rest e);
  stops = rw (dot_stops missing) refl;
}

-- behind white space and comments
spaced : {X : Type 0} {Else : (List ℕ → Read X) → Type 0} {read : TextEnd → List ℕ → Read X} → Reads Else read → Reads Else (λ end rest. read end (skip_space rest))
unfolding space_behind
spaced {Else = Else} {read = read} reads = record {
  stays = λ more rest. ⊎_elim
      (λ cut. inl (reads.cut Open (skip_space rest) cut))
      (λ same. subst (λ (t : List ℕ). Keeps more (read Open (skip_space rest)) (read Known t)) (sym same) (reads.stays more (skip_space rest)))
      (space_stays more false 0 rest);
  ends = λ rest h. ⊎_elim
      (λ cut. Outcome.ended (subst (λ (t : List ℕ). AtEnd (read Known (skip_space t))) (sym (append-nil rest)) (reads.cut Known (skip_space rest) cut)))
      (λ apart. subst (λ (longer : List ℕ → Read _). Outcome longer (Else longer)) (fun_ext (λ more. ap (read Known) (sym (same_space rest apart more)))) (reads.ends (skip_space rest) h))
      (cases_Bool (is_cut (skip_space rest)));
  cut = λ end rest e. reads.cut end (skip_space rest) (cut_space rest e);
  stops = reads.stops;
}
  where
    same_space : (rest : List ℕ) → is_cut (skip_space rest) ≡ false → (more : List ℕ) → skip_space (rest ++ more) ≡ skip_space rest ++ more
    same_space rest apart more = ⊎_elim (λ cut. absurd (false≢true (sym apart ∙ cut))) (λ same. same) (space_stays more false 0 rest)

end_reads : {X : Type 0} (missing : RowKind) (x : X) → Closes (λ end rest. end_at missing rest >>= λ after. Ok (x, after))
end_reads missing x = spaced (dot_reads missing x)

-- one part, and what closes the row behind it
then_reads : {X Y : Type 0} {read : TextEnd → List ℕ → Read X} {next : X → TextEnd → List ℕ → Read Y} → RowPart read → ((x : X) → Closes (next x)) → Closes (λ end rest. read end rest >>= λ x. next x.0 end x.1)
then_reads {read = read} {next = next} part closes = record {
  stays = λ more rest. chained more (read Open rest) (read Known (rest ++ more)) _ _ (part.stays more rest) (λ x e. (closes x.0).stays more x.1);
  ends = λ rest. then_ends (λ more. read Known (rest ++ more)) (λ more x. next x.0 Known x.1) (met rest) (read Open rest) _ (λ more. part.stays more rest) (part.ends rest) (λ x. (closes x.0).ends x.1);
  cut = λ end rest e. end_then (read end rest) _ (part.cut end rest e);
  stops = rw part.stops refl;
}
  where
    met : (rest : List ℕ) → GoesOn (λ more. read Known (rest ++ more)) ⊎ CutsWord (λ more. read Known (rest ++ more)) → Outcome (λ more. read Known (rest ++ more) >>= λ x. next x.0 Known x.1) ⊥
    met rest (inl (bytes, two, x, is)) = Outcome.broken bytes two (rw is (closes x).stops)
    met rest (inr (x, is, cut)) = Outcome.ended (rw is ((closes x.0).cut Known x.1 cut))

-- the same with another value
made : {X Y : Type 0} {read : TextEnd → List ℕ → Read X} (to : X → Y) → Closes read → Closes (λ end rest. read end rest >>= λ x. Ok (to x.0, x.1))
made {read = read} to closes = record {
  stays = λ more rest. chained more (read Open rest) (read Known (rest ++ more)) _ _ (closes.stays more rest) (λ x e. value more (to x.0) x.1);
  ends = λ rest. then_sure (λ more. read Known (rest ++ more)) _ absurd (read Open rest) _ (closes.ends rest) (λ x h. h);
  cut = λ end rest e. end_then (read end rest) _ (closes.cut end rest e);
  stops = rw closes.stops refl;
}

-- ---- rows

node_part : RowPart (λ end rest. placed_of end is_node (skip_space rest))
node_part = spaced (placed_reads is_node node_alike)

iri_part : RowPart (λ end rest. placed_of end is_iri (skip_space rest))
iri_part = spaced (placed_reads is_iri iri_alike)

any_part : RowPart (λ end rest. placed_of end is_any (skip_space rest))
any_part = spaced (placed_reads is_any any_alike)

-- a graph and the dot
named_graph : Closes (λ end rest. placed_of end is_node rest >>= λ g. end_at (Common MissingDot) g.1 >>= λ after. Ok (Some g.0, after))
named_graph = then_reads (placed_reads is_node node_alike) (λ g. end_reads (Common MissingDot) (Some g))

graph_reads : Closes (λ end rest. graph_of end rest)
unfolding graph_or_dot_of
graph_reads = spaced (record { stays = stays; ends = ends; cut = cut_graph; stops = graph_stops })
  where
    stays : (more rest : List ℕ) → Keeps more (graph_or_dot_of Open rest) (graph_or_dot_of Known (rest ++ more))
    stays more [] = inl (cut_graph Open [] refl)
    stays more (b ∷ bs) = choice more (begins_term b) _ _ _ _ (named_graph.stays more (b ∷ bs)) (dot_stays more (Common MissingDot) None (b ∷ bs))

    ends : (rest : List ℕ) → Ends (graph_or_dot_of Open rest) (λ more. graph_or_dot_of Known (rest ++ more))
    ends [] h = Outcome.ended (cut_graph Known [] refl)
    ends (b ∷ bs) h = ⊎_elim
        (λ term. rw term (named_graph.ends (b ∷ bs) (rw term at h)))
        (λ term. rw term ((dot_reads (Common MissingDot) None).ends (b ∷ bs) (rw term at h)))
        (cases_Bool (begins_term b))

header_reads : Closes header_of
unfolding header_of
header_reads = then_reads (spaced key_reads) (λ key. then_reads any_part (λ v. end_reads (Common MissingDot) (row.Header key v)))

quad_reads : Closes quad_of
unfolding quad_of
quad_reads = then_reads node_part (λ s. then_reads iri_part (λ p. then_reads any_part (λ o. made (λ graph. statement s p o graph) graph_reads)))

added_reads : Closes added_of
unfolding added_of
added_reads = then_reads (spaced prefix_reads) (λ prefix. then_reads (spaced prefix_iri_reads) (λ iri. made (λ graph. row.Change (change.PrefixAdd prefix iri graph)) graph_reads))

removed_reads : Closes removed_of
unfolding removed_of
removed_reads = then_reads (spaced prefix_reads) (λ prefix. made (λ graph. row.Change (change.PrefixDelete prefix graph)) graph_reads)

parts_read : (c : Code) → Closes (λ end rest. parts_of end c rest)
unfolding parts_of bare_at
parts_read code.Header = header_reads
parts_read code.Begin = end_reads (Common BadToken) (row.Change change.Begin)
parts_read code.Commit = end_reads (Common BadToken) (row.Change change.Commit)
parts_read code.Abort = end_reads (Common BadToken) (row.Change change.Abort)
parts_read code.PrefixAdd = added_reads
parts_read code.PrefixDelete = removed_reads
parts_read code.Add = made (λ q. row.Change (change.Add q)) quad_reads
parts_read code.Delete = made (λ q. row.Change (change.Delete q)) quad_reads

code_stays : (more : List ℕ) (o : Option Code) (start rest : List ℕ) → Keeps more (by_code Open o start rest) (by_code Known o (start ++ more) (rest ++ more))
code_stays more (Some c) start rest = (parts_read c).stays more rest
code_stays more None start rest = inr refl

code_ends : (o : Option Code) (start rest : List ℕ) → Ends (by_code Open o start rest) (λ bytes. by_code Known o (start ++ bytes) (rest ++ bytes))
unfolding ends_row
code_ends (Some c) start rest = (parts_read c).ends rest
code_ends None start rest = λ h. absurd (false≢true h)

-- a row that is open at its end is open in the whole text, or more text breaks it
pub row_ends : (rest : List ℕ) → Ends (live_row rest) (λ bytes. row_at (rest ++ bytes))
unfolding row_of
row_ends rest =
    then_ends (λ bytes. word_at (rest ++ bytes)) (λ bytes word. by_code Known (code_named word.0) (rest ++ bytes) word.1) absurd (word_at rest) _
    (λ more. word_stays more rest) (whole_ends word_at rest) (λ word. code_ends (code_named word.0) rest word.1)

-- a row that is read while its text may go on is read of every longer text, and so is its fault
pub row_stays : (more rest : List ℕ) → Keeps more (live_row rest) (row_at (rest ++ more))
unfolding row_of
row_stays more rest =
    chained more (word_at rest) (word_at (rest ++ more)) _ _ (word_stays more rest) (λ word e. code_stays more (code_named word.0) rest word.1)

pub row_again : (text more : List ℕ) (r : Row) (after : List ℕ) → live_row text ≡ Ok (r, after) → row_at (text ++ more) ≡ Ok (r, after ++ more)
row_again text more r after e = ⊎_elim (λ end. absurd (subst AtEnd e end)) (λ same. same ∙ ap (with_more more) e) (row_stays more text)

pub fault_again : (text more : List ℕ) (f : Fault) → live_row text ≡ Err f → ends_row f.0 f.1 ≡ false → row_at (text ++ more) ≡ Err (f.0, f.1 ++ more)
fault_again text more f e still_open = ⊎_elim (λ end. absurd (false≢true (sym still_open ∙ subst AtEnd e end))) (λ same. same ∙ ap (with_more more) e) (row_stays more text)

pub row_decided : (text : List ℕ) (r : Row) (after : List ℕ) → live_row text ≡ Ok (r, after) → RowDecided text r after
row_decided text r after e = λ more. (exact_row (text ++ more)).found (r, after ++ more) (row_again text more r after e)

pub fault_decided : (text : List ℕ) (f : Fault) → live_row text ≡ Err f → ends_row f.0 f.1 ≡ false → FaultDecided text f
fault_decided text f e still_open = λ more. (exact_row (text ++ more)).fault (f.0, f.1 ++ more) (fault_again text more f e still_open)
