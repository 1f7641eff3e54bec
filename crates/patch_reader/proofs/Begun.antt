-- Tokens that the text's end cuts off, at the front of a row or of a part.
use Rattle.std.proofs.Common.{◌≡◌, ℕ, suc, ◌+◌, Bool, true, false, cond, List, [], ◌∷◌, take, drop, Ok, Err, nat_eq, ◌||◌, ◌⊎◌, inl, inr, ⊎_elim, refl, sym, ap, subst, ◌∙◌, arith}
use Rattle.std.specs.Char.{is_ascii_alphabetic}
use Rattle.std.specs.List.{list_all, prefix_len}
use Rattle.std.proofs.lemmas.Bool.{false≢true, and_parts, cases_Bool}
use Rattle.std.proofs.lemmas.Bool.Decides.{nat_tests}
use Rattle.rdf_terms.specs.Names.{begins_name}
use Rattle.rdf_terms.specs.declared.term.Literal.{Literal}
use Rattle.rdf_terms.specs.declared.term.LiteralKind.{LiteralKind}
use Rattle.rdf_terms.specs.declared.term.LiteralKind.TheVariants.{Plain, Tagged}
use Rattle.rdf_terms.specs.declared.term.Term.{Term}
use Rattle.rdf_terms.specs.declared.term.Term.TheVariants as term
use Rattle.nquads_text.specs.declared.fault.TextKind.TheVariants.{BadToken, Truncated}
use Rattle.nquads_text.specs.Fault.{TextRead, ◌>>=◌ as ◌and_then◌}
use Rattle.nquads_text.specs.Faults.{begins_term}
use Rattle.nquads_text.specs.Grammar.{is_blank}
use Rattle.nquads_text.specs.Reading.{char_at, iri_body_at, string_body_at}
use Rattle.nquads_text.specs.Terms.{name_at, label_at, tag_at, skip_blanks, typed_at, suffix_at, literal_at, term_at}
use Rattle.nquads_text.proofs.Fronts.{char_at-ascii}
use Rattle.patch_rows.specs.declared.fault.RowKind.TheVariants.{Common}
use Rattle.patch_rows.specs.Fault.{Read, ◌>>=◌, in_row}
use Rattle.patch_rows.specs.Faults.{is_dot}
use Rattle.patch_rows.specs.Grammar.{is_word_byte, is_any, is_node}
use Rattle.patch_rows.specs.Reading.{stands, row_term_at, bracket_at, needed_term_at, run_of, key_at, other, uncut, word_at}
use Rattle.patch_rows.specs.declared.cut.TextEnd.TheVariants.{Open}
use Rattle.patch_rows.specs.Rows.{live_row, open_key, open_term, open_word_prefix, placed_of, prefix_iri_of, prefix_of, quoted_of}
use Rattle.patch_reader.specs.declared.progress.RowPart.{RowPart}
use Rattle.patch_reader.specs.declared.progress.RowPart.TheVariants as part
use Rattle.patch_rows.specs.Cut.{TextAtEnd, AtEnd, ends_row, ends_text, label_open, literal_open}
use Rattle.patch_reader.specs.Inside.{IsLabelOpen, IsTagOpen, IsSuffixOpen, IsStringOpen}
use Rattle.patch_reader.specs.Progress.{graph_from, object_from, predicate_from, subject_from, value_from, key_from, iri_from, added_from, removed_from, rest_from, takes_term, takes_node, takes_word}
use Rattle.patch_reader.proofs.InsideSteps.{text_end_then}
use Rattle.patch_reader.proofs.RowParts.{row_open}
use Rattle.patch_reader.proofs.RowStays.{end_then, text_at_end}
use Rattle.patch_reader.proofs.TokenStays.{OpenKind, kind_is_open, string_last, label_size, label_rest}

truncated : ends_row (Common Truncated) [] ≡ true
unfolding ends_row ends_text
truncated = refl

-- ---- a literal

-- what stands behind a string is cut off, or it is a value that more text may change
abbrev CutKind : List ℕ → TextRead LiteralKind → Type 0
CutKind after r = TextAtEnd r ⊎ ((k : LiteralKind × List ℕ) × (r ≡ Ok k) × OpenKind after k)

all_skipped : (text : List ℕ) → list_all is_blank text ≡ true → skip_blanks text ≡ []
unfolding skip_blanks
all_skipped [] all = refl
all_skipped (b ∷ rest) all = let p = and_parts (is_blank b) (list_all is_blank rest) all in rw p.0 (all_skipped rest p.1)

blanks_first : (start after : List ℕ) → list_all is_blank after ≡ true → suffix_at start after ≡ Ok (Plain, after)
unfolding suffix_at typed_at
blanks_first start [] all = refl
blanks_first start (b ∷ rest) all =
    let blank = (and_parts (is_blank b) (list_all is_blank rest) all).0 in
    let no_tag : nat_eq b 64 ≡ false = grind (arith, nat_tests, blank) in
    rw no_tag (ap (λ (s : List ℕ). typed_at start (b ∷ rest) s) (all_skipped (b ∷ rest) all))

typed_first : (start after : List ℕ) → ((start text : List ℕ) → TextAtEnd (typed_at start text (skip_blanks after))) → TextAtEnd (suffix_at start after)
unfolding suffix_at typed_at skip_blanks
typed_first start [] end = absurd (end start [])
typed_first start (b ∷ rest) end = ⊎_elim (λ tag. absurd (no_tag tag)) (λ tag. rw tag (end start (b ∷ rest))) (cases_Bool (nat_eq b 64))
  where
    no_tag : nat_eq b 64 ≡ true → ⊥
    no_tag e =
        let no_blank : is_blank b ≡ false = grind (arith, nat_tests, e) in
        let no_hat : nat_eq b 94 ≡ false = grind (arith, nat_tests, e) in
        let here = end start (b ∷ rest) in
        rw no_hat at (rw no_blank at here)

tag_first : (start tag : List ℕ) → ((start : List ℕ) → IsTagOpen (tag_at true false start tag)) → CutKind (64 ∷ tag) (suffix_at start (64 ∷ tag))
unfolding suffix_at
tag_first start tag end = by (tag_at true false (64 ∷ tag) tag) (end (64 ∷ tag))
  where
    by : (r : TextRead (List ℕ)) → IsTagOpen r → CutKind (64 ∷ tag) (◌and_then◌ r (λ t. Ok (Tagged t.0, t.1)))
    by (Ok x) none = inr ((Tagged x.0, x.1), refl, inr (x.0, refl, none))
    by (Err f) end = inl end

suffix_open : (start after : List ℕ) → IsSuffixOpen after → CutKind after (suffix_at start after)
suffix_open start after (inl (inl all)) = inr ((Plain, after), blanks_first start after all, inl (refl, refl, all))
suffix_open start after (inl (inr end)) = inl (typed_first start after end)
suffix_open start after (inr t) = subst (λ (s : List ℕ). CutKind s (suffix_at start s)) (sym t.1) (tag_first start t.0 t.2)

abbrev CutLiteral : List ℕ → TextRead Literal → Type 0
CutLiteral start r = TextAtEnd r ⊎ ((l : Literal × List ℕ) × (r ≡ Ok l) × (literal_open start (term.Literal l.0) l.1 ≡ true))

literal_cut : (body : List ℕ) → IsStringOpen (string_body_at body) → CutLiteral (34 ∷ body) (literal_at (34 ∷ body) body)
unfolding literal_at
literal_cut body o = by (string_body_at body) refl o
  where
    kind : (text : List ℕ × List ℕ) → string_body_at body ≡ Ok text → (r : TextRead LiteralKind) → CutKind text.1 r
        → CutLiteral (34 ∷ body) (◌and_then◌ r (λ k. Ok (record { lexical = text.0; kind = k.0 }, k.1)))
    kind text e r (inl end) = inl (text_end_then r _ end)
    kind text e r (inr k) = inr ((record { lexical = text.0; kind = k.0.0 }, k.0.1), rw k.1 refl, kind_is_open (34 ∷ body) text.1 k.0 text.0 (string_last body text.0 text.1 e) k.2)

    by : (r : TextRead (List ℕ)) → string_body_at body ≡ r → IsStringOpen r → CutLiteral (34 ∷ body) (◌and_then◌ (string_body_at body) (λ text. ◌and_then◌ (suffix_at (34 ∷ body) text.1) (λ k. Ok (record { lexical = text.0; kind = k.0 }, k.1))))
    by (Ok text) e o = rw e (kind text e (suffix_at (34 ∷ body) text.1) (suffix_open (34 ∷ body) text.1 o))
    by (Err f) e o = inl (rw e o)

-- ---- terms

quote_first : (body : List ℕ) → term_at (34 ∷ body) ≡ ◌and_then◌ (literal_at (34 ∷ body) body) (λ l. Ok (term.Literal l.0, l.1))
unfolding term_at
quote_first body = rw (char_at-ascii 34 body (omega arith)) refl

string_term : (body : List ℕ) → IsStringOpen (string_body_at body) → AtEnd (open_term (34 ∷ body))
unfolding open_term needed_term_at row_term_at
string_term body o = rw (quote_first body) (by (literal_at (34 ∷ body) body) (literal_cut body o))
  where
    by : (r : TextRead Literal) → CutLiteral (34 ∷ body) r
        → AtEnd (in_row (◌and_then◌ r (λ l. Ok (term.Literal l.0, l.1))) >>= λ t. cond {A = Read Term} (literal_open (34 ∷ body) t.0 t.1) (Err (Common Truncated, [])) (Ok t))
    by r (inl end) = end_then (in_row (◌and_then◌ r (λ l. Ok (term.Literal l.0, l.1)))) _ (text_at_end (◌and_then◌ r (λ l. Ok (term.Literal l.0, l.1))) (text_end_then r _ end))
    by r (inr l) = rw l.1 (rw l.2 truncated)

iri_term : (body : List ℕ) → TextAtEnd (iri_body_at body) → AtEnd (open_term (60 ∷ body))
unfolding open_term needed_term_at row_term_at bracket_at
iri_term body a = end_then (row_term_at (60 ∷ body)) _ (end_then (in_row (iri_body_at body)) _ (text_at_end (iri_body_at body) a))

-- the first byte is one of these, and the term is cut off
data IsCutTerm (rest : List ℕ) : Type 0 where
  string : (body : List ℕ) → rest ≡ 34 ∷ body → AtEnd (open_term rest) → IsCutTerm rest
  iri : (body : List ℕ) → rest ≡ 60 ∷ body → AtEnd (open_term rest) → IsCutTerm rest

term_there : (rest : List ℕ) → IsCutTerm rest → stands begins_term rest ≡ true
term_there rest (IsCutTerm.string body is a) = ap (stands begins_term) is
term_there rest (IsCutTerm.iri body is a) = ap (stands begins_term) is

no_colon_there : (rest : List ℕ) → IsCutTerm rest → stands (λ b. nat_eq b 58) rest ≡ false
no_colon_there rest (IsCutTerm.string body is a) = ap (stands (λ b. nat_eq b 58)) is
no_colon_there rest (IsCutTerm.iri body is a) = ap (stands (λ b. nat_eq b 58)) is

no_letter_there : (rest : List ℕ) → IsCutTerm rest → stands is_ascii_alphabetic rest ≡ false
no_letter_there rest (IsCutTerm.string body is a) = ap (stands is_ascii_alphabetic) is
no_letter_there rest (IsCutTerm.iri body is a) = ap (stands is_ascii_alphabetic) is

cut_term : (rest : List ℕ) → IsCutTerm rest → AtEnd (open_term rest)
cut_term rest (IsCutTerm.string body is a) = a
cut_term rest (IsCutTerm.iri body is a) = a

cut_placed : (fits : Term → Bool) (rest : List ℕ) → IsCutTerm rest → AtEnd (placed_of Open fits rest)
unfolding placed_of
cut_placed fits rest o = end_then (open_term rest) _ (cut_term rest o)

either_true : (a b : Bool) → b ≡ true → (a || b) ≡ true
either_true true b e = refl
either_true false b e = e

cut_prefix : (rest : List ℕ) → IsCutTerm rest → AtEnd (prefix_of Open rest)
unfolding prefix_of quoted_of
cut_prefix rest o =
    rw (no_colon_there rest o) (rw (no_letter_there rest o) (rw (either_true (stands is_dot rest) (stands begins_term rest) (term_there rest o)) (end_then (open_term rest) _ (cut_term rest o))))

cut_prefix_iri : (rest : List ℕ) → IsCutTerm rest → AtEnd (prefix_iri_of Open rest)
unfolding prefix_iri_of
cut_prefix_iri rest o = end_then (open_term rest) _ (cut_term rest o)

ruleset cut_terms = (end_then, cut_placed, cut_prefix, cut_prefix_iri, false≢true)

term_opens : (p : RowPart) (rest : List ℕ) → takes_term p ≡ true → IsCutTerm rest → AtEnd (rest_from p rest)
unfolding graph_from object_from predicate_from subject_from value_from iri_from added_from removed_from
term_opens part.Graph rest t o = rw (term_there rest o) (end_then (placed_of Open is_node rest) _ (cut_placed is_node rest o))
term_opens _ rest t o = search cut_terms

pub string_opens : (p : RowPart) (rest body : List ℕ) → takes_term p ≡ true → rest ≡ 34 ∷ body → IsStringOpen (string_body_at body) → AtEnd (rest_from p rest)
string_opens p rest body t is a = term_opens p rest t (IsCutTerm.string body is (subst (λ (r : List ℕ). AtEnd (open_term r)) (sym is) (string_term body a)))

pub iri_opens : (p : RowPart) (rest body : List ℕ) → takes_term p ≡ true → rest ≡ 60 ∷ body → TextAtEnd (iri_body_at body) → AtEnd (rest_from p rest)
iri_opens p rest body t is a = term_opens p rest t (IsCutTerm.iri body is (subst (λ (r : List ℕ). AtEnd (open_term r)) (sym is) (iri_term body a)))

-- ---- labels

-- the label is read, and may go on
label_read : (start rest : List ℕ) (c : ℕ) (after : List ℕ) → char_at rest ≡ Ok (c, after) → begins_name c ≡ true → IsLabelOpen after
    → (l : List ℕ × List ℕ) × (name_at start rest ≡ Ok l) × (label_open l.1 ≡ true)
unfolding name_at
label_read start rest c after e begins o =
    let size = label_size rest (c, after) in ((take size rest, drop size rest), rw (e, begins) refl, ap label_open (label_rest rest (c, after) e) ∙ o)

line_first : (rest : List ℕ) → term_at (95 ∷ 58 ∷ rest) ≡ ◌and_then◌ (name_at (95 ∷ 58 ∷ rest) rest) (λ l. Ok (term.Blank l.0, l.1))
unfolding term_at label_at
line_first rest = rw (char_at-ascii 95 (58 ∷ rest) (omega arith)) (rw (char_at-ascii 58 rest (omega arith)) refl)

label_placed : (fits : Term → Bool) → ((l : List ℕ) → fits (term.Blank l) ≡ true) → (rest : List ℕ) (c : ℕ) (after : List ℕ) → char_at rest ≡ Ok (c, after) → begins_name c ≡ true → IsLabelOpen after
    → AtEnd (placed_of Open fits (95 ∷ 58 ∷ rest))
unfolding placed_of open_term needed_term_at row_term_at
label_placed fits blank rest c after e begins o =
    let l = label_read (95 ∷ 58 ∷ rest) rest c after e begins o in
    rw (line_first rest, l.1, blank l.0.0, l.2) truncated

any_blank : (l : List ℕ) → is_any (term.Blank l) ≡ true
any_blank l = refl

node_blank : (l : List ℕ) → is_node (term.Blank l) ≡ true
node_blank l = refl

ruleset cut_labels = (end_then, label_placed, any_blank, node_blank, false≢true)

pub label_opens : (p : RowPart) (rest : List ℕ) (c : ℕ) (after : List ℕ) → takes_node p ≡ true → char_at rest ≡ Ok (c, after) → begins_name c ≡ true → IsLabelOpen after → AtEnd (rest_from p (95 ∷ 58 ∷ rest))
unfolding graph_from object_from subject_from value_from
label_opens part.Graph rest c after t e begins o = end_then (placed_of Open is_node (95 ∷ 58 ∷ rest)) _ (label_placed is_node node_blank rest c after e begins o)
label_opens _ rest c after t e begins o = search cut_labels

-- ---- words

none_behind : (test : ℕ → Bool) (xs : List ℕ) → list_all test xs ≡ true → drop (prefix_len test xs) xs ≡ []
none_behind test [] all = refl
none_behind test (b ∷ xs) all =
    let p = and_parts (test b) (list_all test xs) all in
    let size : prefix_len test (b ∷ xs) ≡ suc (prefix_len test xs) = rw p.0 (one_more (prefix_len test xs)) in
    ap (λ (n : ℕ). drop n (b ∷ xs)) size ∙ none_behind test xs p.1
  where
    one_more : (n : ℕ) → 1 + n ≡ suc n
    one_more n = omega arith

run_cut : (test : ℕ → Bool) (b : ℕ) (rest : List ℕ) → test b ≡ true → list_all test rest ≡ true → AtEnd (uncut (run_of test (b ∷ rest)))
run_cut test b rest fits all =
    let whole : list_all test (b ∷ rest) ≡ true = rw fits all in
    rw (none_behind test (b ∷ rest) whole) truncated

letter_is_no_dot : (b : ℕ) → is_ascii_alphabetic b ≡ true → is_dot b ≡ false
letter_is_no_dot b e = grind (arith, nat_tests, e)

letter_is_no_colon : (b : ℕ) → is_ascii_alphabetic b ≡ true → nat_eq b 58 ≡ false
letter_is_no_colon b e = grind (arith, nat_tests, e)

letter_in_word : (b : ℕ) → is_ascii_alphabetic b ≡ true → is_word_byte b ≡ true
letter_in_word b e = grind (arith, nat_tests, e)

word_is_run : (b : ℕ) (rest : List ℕ) → is_ascii_alphabetic b ≡ true → word_at (b ∷ rest) ≡ uncut (run_of is_ascii_alphabetic (b ∷ rest))
unfolding word_at
word_is_run b rest letter = ap (λ (t : Bool). cond {A = Read (List ℕ)} t (uncut (run_of is_ascii_alphabetic (b ∷ rest))) (Err (other (Common BadToken) (b ∷ rest)))) letter

pub letters_open : (b : ℕ) (rest : List ℕ) → is_ascii_alphabetic b ≡ true → list_all is_ascii_alphabetic rest ≡ true → AtEnd (live_row (b ∷ rest))
letters_open b rest letter all = row_open (b ∷ rest) (subst AtEnd (sym (word_is_run b rest letter)) (run_cut is_ascii_alphabetic b rest letter all))

key_open : (b : ℕ) (rest : List ℕ) → is_ascii_alphabetic b ≡ true → list_all is_word_byte rest ≡ true → AtEnd (open_key (b ∷ rest))
unfolding open_key key_at
key_open b rest letter all = rw (letter_is_no_dot b letter) (rw letter (run_cut is_word_byte b rest (letter_in_word b letter) all))

word_prefix_open : (b : ℕ) (rest : List ℕ) → is_ascii_alphabetic b ≡ true → list_all is_word_byte rest ≡ true → AtEnd (prefix_of Open (b ∷ rest))
unfolding prefix_of open_word_prefix
word_prefix_open b rest letter all =
    rw (letter_is_no_colon b letter) (rw letter (end_then (uncut (run_of is_word_byte (b ∷ rest))) _ (run_cut is_word_byte b rest (letter_in_word b letter) all)))

ruleset cut_words = (end_then, key_open, word_prefix_open, false≢true)

pub word_opens : (p : RowPart) (b : ℕ) (rest : List ℕ) → takes_word p ≡ true → is_ascii_alphabetic b ≡ true → list_all is_word_byte rest ≡ true → AtEnd (rest_from p (b ∷ rest))
unfolding key_from added_from removed_from
word_opens part.Key b rest t letter all = end_then (open_key (b ∷ rest)) _ (key_open b rest letter all)
word_opens _ b rest t letter all = search cut_words
