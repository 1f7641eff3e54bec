-- Words and keys are the longest of their forms.
use Rattle.std.proofs.Common.{◌≡◌, ℕ, suc, ◌<◌, ◌≤◌, Bool, true, false, ◌||◌, List, [], ◌∷◌, ◌++◌, length, take, drop, nat_eq, Ok, refl, sym, ap, subst, ◌∙◌, ◌⊎◌, inl, inr, ⊎_elim, arith}
use Rattle.std.specs.List.{list_all, prefix_len}
use Rattle.std.specs.Char.{is_ascii_alphabetic}
use Rattle.std.proofs.lemmas.List.{length-append, append-nil, take-append-drop}
use Rattle.std.proofs.lemmas.List.Folds.{length-prefix_len}
use Rattle.std.proofs.lemmas.Bool.{and_parts, false≢true, ne_eqb}
use Rattle.std.proofs.lemmas.Bool.Decides.{nat_tests}
use Rattle.rdf_terms.specs.Tag.{IsWord}
use Rattle.nquads_text.specs.declared.fault.TextKind.TheVariants.{BadToken, Truncated}
use Rattle.nquads_text.specs.Grammar.{Longest}
use Rattle.nquads_text.proofs.LabelReads.{longest_same}
use Rattle.patch_rows.specs.declared.fault.RowKind.TheVariants.{Common, WrongCount}
use Rattle.patch_rows.specs.Fault.{Fault}
use Rattle.patch_rows.specs.Grammar.{is_word_byte, IsKey, KeyAt, WordAt}
use Rattle.patch_rows.specs.Faults.{is_dot, RowLacks, KeyFault}
use Rattle.patch_rows.specs.Reading.{stands, run_of, uncut, word_at, key_at}
use Rattle.patch_rows.proofs.Exact.{Exact, exact_ok, exact_err, exact_of, restated, choice}
use Rattle.patch_rows.proofs.TermLaws.{starts, started}
use Rattle.patch_rows.proofs.PartLaws.{or_none, none_or, apart, exact_other, lacks_stands}

-- ---- runs

module _ (test : ℕ → Bool) where
  run_all : (text : List ℕ) → list_all test (take (prefix_len test text) text) ≡ true
  run_all [] = refl
  run_all (b ∷ rest) = by (test b) refl (run_all rest)
    where
      by : (t : Bool) → test b ≡ t → list_all test (take (prefix_len test rest) rest) ≡ true → list_all test (take (prefix_len test (b ∷ rest)) (b ∷ rest)) ≡ true
      by true e others = let one : prefix_len test (b ∷ rest) ≡ suc (prefix_len test rest) = rw e (omega arith) in rw (one, e) others
      by false e others = let none : prefix_len test (b ∷ rest) ≡ 0 = rw e refl in rw none refl

  run_reaches : (front rest : List ℕ) → list_all test front ≡ true → length front ≤ prefix_len test (front ++ rest)
  run_reaches [] rest all = omega arith
  run_reaches (b ∷ front) rest all =
      let t = and_parts (test b) (list_all test front) all in
      let others = run_reaches front rest t.1 in
      let one : prefix_len test (b ∷ (front ++ rest)) ≡ suc (prefix_len test (front ++ rest)) = rw t.0 (omega arith) in omega (arith, one, others)

  run_parts : (text : List ℕ) → text ≡ take (prefix_len test text) text ++ drop (prefix_len test text) text
  run_parts text = sym (take-append-drop (prefix_len test text) text)

  -- a form whose texts pass the test all through is longest as the run
  pub run_longest : (Form : List ℕ → Type 0) (text : List ℕ) → ((bytes : List ℕ) → Form bytes → list_all test bytes ≡ true) → Form (take (prefix_len test text) text)
      → Longest Form text (take (prefix_len test text) text) (drop (prefix_len test text) text)
  run_longest Form text passes is = (
    is,
    run_parts text,
    λ longer rest f shape.
        let reach : length longer ≤ prefix_len test text = subst (λ (s : List ℕ). length longer ≤ prefix_len test s) (sym shape) (run_reaches longer rest (passes longer f)) in
        let size : length (take (prefix_len test text) text) ≡ prefix_len test text = length-prefix_len test text in
        omega (arith, reach, size),
  )

-- ---- keys

letter_in_word : (b : ℕ) → is_ascii_alphabetic b ≡ true → is_word_byte b ≡ true
letter_in_word b e = grind (arith, nat_tests)

pub key_bytes : (bytes : List ℕ) → IsKey bytes → list_all is_word_byte bytes ≡ true
key_bytes [] is = absurd is
key_bytes (b ∷ bytes) is = let one : is_word_byte b ≡ true = letter_in_word b is.0 in rw one is.1

run_is_key : (text : List ℕ) → stands is_ascii_alphabetic text ≡ true → IsKey (take (prefix_len is_word_byte text) text)
run_is_key [] e = absurd (false≢true e)
run_is_key (b ∷ rest) e =
    let one : prefix_len is_word_byte (b ∷ rest) ≡ suc (prefix_len is_word_byte rest) = rw (letter_in_word b e) (omega arith) in
    rw one (e, run_all is_word_byte rest)

pub key_there : (text : List ℕ) → stands is_ascii_alphabetic text ≡ true → Longest IsKey text (take (prefix_len is_word_byte text) text) (drop (prefix_len is_word_byte text) text)
key_there text e = run_longest is_word_byte IsKey text key_bytes (run_is_key text e)

key_opens : (text key after : List ℕ) → IsKey key → text ≡ key ++ after → stands is_ascii_alphabetic text ≡ true
key_opens text [] after is shape = absurd is
key_opens text (b ∷ key) after is shape = ap (stands is_ascii_alphabetic) shape ∙ is.0

pub key_begins : (text key after : List ℕ) → Longest IsKey text key after → stands is_ascii_alphabetic text ≡ true
key_begins text key after k = key_opens text key after k.0 k.1

abbrev pub pair : List ℕ → List ℕ → List ℕ × List ℕ
pair a b = (a, b)

pub key_is_run : (text key after : List ℕ) → Longest IsKey text key after → pair key after ≡ run_of is_word_byte text
key_is_run text key after k =
    let same = longest_same IsKey text key after (take (prefix_len is_word_byte text) text) (drop (prefix_len is_word_byte text) text) k (key_there text (key_begins text key after k)) in
    ap (λ (a : List ℕ). pair a after) same.0 ∙ ap (λ (b : List ℕ). pair (take (prefix_len is_word_byte text) text) b) same.1

pub letter_no_dot : (c : ℕ) → is_ascii_alphabetic c ≡ true → is_dot c ≡ false
letter_no_dot c e = grind (arith, nat_tests)

dot_or_letter_low : (c : ℕ) → (is_dot c || is_ascii_alphabetic c) ≡ true → c < 128
dot_or_letter_low c e = grind (arith, nat_tests)

abbrev KeyShape : List ℕ → Fault → Type 0
KeyShape text f = ((stands is_dot text ≡ true) × (f ≡ (WrongCount, text))) ⊎ ((stands is_dot text ≡ false)
    × (((stands is_ascii_alphabetic text ≡ true) × ⊥) ⊎ ((stands is_ascii_alphabetic text ≡ false) × RowLacks (λ c. is_dot c || is_ascii_alphabetic c) text (Common BadToken, text) f)))

key_fault : (text : List ℕ) (f : Fault) → KeyShape text f → KeyFault text f
key_fault text f (inl a) = KeyFault.dot (starts is_dot text a.0, a.1)
key_fault text f (inr b) = ⊎_elim (λ c. absurd c.1) (λ d. KeyFault.other d.1) b.1

key_shape : (text : List ℕ) (f : Fault) → KeyFault text f → KeyShape text f
key_shape text f (KeyFault.dot d) = inl (started is_dot text d.0, d.1)
key_shape text f (KeyFault.other l) =
    let n = or_none is_dot is_ascii_alphabetic text (lacks_stands (λ c. is_dot c || is_ascii_alphabetic c) dot_or_letter_low text (Common BadToken, text) f l) in inr (n.0, inr (n.1, l))

pub exact_key : (text : List ℕ) → Exact (key_at text) (λ x. KeyAt text x.0 x.1) (λ f. KeyFault text f)
unfolding key_at
exact_key text =
    restated
    (choice (stands is_dot text) (λ dot. exact_err (List ℕ × List ℕ) (WrongCount, text))
    (λ other. choice (stands is_ascii_alphabetic text) (λ letter. exact_ok (run_of is_word_byte text))
    (λ none. exact_other (λ c. is_dot c || is_ascii_alphabetic c) dot_or_letter_low text (List ℕ × List ℕ) (Common BadToken) (none_or is_dot is_ascii_alphabetic text other none))))
    (λ x t. ⊎_elim (λ a. absurd a.1) (λ b. ⊎_elim (λ c. subst (λ (v : List ℕ × List ℕ). KeyAt text v.0 v.1) (sym c.1) (key_there text c.0)) (λ d. absurd d.1) b.1) t)
    (λ x k. let letter = key_begins text x.0 x.1 k in inr (apart is_ascii_alphabetic is_dot text letter_no_dot letter, inl (letter, key_is_run text x.0 x.1 k)))
    (λ f t. key_fault text f t)
    (λ f t. key_shape text f t)

-- ---- words of letters

abbrev letter : ℕ → Bool
letter = is_ascii_alphabetic

run_is_word : (text : List ℕ) → stands letter text ≡ true → IsWord letter (take (prefix_len letter text) text)
run_is_word [] e = absurd (false≢true e)
run_is_word (b ∷ rest) e =
    let one : prefix_len letter (b ∷ rest) ≡ suc (prefix_len letter rest) = rw e (omega arith) in
    let size : length (take (prefix_len letter (b ∷ rest)) (b ∷ rest)) ≡ prefix_len letter (b ∷ rest) = length-prefix_len letter (b ∷ rest) in
    (omega (arith, one, size), run_all letter (b ∷ rest))

word_there : (text : List ℕ) → stands letter text ≡ true → Longest (IsWord letter) text (take (prefix_len letter text) text) (drop (prefix_len letter text) text)
word_there text e = run_longest letter (IsWord letter) text (λ bytes w. w.1) (run_is_word text e)

word_opens : (text word after : List ℕ) → IsWord letter word → text ≡ word ++ after → stands letter text ≡ true
word_opens text [] after w shape = absurd (omega (arith, w.0))
word_opens text (b ∷ word) after w shape = ap (stands letter) shape ∙ (and_parts (letter b) (list_all letter word) w.1).0

word_is_run : (text word after : List ℕ) → Longest (IsWord letter) text word after → (word ≡ take (prefix_len letter text) text) × (after ≡ drop (prefix_len letter text) text)
word_is_run text word after w = longest_same (IsWord letter) text word after (take (prefix_len letter text) text) (drop (prefix_len letter text) text) w (word_there text (word_opens text word after w.0 w.1))

letter_low : (c : ℕ) → is_ascii_alphabetic c ≡ true → c < 128
letter_low c e = grind (arith, nat_tests)

abbrev pub WordFault : List ℕ → Fault → Type 0
WordFault text f = RowLacks is_ascii_alphabetic text (Common BadToken, text) f ⊎ (IsWord is_ascii_alphabetic text × (f ≡ (Common Truncated, [])))

-- the run, and what stands behind it
exact_uncut : (text left : List ℕ) → stands letter text ≡ true → left ≡ drop (prefix_len letter text) text
    → Exact (uncut (take (prefix_len letter text) text, left)) (λ x. WordAt text x.0 x.1) (λ f. IsWord letter text × (f ≡ (Common Truncated, [])))
exact_uncut text [] e is =
    let all : text ≡ take (prefix_len letter text) text = run_parts letter text ∙ ap (λ (t : List ℕ). take (prefix_len letter text) text ++ t) (sym is) ∙ append-nil (take (prefix_len letter text) text) in
    restated (exact_err (List ℕ × List ℕ) (Common Truncated, []))
    (λ x bad. absurd bad)
    (λ x w. w.1 ((word_is_run text x.0 x.1 w.0).1 ∙ sym is))
    (λ f same. (subst (IsWord letter) (sym all) (run_is_word text e), same))
    (λ f t. t.1)
exact_uncut text (b ∷ left) e is =
    let word : List ℕ = take (prefix_len letter text) text in
    let some : nat_eq (length (b ∷ left)) 0 ≡ false = ne_eqb (length (b ∷ left)) 0 (λ none. omega (arith, none)) in
    let there : Longest (IsWord letter) text word (b ∷ left) = subst (λ (s : List ℕ). Longest (IsWord letter) text word s) (sym is) (word_there text e) in
    exact_of (uncut (word, b ∷ left)) (Ok (pair word (b ∷ left))) (λ x. WordAt text x.0 x.1) (λ f. IsWord letter text × (f ≡ (Common Truncated, []))) (rw some refl)
    (restated (exact_ok (pair word (b ∷ left)))
    (λ x same. subst (λ (v : List ℕ × List ℕ). WordAt text v.0 v.1) (sym same) (there, λ none. absurd cc))
    (λ x w. let same = word_is_run text x.0 x.1 w.0 in ap (λ (a : List ℕ). pair a x.1) same.0 ∙ ap (λ (c : List ℕ). pair word c) (same.1 ∙ sym is))
    (λ f none. absurd none)
    (λ f t.
    let le : length text ≤ length word = there.2 text [] t.0 (sym (append-nil text)) in
    let parts : length text ≡ length (word ++ b ∷ left) = ap length there.1 in
    absurd (omega (arith, le, parts, length-append word (b ∷ left)))))

pub exact_word : (text : List ℕ) → Exact (word_at text) (λ x. WordAt text x.0 x.1) (λ f. WordFault text f)
unfolding word_at
exact_word text =
    restated
    (choice (stands is_ascii_alphabetic text) (λ e. exact_uncut text (drop (prefix_len letter text) text) e refl)
    (λ none. exact_other is_ascii_alphabetic letter_low text (List ℕ × List ℕ) (Common BadToken) none))
    (λ x t. ⊎_elim (λ a. a.1) (λ b. absurd b.1) t)
    (λ x w. inl (word_opens text x.0 x.1 w.0.0 w.0.1, w))
    (λ f t. ⊎_elim (λ a. inr a.1) (λ b. inl b.1) t)
    (λ f t.
    ⊎_elim
    (λ l. inr (lacks_stands is_ascii_alphabetic letter_low text (Common BadToken, text) f l, l))
    (λ c. inl (word_opens text text [] c.0 (sym (append-nil text)), c))
    t)
