-- Steps over words.
use Rattle.std.proofs.Common.{◌≡◌, ℕ, zero, suc, ◌+◌, ◌-◌, ◌<◌, ◌≤◌, Bool, true, false, List, [], ◌∷◌, length, take, drop, get_or, Ok, Err, nat_eq, refl, sym, ap, ◌∙◌, arith}
use Rattle.std.specs.List.{prefix_len}
use Rattle.std.specs.Str.{IsUtf8, IsAscii}
use Rattle.std.proofs.lemmas.List.{drop_more, drop_all, length-drop, drop-drop}
use Rattle.std.proofs.lemmas.Bool.{ne_eqb}
use Rattle.std.proofs.lemmas.Bool.Decides.{nat_tests}
use Rattle.std.proofs.lemmas.Str.{IsUtf8-from_ascii}
use Rattle.std.proofs.lemmas.Str.Ascii.{IsAscii-nil}
use Rattle.nquads_text.specs.declared.fault.TextKind.TheVariants.{Truncated}
use Rattle.patch_rows.specs.declared.fault.RowKind.TheVariants.{Common}
use Rattle.patch_rows.specs.Reading.{run_of, uncut}
use Rattle.patch_rows.specs.Grammar.{is_word_byte}

pub run_more : (test : ℕ → Bool) (text : List ℕ) (at : ℕ) → at < length text → test (get_or text at 0) ≡ true → prefix_len test (drop at text) ≡ 1 + prefix_len test (drop (at + 1) text)
run_more test text at lt e = rw (drop_more text at 0 lt, e) refl

pub run_stops : (test : ℕ → Bool) (text : List ℕ) (at : ℕ) → at < length text → test (get_or text at 0) ≡ false → prefix_len test (drop at text) ≡ 0
run_stops test text at lt e = rw (drop_more text at 0 lt, e) refl

pub run_ends : (test : ℕ → Bool) (text : List ℕ) (at : ℕ) → length text ≤ at → prefix_len test (drop at text) ≡ 0
run_ends test text at le = rw (drop_all at text le) refl

pub ruleset run_steps = (run_more, run_stops, run_ends)

-- ---- a word that was read

behind_run : (text : List ℕ) (at end n : ℕ) → end ≡ at + n → drop n (drop at text) ≡ drop end text
behind_run text at end n e = drop-drop n at text ∙ ap (λ (k : ℕ). drop k text) (sym e)

front_run : (at end n : ℕ) → end ≡ at + n → n ≡ end - at
front_run at end n e = omega arith

pub whole_word : (test : ℕ → Bool) (text : List ℕ) (at end : ℕ) → end ≡ at + prefix_len test (drop at text) → end ≤ length text → (end ≡ length text → ⊥)
    → uncut (run_of test (drop at text)) ≡ Ok (take (end - at) (drop at text), drop end text)
whole_word test text at end e le short =
    let n = prefix_len test (drop at text) in
    let back : drop n (drop at text) ≡ drop end text = behind_run text at end n e in
    let left : length (drop end text) ≡ length text - end = length-drop end text in
    let some : nat_eq (length (drop end text)) 0 ≡ false = ne_eqb (length (drop end text)) 0 (λ none. short (omega (arith, none, left))) in
    rw (back, some, front_run at end n e) refl

pub cut_word : (test : ℕ → Bool) (text : List ℕ) (at end : ℕ) → end ≡ at + prefix_len test (drop at text) → end ≡ length text
    → uncut (run_of test (drop at text)) ≡ Err (Common Truncated, drop end text)
cut_word test text at end e all =
    let n = prefix_len test (drop at text) in
    let back : drop n (drop at text) ≡ drop end text = behind_run text at end n e in
    let none : drop end text ≡ [] = drop_all end text (omega arith) in
    rw (back, none) refl

-- ---- its bytes are ASCII

small : (b : ℕ) → is_word_byte b ≡ true → b < 128
small b e = grind (arith, nat_tests)

ascii_more : (b : ℕ) (bytes : List ℕ) → b < 128 → IsAscii bytes → IsAscii (b ∷ bytes)
ascii_more b bytes low others zero = low
ascii_more b bytes low others (suc i) = others i

step_ascii : (b : ℕ) (rest : List ℕ) (t : Bool) → is_word_byte b ≡ t → IsAscii (take (prefix_len is_word_byte rest) rest) → IsAscii (take (prefix_len is_word_byte (b ∷ rest)) (b ∷ rest))
step_ascii b rest true e others =
    let one : prefix_len is_word_byte (b ∷ rest) ≡ suc (prefix_len is_word_byte rest) = rw e (omega arith) in
    rw one (ascii_more b (take (prefix_len is_word_byte rest) rest) (small b e) others)
step_ascii b rest false e others = let none : prefix_len is_word_byte (b ∷ rest) ≡ 0 = rw e refl in rw none IsAscii-nil

word_ascii : (bytes : List ℕ) → IsAscii (take (prefix_len is_word_byte bytes) bytes)
word_ascii [] = IsAscii-nil
word_ascii (b ∷ rest) = step_ascii b rest (is_word_byte b) refl (word_ascii rest)

pub word_utf8 : (bytes : List ℕ) (n : ℕ) → n ≡ prefix_len is_word_byte bytes → IsUtf8 (take n bytes)
word_utf8 bytes n e = rw e (IsUtf8-from_ascii (take (prefix_len is_word_byte bytes) bytes) (word_ascii bytes))
