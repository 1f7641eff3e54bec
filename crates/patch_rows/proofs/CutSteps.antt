-- Steps over dots and blanks, and the last byte of a token.
use Rattle.std.proofs.Common.{◌≡◌, ℕ, ◌+◌, ◌-◌, ◌<◌, ◌≤◌, true, false, List, length, drop, get_or, slice_index, nat_eq, nat_lt, refl, ap, ◌∙◌, arith}
use Rattle.std.specs.List.{list_all}
use Rattle.std.proofs.lemmas.List.{drop_more, drop_all, length-drop, get_or-drop}
use Rattle.std.proofs.lemmas.Bool.{ne_eqb}
use Rattle.std.proofs.lemmas.Bool.Decides.{nat_tests}
use Rattle.nquads_text.specs.Grammar.{is_blank}
use Rattle.patch_rows.specs.Cut.{begins_name_char, label_open, ends_quoted}

pub dot_more : (text : List ℕ) (at : ℕ) → at < length text → get_or text at 0 ≡ 46 → label_open (drop (at + 1) text) ≡ label_open (drop at text)
unfolding label_open
dot_more text at lt e = rw (drop_more text at 0 lt, e) refl

pub dot_stops : (text : List ℕ) (at : ℕ) → at < length text → (get_or text at 0 ≡ 46 → ⊥) → begins_name_char (drop at text) ≡ label_open (drop at text)
unfolding label_open
dot_stops text at lt ne = let no : nat_eq (get_or text at 0) 46 ≡ false = ne_eqb (get_or text at 0) 46 ne in rw (drop_more text at 0 lt) (rw no refl)

pub dots_end : (text : List ℕ) (at : ℕ) → length text ≤ at → label_open (drop at text) ≡ true
unfolding label_open
dots_end text at le = rw (drop_all at text le) refl

pub ruleset dot_steps = (dot_more, dot_stops, dots_end)

blank_or : (b : ℕ) → (b ≡ 32 → ⊥) → (b ≡ 9 → ⊥) → is_blank b ≡ false
blank_or b x y = grind (arith, nat_tests, x, y)

pub blank_stops : (text : List ℕ) (at : ℕ) → at < length text → (get_or text at 0 ≡ 32 → ⊥) → (get_or text at 0 ≡ 9 → ⊥) → list_all is_blank (drop at text) ≡ false
blank_stops text at lt x y = let no = blank_or (get_or text at 0) x y in rw (drop_more text at 0 lt) (rw no refl)

pub space_more : (text : List ℕ) (at : ℕ) → at < length text → get_or text at 0 ≡ 32 → list_all is_blank (drop (at + 1) text) ≡ list_all is_blank (drop at text)
space_more text at lt e = rw (drop_more text at 0 lt, e) refl

pub tab_more : (text : List ℕ) (at : ℕ) → at < length text → get_or text at 0 ≡ 9 → list_all is_blank (drop (at + 1) text) ≡ list_all is_blank (drop at text)
tab_more text at lt e = rw (drop_more text at 0 lt, e) refl

pub blanks_end : (text : List ℕ) (at : ℕ) → length text ≤ at → list_all is_blank (drop at text) ≡ true
blanks_end text at le = rw (drop_all at text le) refl

pub ruleset blank_steps = (blank_stops, space_more, tab_more, blanks_end)

-- the last byte of what stands between two places
last_there : (text : List ℕ) (start end : ℕ) → start < end → end ≤ length text → slice_index (drop start text) (length (drop start text) - length (drop end text) - 1) ≡ get_or text (end - 1) 0
last_there text start end lt le =
    let a : length (drop start text) ≡ length text - start = length-drop start text in
    let b : length (drop end text) ≡ length text - end = length-drop end text in
    let at : length (drop start text) - length (drop end text) - 1 ≡ end - 1 - start = omega (arith, a, b) in
    let sum : start + (end - 1 - start) ≡ end - 1 = omega (arith) in
    ap (λ (k : ℕ). slice_index (drop start text) k) at ∙ get_or-drop start text (end - 1 - start) 0 ∙ ap (λ (k : ℕ). get_or text k 0) sum

shorter : (text : List ℕ) (start end : ℕ) → start < end → end ≤ length text → nat_lt (length (drop end text)) (length (drop start text)) ≡ true
shorter text start end lt le =
    let less : length (drop end text) < length (drop start text) = omega (arith, length-drop start text, length-drop end text) in
    grind (arith, nat_tests, less)

pub quoted_end : (text : List ℕ) (start end : ℕ) → start < end → end ≤ length text → get_or text (end - 1) 0 ≡ 34 → ends_quoted (drop start text) (drop end text) ≡ true
quoted_end text start end lt le e =
    let byte = last_there text start end lt le ∙ e in
    rw (shorter text start end lt le, byte) refl

pub other_end : (text : List ℕ) (start end : ℕ) → start < end → end ≤ length text → (get_or text (end - 1) 0 ≡ 34 → ⊥) → ends_quoted (drop start text) (drop end text) ≡ false
other_end text start end lt le ne =
    let byte = last_there text start end lt le in
    let no : nat_eq (get_or text (end - 1) 0) 34 ≡ false = ne_eqb (get_or text (end - 1) 0) 34 ne in
    rw (shorter text start end lt le, byte) no

pub nothing_there : (text : List ℕ) (start end : ℕ) → end ≤ start → end ≤ length text → ends_quoted (drop start text) (drop end text) ≡ false
nothing_there text start end le within =
    let more : length (drop start text) ≤ length (drop end text) = omega (arith, length-drop start text, length-drop end text) in
    let no : nat_lt (length (drop end text)) (length (drop start text)) ≡ false = grind (arith, nat_tests, more) in
    rw no refl

pub ruleset quote_steps = (quoted_end, other_end, nothing_there)
