-- One character further through white space and comments.
use Rattle.std.proofs.Common.{◌≡◌, ℕ, zero, suc, ◌+◌, ◌-◌, ◌<◌, ◌≤◌, Bool, true, false, List, [], ◌∷◌, ◌++◌, length, drop, get_or, Ok, Err, nat_eq, not, refl, sym, ap, ◌∙◌, arith}
use Rattle.std.specs.Char.{encode_utf8}
use Rattle.std.proofs.lemmas.List.{drop_more, drop_all, drop_at, length-append}
use Rattle.std.proofs.lemmas.Str.{length-encode, len_utf8_bounds}
use Rattle.std.proofs.lemmas.Bool.{eqb-true}
use Rattle.nquads_text.specs.Fault.{TextFault}
use Rattle.nquads_text.specs.Reading.{char_at}
use Rattle.nquads_text.proofs.Fronts.{char_spelled}
use Rattle.nquads_text.specs.Grammar.{is_line_end}
use Rattle.patch_rows.specs.Grammar.{is_space}
use Rattle.patch_rows.specs.Reading.{space_behind}

-- what is left of a character is skipped
pub space_skip : (comment : Bool) (k : ℕ) (rest : List ℕ) → space_behind comment k rest ≡ space_behind comment 0 (drop k rest)
unfolding space_behind
space_skip comment zero rest = refl
space_skip comment (suc k) [] = refl
space_skip comment (suc k) (b ∷ rest) = space_skip comment k rest

-- what follows the first byte of a character, from behind it on
pub behind_first : (b : ℕ) (rest front after : List ℕ) → b ∷ rest ≡ front ++ after → (front ≡ [] → ⊥) → drop (length rest - length after) rest ≡ after
behind_first b rest [] after e some = absurd (some refl)
behind_first b rest (f ∷ front) after e some =
    let tail : rest ≡ front ++ after = cc in
    let l : length rest ≡ length front + length after = ap length tail ∙ length-append front after in
    let n : length rest - length after ≡ length front = omega arith in
    ap (λ (k : ℕ). drop k rest) n ∙ ap (drop (length front)) tail ∙ drop_at front after (length front) refl

nothing_read : (c : ℕ) (after : List ℕ) → char_at [] ≡ Ok (c, after) → ⊥
unfolding char_at
nothing_read c after e = absurd cc

pub first_byte : (b : ℕ) (rest : List ℕ) (c : ℕ) (after : List ℕ) → char_at (b ∷ rest) ≡ Ok (c, after) → encode_utf8 c ≡ [] → ⊥
first_byte b rest c after e none = let l : length (encode_utf8 c) ≡ 0 = ap length none in absurd (omega (arith, l, length-encode c, (len_utf8_bounds c).0))

-- a character of a comment
pub in_comment : (text : List ℕ) (c : ℕ) (after : List ℕ) → char_at text ≡ Ok (c, after) → space_behind true 0 text ≡ space_behind (not (is_line_end c)) 0 after
unfolding space_behind
in_comment [] c after e = absurd (nothing_read c after e)
in_comment (b ∷ rest) c after e =
    rw e
    (space_skip (not (is_line_end c)) (length rest - length after) rest
    ∙ ap (space_behind (not (is_line_end c)) 0) (behind_first b rest (encode_utf8 c) after (char_spelled (b ∷ rest) c after e).1 (first_byte b rest c after e)))

-- no character there
pub no_char : (text : List ℕ) (f : TextFault) → char_at text ≡ Err f → space_behind true 0 text ≡ text
unfolding space_behind
no_char [] f e = refl
no_char (b ∷ rest) f e = rw e refl

pub past_char : (text : List ℕ) (at next c : ℕ) (ends : Bool) → char_at (drop at text) ≡ Ok (c, drop next text) → ends ≡ is_line_end c
    → space_behind true 0 (drop at text) ≡ space_behind (not ends) 0 (drop next text)
past_char text at next c ends e is = in_comment (drop at text) c (drop next text) e ∙ ap (λ (t : Bool). space_behind (not t) 0 (drop next text)) (sym is)

hash_over : (b : ℕ) (rest : List ℕ) → b ≡ 35 → space_behind false 0 (b ∷ rest) ≡ space_behind true 0 rest
unfolding space_behind
hash_over b rest e = rw e refl

pub at_hash : (text : List ℕ) (at : ℕ) → at < length text → get_or text at 0 ≡ 35 → space_behind false 0 (drop at text) ≡ space_behind true 0 (drop (at + 1) text)
at_hash text at lt e = rw (drop_more text at 0 lt) (hash_over (get_or text at 0) (drop (at + 1) text) e)

pub past_blank : (text : List ℕ) (at : ℕ) → at < length text → is_space (get_or text at 0) ≡ true → space_behind false 0 (drop at text) ≡ space_behind false 0 (drop (at + 1) text)
unfolding space_behind
past_blank text at lt e = rw (drop_more text at 0 lt, e) refl

other_by : (b : ℕ) (rest : List ℕ) (hash : Bool) → nat_eq b 35 ≡ hash → (b ≡ 35 → ⊥) → is_space b ≡ false → space_behind false 0 (b ∷ rest) ≡ b ∷ rest
unfolding space_behind
other_by b rest false h ne e = rw (e, h) refl
other_by b rest true h ne e = absurd (ne (eqb-true b 35 h))

pub at_other : (text : List ℕ) (at : ℕ) → at < length text → (get_or text at 0 ≡ 35 → ⊥) → is_space (get_or text at 0) ≡ false → space_behind false 0 (drop at text) ≡ drop at text
at_other text at lt ne e = rw (drop_more text at 0 lt) (other_by (get_or text at 0) (drop (at + 1) text) (nat_eq (get_or text at 0) 35) refl ne e)

pub at_end : (text : List ℕ) (at : ℕ) (comment : Bool) → length text ≤ at → space_behind comment 0 (drop at text) ≡ drop at text
unfolding space_behind
at_end text at comment le = rw (drop_all at text le) refl

pub ruleset space_steps = (no_char, past_char, at_hash, past_blank, at_other, at_end)
