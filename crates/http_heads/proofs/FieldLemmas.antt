-- Facts about comma-separated lists.
use Rattle.std.proofs.Common.{◌≡◌, ◌≢◌, ℕ, ◌==◌, ◌||◌, Bool, true, false, cond, List, [], ◌∷◌, ◌++◌, reverse, refl, sym, ap, ◌∙◌, All, ne_eqb}
use Rattle.std.specs.List.{list_any}
use Rattle.std.specs.Str.{str_eq_ignore_ascii_case}
use Rattle.std.proofs.lemmas.List.{reverse-append, reverse-reverse}
use Rattle.std.proofs.lemmas.List.Elements.{All-head, All-tail}
use Rattle.httparse.specs.Grammar.{is_ows, skip_ows, trim_ows}
use Rattle.http_heads.specs.Fields.{in_first, items_of, holds_item}

-- the blanks at an end
pub back_yes : (left front : List ℕ) (last : ℕ) → left ≡ front ++ last ∷ [] → is_ows last ≡ true → reverse (skip_ows (reverse left)) ≡ reverse (skip_ows (reverse front))
back_yes left front last is blank =
    ap (λ (t : List ℕ). reverse (skip_ows (reverse t))) is ∙ ap (λ (t : List ℕ). reverse (skip_ows t)) (reverse-append front (last ∷ []))
    ∙ ap (λ b. reverse (cond b (skip_ows (reverse front)) (last ∷ reverse front))) blank

pub back_no : (left front : List ℕ) (last : ℕ) → left ≡ front ++ last ∷ [] → is_ows last ≡ false → reverse (skip_ows (reverse left)) ≡ left
back_no left front last is blank =
    ap (λ (t : List ℕ). reverse (skip_ows (reverse t))) is ∙ ap (λ (t : List ℕ). reverse (skip_ows t)) (reverse-append front (last ∷ []))
    ∙ ap (λ b. reverse (cond b (skip_ows (reverse front)) (last ∷ reverse front))) blank ∙ ap reverse (sym (reverse-append front (last ∷ []))) ∙ reverse-reverse (front ++ last ∷ []) ∙ sym is

pub trimmed : (bytes : List ℕ) → trim_ows bytes ≡ reverse (skip_ows (reverse (skip_ows bytes)))
unfolding trim_ows
trimmed bytes = refl

-- the items of a list without a comma, and of one behind its first
not_comma : (byte : ℕ) → byte ≢ 44 → (byte == 44) ≡ false
not_comma byte other = ne_eqb byte 44 other

pub one_item : (text : List ℕ) → All (λ byte. byte ≢ 44) text → items_of text ≡ text ∷ []
one_item [] clean = refl
one_item (byte ∷ text) clean =
    ap (λ b. cond b ([] ∷ items_of text) (in_first byte (items_of text))) (not_comma byte (All-head (λ b. b ≢ 44) byte text clean))
    ∙ ap (in_first byte) (one_item text (All-tail (λ b. b ≢ 44) byte text clean))

pub first_item : (item rest : List ℕ) → All (λ byte. byte ≢ 44) item → items_of (item ++ 44 ∷ rest) ≡ item ∷ items_of rest
first_item [] rest clean = refl
first_item (byte ∷ item) rest clean =
    ap (λ b. cond b ([] ∷ items_of (item ++ 44 ∷ rest)) (in_first byte (items_of (item ++ 44 ∷ rest)))) (not_comma byte (All-head (λ b. b ≢ 44) byte item clean))
    ∙ ap (in_first byte) (first_item item rest (All-tail (λ b. b ≢ 44) byte item clean))

module _ (word : List ℕ) where
  pub holds_one : (text : List ℕ) → All (λ byte. byte ≢ 44) text → holds_item word text ≡ str_eq_ignore_ascii_case (trim_ows text) word
  holds_one text clean = ap (list_any (λ item. str_eq_ignore_ascii_case (trim_ows item) word)) (one_item text clean) ∙ or_false (str_eq_ignore_ascii_case (trim_ows text) word)
    where
      or_false : (b : Bool) → (b || false) ≡ b
      or_false true = refl
      or_false false = refl

  pub holds_first : (text item rest : List ℕ) → text ≡ item ++ 44 ∷ rest → All (λ byte. byte ≢ 44) item
      → holds_item word text ≡ (str_eq_ignore_ascii_case (trim_ows item) word || holds_item word rest)
  holds_first text item rest is clean = ap (holds_item word) is ∙ ap (list_any (λ i. str_eq_ignore_ascii_case (trim_ows i) word)) (first_item item rest clean)
