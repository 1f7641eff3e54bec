-- Words, and the names of commands with which they begin.
use Rattle.std.proofs.Common.{◌≡◌, ℕ, zero, suc, ◌<◌, ◌≤◌, ◌^◌, Bool, true, false, not, ◌&&◌, cond, List, [], ◌∷◌, length, map, get_or, Option, Some, None, refl, sym, ap, ◌∙◌, arith, rules, ne_eqb, true≢false}
use Rattle.std.specs.Prelude.{String, string_bytes}
use Rattle.std.specs.declared.alloc.Global.{Global}
use Rattle.std.specs.Fmt.{decimal}
use Rattle.std.specs.List.{list_all}
use Rattle.std.specs.Str.{bytes_eq}
use Rattle.std.proofs.lemmas.Fmt.{decimal_digit, first_decimal}
use Rattle.std.proofs.lemmas.Slice.Eq.{bytes_eq-Decides}
use Rattle.std.proofs.lemmas.List.Folds.{list_all_at}
use denote.Enum.Declared.{tag_of}
use denote.Enum.Bare.{tag_one}
use Rattle.command_tables.specs.Channels.{words_of}
use Rattle.command_tables.specs.Names.{BeginsWith, IsNamed, first_name, name_text}
use Rattle.command_tables.specs.Positions.{IsPlainWord, all_differ}
use Rattle.command_tables.specs.contracts.name.Name.{the_type}
use Rattle.command_tables.specs.declared.name.Name.{Name}
use Rattle.command_tables.specs.declared.rows.TheConstants.{ROWS}

-- ---- numbers

no_dash : (bs : List ℕ) → 45 < get_or bs 0 0 → IsPlainWord bs
no_dash [] low = refl
no_dash (x ∷ xs) low = rw (ne_eqb x 45 (λ e. omega (arith, low, e))) refl

pub plain_number : (n : ℕ) → n < 2 ^ 64 → IsPlainWord (decimal n)
plain_number zero small = no_dash (decimal zero) (omega (arith, ap (λ (bs : List ℕ). get_or bs 0 0) (decimal_digit zero (omega arith))))
plain_number (suc n) small = no_dash (decimal (suc n)) (omega (arith, first_decimal (suc n) (omega arith) small))

-- ---- names

-- each name has a row
placed : (name : Name) → tag_of the_type name < 29
placed name = search rules

and_first : (a b : Bool) → (a && b) ≡ true → a ≡ true
and_first true b e = refl
and_first false b e = e

and_second : (a b : Bool) → (a && b) ≡ true → b ≡ true
and_second true b e = e
and_second false b e = absurd (true≢false (sym e))

-- ---- texts that differ

apart_at : (text : List ℕ) (texts : List (List ℕ)) (i : ℕ) → list_all (λ other. not (bytes_eq text other)) texts ≡ true → i < length texts → text ≡ get_or texts i [] → ⊥
apart_at text texts i apart lt same =
    let equal : bytes_eq text (get_or texts i []) ≡ true = (bytes_eq-Decides text (get_or texts i [])).1 same in
    true≢false (sym apart ∙ list_all_at (λ other. not (bytes_eq text other)) texts i [] lt (ap not equal))

one_place : (texts : List (List ℕ)) (i j : ℕ) → all_differ texts ≡ true → i < length texts → j < length texts → get_or texts i [] ≡ get_or texts j [] → i ≡ j
one_place [] i j apart li lj same = absurd (omega (arith, li))
one_place (text ∷ texts) zero zero apart li lj same = refl
one_place (text ∷ texts) zero (suc j) apart li lj same = absurd (apart_at text texts j (and_first _ _ apart) (omega (arith, lj)) same)
one_place (text ∷ texts) (suc i) zero apart li lj same = absurd (apart_at text texts i (and_first _ _ apart) (omega (arith, li)) (sym same))
one_place (text ∷ texts) (suc i) (suc j) apart li lj same = ap suc (one_place texts i j (and_second _ _ apart) (omega (arith, li)) (omega (arith, lj)) same)

pub one_name : (a b : Name) → name_text a ≡ name_text b → a ≡ b
one_name a b same = tag_one the_type tt a b (one_place (map (λ row. row.word.now) ROWS.now) (tag_of the_type a) (tag_of the_type b) refl (placed a) (placed b) same)

-- ---- the command that a word names

abbrev HasName : List ℕ × Name → Bool
HasName row = bytes_eq row.0 (name_text row.1)

found : (word : List ℕ) (rows : List (List ℕ × Name)) (name : Name) → list_all HasName rows ≡ true → first_name word rows ≡ Some name → word ≡ name_text name
found word [] name fit is = cc
found word (row ∷ rows) name fit is = by (bytes_eq row.0 word) refl (found word rows name (and_second _ _ fit)) is
  where
    by : (b : Bool) → bytes_eq row.0 word ≡ b → (first_name word rows ≡ Some name → word ≡ name_text name) → cond b (Some row.1) (first_name word rows) ≡ Some name → word ≡ name_text name
    by true equal more first =
        let one : row.1 ≡ name = cc in
        sym ((bytes_eq-Decides row.0 word).0 equal) ∙ (bytes_eq-Decides row.0 (name_text row.1)).0 (and_first _ _ fit) ∙ ap name_text one
    by false equal more rest = more rest

missed : (word : List ℕ) (rows : List (List ℕ × Name)) (i : ℕ) → first_name word rows ≡ None → i < length rows → word ≡ get_or (map (λ row. row.0) rows) i [] → ⊥
missed word [] i none lt same = absurd (omega (arith, lt))
missed word (row ∷ rows) i none lt same = by (bytes_eq row.0 word) refl none i lt same (λ j. missed word rows j)
  where
    by : (b : Bool) → bytes_eq row.0 word ≡ b → cond b (Some row.1) (first_name word rows) ≡ None → (i : ℕ) → i < length (row ∷ rows) → word ≡ get_or (map (λ row. row.0) (row ∷ rows)) i []
        → ((j : ℕ) → first_name word rows ≡ None → j < length rows → word ≡ get_or (map (λ row. row.0) rows) j [] → ⊥) → ⊥
    by true equal some i lt same more = cc
    by false equal rest zero lt same more = true≢false (sym ((bytes_eq-Decides row.0 word).1 (sym same)) ∙ equal)
    by false equal rest (suc i) lt same more = more i rest (omega (arith, lt)) same

pub named : (word : List ℕ) (r : Option Name) → r ≡ first_name word (map (λ row. (row.word.now, row.name)) ROWS.now) → IsNamed word r
named word None is = λ name same. missed word (map (λ row. (row.word.now, row.name)) ROWS.now) (tag_of the_type name) (sym is) (placed name) same
named word (Some name) is = found word (map (λ row. (row.word.now, row.name)) ROWS.now) name refl (sym is)

pub one_found : (word : List ℕ) (r : Option Name) → IsNamed word r → (name : Name) → word ≡ name_text name → r ≡ Some name
one_found word None none name same = absurd (none name same)
one_found word (Some found) is name same = ap (λ (n : Name). Some n) (one_name found name (sym is ∙ same))

-- ---- first words

pub first_is : (x y : List ℕ) (xs ys : List (List ℕ)) → x ∷ xs ≡ y ∷ ys → x ≡ y
first_is x y xs ys e = cc

pub same_name : (words : List (List ℕ)) (a b : Name) → BeginsWith words a → BeginsWith words b → a ≡ b
same_name words a b x y = one_name a b (first_is (name_text a) (name_text b) x.0 y.0 (sym x.1 ∙ y.1))

pub first_of_words : (xs : List (String Global)) (w : String Global) → 1 ≤ length xs → w ≡ get_or xs 0 w → (rest : List (List ℕ)) × (words_of xs ≡ string_bytes w ∷ rest)
first_of_words [] w some is = absurd (omega (arith, some))
first_of_words (x ∷ xs) w some is = (words_of xs, ap (λ (y : String Global). string_bytes y ∷ words_of xs) (sym is))
