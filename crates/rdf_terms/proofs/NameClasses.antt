-- The rows of a class are those of the class before it, and a few more.
use Rattle.std.proofs.Common.{◌≡◌, ℕ, Bool, true, false, not, ◌||◌, ◌&&◌, nat_eq, nat_le, List, [], ◌∷◌, ◌++◌, take, drop, refl, ap, sym, ◌∙◌, true≢false, arith}
use Rattle.std.proofs.lemmas.Bool.Decides.{nat_tests}
use Rattle.std.proofs.lemmas.List.Folds.{list_any-append}
use Rattle.std.specs.Char.{is_ascii, is_ascii_alphabetic, is_ascii_digit}
use Rattle.std.specs.List.{list_all}
use Rattle.case_tables.specs.Tables.{is_in_row, has_char}
use Rattle.rdf_terms.specs.Names.{base_rows, start_rows, name_rows, is_name_base, is_name_start, is_name_char}

swap : (x y rest : Bool) → (x || (y || rest)) ≡ (y || (x || rest))
swap true true rest = refl
swap true false rest = refl
swap false true rest = refl
swap false false rest = refl

flip : (x y : Bool) → (x || y) ≡ (y || x)
flip true true = refl
flip true false = refl
flip false true = refl
flip false false = refl

assoc : (x y z : Bool) → ((x || y) || z) ≡ (x || (y || z))
assoc true y z = refl
assoc false y z = refl

-- a row may be asked first
first : (c : ℕ) (before : List (ℕ × ℕ)) (row : ℕ × ℕ) (after : List (ℕ × ℕ)) → has_char (before ++ row ∷ after) c ≡ (is_in_row c row || has_char (before ++ after) c)
first c [] row after = refl
first c (other ∷ before) row after = ap (λ b. is_in_row c other || b) (first c before row after) ∙ swap (is_in_row c other) (is_in_row c row) (has_char (before ++ after) c)

one : (c k : ℕ) → (nat_le k c && nat_le c k) ≡ nat_eq c k
one c k = grind (arith, nat_tests)

-- PN_CHARS_U ::= PN_CHARS_BASE | '_' | ':'
pub start_is : (c : ℕ) → is_name_start c ≡ (nat_eq c 58 || (nat_eq c 95 || is_name_base c))
unfolding is_name_base is_name_start
start_is c =
    ap (λ b. is_in_row c (0x3A, 0x3A) || b) (first c (take 1 (drop 1 start_rows)) (0x5F, 0x5F) (drop 3 start_rows))
    ∙ ap (λ b. b || (is_in_row c (0x5F, 0x5F) || has_char base_rows c)) (one c 58) ∙ ap (λ b. nat_eq c 58 || (b || has_char base_rows c)) (one c 95)

both : (x y : Bool) → (x && y) ≡ true → (x ≡ true) × (y ≡ true)
both true y e = (refl, e)
both false y e = absurd (true≢false (sym e))

-- the rows begin behind ASCII
abbrev are_high : List (ℕ × ℕ) → Bool
are_high rows = list_all (λ row. nat_le 128 row.0) rows

-- so they have no character of ASCII
none_low : (c : ℕ) (rows : List (ℕ × ℕ)) → is_ascii c ≡ true → are_high rows ≡ true → has_char rows c ≡ false
none_low c [] low high = refl
none_low c (row ∷ rows) low high =
    let h = both (nat_le 128 row.0) (are_high rows) high in
    let out : is_in_row c row ≡ false = grind (arith, nat_tests, low, h.0) in
    ap (λ b. b || has_char rows c) out ∙ none_low c rows low h.1

absorbed : (a b rest : Bool) → (a || (b || rest)) ≡ ((a || b) || (true && (a || (b || rest))))
absorbed true b rest = refl
absorbed false true rest = refl
absorbed false false true = refl
absorbed false false false = refl

ended : (a b : Bool) → (a || (b || false)) ≡ ((a || b) || false)
ended true b = refl
ended false true = refl
ended false false = refl

-- two rows in ASCII, and others behind it
split : (ascii : Bool) (a b rest : Bool) → (ascii ≡ true → rest ≡ false) → (a || (b || rest)) ≡ ((a || b) || (not ascii && (a || (b || rest))))
split true a b rest none = ap (λ r. a || (b || r)) (none refl) ∙ ended a b
split false a b rest none = absorbed a b rest

-- [A-Z] | [a-z] | the others, which are not of ASCII
pub base_is : (c : ℕ) → is_name_base c ≡ (is_ascii_alphabetic c || (not (is_ascii c) && has_char base_rows c))
unfolding is_name_base
base_is c = split (is_ascii c) (is_in_row c (0x41, 0x5A)) (is_in_row c (0x61, 0x7A)) (has_char (drop 2 base_rows) c) (λ low. none_low c (drop 2 base_rows) low refl)

-- '-' | [0-9] | #x00B7 | [#x0300-#x036F] | [#x203F-#x2040]
abbrev pub mark_rows : List (ℕ × ℕ)
mark_rows = (0x2D, 0x2D) ∷ (0x30, 0x39) ∷ (0xB7, 0xB7) ∷ (0x300, 0x36F) ∷ (0x203F, 0x2040) ∷ []

-- PN_CHARS ::= PN_CHARS_U | these
marked : (c : ℕ) → is_name_char c ≡ (is_name_start c || has_char mark_rows c)
unfolding is_name_start is_name_char
marked c =
    let dot = first c (take 4 (drop 2 name_rows)) (0xB7, 0xB7) (drop 7 name_rows) in
    let marks = first c (take 7 start_rows) (0x300, 0x36F) (drop 11 name_rows) in
    let ties = first c (take 10 start_rows) (0x203F, 0x2040) (drop 10 start_rows) in
    ap (λ b. is_in_row c (0x2D, 0x2D) || (is_in_row c (0x30, 0x39) || b)) (dot ∙ ap (λ b. is_in_row c (0xB7, 0xB7) || b) (marks ∙ ap (λ b. is_in_row c (0x300, 0x36F) || b) ties))
    ∙ list_any-append (is_in_row c) mark_rows start_rows ∙ flip (has_char mark_rows c) (has_char start_rows c)

-- the same, of which no search is needed for ASCII
pub char_is : (c : ℕ) → is_name_char c ≡ (is_name_start c || (nat_eq c 45 || (is_ascii_digit c || (not (is_ascii c) && has_char mark_rows c))))
char_is c =
    let s = split (is_ascii c) (is_in_row c (0x2D, 0x2D)) (is_in_row c (0x30, 0x39)) (has_char (drop 2 mark_rows) c) (λ low. none_low c (drop 2 mark_rows) low refl) in
    marked c ∙ ap (λ b. is_name_start c || b) (s ∙ assoc (is_in_row c (0x2D, 0x2D)) (is_in_row c (0x30, 0x39)) (not (is_ascii c) && has_char mark_rows c)
    ∙ ap (λ b. b || (is_in_row c (0x30, 0x39) || (not (is_ascii c) && has_char mark_rows c))) (one c 45))
