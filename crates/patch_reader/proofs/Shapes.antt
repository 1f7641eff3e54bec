-- Where the faults of a text's end stand: Truncated at its end, and NotUtf8 where no character begins.
use Rattle.std.proofs.Common.{◌≡◌, ℕ, zero, suc, ◌-◌, Bool, true, false, cond, List, [], ◌∷◌, ◌++◌, length, Option, Some, None, Ok, Err, nat_eq, refl, not}
use Rattle.std.specs.Char.{to_ascii_lowercase}
use Rattle.bstr.specs.Utf8.{decoded}
use Rattle.nquads_text.specs.declared.fault.TextKind.{TextKind}
use Rattle.nquads_text.specs.declared.fault.TextKind.TheVariants.{NotUtf8, Truncated}
use Rattle.nquads_text.specs.Fault.{TextRead, ◌>>=◌}
use Rattle.nquads_text.specs.Reading.{char_at, digit_at, four_digits_at, eight_digits_at, code_at, uchar_at, iri_piece, string_piece, short_or_uchar, with_front, behind, pieces_at}
use Rattle.nquads_text.specs.Terms.{name_at, label_at, is_tag_byte, tag_at, iri_at, iri_needed, kind_given, datatype_at, typed_at, suffix_at, literal_at, term_at}

-- ---- terms

-- where a fault of this kind stands
unfoldable pub Place : TextKind → List ℕ → Type 0
Place NotUtf8 rest = char_at rest ≡ Err (NotUtf8, rest)
Place Truncated rest = rest ≡ []
Place _ rest = Unit {0}

abbrev pub Text : {X : Type 0} → TextRead X → Type 0
Text (Ok x) = Unit {0}
Text (Err f) = Place f.0 f.1

text_then : {X Y : Type 0} (r : TextRead X) (f : X × List ℕ → TextRead Y) → Text r → ((x : X × List ℕ) → Text (f x)) → Text (r >>= f)
text_then (Ok x) f h k = k x
text_then (Err e) f h k = h

text_if : {X : Type 0} (b : Bool) (x y : TextRead X) → Text x → Text y → Text (cond b x y)
text_if true x y h k = h
text_if false x y h k = k

char_by : (b : ℕ) (bs : List ℕ) (o : Option ℕ) → (decoded (b ∷ bs)).char ≡ o → Text (char_at (b ∷ bs))
unfolding char_at Place
char_by b bs (Some c) e = rw e tt
char_by b bs None e = rw e (place b bs e)
  where
    place : (b : ℕ) (bs : List ℕ) → (decoded (b ∷ bs)).char ≡ None → Place NotUtf8 (b ∷ bs)
    place b bs e = rw e refl

pub char_placed : (rest : List ℕ) → Text (char_at rest)
unfolding char_at Place
char_placed [] = refl
char_placed (b ∷ bs) = char_by b bs (decoded (b ∷ bs)).char refl

digit_placed : (start rest : List ℕ) → Text (digit_at start rest)
unfolding digit_at Place
digit_placed start rest = search (text_then, text_if, char_placed)

four_placed : (start rest : List ℕ) → Text (four_digits_at start rest)
unfolding four_digits_at
four_placed start rest = search (text_then, digit_placed) depth 8

uchar_placed : (start rest : List ℕ) → Text (uchar_at start rest)
unfolding uchar_at code_at eight_digits_at Place
uchar_placed start rest = search (text_then, text_if, char_placed, four_placed) depth 9

short_placed : (o : Option ℕ) (start rest after : List ℕ) → Text (short_or_uchar o start rest after)
short_placed (Some c) start rest after = tt
short_placed None start rest after = search (text_then, uchar_placed)

string_piece_placed : (rest : List ℕ) → Text (string_piece rest)
unfolding string_piece Place
string_piece_placed rest = search (text_then, text_if, char_placed, short_placed) depth 9

pub iri_piece_placed : (rest : List ℕ) → Text (iri_piece rest)
unfolding iri_piece Place
iri_piece_placed rest = search (text_then, text_if, char_placed, uchar_placed) depth 9

front_placed : (front : List ℕ) (r : TextRead (List ℕ)) → Text r → Text (with_front front r)
front_placed front r h = text_then r (λ x. Ok (front ++ x.0, x.1)) h (λ x. tt)

behind_placed : (o : Option ℕ) (after : List ℕ) (r : TextRead (List ℕ)) → Text r → Text (behind o after r)
behind_placed None after r h = tt
behind_placed (Some c) after r h = front_placed _ r h

pub pieces_placed : (piece : List ℕ → TextRead (Option ℕ)) → ((rest : List ℕ) → Text (piece rest)) → (skip : ℕ) (rest : List ℕ) → Text (pieces_at piece skip rest)
unfolding pieces_at Place
pieces_placed piece each zero [] = refl
pieces_placed piece each (suc skip) [] = refl
pieces_placed piece each (suc skip) (b ∷ rest) = pieces_placed piece each skip rest
pieces_placed piece each zero (b ∷ rest) =
    text_then (piece (b ∷ rest)) _ (each (b ∷ rest)) (λ x. behind_placed x.0 x.1 (pieces_at piece (length rest - length x.1) rest) (pieces_placed piece each (length rest - length x.1) rest))

iri_placed : (start rest : List ℕ) → Text (iri_at start rest)
unfolding iri_at Place
iri_placed start rest = search (text_then, text_if, pieces_placed iri_piece iri_piece_placed)

label_placed : (start rest : List ℕ) → Text (label_at start rest)
unfolding label_at name_at Place
label_placed start rest = search (text_then, text_if, char_placed) depth 9

tag_placed : (first some : Bool) (start rest : List ℕ) → Text (tag_at first some start rest)
unfolding tag_at Place
tag_placed first true start [] = tt
tag_placed first false start [] = refl
tag_placed first some start (b ∷ rest) =
    text_if (is_tag_byte first b) _ _ (front_placed (to_ascii_lowercase b ∷ []) (tag_at first true start rest) (tag_placed first true start rest))
    (text_if (not some) _ _ (text_then (char_at (b ∷ rest)) _ (char_placed (b ∷ rest)) (λ c. tt))
    (text_if (nat_eq b 45) _ _ (front_placed (45 ∷ []) (tag_at false false start rest) (tag_placed false false start rest)) tt))

datatype_placed : (start rest : List ℕ) → Text (datatype_at start rest)
unfolding datatype_at iri_needed kind_given Place
datatype_placed start rest = search (text_then, text_if, char_placed, iri_placed) depth 9

typed_placed : (start text skipped : List ℕ) → Text (typed_at start text skipped)
unfolding typed_at
typed_placed start text [] = tt
typed_placed start text (b ∷ more) = search (text_if, datatype_placed)

suffix_placed : (start text : List ℕ) → Text (suffix_at start text)
unfolding suffix_at
suffix_placed start [] = tt
suffix_placed start (b ∷ rest) = search (text_then, text_if, tag_placed, typed_placed)

literal_placed : (start rest : List ℕ) → Text (literal_at start rest)
unfolding literal_at
literal_placed start rest = search (text_then, pieces_placed string_piece string_piece_placed, suffix_placed)

pub term_placed : (rest : List ℕ) → Text (term_at rest)
unfolding term_at Place
term_placed rest = search (text_then, text_if, char_placed, iri_placed, label_placed, literal_placed) depth 9
