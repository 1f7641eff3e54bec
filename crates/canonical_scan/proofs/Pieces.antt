-- What stands between places of a text, piece by piece.
use Rattle.std.proofs.Common.{◌≡◌, ℕ, suc, ◌+◌, ◌-◌, ◌<◌, ◌≤◌, Bool, true, not, List, ◌∷◌, [], ◌++◌, length, take, drop, get_or, IsTrue, refl, sym, ap, subst, ◌∙◌, arith, inl, inr, Ok}
use Rattle.std.specs.Prelude.{nat_le}
use Rattle.std.specs.List.{list_all, slice_range, flat_map}
use Rattle.std.specs.Str.{IsAscii}
use Rattle.std.specs.Char.{encode_utf8}
use Rattle.std.proofs.lemmas.Bool.{and_parts, cases_lt}
use Rattle.std.proofs.lemmas.Bool.Decides.{nat_tests}
use Rattle.std.proofs.lemmas.List.{append-nil, length-drop, length-append, take_at, get_or-drop}
use Rattle.std.proofs.lemmas.List.Concat.{flat_map-append}
use Rattle.std.proofs.lemmas.List.Edits.{between_none, between_more}
use Rattle.std.proofs.lemmas.List.Folds.{list_all-append}
use Rattle.std.proofs.lemmas.Str.{IsUtf8-append, IsUtf8-nil, IsUtf8-encode, IsUtf8-from_ascii, byte_from_char, inside_one}
use Rattle.std.proofs.lemmas.Str.Ascii.{IsAscii-nil, IsAscii-cons}
use Rattle.rdf_terms.specs.Iri.{is_forbidden}
use Rattle.rdf_terms.specs.Line.{escaped}
use Rattle.nquads_text.specs.Reading.{char_at, is_plain_iri, is_plain_string}
use Rattle.nquads_text.proofs.Escaping.{string_itself}
use Rattle.nquads_text.proofs.Fronts.{char_spelled}
use Rattle.nquads_text.proofs.PlainRuns.{slices_joined}
use Rattle.canonical_scan.specs.Parts.{Between, AreLong, InIri, InString}

-- a form that holds of nothing, and of two pieces joined
module _ (Form : List ℕ → Type 0) (none : Form []) (joins : (a b : List ℕ) → Form a → Form b → Form (a ++ b)) where
  pub starts : (text : List ℕ) (at : ℕ) → at ≤ length text → Between Form text at at
  starts text at le = record { form = subst Form (sym (between_none text at)) none; low = omega arith; high = le }

  pub joined : (text : List ℕ) (at mid end : ℕ) → Between Form text at mid → Between Form text mid end → Between Form text at end
  joined text at mid end a b = record {
    form = subst Form (sym (slices_joined text at mid end a.low b.low)) (joins (slice_range text at mid) (slice_range text mid end) a.form b.form);
    low = omega (arith, a.low, b.low);
    high = b.high;
  }

-- ---- forms

pub iri_none : InIri []
iri_none = (IsUtf8-nil, refl)

pub iri_joins : (a b : List ℕ) → InIri a → InIri b → InIri (a ++ b)
iri_joins a b x y = (IsUtf8-append a b x.0 y.0, list_all-append (λ c. not (is_forbidden c)) a b ∙ rw (x.1, y.1) refl)

pub string_none : InString []
string_none = ([], IsUtf8-nil, refl)

pub string_joins : (a b : List ℕ) → InString a → InString b → InString (a ++ b)
string_joins a b x y = (x.0 ++ y.0, IsUtf8-append x.0 y.0 x.1 y.1, rw (x.2, y.2) (sym (flat_map-append escaped x.0 y.0)))

-- what holds of each byte
each : (p q : ℕ → Bool) → ((b : ℕ) → p b ≡ true → q b ≡ true) → (bytes : List ℕ) → list_all p bytes ≡ true → list_all q bytes ≡ true
each p q step [] all = refl
each p q step (b ∷ bytes) all =
    let t = and_parts (p b) (list_all p bytes) all in rw (step b t.0, each p q step bytes t.1) refl

-- bytes that are each written as themselves
themselves : (p : ℕ → Bool) → ((b : ℕ) → p b ≡ true → escaped b ≡ b ∷ []) → (bytes : List ℕ) → list_all p bytes ≡ true → bytes ≡ flat_map escaped bytes
themselves p step [] all = refl
themselves p step (b ∷ bytes) all =
    let t = and_parts (p b) (list_all p bytes) all in
    ap (λ (r : List ℕ). b ∷ r) (themselves p step bytes t.1) ∙ ap (λ (r : List ℕ). r ++ flat_map escaped bytes) (sym (step b t.0))

ascii : (p : ℕ → Bool) → ((b : ℕ) → p b ≡ true → b < 128) → (bytes : List ℕ) → list_all p bytes ≡ true → IsAscii bytes
ascii p step [] all = IsAscii-nil
ascii p step (b ∷ bytes) all = let t = and_parts (p b) (list_all p bytes) all in IsAscii-cons b bytes (step b t.0) (ascii p step bytes t.1)

iri_low : (b : ℕ) → is_plain_iri b ≡ true → b < 128
iri_low b e = grind (arith, nat_tests)

iri_allowed : (b : ℕ) → is_plain_iri b ≡ true → not (is_forbidden b) ≡ true
iri_allowed b e = grind (arith, nat_tests)

string_low : (b : ℕ) → is_plain_string b ≡ true → b < 128
string_low b e = grind (arith, nat_tests)

long_allowed : (b : ℕ) → nat_le 128 b ≡ true → not (is_forbidden b) ≡ true
long_allowed b e = grind (arith, nat_tests)

long_itself : (b : ℕ) → nat_le 128 b ≡ true → escaped b ≡ b ∷ []
long_itself b e = grind (arith, nat_tests)

plain_iri : (bytes : List ℕ) → IsTrue (list_all is_plain_iri bytes) → InIri bytes
plain_iri bytes all = (IsUtf8-from_ascii bytes (ascii is_plain_iri iri_low bytes all), each is_plain_iri (λ b. not (is_forbidden b)) iri_allowed bytes all)

long_iri : (bytes : List ℕ) → AreLong bytes → InIri bytes
long_iri bytes l = (l.0, each (λ b. nat_le 128 b) (λ b. not (is_forbidden b)) long_allowed bytes l.1)

plain_string : (bytes : List ℕ) → IsTrue (list_all is_plain_string bytes) → InString bytes
plain_string bytes all = (bytes, IsUtf8-from_ascii bytes (ascii is_plain_string string_low bytes all), themselves is_plain_string string_itself bytes all)

long_string : (bytes : List ℕ) → AreLong bytes → InString bytes
long_string bytes l = (bytes, l.0, themselves (λ b. nat_le 128 b) long_itself bytes l.1)

-- ---- steps

pub iri_run : (text : List ℕ) (from at run : ℕ) → Between InIri text from at → at ≤ run → run ≤ length text → IsTrue (list_all is_plain_iri (slice_range text at run)) → Between InIri text from run
iri_run text from at run so_far low high plain =
    joined InIri iri_none iri_joins text from at run so_far (record { form = plain_iri (slice_range text at run) plain; low = low; high = high })

pub iri_char : (text : List ℕ) (from at next : ℕ) → Between InIri text from at → Between AreLong text at next → Between InIri text from next
iri_char text from at next so_far c =
    joined InIri iri_none iri_joins text from at next so_far (record { form = long_iri (slice_range text at next) c.form; low = c.low; high = c.high })

pub string_run : (text : List ℕ) (from at run : ℕ) → Between InString text from at → at ≤ run → run ≤ length text → IsTrue (list_all is_plain_string (slice_range text at run)) → Between InString text from run
string_run text from at run so_far low high plain =
    joined InString string_none string_joins text from at run so_far (record { form = plain_string (slice_range text at run) plain; low = low; high = high })

pub string_piece : (text : List ℕ) (from at next : ℕ) → Between InString text from at → Between InString text at next → Between InString text from next
string_piece text from at next so_far piece = joined InString string_none string_joins text from at next so_far piece

pub string_char : (text : List ℕ) (at next : ℕ) → Between AreLong text at next → Between InString text at next
string_char text at next c = record { form = long_string (slice_range text at next) c.form; low = c.low; high = c.high }

-- ---- an escape

two_bytes : (text : List ℕ) (at end : ℕ) → at + 1 < length text → end ≡ at + 1 + 1 → slice_range text at end ≡ get_or text at 0 ∷ get_or text (at + 1) 0 ∷ []
two_bytes text at end lt e =
    let one : slice_range text at (at + 1) ≡ slice_range text at at ++ get_or text at 0 ∷ [] = between_more text at at 0 (omega arith) (omega arith) in
    let two : slice_range text at (at + 1 + 1) ≡ slice_range text at (at + 1) ++ get_or text (at + 1) 0 ∷ [] = between_more text at (at + 1) 0 (omega arith) lt in
    ap (λ (k : ℕ). slice_range text at k) e ∙ two ∙ ap (λ (t : List ℕ). t ++ get_or text (at + 1) 0 ∷ []) (one ∙ ap (λ (t : List ℕ). t ++ get_or text at 0 ∷ []) (between_none text at))

pub escape_there : (text : List ℕ) (at end b : ℕ) → at + 1 < length text → end ≡ at + 1 + 1 → get_or text at 0 ≡ 92 → b < 128 → escaped b ≡ 92 ∷ get_or text (at + 1) 0 ∷ []
    → Between InString text at end
escape_there text at end b lt e slash low is =
    let bytes : slice_range text at end ≡ 92 ∷ get_or text (at + 1) 0 ∷ [] = two_bytes text at end lt e ∙ ap (λ (x : ℕ). x ∷ get_or text (at + 1) 0 ∷ []) slash in
    record {
      form = (b ∷ [], IsUtf8-from_ascii (b ∷ []) (IsAscii-cons b [] low IsAscii-nil), bytes ∙ sym (append-nil (escaped b) ∙ is));
      low = omega arith;
      high = omega arith;
    }

-- ---- a character of more than one byte

high_bytes : (bytes : List ℕ) → ((k : ℕ) → k < length bytes → 128 ≤ get_or bytes k 0) → list_all (λ b. nat_le 128 b) bytes ≡ true
high_bytes [] high = refl
high_bytes (b ∷ bytes) high =
    let h : 128 ≤ b = high 0 (omega arith) in
    let first : nat_le 128 b ≡ true = grind (arith, nat_tests) in
    rw (first, high_bytes bytes (λ k lt. high (suc k) (omega arith))) refl

high_inside : (c : ℕ) (k : ℕ) → 128 ≤ c → k < length (encode_utf8 c) → 128 ≤ get_or (encode_utf8 c) k 0
high_inside c k le lt =
    elim (cases_lt (get_or (encode_utf8 c) k 0) 128) [
      | inl low ↦ let same = inside_one c [] (encode_utf8 c) k (sym (append-nil (encode_utf8 c))) lt low in absurd (omega (arith, same))
      | inr high ↦ high
    ]

high_char : (text : List ℕ) (at c : ℕ) (after : List ℕ) → 128 ≤ get_or text at 0 → drop at text ≡ encode_utf8 c ++ after → 128 ≤ c
high_char text at c after high e =
    elim (cases_lt c 128) [
      | inl low ↦
          let first : get_or (drop at text) 0 0 ≡ c = byte_from_char (drop at text) after c e low in
          let there : get_or (drop at text) 0 0 ≡ get_or text (at + 0) 0 = get_or-drop at text 0 0 in
          let same : get_or text (at + 0) 0 ≡ get_or text at 0 = ap (λ (k : ℕ). get_or text k 0) (plus_zero at) in
          absurd (omega arith)
      | inr le ↦ le
    ]
  where
    plus_zero : (k : ℕ) → k + 0 ≡ k
    plus_zero k = omega arith

pub long_there : (text : List ℕ) (at next c : ℕ) → at < next → next ≤ length text → 128 ≤ get_or text at 0 → char_at (drop at text) ≡ Ok (c, drop next text) → Between AreLong text at next
long_there text at next c lt le high e =
    let s = char_spelled (drop at text) c (drop next text) e in
    let l : length (drop at text) ≡ length text - at = length-drop at text in
    let r : length (drop next text) ≡ length text - next = length-drop next text in
    let both : length (drop at text) ≡ length (encode_utf8 c) + length (drop next text) = ap length s.1 ∙ length-append (encode_utf8 c) (drop next text) in
    let size : length (encode_utf8 c) ≡ next - at = omega arith in
    let front : slice_range text at next ≡ encode_utf8 c = ap (take (next - at)) s.1 ∙ take_at (encode_utf8 c) (drop next text) (next - at) size in
    let big : 128 ≤ c = high_char text at c (drop next text) high s.1 in
    record {
      form = subst AreLong (sym front) (IsUtf8-encode c s.0, high_bytes (encode_utf8 c) (λ k within. high_inside c k big within));
      low = omega arith;
      high = le;
    }
