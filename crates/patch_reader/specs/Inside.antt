-- How far a token is known that is at the front of a row or of a part: what stands behind a mark in
-- it decides whether it is open.
use Rattle.std.specs.Prelude.{◌≡◌, ◌⊎◌, ℕ, ◌≤◌, true, false, List, [], ◌∷◌, ◌++◌, drop, Ok, Err}
use Rattle.std.specs.Char.{is_ascii_alphabetic}
use Rattle.std.specs.List.{list_all}
use Rattle.nquads_text.specs.Fault.{TextRead}
use Rattle.nquads_text.specs.Grammar.{is_blank}
use Rattle.nquads_text.specs.Reading.{iri_body_at, string_body_at}
use Rattle.nquads_text.specs.Terms.{name_len, tag_at, skip_blanks, typed_at, iri_needed}
use Rattle.patch_rows.specs.Grammar.{is_word_byte}
use Rattle.patch_reader.specs.declared.inside.Inside.{Inside}
use Rattle.patch_reader.specs.declared.inside.Inside.TheVariants as inside
use Rattle.patch_rows.specs.Cut.{ends_text, TextAtEnd, label_open}

-- behind the first character of a label: it may go on
abbrev pub IsLabelOpen : List ℕ → Type 0
IsLabelOpen rest = label_open (drop (name_len 0 rest) rest) ≡ true

-- behind a string and blanks: nothing else stands there, or a datatype that the text's end cuts off
abbrev pub AreBlanksOpen : List ℕ → Type 0
AreBlanksOpen rest = (list_all is_blank rest ≡ true)
    ⊎ ((start text : List ℕ) → TextAtEnd (typed_at start text (skip_blanks rest)))

-- a tag that reaches the text's end
abbrev pub IsTagOpen : TextRead (List ℕ) → Type 0
IsTagOpen (Ok x) = x.1 ≡ []
IsTagOpen (Err f) = ends_text f.0 f.1 ≡ true

-- behind a closing quote
abbrev pub IsSuffixOpen : List ℕ → Type 0
IsSuffixOpen rest = AreBlanksOpen rest ⊎ ((tag : List ℕ) × (rest ≡ 64 ∷ tag)
    × ((start : List ℕ) → IsTagOpen (tag_at true false start tag)))

-- a string that the text's end cuts off, or what stands behind it is open
abbrev pub IsStringOpen : TextRead (List ℕ) → Type 0
IsStringOpen (Ok x) = IsSuffixOpen x.1
IsStringOpen (Err f) = ends_text f.0 f.1 ≡ true

-- the token is open
abbrev pub OpenInside : Inside → List ℕ → Type 0
OpenInside inside.Nothing text = ⊥
OpenInside (inside.Letters mark) text = list_all is_ascii_alphabetic (drop mark text) ≡ true
OpenInside (inside.Word mark) text = list_all is_word_byte (drop mark text) ≡ true
OpenInside (inside.Label mark) text = IsLabelOpen (drop mark text)
OpenInside (inside.String mark) text = IsStringOpen (string_body_at (drop mark text))
OpenInside (inside.Suffix mark) text = IsSuffixOpen (drop mark text)
OpenInside (inside.Blanks mark) text = AreBlanksOpen (drop mark text)
OpenInside (inside.Tag mark first some) text =
    (start : List ℕ) → IsTagOpen (tag_at first some start (drop mark text))
OpenInside (inside.Datatype mark) text = TextAtEnd (iri_needed (skip_blanks (drop mark text)))
OpenInside (inside.Iri mark) text = TextAtEnd (iri_body_at (drop mark text))

-- where the mark stands
abbrev pub mark_of : Inside → ℕ
mark_of inside.Nothing = 0
mark_of (inside.Letters mark) = mark
mark_of (inside.Word mark) = mark
mark_of (inside.Label mark) = mark
mark_of (inside.String mark) = mark
mark_of (inside.Suffix mark) = mark
mark_of (inside.Blanks mark) = mark
mark_of (inside.Tag mark first some) = mark
mark_of (inside.Datatype mark) = mark
mark_of (inside.Iri mark) = mark

-- within the text
abbrev pub IsInsideWithin : ℕ → Inside → Type 0
IsInsideWithin size i = mark_of i ≤ size

-- however the text goes on, a token that is open from the one mark on is from the other
abbrev pub IsFurther : List ℕ → Inside → Inside → Type 0
IsFurther text old new =
    (more : List ℕ) → OpenInside new (text ++ more) → OpenInside old (text ++ more)
