-- Reading the tokens of a row from left to right, with the first fault that is met.
use Rattle.std.specs.Prelude.{ℕ, zero, suc, ◌-◌, Bool, true, false, List, []}
use Rattle.std.specs.Prelude.{◌∷◌, length, take, drop, Option, Some, None}
use Rattle.std.specs.Prelude.{Result, Ok, Err, ◌==◌, ◌&&◌, not, if◌then◌else◌}
use Rattle.std.specs.Char.{is_ascii_alphabetic}
use Rattle.std.specs.List.{list_all, prefix_len}
use Rattle.std.specs.Str.{bytes_eq}
use Rattle.rdf_terms.specs.Iri.{has_scheme, is_forbidden}
use Rattle.rdf_terms.specs.declared.term.LiteralKind.{LiteralKind}
use Rattle.rdf_terms.specs.declared.term.LiteralKind.TheVariants.{Plain, Typed, Tagged}
use Rattle.rdf_terms.specs.declared.term.Term.{Term}
use Rattle.rdf_terms.specs.declared.term.Term.TheVariants as term
use Rattle.nquads_text.specs.declared.fault.TextKind.TheVariants.{BadIri, RelativeIri, BadLabel}
use Rattle.nquads_text.specs.declared.fault.TextKind.TheVariants.{BadPosition, BadToken, Truncated}
use Rattle.nquads_text.specs.Fault.{TextRead}
use Rattle.nquads_text.specs.Faults.{begins_term}
use Rattle.nquads_text.specs.Reading.{char_at, iri_body_at}
use Rattle.nquads_text.specs.Terms.{label_at, term_at}
use Rattle.patch_rows.specs.declared.codes.Code.{Code}
use Rattle.patch_rows.specs.declared.codes.Code.TheVariants as code
use Rattle.patch_rows.specs.declared.fault.RowKind.{RowKind}
use Rattle.patch_rows.specs.declared.fault.RowKind.TheVariants.{Common, WrongCount}
use Rattle.patch_rows.specs.Fault.{Fault, Read, ◌>>=◌, in_row, as_row_fault}
use Rattle.nquads_text.specs.Grammar.{is_line_end}
use Rattle.patch_rows.specs.Grammar.{is_space, is_word_byte, letters}
use Rattle.patch_rows.specs.Faults.{is_dot}

-- a character of a comment at the front of `here`, `room` bytes being behind its first, and what
-- `more` finds behind it
abbrev pub comment_step : TextRead ℕ → List ℕ → ℕ → (Bool → ℕ → List ℕ) → List ℕ
comment_step (Err e) here room more = here
comment_step (Ok x) here room more = more (not (is_line_end x.0)) (room - length x.1)

-- the text behind white space and comments, from inside a comment or not; `skip` bytes are left of
-- the character before
unfoldable pub space_behind : Bool → ℕ → List ℕ → List ℕ
space_behind comment skip [] = []
space_behind comment (suc skip) (b ∷ rest) = space_behind comment skip rest
space_behind true zero (b ∷ rest) = comment_step (char_at (b ∷ rest)) (b ∷ rest)
    (length rest) (λ goes_on k. space_behind goes_on k rest)
space_behind false zero (b ∷ rest) = if is_space b then space_behind false 0 rest
    else (if b == 35 then space_behind true 0 rest else b ∷ rest)

abbrev pub skip_space : List ℕ → List ℕ
skip_space rest = space_behind false 0 rest

-- whether the first byte passes a test
abbrev pub stands : (ℕ → Bool) → List ℕ → Bool
stands test [] = false
stands test (b ∷ rest) = test b

-- the fault where none of the bytes that are allowed stands
abbrev pub fault_or : TextRead ℕ → Fault → Fault
fault_or (Ok c) f = f
fault_or (Err g) f = as_row_fault g

unfoldable pub other : RowKind → List ℕ → Fault
other kind rest = fault_or (char_at rest) (kind, rest)

-- ---- terms

-- `_:` in front
abbrev pub begins_blank : List ℕ → Bool
begins_blank [] = false
begins_blank (a ∷ []) = false
begins_blank (a ∷ b ∷ rest) = a == 95 && b == 58

-- a label that is all of what stands between the brackets
abbrev pub whole_label : List ℕ → List ℕ → TextRead (List ℕ) → Read Term
whole_label start after (Ok x) =
    if length x.1 == 0 then Ok (term.Blank x.0, after) else Err (Common BadLabel, start)
whole_label start after (Err f) = Err (Common BadLabel, start)

-- what stands between brackets: a label behind `_:`, or an IRI; start is the text from the `<` on
unfoldable pub bracketed : List ℕ → List ℕ → List ℕ → Read Term
bracketed start bytes after =
    if begins_blank bytes then whole_label start after (label_at bytes (drop 1 bytes))
    else (if has_scheme bytes then Ok (term.Iri bytes, after) else Err (Common RelativeIri, start))

unfoldable pub bracket_at : List ℕ → List ℕ → Read Term
bracket_at start rest = do
  x ← in_row (iri_body_at rest)
  bracketed start x.0 x.1

unfoldable pub row_term_at : List ℕ → Read Term
row_term_at [] = in_row (term_at [])
row_term_at (b ∷ rest) = if b == 60 then bracket_at (b ∷ rest) rest else in_row (term_at (b ∷ rest))

-- a term, where a dot means that the row has too few
unfoldable pub needed_term_at : List ℕ → Read Term
needed_term_at rest = if stands is_dot rest then Err (WrongCount, rest) else row_term_at rest

-- ---- words, keys and prefixes

-- the bytes in front that pass a test, and the text behind them
abbrev pub run_of : (ℕ → Bool) → List ℕ → List ℕ × List ℕ
run_of test rest = (take (prefix_len test rest) rest, drop (prefix_len test rest) rest)

unfoldable pub key_at : List ℕ → Read (List ℕ)
key_at rest =
    if stands is_dot rest then Err (WrongCount, rest)
    else (if stands is_ascii_alphabetic rest then Ok (run_of is_word_byte rest)
    else Err (other (Common BadToken) rest))

-- the text behind a colon, if one stands there
abbrev pub past_colon : List ℕ → List ℕ
past_colon [] = []
past_colon (b ∷ rest) = if b == 58 then rest else b ∷ rest

-- the string of a literal without tag and datatype
abbrev pub plain_of : LiteralKind → List ℕ → Option (List ℕ)
plain_of Plain text = Some text
plain_of (Typed iri) text = None
plain_of (Tagged tag) text = None

abbrev pub plain_text : Term → Option (List ℕ)
plain_text (term.Iri iri) = None
plain_text (term.Blank label) = None
plain_text (term.Literal literal) = plain_of literal.kind literal.lexical

abbrev pub or_bad_position : Option (List ℕ) → List ℕ → List ℕ → Read (List ℕ)
or_bad_position (Some text) start after = Ok (text, after)
or_bad_position None start after = Err (Common BadPosition, start)

-- an IRI that is written as a string
unfoldable pub iri_of_string : List ℕ → List ℕ → List ℕ → Read (List ℕ)
iri_of_string start string after =
    if list_all (λ b. not (is_forbidden b)) string
    then (if has_scheme string then Ok (string, after) else Err (Common RelativeIri, start))
    else Err (Common BadIri, start)

abbrev pub iri_of_term : List ℕ → Term → List ℕ → Read (List ℕ)
iri_of_term start (term.Iri iri) after = Ok (iri, after)
iri_of_term start (term.Blank label) after = Err (Common BadPosition, start)
iri_of_term start (term.Literal literal) after =
    or_bad_position (plain_of literal.kind literal.lexical) start after
    >>= λ string. iri_of_string start string.0 string.1

-- ---- the ends of rows

-- the dot; `missing` is the kind of a byte that begins no term
unfoldable pub dot_at : RowKind → List ℕ → Result (List ℕ) Fault
dot_at missing rest =
    if stands is_dot rest then Ok (drop 1 rest)
    else (if stands begins_term rest then Err (WrongCount, rest) else Err (other missing rest))

-- white space and comments, and the dot
abbrev pub end_at : RowKind → List ℕ → Result (List ℕ) Fault
end_at missing rest = dot_at missing (skip_space rest)

-- ---- codes

-- the code at a place of the table of codes
abbrev pub code_of_place : ℕ → Option Code
code_of_place k =
    if k == 0 then Some code.Header
    else (if k == 1 then Some code.Begin
    else (if k == 2 then Some code.Commit
    else (if k == 3 then Some code.Abort
    else (if k == 4 then Some code.PrefixAdd
    else (if k == 5 then Some code.PrefixDelete
    else (if k == 6 then Some code.Add
    else (if k == 7 then Some code.Delete
    else None)))))))

-- the code of a word
unfoldable pub code_named : List ℕ → Option Code
code_named word =
    if bytes_eq (letters code.Header) word then Some code.Header
    else (if bytes_eq (letters code.Begin) word then Some code.Begin
    else (if bytes_eq (letters code.Commit) word then Some code.Commit
    else (if bytes_eq (letters code.Abort) word then Some code.Abort
    else (if bytes_eq (letters code.PrefixAdd) word then Some code.PrefixAdd
    else (if bytes_eq (letters code.PrefixDelete) word then Some code.PrefixDelete
    else (if bytes_eq (letters code.Add) word then Some code.Add
    else (if bytes_eq (letters code.Delete) word then Some code.Delete
    else None)))))))

-- a word of letters that the text's end doesn't cut
abbrev pub uncut : List ℕ × List ℕ → Read (List ℕ)
uncut x = if length x.1 == 0 then Err (Common Truncated, []) else Ok x

unfoldable pub word_at : List ℕ → Read (List ℕ)
word_at rest = if stands is_ascii_alphabetic rest then uncut (run_of is_ascii_alphabetic rest)
    else Err (other (Common BadToken) rest)
