-- The same of rows; and no reading of a row of any length says that the row is too long.
use Rattle.std.proofs.Common.{◌≡◌, ℕ, Bool, true, false, cond, List, [], ◌∷◌, length, Option, Some, None, Result, Ok, Err, nat_eq, refl, subst}
use Rattle.rdf_terms.specs.declared.term.Term.{Term}
use Rattle.rdf_terms.specs.declared.term.Term.TheVariants as term
use Rattle.nquads_text.specs.declared.fault.TextKind.TheVariants.{NotUtf8, MissingDot, BadToken, Truncated}
use Rattle.nquads_text.specs.Fault.{TextRead}
use Rattle.nquads_text.specs.Reading.{char_at, iri_piece}
use Rattle.patch_rows.specs.declared.codes.Code.{Code}
use Rattle.patch_rows.specs.declared.codes.Code.TheVariants as code
use Rattle.patch_rows.specs.declared.fault.RowKind.{RowKind}
use Rattle.patch_rows.specs.declared.fault.RowKind.TheVariants.{Common, TooLong}
use Rattle.patch_rows.specs.Fault.{Fault, ◌>>=◌, in_row}
use Rattle.patch_rows.specs.Faults.{AnyRowFault}
use Rattle.patch_rows.specs.Reading.{other, whole_label, bracketed, bracket_at, row_term_at, needed_term_at, key_at, or_bad_position, iri_of_string, iri_of_term, dot_at, code_named, word_at}
use Rattle.patch_rows.specs.declared.cut.TextEnd.TheVariants.{Known}
use Rattle.patch_rows.specs.Rows.{added_of, bare_at, by_code, graph_or_dot_of, header_of, parts_of, placed_of, prefix_iri_of, prefix_of, quad_of, quoted_of, removed_of, row_at, row_of}
use Rattle.patch_rows.proofs.WholeRow.{exact_row}
use Rattle.patch_reader.proofs.Shapes.{Place, Text, char_placed, pieces_placed, iri_piece_placed, term_placed}

-- where a fault of this kind stands
unfoldable pub RowPlace : RowKind → List ℕ → Type 0
RowPlace (Common kind) rest = Place kind rest
RowPlace TooLong rest = ⊥
RowPlace _ rest = Unit {0}

abbrev pub Placed : {X : Type 0} → Result X Fault → Type 0
Placed (Ok x) = Unit {0}
Placed (Err f) = RowPlace f.0 f.1

then_placed : {X Y : Type 0} (r : Result X Fault) (f : X → Result Y Fault) → Placed r → ((x : X) → Placed (f x)) → Placed (r >>= f)
then_placed (Ok x) f h k = k x
then_placed (Err e) f h k = h

if_placed : {X : Type 0} (b : Bool) (x y : Result X Fault) → Placed x → Placed y → Placed (cond b x y)
if_placed true x y h k = h
if_placed false x y h k = k

text_placed : {X : Type 0} (r : TextRead X) → Text r → Placed (in_row r)
unfolding RowPlace
text_placed (Ok x) h = tt
text_placed (Err f) h = h

other_placed : (kind : RowKind) (rest : List ℕ) → RowPlace kind rest → RowPlace (other kind rest).0 (other kind rest).1
unfolding other RowPlace
other_placed kind rest h = by (char_at rest) refl (char_placed rest)
  where
    by : (r : TextRead ℕ) → char_at rest ≡ r → Text (char_at rest) → RowPlace (other kind rest).0 (other kind rest).1
    by (Ok x) e t = rw e h
    by (Err f) e t = let p = subst Text e t in rw e p

bad_token : (rest : List ℕ) → RowPlace (Common BadToken) rest
unfolding RowPlace Place
bad_token rest = tt

missing_dot : (rest : List ℕ) → RowPlace (Common MissingDot) rest
unfolding RowPlace Place
missing_dot rest = tt

whole_placed : (start after : List ℕ) (r : TextRead (List ℕ)) → Placed (whole_label start after r)
unfolding RowPlace Place
whole_placed start after (Ok x) = if_placed (nat_eq (length x.1) 0) _ _ tt tt
whole_placed start after (Err f) = tt

bracket_placed : (start rest : List ℕ) → Placed (bracket_at start rest)
unfolding bracket_at bracketed RowPlace Place
bracket_placed start rest = search (then_placed, if_placed, text_placed, pieces_placed iri_piece iri_piece_placed, whole_placed) depth 7

row_term_placed : (rest : List ℕ) → Placed (row_term_at rest)
unfolding row_term_at
row_term_placed [] = search (text_placed, term_placed)
row_term_placed (b ∷ rest) = search (if_placed, bracket_placed, text_placed, term_placed)

needed_placed : (rest : List ℕ) → Placed (needed_term_at rest)
unfolding needed_term_at RowPlace
needed_placed rest = search (if_placed, row_term_placed)

placed_placed : (fits : Term → Bool) (rest : List ℕ) → Placed (placed_of Known fits rest)
unfolding placed_of RowPlace Place
placed_placed fits rest = search (then_placed, if_placed, needed_placed)

key_placed : (rest : List ℕ) → Placed (key_at rest)
unfolding key_at RowPlace
key_placed rest = search (if_placed, other_placed, bad_token)

position_placed : (o : Option (List ℕ)) (start after : List ℕ) → Placed (or_bad_position o start after)
unfolding RowPlace Place
position_placed (Some text) start after = tt
position_placed None start after = tt

prefix_placed : (rest : List ℕ) → Placed (prefix_of Known rest)
unfolding prefix_of quoted_of
prefix_placed rest = search (then_placed, if_placed, needed_placed, position_placed, other_placed, bad_token) depth 7

iri_of_term_placed : (start : List ℕ) (t : Term) (after : List ℕ) → Placed (iri_of_term start t after)
unfolding iri_of_string RowPlace Place
iri_of_term_placed start (term.Iri iri) after = tt
iri_of_term_placed start (term.Blank label) after = tt
iri_of_term_placed start (term.Literal literal) after = search (then_placed, if_placed, position_placed)

prefix_iri_placed : (rest : List ℕ) → Placed (prefix_iri_of Known rest)
unfolding prefix_iri_of
prefix_iri_placed rest = search (then_placed, needed_placed, iri_of_term_placed)

dot_placed : (missing : RowKind) (rest : List ℕ) → RowPlace missing rest → Placed (dot_at missing rest)
unfolding dot_at RowPlace
dot_placed missing rest h = search (if_placed, other_placed)

graph_placed : (rest : List ℕ) → Placed (graph_or_dot_of Known rest)
unfolding graph_or_dot_of
graph_placed rest = search (then_placed, if_placed, placed_placed, dot_placed, missing_dot) depth 7

ruleset parts = (then_placed, placed_placed, key_placed, prefix_placed, prefix_iri_placed, graph_placed, dot_placed, bad_token, missing_dot)

parts_placed : (c : Code) (rest : List ℕ) → Placed (parts_of Known c rest)
unfolding parts_of header_of bare_at quad_of added_of removed_of
parts_placed code.Header rest = search parts depth 9
parts_placed _ rest = search parts depth 12

by_code_placed : (o : Option Code) (start rest : List ℕ) → Placed (by_code Known o start rest)
unfolding RowPlace
by_code_placed (Some c) start rest = parts_placed c rest
by_code_placed None start rest = tt

word_placed : (rest : List ℕ) → Placed (word_at rest)
unfolding word_at RowPlace Place
word_placed rest = search (if_placed, other_placed, bad_token)

pub row_placed : (rest : List ℕ) → Placed (row_at rest)
unfolding row_of
row_placed rest = then_placed (word_at rest) _ (word_placed rest) (λ word. by_code_placed (code_named word.0) rest word.1)

pub truncated_ends : (text rest : List ℕ) → row_at text ≡ Err (Common Truncated, rest) → rest ≡ []
unfolding RowPlace Place
truncated_ends text rest e = subst Placed e (row_placed text)

pub ill_formed_stands : (text rest : List ℕ) → row_at text ≡ Err (Common NotUtf8, rest) → char_at rest ≡ Err (NotUtf8, rest)
unfolding RowPlace Place
ill_formed_stands text rest e = subst Placed e (row_placed text)

pub never_too_long : (text : List ℕ) (f : Fault) → AnyRowFault text f → f.0 ≡ TooLong → ⊥
unfolding RowPlace
never_too_long text f bad long =
    subst (λ (kind : RowKind). RowPlace kind f.1) long (subst Placed ((exact_row text).only f bad) (row_placed text))
