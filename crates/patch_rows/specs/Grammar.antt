-- The grammar of the rows of a patch, on whole texts. A relation `X text value after` says that the
-- text begins with an X of that value and that `after` stands behind it. Each token is the longest
-- text of its form in the whole text.
use Rattle.std.specs.Prelude.{◌≡◌, ℕ, ◌+◌, ◌≤◌, ◌<◌, ◌⊎◌, Bool, true, List, [], ◌∷◌, ◌++◌, length}
use Rattle.std.specs.Prelude.{take, drop, IsTrue, ◌==◌, ◌||◌, not, Option, Some, None, codes}
use Rattle.std.specs.List.{list_all, flat_map}
use Rattle.std.specs.Str.{encode_utf8_all}
use Rattle.std.specs.Char.{is_ascii_alphabetic, is_ascii_alphanumeric}
use lib.Utf8.{scalars}
use Rattle.rdf_terms.specs.declared.term.LiteralKind.TheVariants.{Plain}
use Rattle.rdf_terms.specs.declared.term.Term.{Term}
use Rattle.rdf_terms.specs.declared.term.Term.TheVariants as term
use Rattle.rdf_terms.specs.declared.change.Change.{Change}
use Rattle.rdf_terms.specs.declared.change.Change.TheVariants as change
use Rattle.rdf_terms.specs.Iri.{IsIri}
use Rattle.rdf_terms.specs.Label.{IsLabel}
use Rattle.rdf_terms.specs.Quad.{Statement, is_iri, is_literal}
use Rattle.rdf_terms.specs.Tag.{IsWord}
use Rattle.nquads_text.specs.Grammar.{is_line_end, StartsWith, Longest, IriPiece, Spells, TermAt}
use Rattle.patch_rows.specs.declared.codes.Code.{Code}
use Rattle.patch_rows.specs.declared.codes.Code.TheVariants as code
use Rattle.patch_rows.specs.declared.row.Row.{Row}
use Rattle.patch_rows.specs.declared.row.Row.TheVariants as row

-- ---- white space and comments

-- a space, a tab, or the end of a line
abbrev pub is_space : ℕ → Bool
is_space b = b == 32 || b == 9 || is_line_end b

-- '#' [^#xA#xD]*: characters, in UTF-8
abbrev pub IsRowComment : List ℕ → Type 0
IsRowComment bytes = (cs : List ℕ) × (bytes ≡ 35 ∷ encode_utf8_all cs) × IsTrue (scalars cs)
    × IsTrue (list_all (λ c. not (is_line_end c)) cs)

-- one byte of white space, or a comment
abbrev pub IsGap : List ℕ → Type 0
IsGap bytes = ((b : ℕ) × (bytes ≡ b ∷ []) × IsTrue (is_space b)) ⊎ IsRowComment bytes

-- each of them is one
abbrev pub AreGaps : List (List ℕ) → Type 0
AreGaps [] = Unit {0}
AreGaps (gap ∷ gaps) = IsGap gap × AreGaps gaps

-- any number of them, one behind another
abbrev pub IsSpace : List ℕ → Type 0
IsSpace bytes = (gaps : List (List ℕ)) × AreGaps gaps × (bytes ≡ flat_map (λ gap. gap) gaps)

-- white space and comments stand in front, the longest text of them
abbrev pub Space : List ℕ → List ℕ → Type 0
Space text after = (space : List ℕ) × Longest IsSpace text space after

-- the bytes with which white space and comments begin
abbrev pub begins_space : ℕ → Bool
begins_space b = is_space b || b == 35

-- white space and comments, and then a part
abbrev pub Spaced : {X : Type 0} → (List ℕ → X → List ℕ → Type 0) → List ℕ → X → List ℕ → Type 0
Spaced Part text x after = (from : List ℕ) × Space text from × Part from x after

-- ---- words

-- a letter, a digit, `_` or `-`
abbrev pub is_word_byte : ℕ → Bool
is_word_byte b = is_ascii_alphanumeric b || b == 95 || b == 45

-- [A-Za-z] [A-Za-z0-9_-]*
abbrev pub IsKey : List ℕ → Type 0
IsKey [] = ⊥
IsKey (b ∷ bytes) = IsTrue (is_ascii_alphabetic b) × IsTrue (list_all is_word_byte bytes)

-- the key of a header row
abbrev pub KeyAt : List ℕ → List ℕ → List ℕ → Type 0
KeyAt text key after = Longest IsKey text key after

-- the letters of each code
abbrev pub letters : Code → List ℕ
letters code.Header = codes "H"
letters code.Begin = codes "TX"
letters code.Commit = codes "TC"
letters code.Abort = codes "TA"
letters code.PrefixAdd = codes "PA"
letters code.PrefixDelete = codes "PD"
letters code.Add = codes "A"
letters code.Delete = codes "D"

-- a word of letters with a byte behind it, since one that reaches the text's end may go on
abbrev pub WordAt : List ℕ → List ℕ → List ℕ → Type 0
WordAt text word after = Longest (IsWord is_ascii_alphabetic) text word after × (after ≡ [] → ⊥)

-- ---- terms

-- `<_:x>`, with the characters written as in an IRIREF
abbrev pub InBrackets : List ℕ → List ℕ → List ℕ → Type 0
InBrackets text x after = (body cs : List ℕ) × (text ≡ 60 ∷ (body ++ 62 ∷ after))
    × Spells IriPiece body cs × (encode_utf8_all cs ≡ 95 ∷ 58 ∷ x)

-- a term as in N-Triples, or a blank node's label in brackets
abbrev pub RowTerm : List ℕ → Term → List ℕ → Type 0
RowTerm text t after = TermAt text t after
    ⊎ ((label : List ℕ) × InBrackets text label after × IsLabel label × (t ≡ term.Blank label))

-- where any term may stand
abbrev pub is_any : Term → Bool
is_any t = true

-- where an IRI or a blank node may stand
abbrev pub is_node : Term → Bool
is_node t = not (is_literal t)

-- a term that may stand in its place
abbrev pub Placed : (Term → Bool) → List ℕ → Term → List ℕ → Type 0
Placed fits text t after = RowTerm text t after × IsTrue (fits t)

-- a literal without tag and datatype
abbrev pub plain : List ℕ → Term
plain string = term.Literal (record { lexical = string; kind = Plain })

-- a prefix: a plain string, or without quotes a word, a word and a colon, or a colon
pub data PrefixAt (text prefix after : List ℕ) : Type 0 where
  string : RowTerm text (plain prefix) after → PrefixAt text prefix after
  word : Longest IsKey text prefix after → (StartsWith (λ b. b == 58) after → ⊥)
      → PrefixAt text prefix after
  word_colon : Longest IsKey text prefix (58 ∷ after) → PrefixAt text prefix after
  colon : text ≡ 58 ∷ after → prefix ≡ [] → PrefixAt text prefix after

-- the IRI of a prefix: an IRIREF, or a plain string that is an IRI
pub data PrefixIriAt (text iri after : List ℕ) : Type 0 where
  reference : RowTerm text (term.Iri iri) after → PrefixIriAt text iri after
  string : RowTerm text (plain iri) after → IsIri iri → PrefixIriAt text iri after

-- ---- rows

-- white space and comments, and the dot that ends a row
abbrev pub EndAt : List ℕ → List ℕ → Type 0
EndAt text after = (from : List ℕ) × Space text from × (from ≡ 46 ∷ after)

-- the graph, if there is one, and the row's end
abbrev pub GraphAt : List ℕ → Option Term → List ℕ → Type 0
GraphAt text None after = EndAt text after
GraphAt text (Some g) after =
    (behind : List ℕ) × Spaced (Placed is_node) text g behind × EndAt behind after

-- the terms of a quad and the row's end
abbrev pub QuadAt : List ℕ → Statement → List ℕ → Type 0
QuadAt text q after = (s p o : List ℕ) × Spaced (Placed is_node) text q.subject s
    × Spaced (Placed is_iri) s q.predicate p
    × Spaced (Placed is_any) p q.object o × GraphAt o q.graph after

-- the code of a change
abbrev pub code_of_change : Change → Code
code_of_change (change.Add q) = code.Add
code_of_change (change.Delete q) = code.Delete
code_of_change (change.PrefixAdd prefix iri graph) = code.PrefixAdd
code_of_change (change.PrefixDelete prefix graph) = code.PrefixDelete
code_of_change change.Begin = code.Begin
code_of_change change.Commit = code.Commit
code_of_change change.Abort = code.Abort

-- the code of a row
abbrev pub code_of : Row → Code
code_of (row.Header key value) = code.Header
code_of (row.Change c) = code_of_change c

-- what stands behind the code of a change
abbrev pub ChangeAt : List ℕ → Change → List ℕ → Type 0
ChangeAt text (change.Add q) after = QuadAt text q after
ChangeAt text (change.Delete q) after = QuadAt text q after
ChangeAt text (change.PrefixAdd prefix iri graph) after = (p i : List ℕ)
    × Spaced PrefixAt text prefix p × Spaced PrefixIriAt p iri i × GraphAt i graph after
ChangeAt text (change.PrefixDelete prefix graph) after =
    (p : List ℕ) × Spaced PrefixAt text prefix p × GraphAt p graph after
ChangeAt text change.Begin after = EndAt text after
ChangeAt text change.Commit after = EndAt text after
ChangeAt text change.Abort after = EndAt text after

-- what stands behind a row's code
abbrev pub PartsAt : List ℕ → Row → List ℕ → Type 0
PartsAt text (row.Header key value) after =
    (k v : List ℕ) × Spaced KeyAt text key k × Spaced (Placed is_any) k value v × EndAt v after
PartsAt text (row.Change c) after = ChangeAt text c after

-- a row of any length
unfoldable pub RowAt : List ℕ → Row → List ℕ → Type 0
RowAt text r after =
    (behind : List ℕ) × WordAt text (letters (code_of r)) behind × PartsAt behind r after

-- the row stands there whatever follows
abbrev pub RowDecided : List ℕ → Row → List ℕ → Type 0
RowDecided text r after = (more : List ℕ) → RowAt (text ++ more) r (after ++ more)

-- ---- the limit

-- the bytes that a row may have
abbrev pub row_limit : ℕ
row_limit = 4194304

-- these and one more: a text with so many decides by them what stands in front of it
unfoldable pub row_front : List ℕ → List ℕ
row_front text = take (row_limit + 1) text

-- the front of the text decides the row
abbrev pub FrontDecides : List ℕ → Row → Type 0
FrontDecides text r = (rest : List ℕ) × RowDecided (row_front text) r rest

-- a row within the limit: it has no more bytes, and in a text that has more the front decides it
abbrev pub ShortRowAt : List ℕ → Row → List ℕ → Type 0
ShortRowAt text r after = RowAt text r after × (length text ≤ length after + row_limit)
    × (row_limit < length text → FrontDecides text r)

-- The bytes of the text from `at` to `end` are this row.
unfoldable pub IsRowAt : List ℕ → ℕ → Row → ℕ → Type 0
IsRowAt text at r end =
    ShortRowAt (drop at text) r (drop end text) × (at < end) × (end ≤ length text)

-- The row is decided: it stands there whatever follows the text.
abbrev pub IsDecidedRow : List ℕ → ℕ → Row → ℕ → Type 0
IsDecidedRow text at r end = (more : List ℕ) → IsRowAt (text ++ more) at r end
