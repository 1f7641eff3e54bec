-- The grammar of statements and documents, in the words of RDF 1.1 N-Quads, over that of terms.
-- A relation `X text value after` says that the text begins with an X of that value, behind
-- which `after` stands.
use Rattle.std.specs.Prelude.{◌≡◌, ℕ, ◌⊎◌, true, false, List, [], ◌∷◌, ◌++◌}
use Rattle.std.specs.Prelude.{IsTrue, not, Option, Some, None, IsUtf8}
use Rattle.std.specs.List.{list_all}
use Rattle.rdf_terms.specs.declared.term.Term.{Term}
use Rattle.rdf_terms.specs.Quad.{Statement, is_iri, is_literal}
use Rattle.nquads_text.specs.Grammar.{is_blank, is_line_end, Blanks, TermAt}

-- ---- statements

-- a graph and a dot, or the dot alone
abbrev pub GraphAndDotAt : List ℕ → Option Term → List ℕ → Type 0
GraphAndDotAt text None after = text ≡ 46 ∷ after
GraphAndDotAt text (Some g) after =
    (behind : List ℕ) × TermAt text g behind × (is_literal g ≡ false) × Blanks behind (46 ∷ after)

-- subject, predicate, object, and a graph or none, up to the dot
abbrev pub StatementAt : List ℕ → Statement → List ℕ → Type 0
StatementAt text q after =
    (a b c d e f : List ℕ) × TermAt text q.subject a × (is_literal q.subject ≡ false) × Blanks a b
    × TermAt b q.predicate c × (is_iri q.predicate ≡ true) × Blanks c d
    × TermAt d q.object e × Blanks e f × GraphAndDotAt f q.graph after

-- ---- documents

-- `#` and characters up to the line's end
abbrev pub IsComment : List ℕ → Type 0
IsComment bytes = (body : List ℕ) × (bytes ≡ 35 ∷ body) × IsUtf8 body
    × IsTrue (list_all (λ b. not (is_line_end b)) body)

-- blanks, and a comment or nothing
abbrev pub IsEmptyLine : List ℕ → Type 0
IsEmptyLine bytes = (blanks comment : List ℕ) × (bytes ≡ blanks ++ comment)
    × IsTrue (list_all is_blank blanks) × ((comment ≡ []) ⊎ IsComment comment)

-- one line: empty, or a statement and what may follow it
abbrev pub IsLine : List ℕ → Option Statement → Type 0
IsLine bytes None = IsEmptyLine bytes
IsLine bytes (Some q) =
    (text rest : List ℕ) × Blanks bytes text × StatementAt text q rest × IsEmptyLine rest

-- the statements of a line
abbrev pub of_line : Option Statement → List Statement
of_line None = []
of_line (Some q) = q ∷ []

-- one line more for each item of the list, with a line feed or a carriage return between any two
abbrev pub AreLines : List (Option Statement) → List ℕ → List Statement → Type 0
AreLines [] text quads = ⊥
AreLines (line ∷ []) text quads = IsLine text line × (quads ≡ of_line line)
AreLines (line ∷ next ∷ lines) text quads =
    (bytes rest : List ℕ) × (others : List Statement) × (close : ℕ)
    × (text ≡ bytes ++ close ∷ rest) × IsTrue (is_line_end close) × IsLine bytes line
    × AreLines (next ∷ lines) rest others × (quads ≡ of_line line ++ others)

-- a document and its statements in the text's order
abbrev pub IsDocument : List ℕ → List Statement → Type 0
IsDocument text quads = (lines : List (Option Statement)) × AreLines lines text quads
